-- Answers to the goals of `carry_one` in src/partial_runs.rt.
use Rattle.std.proofs.Common.{◌≤◌, ◌+◌, length, ◌∙◌, arith}
use Rattle.runs.specs.declared.loads.TheConstants.{MOST_BYTES}
use Rattle.runs.proofs.PassedRefusals.{handed_on}
use Rattle.migrate_mode.specs.PartialRuns.{run_start, setting_at}
use Rattle.migrate_mode.proofs.MigrationSteps.{stops_unloaded, stops_uncarried, carried_at}
use Rattle.migrate_mode.proofs.RunSheets.{kept_at}
use Rattle.migrate_mode.proofs.partial_runs.carry_one.Goals as goal

pub returns-in_err-bytes-clause-refused : goal.returns-in_err-bytes-clause-refused
returns-in_err-bytes-clause-refused g c =
    handed_on _ c.in_err-bytes.field-0.0 c.from_residual.result c.from_residual.ensures.1
    (λ first here. stops_unloaded _ _ _ _ _ _ c.requires.within c.requires.named here c.in_err-bytes.field-0.0
    (rw c.text.ensures at c.in_err-bytes.ensures.refused))

pub returns-in_err-carry_next-clause-refused : goal.returns-in_err-carry_next-clause-refused
returns-in_err-carry_next-clause-refused g c =
    let loaded = c.in_ok-bytes.ensures in
    let few : c.args.run.now.used + length c.in_ok-bytes.bytes.items ≤ MOST_BYTES = omega arith in
    handed_on _ c.in_err-carry_next.field-0.0 c.from_residual-in_err-carry_next.result
    c.from_residual-in_err-carry_next.ensures.1
    (λ first here. stops_uncarried _ _ _ _ _ _ c.requires.within c.requires.named here c.in_ok-bytes.bytes.items
    c.in_err-carry_next.field-0.0 (rw c.text.ensures at loaded.ok) few
    (rw c.deref.ensures.value at c.in_err-carry_next.ensures.refused))

pub returns-clause-ok : goal.returns-clause-ok
returns-clause-ok g c = λ first here.
    let loaded = c.in_ok-bytes.ensures in
    let carries = c.in_ok-carry_next.ensures in
    let adds = rw c.deref.ensures.value at carries.ok in
    let few : c.args.run.now.used + length c.in_ok-bytes.bytes.items ≤ MOST_BYTES = omega arith in
    let found = rw (here.files, c.text.ensures) at loaded.ok in
    let start = run_start first c.args.migration.now c.args.cert c.args.index.now in
    record {
      files = loaded.files ∙ here.files;
      faults = loaded.faults.same ∙ here.faults;
      given = omega (arith, here.given, loaded.given, c.in_ok-bytes.bytes.ok.0, adds.used);
      used = omega (arith, few, adds.used);
      room = carries.room;
      carried = carried_at (setting_at start) start.migration.layers c.args.number c.args.name.now c.args.cert
          start.migration.out c.in_ok-bytes.bytes.items c.args.run.now c.carry_next.new.run c.requires.within
          c.requires.named here.carried found few adds;
      kept = kept_at (setting_at start) start.migration.layers c.args.number c.args.name.now c.in_ok-bytes.bytes.items
          c.args.run.now c.carry_next.new.run c.requires.within c.requires.named here.kept found
          (rw c.deref.ensures.value at carries.kept) carries.sides;
      sides = carries.sides ∙ here.sides;
    }
