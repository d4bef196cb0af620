-- Answers to the goals of `carry_made_layer` in src/maker.rt.
use Rattle.std.proofs.Common.{◌≤◌, length, subst, ◌∙◌}
use Rattle.runs.specs.declared.loads.TheConstants.{MOST_BYTES}
use Rattle.runs.proofs.PassedRefusals.{handed_on}
use Rattle.migrate_mode.proofs.MigrationSteps.{IsEmpty}
use Rattle.migrate_mode.proofs.MakerSteps.{made_carried, made_uncarried}
use Rattle.migrate_mode.proofs.maker.carry_made_layer.Goals as goal

pub returns-clause-ok : goal.returns-clause-ok
returns-clause-ok c =
    let new = c.new-run.ensures in
    let few : length c.in_ok-text.text.items ≤ MOST_BYTES =
    subst (λ k. k ≤ MOST_BYTES) c.in_ok-text.text.ok.0 c.in_ok-text.ensures.short in
    let none : IsEmpty c.new-run.result = record {
      files = new.files;
      rows = new.rows;
      pieces = new.pieces;
      used =
          new.used;
    } in
    made_carried c.args.n c.in_ok-text.text.items c.args.index.now c.new-run.result c.carry_next.new.run
    c.in_ok-text.ensures.text few none
    (rw (c.plainly.ensures, c.in_ok-folder.ensures, c.in_ok-name.ensures, c.deref.ensures.value) at
    c.in_ok-carry_next.ensures.ok)

pub returns-in_err-carry_next-clause-refused : goal.returns-in_err-carry_next-clause-refused
returns-in_err-carry_next-clause-refused c =
    let new = c.new-run.ensures in
    let few : length c.in_ok-text.text.items ≤ MOST_BYTES =
    subst (λ k. k ≤ MOST_BYTES) c.in_ok-text.text.ok.0 c.in_ok-text.ensures.short in
    let none : IsEmpty c.new-run.result = record {
      files = new.files;
      rows = new.rows;
      pieces = new.pieces;
      used =
          new.used;
    } in
    handed_on _ c.in_err-carry_next.field-0.0 c.from_residual-in_err-carry_next.result
    c.from_residual-in_err-carry_next.ensures.1
    (made_uncarried c.args.n c.in_ok-text.text.items c.args.index.now c.new-run.result c.in_err-carry_next.field-0.0
    c.in_ok-text.ensures.text few none
    (rw (c.plainly.ensures, c.in_ok-name.ensures, c.deref.ensures.value) at c.in_err-carry_next.ensures.refused))

pub returns-clause-sides : goal.returns-clause-sides
returns-clause-sides c = c.in_ok-carry_next.ensures.sides ∙ c.new-run.ensures.sides
