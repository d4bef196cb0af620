-- Answers to the goals of `begin_run` in src/partial_runs.rt.
use Rattle.std.proofs.Common.{refl, arith}
use Rattle.migrate_mode.specs.PartialRuns.{run_start, setting_at}
use Rattle.migrate_mode.proofs.MigrationSteps.{room_none, carried_none}
use Rattle.migrate_mode.proofs.RunSheets.{none_kept}
use Rattle.migrate_mode.proofs.partial_runs.begin_run.Goals as goal

pub returns : goal.returns
returns c = λ shelf cert tin.
    let new = c.new-run.ensures in
    let start = run_start shelf c.args.migration.now cert tin in
    record {
      files = refl;
      faults = refl;
      given = omega (arith, new.used);
      used = omega (arith, new.used);
      room = room_none c.new-run.result.pieces.len _ c.new-run.result.pieces.ok.0 new.pieces;
      carried = carried_none (setting_at start) cert c.args.migration.now.out _
          (record { files = new.files; rows = new.rows; pieces = new.pieces; used = new.used });
      kept = none_kept (setting_at start) _ c.args.migration.now.sides new.sheets new.images;
      sides = refl;
    }
