-- Answers to the goals of `undecided_rows` in src/mem_runs.rt.
use Rattle.std.proofs.Common.{arith}
use Rattle.ledger_core.proofs.UndecidedRows.{undecided-more}
use Rattle.ledger_core.proofs.mem_runs.undecided_rows.Goals as goal

pub loop-change-preserved : goal.loop-change-preserved
loop-change-preserved c =
    record {
      made = grind (
        arith,
        undecided-more c.args.run c.args.changes.now c.loop-change.change-index,
        c.loop-change-test.true,
        c.loop-change.invariant.made,
        c.loop-change.invariant.place,
        c.in_ok-push.ensures.items,
      );
      place = omega (arith, c.loop-change.invariant.place);
    }
