-- The invariant and the measure of the loop of `open_pairs` in src/answers.rt.
use Rattle.std.proofs.Common.{◌≡◌, ◌≤◌, ◌-◌, ◌++◌, ℕ, List, Option, IfSome}
use Rattle.ledger_core.specs.declared.limits.TheConstants.{MOST_PAIRS}
use Rattle.ledger_core.specs.declared.pairs.PairRow.{PairRow}
use Rattle.ledger_core.specs.Kept.{Kept, open_pairs, AreInOrder}
use Rattle.ledger_core.proofs.answers.open_pairs.Given as goal

-- the pairs so far and those from the place on are all undecided pairs of the run; the keeper is as it was
pub record AreFound (before now : Option Kept) (faults-before faults-now run from : ℕ) (rows : List PairRow) : Type 0 where
  pub same : now ≡ before
  pub faults : faults-now ≡ faults-before
  pub within : from ≤ MOST_PAIRS
  pub told : IfSome before (λ all. AreInOrder all.pairs
      → rows ++ open_pairs all.pairs run from ≡ open_pairs all.pairs run 0)

abbrev pub invariant-loop-rows : goal.invariant-loop-rows
invariant-loop-rows g l = AreFound (g.K.Keeper.kept l.fn.keeper) (g.K.Keeper.kept l.keeper) (g.K.Keeper.faults l.fn.keeper)
    (g.K.Keeper.faults l.keeper) l.run l.from l.rows.items

abbrev pub decreases-loop-rows : goal.decreases-loop-rows
decreases-loop-rows g l = MOST_PAIRS - l.from
