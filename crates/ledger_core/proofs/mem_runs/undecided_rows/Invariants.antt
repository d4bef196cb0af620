-- The invariant of the loop of `undecided_rows` in src/mem_runs.rt.
use Rattle.std.proofs.Common.{◌≡◌, ℕ, take, List}
use Rattle.tin_base.specs.declared.pieces.Change.{Change}
use Rattle.ledger_core.specs.declared.pairs.PairRow.{PairRow}
use Rattle.ledger_core.specs.Kept.{undecided_from}
use Rattle.ledger_core.proofs.mem_runs.undecided_rows.Given as goal

-- the pairs of this many changes were made
pub record AreMade (run place-now at : ℕ) (changes : List Change) (rows : List PairRow) : Type 0 where
  pub made : rows ≡ undecided_from run 0 (take at changes)
  pub place : place-now ≡ at

abbrev pub invariant-loop-change : goal.invariant-loop-change
invariant-loop-change l = AreMade l.run l.place l.change-index l.changes l.rows.items
