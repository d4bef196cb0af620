-- The invariant of the loop of `find_open` in src/mem_runs.rt.
use Rattle.std.proofs.Common.{◌≡◌, drop}
use Rattle.ledger_core.specs.Kept.{next_open}
use Rattle.ledger_core.proofs.mem_runs.find_open.Given as goal

-- what is found in the rest is what is found in all
abbrev pub invariant-loop-row : goal.invariant-loop-row
invariant-loop-row l = next_open (drop l.row-index l.pairs) l.run l.from ≡ next_open l.pairs l.run l.from
