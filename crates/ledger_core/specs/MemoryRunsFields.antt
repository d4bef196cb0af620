-- What the fields of runs in memory stand for.
use Rattle.std.specs.Prelude.{◌≡◌, ◌≤◌, length, map}
use Rattle.std.specs.List.{flat_map}
use Rattle.ledger_core.specs.declared.limits.TheConstants.{MOST_RUNS, MOST_PAIRS}
use Rattle.ledger_core.specs.declared.mem_runs.MemRuns.TheInside.{Inside}
use Rattle.ledger_core.specs.Kept.{Kept}
use Rattle.ledger_core.specs.MemoryRuns.{seal_of, rows_of, all_of, AreRuns}

abbrev pub kept_of : Inside → Kept
kept_of k = all_of k.runs.items

-- the table has the seals of the runs, in their order; the number is that of all pairs, and both are within their limits
pub record IsSound (k : Inside) : Type 0 where
  pub few : length k.runs.items ≤ MOST_RUNS
  pub count : k.pairs ≡ length (flat_map rows_of k.runs.items)
  pub within : k.pairs ≤ MOST_PAIRS
  pub seals : k.seals.keys ≡ map seal_of k.runs.items
  pub runs : AreRuns 1 k.runs.items
