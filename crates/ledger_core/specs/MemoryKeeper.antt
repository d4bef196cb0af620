-- A keeper in memory, as contracts see it.
use Rattle.std.specs.Prelude.{ℕ, List, []}
use Rattle.shelf_io.specs.Count.{count_after}
use Rattle.ledger_core.specs.Kept.{Kept}

pub record MemoryKeeper : Type 0 where
  pub kept : Kept
  -- the numbers of the calls that fail
  pub fail : List ℕ
  pub calls : ℕ
  pub faults : ℕ

abbrev pub nothing_kept : Kept
nothing_kept = record { runs = []; pairs = [] }

abbrev pub empty_keeper : MemoryKeeper
empty_keeper = record { kept = nothing_kept; fail = []; calls = 0; faults = 0 }

-- after a call that failed: one more call and one more fault
abbrev pub after_fault : MemoryKeeper → MemoryKeeper
after_fault k = record k { calls = count_after k.calls 1; faults = count_after k.faults 1 }

-- after a call that did not fail and leaves this
abbrev pub after_call : Kept → MemoryKeeper → MemoryKeeper
after_call all k = record k { kept = all; calls = count_after k.calls 1 }
