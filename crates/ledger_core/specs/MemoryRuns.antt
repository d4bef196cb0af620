-- Runs in memory, each with its pairs.
use Rattle.std.specs.Prelude.{◌≡◌, ℕ, ◌+◌, suc, zero, List, [], ◌∷◌, length, map, slice_get, Option, None}
use Rattle.std.specs.List.{flat_map}
use Rattle.ledger_core.specs.declared.pairs.Seal.{Seal}
use Rattle.ledger_core.specs.declared.pairs.Verdict.{Verdict}
use Rattle.ledger_core.specs.declared.pairs.PairRow.{PairRow}
use Rattle.ledger_core.specs.declared.mem_runs.RunPairs.{RunPairs}
use Rattle.ledger_core.specs.Kept.{Kept, with_verdict}

abbrev pub seal_of : RunPairs → Seal
seal_of run = run.seal

abbrev pub rows_of : RunPairs → List PairRow
rows_of run = run.rows.items

-- its seal, and how many pairs it has
abbrev pub entry_of_run : RunPairs → Seal × ℕ
entry_of_run run = (run.seal, length run.rows.items)

-- what is kept with these runs
abbrev pub all_of : List RunPairs → Kept
all_of runs = record { runs = map entry_of_run runs; pairs = flat_map rows_of runs }

-- the run of this number, from 1
abbrev pub run_at : List RunPairs → ℕ → Option RunPairs
run_at runs zero = None
run_at runs (suc before) = slice_get runs before

-- the pairs of the run from a place on: one for each place
abbrev pub AreRows : ℕ → ℕ → List PairRow → Type 0
AreRows run place [] = Unit {0}
AreRows run place (row ∷ rows) = (row.run ≡ run) × (row.place ≡ place) × AreRows run (place + 1) rows

-- the runs, whose first one has this number, each with its own pairs
abbrev pub AreRuns : ℕ → List RunPairs → Type 0
AreRuns number [] = Unit {0}
AreRuns number (run ∷ runs) = AreRows number 0 run.rows.items × AreRuns (number + 1) runs

-- the pairs, with this verdict on the one at the place
abbrev pub with_verdict_at : List PairRow → ℕ → Verdict → List PairRow
with_verdict_at [] place verdict = []
with_verdict_at (row ∷ rows) zero verdict = record row { verdict = verdict } ∷ rows
with_verdict_at (row ∷ rows) (suc place) verdict = row ∷ with_verdict_at rows place verdict

-- the runs afterwards: as before, with this verdict on the pair of the number and place
pub record IsVerdictPut (number place : ℕ) (verdict : Verdict) (before after : List RunPairs) : Type 0 where
  pub seals : map seal_of after ≡ map seal_of before
  pub entries : map entry_of_run after ≡ map entry_of_run before
  pub rows : flat_map rows_of after ≡ map (with_verdict number place verdict) (flat_map rows_of before)
  pub runs : AreRuns 1 after

abbrev pub IsDecided : ℕ → ℕ → Verdict → List RunPairs → List RunPairs → Type 0
IsDecided number place verdict before after = AreRuns 1 before → IsVerdictPut number place verdict before after
