-- What a keeper keeps: runs with their seals, and the pairs of all runs with what was decided on them.
use Rattle.std.specs.Prelude.{◌≡◌, ℕ, ◌+◌, ◌<◌, ◌≤◌, Bool, true, false, ◌&&◌, nat_eq, nat_le, if◌then◌else◌, suc}
use Rattle.std.specs.Prelude.{List, [], ◌∷◌, ◌++◌, length, map, bytes_eq, find, filter, position, Option}
use Rattle.std.specs.Option.{option_map}
use Rattle.tin_base.specs.declared.pieces.Change.{Change}
use Rattle.ledger_core.specs.declared.limits.TheConstants.{MOST_RUNS, MOST_PAIRS}
use Rattle.ledger_core.specs.declared.pairs.Seal.{Seal}
use Rattle.ledger_core.specs.declared.pairs.Mark.{Mark}
use Rattle.ledger_core.specs.declared.pairs.Mark.TheVariants as marks
use Rattle.ledger_core.specs.declared.pairs.Verdict.{Verdict}
use Rattle.ledger_core.specs.declared.pairs.Verdict.TheVariants.{Undecided, Kept as kept_verdict, Mended}
use Rattle.ledger_core.specs.declared.pairs.PairRow.{PairRow}

-- each run's seal and its number of pairs, where run 1 is the first; and the pairs, run by run
pub record Kept : Type 0 where
  pub runs : List (Seal × ℕ)
  pub pairs : List PairRow

-- where the lists are stated, they are afterwards what the step makes of them; a keeper that
-- does not state them goes on not stating them
abbrev pub Becomes : (Kept → Kept) → Option Kept → Option Kept → Type 0
Becomes step before now = now ≡ option_map step before

-- what is stated is as it was
abbrev pub Stays : Option Kept → Option Kept → Type 0
Stays before now = now ≡ before

-- ---- runs

abbrev pub has_seal : Seal → Seal × ℕ → Bool
has_seal seal run = bytes_eq seal.bytes run.0.bytes

-- the least run with this seal
abbrev pub run_of : List (Seal × ℕ) → Seal → Option ℕ
run_of runs seal = option_map suc (position (has_seal seal) runs)

-- one more run with this many pairs is within the limits
abbrev pub HasRoom : Kept → List Change → Type 0
HasRoom all changes = (length all.runs < MOST_RUNS) × (length all.pairs + length changes ≤ MOST_PAIRS)

-- the undecided pairs of a run, whose first one has this place
abbrev pub undecided_from : ℕ → ℕ → List Change → List PairRow
undecided_from run place [] = []
undecided_from run place (change ∷ changes) =
    record { run = run; place = place; change = change; verdict = Undecided } ∷ undecided_from run (place + 1) changes

-- with one more run
abbrev pub with_new_run : Seal → List Change → Kept → Kept
with_new_run seal changes all = record {
  runs = all.runs ++ (seal, length changes) ∷ [];
  pairs = all.pairs ++ undecided_from (length all.runs + 1) 0 changes;
}

-- ---- pairs

abbrev pub is_pair : ℕ → ℕ → PairRow → Bool
is_pair run place row = nat_eq row.run run && nat_eq row.place place

abbrev pub pair_at : List PairRow → ℕ → ℕ → Option PairRow
pair_at pairs run place = find (is_pair run place) pairs

abbrev pub verdict_at : List PairRow → ℕ → ℕ → Option Verdict
verdict_at pairs run place = option_map (λ (row : PairRow). row.verdict) (pair_at pairs run place)

abbrev pub verdict_of : Mark → Verdict
verdict_of marks.Kept = kept_verdict
verdict_of marks.Mended = Mended

abbrev pub is_undecided : Verdict → Bool
is_undecided Undecided = true
is_undecided kept_verdict = false
is_undecided Mended = false

-- an undecided pair of the run, at this place or after it
abbrev pub is_open : ℕ → ℕ → PairRow → Bool
is_open run from row = (nat_eq row.run run && nat_le from row.place) && is_undecided row.verdict

-- the first of them
abbrev pub next_open : List PairRow → ℕ → ℕ → Option PairRow
next_open pairs run from = find (is_open run from) pairs

-- all of them
abbrev pub open_pairs : List PairRow → ℕ → ℕ → List PairRow
open_pairs pairs run from = filter (is_open run from) pairs

abbrev pub with_verdict : ℕ → ℕ → Verdict → PairRow → PairRow
with_verdict run place verdict row = if is_pair run place row then record row { verdict = verdict } else row

-- with this verdict on the pair
abbrev pub with_decision : ℕ → ℕ → Verdict → Kept → Kept
with_decision run place verdict all = record all { pairs = map (with_verdict run place verdict) all.pairs }

-- after a place, the pairs of a run have ascending places
abbrev pub Ascend : ℕ → ℕ → List PairRow → Type 0
Ascend run from [] = Unit {0}
Ascend run from (row ∷ rows) =
    (row.run ≡ run → from ≤ row.place) × Ascend run (if nat_eq row.run run then row.place + 1 else from) rows

-- the pairs of each run are in the order of their places
abbrev pub AreInOrder : List PairRow → Type 0
AreInOrder pairs = (run : ℕ) → Ascend run 0 pairs
