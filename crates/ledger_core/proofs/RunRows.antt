-- The pairs of runs in memory: what is found in the run of its number is what is found in all of them.
use Rattle.std.proofs.Common.{◌≡◌, ◌≢◌, ℕ, zero, suc, ◌+◌, ◌<◌, ◌≤◌, Bool, true, false, cond, List, [], ◌∷◌, ◌++◌, length, map, Option, None, Some, IfSome, slice_get, slice_set, slice_index_or}
use Rattle.std.proofs.Common.{refl, ap, sym, ◌∙◌, subst, arith, nat_eq, drop}
use Rattle.std.specs.List.{find, flat_map}
use Rattle.std.specs.Option.{option_or}
use Rattle.std.proofs.lemmas.Bool.{and_from, and_parts, eqb-true, eq-eqb, false_from_ne_true}
use Rattle.std.proofs.lemmas.List.Folds.{find-append}
use Rattle.std.proofs.lemmas.List.{map-append, length-append}
use Rattle.ledger_core.specs.declared.pairs.PairRow.{PairRow}
use Rattle.ledger_core.specs.declared.pairs.Verdict.{Verdict}
use Rattle.ledger_core.specs.declared.mem_runs.RunPairs.{RunPairs}
use Rattle.ledger_core.specs.Kept.{is_pair, is_open, next_open, pair_at, with_verdict}
use Rattle.ledger_core.specs.MemoryRuns.{rows_of, run_at, AreRows, AreRuns, with_verdict_at}
use Rattle.ledger_core.proofs.OpenPairs.{open-parts, found-passes, place-from}

-- a function of two values that are the same
pub by-both : {A B C : Type 0} (f : A → B → C) {a b : A} {c d : B} → a ≡ b → c ≡ d → f a c ≡ f b d
by-both f {a} {b} {c} {d} same alike = ap (λ x. f x c) same ∙ ap (f b) alike

-- the rows that pass the test are of this run
abbrev pub IsOfRun : ℕ → (PairRow → Bool) → Type 0
IsOfRun run test = (row : PairRow) → test row ≡ true → row.run ≡ run

pair-of-run : (run place : ℕ) → IsOfRun run (is_pair run place)
pair-of-run run place row is = eqb-true _ _ (and_parts (nat_eq row.run run) (nat_eq row.place place) is).0

open-of-run : (run from : ℕ) → IsOfRun run (is_open run from)
open-of-run run from row is = (open-parts run from row is).of_run

-- among the pairs of another run there is none
none-of-other : (run : ℕ) (test : PairRow → Bool) → IsOfRun run test → (number place : ℕ) (rows : List PairRow)
    → number ≢ run → AreRows number place rows → find test rows ≡ None
none-of-other run test of number place [] other are = refl
none-of-other run test of number place (row ∷ rows) other are =
    let here : test row ≡ false = false_from_ne_true _ (λ passes. other (sym are.0 ∙ of row passes)) in
    rw here (none-of-other run test of number (place + 1) rows other are.2)

-- nor among those of later runs
none-of-later : (run : ℕ) (test : PairRow → Bool) → IsOfRun run test → (number : ℕ) (runs : List RunPairs)
    → run < number → AreRuns number runs → find test (flat_map rows_of runs) ≡ None
none-of-later run test of number [] later are = refl
none-of-later run test of number (first ∷ runs) later are =
    rw (
      find-append test first.rows.items (flat_map rows_of runs),
      none-of-other run test of number 0 first.rows.items (λ same. absurd (omega (arith, same, later))) are.0,
      none-of-later run test of (number + 1) runs (omega (arith, later)) are.1,
    ) refl

abbrev pub found_in : (PairRow → Bool) → Option RunPairs → Option PairRow
found_in test None = None
found_in test (Some run) = find test run.rows.items

or-none : {X : Type 0} (found : Option X) → option_or found None ≡ found
or-none None = refl
or-none (Some x) = refl

found-from : (run : ℕ) (test : PairRow → Bool) → IsOfRun run test → (number at : ℕ) (runs : List RunPairs)
    → run ≡ number + at → AreRuns number runs → find test (flat_map rows_of runs) ≡ found_in test (slice_get runs at)
found-from run test of number at [] is are = refl
found-from run test of number zero (first ∷ runs) is are =
    rw (
      find-append test first.rows.items (flat_map rows_of runs),
      none-of-later run test of (number + 1) runs (omega (arith, is)) are.1,
    ) (or-none (find test first.rows.items))
found-from run test of number (suc at) (first ∷ runs) is are =
    rw (
      find-append test first.rows.items (flat_map rows_of runs),
      none-of-other run test of number 0 first.rows.items (λ same. absurd (omega (arith, same, is))) are.0,
    )
    (found-from run test of (number + 1) at runs (omega (arith, is)) are.1)

-- what is found among all pairs is found in the run
found-at : (run : ℕ) (test : PairRow → Bool) → IsOfRun run test → (runs : List RunPairs) → AreRuns 1 runs
    → find test (flat_map rows_of runs) ≡ found_in test (run_at runs run)
found-at zero test of runs are = none-of-later 0 test of 1 runs (omega arith) are
found-at (suc at) test of runs are = found-from (suc at) test of 1 at runs (omega arith) are

-- the run of a number has its pairs
rows-from : (number at : ℕ) (runs : List RunPairs) (run : RunPairs) → AreRuns number runs → slice_get runs at ≡ Some run
    → AreRows (number + at) 0 run.rows.items
rows-from number at [] run are is = cc
rows-from number zero (first ∷ runs) run are is =
    let same : first ≡ run = cc in
    subst (λ (r : RunPairs). AreRows (number + 0) 0 r.rows.items) same
    (subst (λ n. AreRows n 0 first.rows.items) (omega arith) are.0)
rows-from number (suc at) (first ∷ runs) run are is =
    subst (λ n. AreRows n 0 run.rows.items) (omega arith) (rows-from (number + 1) at runs run are.1 is)

rows-at : (number : ℕ) (runs : List RunPairs) (run : RunPairs) → AreRuns 1 runs → run_at runs number ≡ Some run
    → AreRows number 0 run.rows.items
rows-at zero runs run are is = cc
rows-at (suc at) runs run are is =
    subst (λ n. AreRows n 0 run.rows.items) (omega arith) (rows-from 1 at runs run are is)

-- ---- within a run

past-pair : (run wanted : ℕ) (row : PairRow) → row.place ≢ wanted → is_pair run wanted row ≡ false
past-pair run wanted row other = false_from_ne_true _ (λ is.
    other (eqb-true _ _ (and_parts (nat_eq row.run run) (nat_eq row.place wanted) is).1))

-- the pair of a place is at that place
pair-in-rows : (run place wanted at : ℕ) (rows : List PairRow) → wanted ≡ place + at → AreRows run place rows
    → pair_at rows run wanted ≡ slice_get rows at
pair-in-rows run place wanted at [] is are = refl
pair-in-rows run place wanted zero (row ∷ rows) is are =
    let here : is_pair run wanted row ≡ true =
    and_from _ _ (eq-eqb _ _ are.0) (eq-eqb _ _ (omega (arith, are.1, is))) in
    rw here refl
pair-in-rows run place wanted (suc at) (row ∷ rows) is are =
    rw (past-pair run wanted row (λ same. absurd (omega (arith, same, is, are.1))))
    (pair-in-rows run (place + 1) wanted at rows (omega (arith, is)) are.2)

-- the first open pair from a place on is the first of the rest
open-in-rows : (run place from at : ℕ) (rows : List PairRow) → from ≡ place + at → AreRows run place rows
    → next_open (drop at rows) run from ≡ next_open rows run from
open-in-rows run place from at [] is are = drop-none at
  where
    drop-none : (n : ℕ) → next_open (drop n []) run from ≡ None
    drop-none zero = refl
    drop-none (suc n) = refl
open-in-rows run place from zero (row ∷ rows) is are = refl
open-in-rows run place from (suc at) (row ∷ rows) is are =
    let closed : is_open run from row ≡ false =
    false_from_ne_true _ (λ passes. absurd (omega (arith, (open-parts run from row passes).place, is, are.1))) in
    rw closed (open-in-rows run (place + 1) from at rows (omega (arith, is)) are.2)

-- the places of a run are below its number of pairs
place-within : (run place from bound : ℕ) (rows : List PairRow) (row : PairRow) → AreRows run place rows
    → place + length rows ≤ bound → next_open rows run from ≡ Some row → row.place < bound
place-within run place from bound [] row are within found = cc
place-within run place from bound (first ∷ rows) row are within found =
    by-test (is_open run from first) (place-within run (place + 1) from bound rows row are.2 (omega (arith, within)))
    found
  where
    by-test : (t : Bool) → (next_open rows run from ≡ Some row → row.place < bound)
        → cond t (Some first) (next_open rows run from) ≡ Some row → row.place < bound
    by-test true later found = let same : first ≡ row = cc in
        subst (λ (r : PairRow). r.place < bound) same (omega (arith, are.1, within))
    by-test false later found = later found

-- ---- a verdict

other-pair : (number place : ℕ) (verdict : Verdict) (row : PairRow) → is_pair number place row ≡ false
    → with_verdict number place verdict row ≡ row
other-pair number place verdict row is = rw is refl

-- a verdict on a pair of another run leaves the pairs as they are
pub other-rows : (number wanted : ℕ) (verdict : Verdict) (run place : ℕ) (rows : List PairRow) → run ≢ number
    → AreRows run place rows → map (with_verdict number wanted verdict) rows ≡ rows
other-rows number wanted verdict run place [] other are = refl
other-rows number wanted verdict run place (row ∷ rows) other are =
    let here : is_pair number wanted row ≡ false =
    false_from_ne_true _ (λ is. other (sym are.0 ∙ pair-of-run number wanted row is)) in
    by-both (λ (r : PairRow) (rs : List PairRow). r ∷ rs) (other-pair number wanted verdict row here)
    (other-rows number wanted verdict run (place + 1) rows other are.2)

-- as on one of an earlier run
pub later-runs : (number wanted : ℕ) (verdict : Verdict) (first : ℕ) (runs : List RunPairs) → number < first
    → AreRuns first runs → map (with_verdict number wanted verdict) (flat_map rows_of runs) ≡ flat_map rows_of runs
later-runs number wanted verdict first [] later are = refl
later-runs number wanted verdict first (run ∷ runs) later are =
    map-append (with_verdict number wanted verdict) run.rows.items (flat_map rows_of runs)
    ∙ by-both (λ (xs ys : List PairRow). xs ++ ys)
    (other-rows number wanted verdict first 0 run.rows.items (λ same. absurd (omega (arith, same, later))) are.0)
    (later-runs number wanted verdict (first + 1) runs (omega (arith, later)) are.1)

-- or on one of a run that is not there
pub missing-run : (number wanted : ℕ) (verdict : Verdict) (first : ℕ) (runs : List RunPairs) → first + length runs ≤ number
    → AreRuns first runs → map (with_verdict number wanted verdict) (flat_map rows_of runs) ≡ flat_map rows_of runs
missing-run number wanted verdict first [] missing are = refl
missing-run number wanted verdict first (run ∷ runs) missing are =
    map-append (with_verdict number wanted verdict) run.rows.items (flat_map rows_of runs)
    ∙ by-both (λ (xs ys : List PairRow). xs ++ ys)
    (other-rows number wanted verdict first 0 run.rows.items (λ same. absurd (omega (arith, same, missing))) are.0)
    (missing-run number wanted verdict (first + 1) runs (omega (arith, missing)) are.1)

-- a verdict on a pair of the run changes the one at its place
pub verdict-in-rows : (run place wanted at : ℕ) (verdict : Verdict) (rows : List PairRow) → wanted ≡ place + at
    → AreRows run place rows → map (with_verdict run wanted verdict) rows ≡ with_verdict_at rows at verdict
verdict-in-rows run place wanted at verdict [] is are = refl
verdict-in-rows run place wanted zero verdict (row ∷ rows) is are =
    let here : is_pair run wanted row ≡ true =
    and_from _ _ (eq-eqb _ _ are.0) (eq-eqb _ _ (omega (arith, are.1, is))) in
    by-both (λ (r : PairRow) (rs : List PairRow). r ∷ rs) (rw here refl)
    (past-rows run (place + 1) wanted verdict rows (omega (arith, is)) are.2)
  where
    past-rows : (run place wanted : ℕ) (verdict : Verdict) (rows : List PairRow) → wanted < place → AreRows run place rows
        → map (with_verdict run wanted verdict) rows ≡ rows
    past-rows run place wanted verdict [] past are = refl
    past-rows run place wanted verdict (row ∷ rows) past are =
        by-both (λ (r : PairRow) (rs : List PairRow). r ∷ rs)
        (other-pair run wanted verdict row (past-pair run wanted row (λ same. absurd (omega (arith, same, past, are.1)))))
        (past-rows run (place + 1) wanted verdict rows (omega (arith, past)) are.2)
verdict-in-rows run place wanted (suc at) verdict (row ∷ rows) is are =
    by-both (λ (r : PairRow) (rs : List PairRow). r ∷ rs)
    (other-pair run wanted verdict row (past-pair run wanted row (λ same. absurd (omega (arith, same, is, are.1)))))
    (verdict-in-rows run (place + 1) wanted at verdict rows (omega (arith, is)) are.2)

pub length-verdict-at : (rows : List PairRow) (at : ℕ) (verdict : Verdict)
    → length (with_verdict_at rows at verdict) ≡ length rows
length-verdict-at (row ∷ rows) (suc at) verdict = ap suc (length-verdict-at rows at verdict)
length-verdict-at rows at verdict = refl

pub rows-verdict-at : (run place : ℕ) (rows : List PairRow) (at : ℕ) (verdict : Verdict) → AreRows run place rows
    → AreRows run place (with_verdict_at rows at verdict)
rows-verdict-at run place [] at verdict are = tt
rows-verdict-at run place (row ∷ rows) zero verdict are = are
rows-verdict-at run place (row ∷ rows) (suc at) verdict are =
    (are.0, are.1, rows-verdict-at run (place + 1) rows at verdict are.2)

-- ---- writes at a place

pub put-row : (rows : List PairRow) (place : ℕ) (verdict : Verdict) (other : PairRow) → place < length rows
    → slice_set rows place (record (slice_index_or rows place other) { verdict = verdict })
    ≡ with_verdict_at rows place verdict
put-row [] place verdict other within = absurd (omega (arith, within))
put-row (row ∷ rows) zero verdict other within = refl
put-row (row ∷ rows) (suc place) verdict other within =
    ap (λ (rs : List PairRow). row ∷ rs) (put-row rows place verdict other (omega (arith, within)))

pub put-past : (rows : List PairRow) (place : ℕ) (verdict : Verdict) → length rows ≤ place
    → rows ≡ with_verdict_at rows place verdict
put-past [] place verdict past = refl
put-past (row ∷ rows) zero verdict past = absurd (omega (arith, past))
put-past (row ∷ rows) (suc place) verdict past =
    ap (λ (rs : List PairRow). row ∷ rs) (put-past rows place verdict (omega (arith, past)))

-- what is at a place that is there
pub there : {X : Type 0} (xs : List X) (at : ℕ) (other : X) → at < length xs
    → slice_get xs at ≡ Some (slice_index_or xs at other)
there [] at other within = absurd (omega (arith, within))
there (x ∷ xs) zero other within = refl
there (x ∷ xs) (suc at) other within = there xs at other (omega (arith, within))

-- ---- what is found

pub pair-none : (runs : List RunPairs) (run place : ℕ) → AreRuns 1 runs → run_at runs run ≡ None
    → pair_at (flat_map rows_of runs) run place ≡ None
pair-none runs run place are none =
    found-at run (is_pair run place) (pair-of-run run place) runs are ∙ ap (found_in (is_pair run place)) none

pub pair-some : (runs : List RunPairs) (run place : ℕ) (found : RunPairs) → AreRuns 1 runs → run_at runs run ≡ Some found
    → pair_at (flat_map rows_of runs) run place ≡ slice_get found.rows.items place
pair-some runs run place found are is =
    found-at run (is_pair run place) (pair-of-run run place) runs are ∙ ap (found_in (is_pair run place)) is
    ∙ pair-in-rows run 0 place place found.rows.items (omega arith) (rows-at run runs found are is)

pub next-none : (runs : List RunPairs) (run from : ℕ) → AreRuns 1 runs → run_at runs run ≡ None
    → next_open (flat_map rows_of runs) run from ≡ None
next-none runs run from are none =
    found-at run (is_open run from) (open-of-run run from) runs are ∙ ap (found_in (is_open run from)) none

pub next-some : (runs : List RunPairs) (run from : ℕ) (found : RunPairs) → AreRuns 1 runs → run_at runs run ≡ Some found
    → next_open (flat_map rows_of runs) run from ≡ next_open (drop from found.rows.items) run from
next-some runs run from found are is =
    found-at run (is_open run from) (open-of-run run from) runs are ∙ ap (found_in (is_open run from)) is
    ∙ sym (open-in-rows run 0 from from found.rows.items (omega arith) (rows-at run runs found are is))

-- an open pair that is found has a place from this one on, below the number of pairs
pub next-within : (runs : List RunPairs) (run from bound : ℕ) (found : RunPairs) (answer : Option PairRow) → AreRuns 1 runs
    → run_at runs run ≡ Some found → length (flat_map rows_of runs) ≤ bound
    → answer ≡ next_open (flat_map rows_of runs) run from
    → IfSome answer (λ row. (from ≤ row.place) × (row.place < bound))
next-within runs run from bound found None are is small answer-is = tt
next-within runs run from bound found (Some row) are is small answer-is =
    let whole : next_open found.rows.items run from ≡ Some row =
    sym (ap (found_in (is_open run from)) is) ∙ sym (found-at run (is_open run from) (open-of-run run from) runs are)
    ∙ sym answer-is in (
      place-from run from row (found-passes (is_open run from) found.rows.items row whole),
      place-within run 0 from bound found.rows.items row (rows-at run runs found are is)
          (omega (arith, run-within runs run found is, small)) whole,
    )
  where
    at-within : (runs : List RunPairs) (at : ℕ) (found : RunPairs) → slice_get runs at ≡ Some found
        → length found.rows.items ≤ length (flat_map rows_of runs)
    at-within [] at found is = cc
    at-within (first ∷ runs) zero found is =
        let same : first ≡ found = cc in
        subst (λ (r : RunPairs). length r.rows.items ≤ length (first.rows.items ++ flat_map rows_of runs)) same
        (omega (arith, length-append first.rows.items (flat_map rows_of runs)))
    at-within (first ∷ runs) (suc at) found is =
        omega (arith, length-append first.rows.items (flat_map rows_of runs), at-within runs at found is)

    run-within : (runs : List RunPairs) (run : ℕ) (found : RunPairs) → run_at runs run ≡ Some found
        → length found.rows.items ≤ length (flat_map rows_of runs)
    run-within runs zero found is = cc
    run-within runs (suc at) found is = at-within runs at found is
