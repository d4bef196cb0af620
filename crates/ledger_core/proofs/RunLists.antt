-- Lists of runs in memory: after a verdict, and with one more run.
use Rattle.std.proofs.Common.{◌≡◌, ℕ, zero, suc, ◌+◌, ◌<◌, List, [], ◌∷◌, ◌++◌, length, map, Some, slice_get, slice_set}
use Rattle.std.proofs.Common.{refl, ap, sym, ◌∙◌, subst, arith}
use Rattle.std.specs.List.{flat_map}
use Rattle.std.proofs.lemmas.List.{map-append, append-nil, length-append, length-map}
use Rattle.std.proofs.lemmas.List.Concat.{flat_map-append}
use Rattle.tin_base.specs.declared.pieces.Change.{Change}
use Rattle.ledger_core.specs.declared.pairs.Seal.{Seal}
use Rattle.ledger_core.specs.declared.pairs.PairRow.{PairRow}
use Rattle.ledger_core.specs.declared.pairs.Verdict.{Verdict}
use Rattle.ledger_core.specs.declared.mem_runs.RunPairs.{RunPairs}
use Rattle.ledger_core.specs.Kept.{with_verdict, undecided_from, with_new_run}
use Rattle.ledger_core.specs.MemoryRuns.{seal_of, rows_of, entry_of_run, all_of, AreRows, AreRuns, with_verdict_at, IsVerdictPut}
use Rattle.ledger_core.proofs.UndecidedRows.{length-undecided}
use Rattle.ledger_core.proofs.RunRows.{by-both, later-runs, missing-run, verdict-in-rows, length-verdict-at, rows-verdict-at, other-rows}

-- the run afterwards
pub record IsRunPut (at : ℕ) (verdict : Verdict) (before after : RunPairs) : Type 0 where
  pub seal : after.seal ≡ before.seal
  pub rows : after.rows.items ≡ with_verdict_at before.rows.items at verdict

record IsPut (first number place : ℕ) (verdict : Verdict) (before after : List RunPairs) : Type 0 where
  seals : map seal_of after ≡ map seal_of before
  entries : map entry_of_run after ≡ map entry_of_run before
  rows : flat_map rows_of after ≡ map (with_verdict number place verdict) (flat_map rows_of before)
  runs : AreRuns first after

same-entry : (at : ℕ) (verdict : Verdict) (before after : RunPairs) → IsRunPut at verdict before after
    → entry_of_run after ≡ entry_of_run before
same-entry at verdict before after is =
    by-both (λ (s : Seal) (n : ℕ). (s, n)) is.seal
    (ap (λ (rows : List PairRow). length rows) is.rows ∙ length-verdict-at before.rows.items at verdict)

put-from : (first number place : ℕ) (verdict : Verdict) (at : ℕ) (runs : List RunPairs) (run after : RunPairs)
    → number ≡ first + at → slice_get runs at ≡ Some run → IsRunPut place verdict run after → AreRuns first runs
    → IsPut first number place verdict runs (slice_set runs at after)
put-from first number place verdict at [] run after is there put are = cc
put-from first number place verdict zero (head ∷ runs) run after is there put are =
    let same : head ≡ run = cc in
    let put : IsRunPut place verdict head after = subst (λ (r : RunPairs). IsRunPut place verdict r after) (sym same) put in
    let ours : AreRows number 0 head.rows.items = subst (λ n. AreRows n 0 head.rows.items) (omega (arith, is)) are.0 in
    record {
      seals = ap (λ s. s ∷ map seal_of runs) put.seal;
      entries = ap (λ e. e ∷ map entry_of_run runs) (same-entry place verdict head after put);
      rows = by-both (λ (xs ys : List PairRow). xs ++ ys)
          (put.rows ∙ sym (verdict-in-rows number 0 place place verdict head.rows.items (omega arith) ours))
          (sym (later-runs number place verdict (first + 1) runs (omega (arith, is)) are.1))
          ∙ sym (map-append (with_verdict number place verdict) head.rows.items (flat_map rows_of runs));
      runs = (
        subst (λ (rows : List PairRow). AreRows first 0 rows) (sym put.rows)
            (rows-verdict-at first 0 head.rows.items place verdict are.0),
        are.1,
      );
    }
put-from first number place verdict (suc at) (head ∷ runs) run after is there put are =
    let rest = put-from (first + 1) number place verdict at runs run after (omega (arith, is)) there put are.1 in
    record {
      seals = ap (λ s. head.seal ∷ s) rest.seals;
      entries = ap (λ e. entry_of_run head ∷ e) rest.entries;
      rows = by-both (λ (xs ys : List PairRow). xs ++ ys)
          (sym (other-rows number place verdict first 0 head.rows.items (λ same. absurd (omega (arith, same, is))) are.0))
          rest.rows
          ∙ sym (map-append (with_verdict number place verdict) head.rows.items (flat_map rows_of runs));
      runs = (are.0, rest.runs);
    }

-- a verdict on the pair of a run that is there
pub put-at : (number place : ℕ) (verdict : Verdict) (at : ℕ) (runs : List RunPairs) (run after : RunPairs) → number ≡ 1 + at
    → slice_get runs at ≡ Some run → IsRunPut place verdict run after → AreRuns 1 runs
    → IsVerdictPut number place verdict runs (slice_set runs at after)
put-at number place verdict at runs run after is there put are =
    let made = put-from 1 number place verdict at runs run after is there put are in
    record { seals = made.seals; entries = made.entries; rows = made.rows; runs = made.runs }

-- and on one of a run that is not
pub put-nowhere : (number place : ℕ) (verdict : Verdict) (runs : List RunPairs) → (0 < number → length runs < number)
    → AreRuns 1 runs → IsVerdictPut number place verdict runs runs
put-nowhere zero place verdict runs nowhere are =
    record { seals = refl; entries = refl; rows = sym (later-runs 0 place verdict 1 runs (omega arith) are); runs = are }
put-nowhere (suc n) place verdict runs nowhere are =
    record {
      seals = refl;
      entries = refl;
      rows = sym (missing-run (suc n) place verdict 1 runs (omega (arith, nowhere (omega arith))) are);
      runs = are;
    }

-- ---- one more run

undecided-rows : (run place : ℕ) (changes : List Change) → AreRows run place (undecided_from run place changes)
undecided-rows run place [] = tt
undecided-rows run place (change ∷ changes) = (refl, refl, undecided-rows run (place + 1) changes)

runs-and-one : (first : ℕ) (runs : List RunPairs) (run : RunPairs) → AreRuns first runs
    → AreRows (first + length runs) 0 run.rows.items → AreRuns first (runs ++ run ∷ [])
runs-and-one first [] run are its = (subst (λ n. AreRows n 0 run.rows.items) (omega arith) its, tt)
runs-and-one first (head ∷ runs) run are its =
    (are.0, runs-and-one (first + 1) runs run are.1 (subst (λ n. AreRows n 0 run.rows.items) (omega arith) its))

one-more-rows : (runs : List RunPairs) (run : RunPairs) (rows : List PairRow) → run.rows.items ≡ rows
    → flat_map rows_of (runs ++ run ∷ []) ≡ flat_map rows_of runs ++ rows
one-more-rows runs run rows are =
    flat_map-append rows_of runs (run ∷ []) ∙ ap (λ (rs : List PairRow). flat_map rows_of runs ++ rs)
    (append-nil run.rows.items ∙ are)

-- what is kept with one more run
pub one-more : (runs : List RunPairs) (run : RunPairs) (changes : List Change)
    → run.rows.items ≡ undecided_from (length runs + 1) 0 changes
    → all_of (runs ++ run ∷ []) ≡ with_new_run run.seal changes (all_of runs)
one-more runs run changes are =
    let size : length (map entry_of_run runs) ≡ length runs = length-map runs entry_of_run in
    let rows = undecided_from (length runs + 1) 0 changes in
    let count : length run.rows.items ≡ length changes =
    ap (λ (rs : List PairRow). length rs) are ∙ length-undecided (length runs + 1) 0 changes in
    let entries : map entry_of_run (runs ++ run ∷ []) ≡ map entry_of_run runs ++ (run.seal, length changes) ∷ [] =
    map-append entry_of_run runs (run ∷ []) ∙ ap (λ n. map entry_of_run runs ++ (run.seal, n) ∷ []) count in
    let pairs : flat_map rows_of (runs ++ run ∷ [])
    ≡ flat_map rows_of runs ++ undecided_from (length (map entry_of_run runs) + 1) 0 changes =
    one-more-rows runs run rows are
    ∙ ap (λ n. flat_map rows_of runs ++ undecided_from (n + 1) 0 changes) (sym size) in
    by-both (λ (es : List (Seal × ℕ)) (rs : List PairRow). record { runs = es; pairs = rs }) entries pairs

pub one-more-count : (runs : List RunPairs) (run : RunPairs) (changes : List Change)
    → run.rows.items ≡ undecided_from (length runs + 1) 0 changes
    → length (flat_map rows_of (runs ++ run ∷ [])) ≡ length (flat_map rows_of runs) + length changes
one-more-count runs run changes are =
    ap (λ (rs : List PairRow). length rs) (one-more-rows runs run (undecided_from (length runs + 1) 0 changes) are)
    ∙ length-append (flat_map rows_of runs) (undecided_from (length runs + 1) 0 changes)
    ∙ ap (λ n. length (flat_map rows_of runs) + n) (length-undecided (length runs + 1) 0 changes)

pub one-more-runs : (runs : List RunPairs) (run : RunPairs) (changes : List Change)
    → run.rows.items ≡ undecided_from (length runs + 1) 0 changes → AreRuns 1 runs → AreRuns 1 (runs ++ run ∷ [])
one-more-runs runs run changes rows are =
    runs-and-one 1 runs run are
    (subst (λ (rs : List PairRow). AreRows (1 + length runs) 0 rs) (sym rows)
    (subst (λ n. AreRows n 0 (undecided_from (length runs + 1) 0 changes)) (omega arith)
    (undecided-rows (length runs + 1) 0 changes)))
