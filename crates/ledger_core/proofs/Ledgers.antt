-- What is kept of a history and one more command.
use Rattle.std.proofs.Common.{◌≡◌, ℕ, ◌+◌, ◌<◌, ◌≤◌, Bool, true, false, cond, ◌&&◌, List, [], ◌∷◌, ◌++◌}
use Rattle.std.proofs.Common.{refl, sym, ap, subst, arith, nat_eq, length, ◌∙◌, map, ◌⊎◌, inl, inr}
use Rattle.std.proofs.lemmas.Bool.{ne_eqb, eqb-true, eq-eqb, cases_eq}
use Rattle.std.proofs.lemmas.List.{append_assoc, append-nil}
use Rattle.tin_base.specs.declared.pieces.Change.{Change}
use Rattle.report_text.specs.Reports.{ReportContents}
use Rattle.ledger_core.specs.declared.pairs.Seal.{Seal}
use Rattle.ledger_core.specs.declared.pairs.PairRow.{PairRow}
use Rattle.ledger_core.specs.declared.pairs.Mark.{Mark}
use Rattle.ledger_core.specs.declared.pairs.Verdict.{Verdict}
use Rattle.ledger_core.specs.declared.pairs.Verdict.TheVariants.{Undecided}
use Rattle.ledger_core.specs.declared.commands.Command.{Command}
use Rattle.ledger_core.specs.declared.commands.Command.TheVariants as commands
use Rattle.ledger_core.specs.Kept.{Kept, with_new_run, with_decision, verdict_of, with_verdict, undecided_from, Ascend, AreInOrder}
use Rattle.ledger_core.specs.Histories.{verdict_in, rows_in, pairs_in, runs_of, ledger_of}
use Rattle.ledger_core.proofs.Verdicts.{or_verdict, or-undecided, verdict-append, pairs-same, rows-undecided, pairs-with}

pub runs-append : (history more : List Command) → runs_of (history ++ more) ≡ runs_of history ++ runs_of more
runs-append [] more = refl
runs-append (commands.Enter seal report ∷ history) more = ap (λ runs. (seal, length report.changes) ∷ runs)
    (runs-append history more)
runs-append (commands.Decide r p mark ∷ history) more = runs-append history more
runs-append (commands.List r ∷ history) more = runs-append history more
runs-append (commands.Clear r ∷ history) more = runs-append history more

pairs-append : (verdicts : ℕ → ℕ → Verdict) (run : ℕ) (history more : List Command)
    → pairs_in verdicts run (history ++ more)
    ≡ pairs_in verdicts run history ++ pairs_in verdicts (run + length (runs_of history)) more
pairs-append verdicts run [] more =
    ap (λ number. pairs_in verdicts number more) (omega arith)
pairs-append verdicts run (commands.Enter seal report ∷ history) more =
    let later : run + 1 + length (runs_of history) ≡ run + length ((seal, length report.changes) ∷ runs_of history)
    = omega arith in
    ap (λ rows. rows_in verdicts run 0 report.changes ++ rows) (pairs-append verdicts (run + 1) history more)
    ∙ sym (append_assoc (rows_in verdicts run 0 report.changes) (pairs_in verdicts (run + 1) history)
    (pairs_in verdicts (run + 1 + length (runs_of history)) more))
    ∙ ap (λ number. (rows_in verdicts run 0 report.changes ++ pairs_in verdicts (run + 1) history)
    ++ pairs_in verdicts number more) later
pairs-append verdicts run (commands.Decide r p mark ∷ history) more = pairs-append verdicts run history more
pairs-append verdicts run (commands.List r ∷ history) more = pairs-append verdicts run history more
pairs-append verdicts run (commands.Clear r ∷ history) more = pairs-append verdicts run history more

-- a history and one more run, on whose pairs nothing was decided
pub entered-ledger : (history : List Command) (seal : Seal) (report : ReportContents)
    → ((place : ℕ) → verdict_in history (length (runs_of history) + 1) place ≡ Undecided)
    → with_new_run seal report.changes (ledger_of history) ≡ ledger_of (history ++ commands.Enter seal report ∷ [])
entered-ledger history seal report none =
    let next = commands.Enter seal report ∷ [] in
    let count = length (runs_of history) in
    let same : (r p : ℕ) → verdict_in (history ++ next) r p ≡ verdict_in history r p =
    λ r p. verdict-append history next r p ∙ or-undecided _ in
    let number : 1 + count ≡ count + 1 = omega arith in
    let rows : pairs_in (verdict_in history) (1 + count) next ≡ undecided_from (count + 1) 0 report.changes =
    append-nil _ ∙ ap (λ run. rows_in (verdict_in history) run 0 report.changes) number
    ∙ rows-undecided (verdict_in history) (count + 1) 0 report.changes none in
    let pairs : pairs_in (verdict_in (history ++ next)) 1 (history ++ next)
    ≡ pairs_in (verdict_in history) 1 history ++ undecided_from (count + 1) 0 report.changes =
    pairs-same _ _ 1 (history ++ next) same ∙ pairs-append (verdict_in history) 1 history next
    ∙ ap (λ more. pairs_in (verdict_in history) 1 history ++ more) rows in
    let kept : List (Seal × ℕ) → List PairRow → Kept = λ runs pairs. record { runs = runs; pairs = pairs } in
    sym (ap (λ runs. kept runs (pairs_in (verdict_in (history ++ next)) 1 (history ++ next))) (runs-append history next)
    ∙ ap (kept (runs_of history ++ (seal, length report.changes) ∷ [])) pairs)

-- a history and one more decision, on a pair on which nothing was decided
pub decided-ledger : (history : List Command) (run place : ℕ) (mark : Mark) → verdict_in history run place ≡ Undecided
    → with_decision run place (verdict_of mark) (ledger_of history)
    ≡ ledger_of (history ++ commands.Decide run place mark ∷ [])
decided-ledger history run place mark none =
    let next = commands.Decide run place mark ∷ [] in
    let is : (r p : ℕ) → verdict_in (history ++ next) r p
    ≡ cond (nat_eq r run && nat_eq p place) (verdict_of mark) (verdict_in history r p) =
    λ r p. verdict-append history next r p ∙ at-pair r p (nat_eq r run) (nat_eq p place) refl refl in
    let pairs : pairs_in (verdict_in (history ++ next)) 1 (history ++ next)
    ≡ map (with_verdict run place (verdict_of mark)) (pairs_in (verdict_in history) 1 history) =
    pairs-append (verdict_in (history ++ next)) 1 history next ∙ append-nil _
    ∙ sym (pairs-with run place (verdict_of mark) (verdict_in history) (verdict_in (history ++ next)) is 1 history) in
    let kept : List (Seal × ℕ) → List PairRow → Kept = λ runs pairs. record { runs = runs; pairs = pairs } in
    sym (ap (λ runs. kept runs (pairs_in (verdict_in (history ++ next)) 1 (history ++ next)))
    (runs-append history next ∙ append-nil _) ∙ ap (kept (runs_of history)) pairs)
  where
    at-pair : (r p : ℕ) (t u : Bool) → nat_eq r run ≡ t → nat_eq p place ≡ u
        → or_verdict (verdict_in history r p) (cond (t && u) (verdict_of mark) Undecided)
        ≡ cond (t && u) (verdict_of mark) (verdict_in history r p)
    at-pair r p true true run-is place-is =
        let there : verdict_in history r p ≡ Undecided =
        ap (λ n. verdict_in history n p) (eqb-true _ _ run-is) ∙ ap (λ n. verdict_in history run n) (eqb-true _ _ place-is)
        ∙ none in
        rw there refl
    at-pair r p t u run-is place-is = or-undecided _

-- ---- the order of pairs

-- rows of another run
ascend-other : (verdicts : ℕ → ℕ → Verdict) (number run place at : ℕ) (changes : List Change) (rest : List PairRow)
    → (run ≡ number → ⊥) → Ascend number at rest → Ascend number at (rows_in verdicts run place changes ++ rest)
ascend-other verdicts number run place at [] rest other ascend = ascend
ascend-other verdicts number run place at (change ∷ changes) rest other ascend = (
  λ same. absurd (other same),
  rw (ne_eqb run number other) (ascend-other verdicts number run (place + 1) at changes rest other ascend),
)

-- rows of this run, and none after them
ascend-run : (verdicts : ℕ → ℕ → Verdict) (run place at : ℕ) (changes : List Change) (rest : List PairRow)
    → at ≤ place → ((n : ℕ) → Ascend run n rest) → Ascend run at (rows_in verdicts run place changes ++ rest)
ascend-run verdicts run place at [] rest within ascend = ascend at
ascend-run verdicts run place at (change ∷ changes) rest within ascend = (
  λ same. within,
  rw (eq-eqb run run refl)
      (ascend-run verdicts run (place + 1) (place + 1) changes rest (omega arith) ascend),
)

-- the runs from one on have no pairs of an earlier one
ascend-none : (verdicts : ℕ → ℕ → Verdict) (number first at : ℕ) (history : List Command) → number < first
    → Ascend number at (pairs_in verdicts first history)
ascend-none verdicts number first at [] before = tt
ascend-none verdicts number first at (commands.Enter seal report ∷ history) before =
    ascend-other verdicts number first 0 at report.changes (pairs_in verdicts (first + 1) history)
    (λ same. absurd (omega (arith, same, before)))
    (ascend-none verdicts number (first + 1) at history (omega (arith, before)))
ascend-none verdicts number first at (commands.Decide r p mark ∷ history) before =
    ascend-none verdicts number first at history before
ascend-none verdicts number first at (commands.List r ∷ history) before =
    ascend-none verdicts number first at history before
ascend-none verdicts number first at (commands.Clear r ∷ history) before =
    ascend-none verdicts number first at history before

ascend-from : (verdicts : ℕ → ℕ → Verdict) (number first : ℕ) (history : List Command)
    → Ascend number 0 (pairs_in verdicts first history)
ascend-from verdicts number first [] = tt
ascend-from verdicts number first (commands.Enter seal report ∷ history) =
    by-number (cases_eq first number) (ascend-from verdicts number (first + 1) history)
  where
    by-number : (first ≡ number) ⊎ (first ≡ number → ⊥)
        → Ascend number 0 (pairs_in verdicts (first + 1) history)
        → Ascend number 0 (rows_in verdicts first 0 report.changes ++ pairs_in verdicts (first + 1) history)
    by-number (inl same) later = subst (λ (n : ℕ). Ascend n 0 (rows_in verdicts first 0 report.changes
        ++ pairs_in verdicts (first + 1) history)) same
        (ascend-run verdicts first 0 0 report.changes (pairs_in verdicts (first + 1) history) (omega arith)
        (λ n. ascend-none verdicts first (first + 1) n history (omega arith)))
    by-number (inr other) later = ascend-other verdicts number first 0 0 report.changes
        (pairs_in verdicts (first + 1) history) other later
ascend-from verdicts number first (commands.Decide r p mark ∷ history) = ascend-from verdicts number first history
ascend-from verdicts number first (commands.List r ∷ history) = ascend-from verdicts number first history
ascend-from verdicts number first (commands.Clear r ∷ history) = ascend-from verdicts number first history

-- the pairs of a history are in the order of runs and places
pub in-order : (history : List Command) → AreInOrder (ledger_of history).pairs
in-order history = λ run. ascend-from (verdict_in history) run 1 history
