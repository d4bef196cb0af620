-- Verdicts of histories, and the pairs that have them.
use Rattle.std.proofs.Common.{◌≡◌, ℕ, ◌+◌, Bool, true, false, cond, ◌&&◌, List, [], ◌∷◌, ◌++◌, map, Some}
use Rattle.std.proofs.Common.{refl, sym, ap, subst, nat_eq, ◌∙◌}
use Rattle.std.specs.List.{find, AllByRecursion}
use Rattle.std.proofs.lemmas.Bool.{and_parts, eqb-true}
use Rattle.tin_base.specs.declared.pieces.Change.{Change}
use Rattle.ledger_core.specs.declared.pairs.PairRow.{PairRow}
use Rattle.ledger_core.specs.declared.pairs.Mark.{Mark}
use Rattle.ledger_core.specs.declared.pairs.Mark.TheVariants as marks
use Rattle.ledger_core.specs.declared.pairs.Verdict.{Verdict}
use Rattle.ledger_core.specs.declared.pairs.Verdict.TheVariants.{Undecided, Kept as kept_verdict, Mended}
use Rattle.ledger_core.specs.declared.commands.Command.{Command}
use Rattle.ledger_core.specs.declared.commands.Command.TheVariants as commands
use Rattle.ledger_core.specs.Kept.{is_pair, pair_at, with_verdict, verdict_of, undecided_from}
use Rattle.ledger_core.specs.Histories.{verdict_in, rows_in, pairs_in}
use Rattle.ledger_core.proofs.OpenPairs.{found-passes}

-- a verdict, or where nothing was decided another one
abbrev pub or_verdict : Verdict → Verdict → Verdict
or_verdict Undecided other = other
or_verdict kept_verdict other = kept_verdict
or_verdict Mended other = Mended

marked : (mark : Mark) (other : Verdict) → or_verdict (verdict_of mark) other ≡ verdict_of mark
marked marks.Kept other = refl
marked marks.Mended other = refl

pub or-undecided : (verdict : Verdict) → or_verdict verdict Undecided ≡ verdict
or-undecided Undecided = refl
or-undecided kept_verdict = refl
or-undecided Mended = refl

-- the verdict of two histories is that of the first, or else of the second
pub verdict-append : (history more : List Command) (run place : ℕ)
    → verdict_in (history ++ more) run place ≡ or_verdict (verdict_in history run place) (verdict_in more run place)
verdict-append [] more run place = refl
verdict-append (commands.Enter seal report ∷ history) more run place = verdict-append history more run place
verdict-append (commands.List r ∷ history) more run place = verdict-append history more run place
verdict-append (commands.Clear r ∷ history) more run place = verdict-append history more run place
verdict-append (commands.Decide r p mark ∷ history) more run place =
    by-test (nat_eq run r && nat_eq place p) (verdict-append history more run place)
  where
    by-test : (t : Bool)
        → verdict_in (history ++ more) run place ≡ or_verdict (verdict_in history run place) (verdict_in more run place)
        → cond t (verdict_of mark) (verdict_in (history ++ more) run place)
        ≡ or_verdict (cond t (verdict_of mark) (verdict_in history run place)) (verdict_in more run place)
    by-test true later = sym (marked mark _)
    by-test false later = later

-- ---- rows with equal verdicts

rows-same : (verdicts others : ℕ → ℕ → Verdict) (run place : ℕ) (changes : List Change)
    → ((p : ℕ) → verdicts run p ≡ others run p) → rows_in verdicts run place changes ≡ rows_in others run place changes
rows-same verdicts others run place [] same = refl
rows-same verdicts others run place (change ∷ changes) same =
    rw (same place, rows-same verdicts others run (place + 1) changes same) refl

pub pairs-same : (verdicts others : ℕ → ℕ → Verdict) (run : ℕ) (history : List Command)
    → ((r p : ℕ) → verdicts r p ≡ others r p) → pairs_in verdicts run history ≡ pairs_in others run history
pairs-same verdicts others run [] same = refl
pairs-same verdicts others run (commands.Enter seal report ∷ history) same =
    rw (rows-same verdicts others run 0 report.changes (same run), pairs-same verdicts others (run + 1) history same) refl
pairs-same verdicts others run (commands.Decide r p mark ∷ history) same = pairs-same verdicts others run history same
pairs-same verdicts others run (commands.List r ∷ history) same = pairs-same verdicts others run history same
pairs-same verdicts others run (commands.Clear r ∷ history) same = pairs-same verdicts others run history same

-- rows on which nothing was decided
pub rows-undecided : (verdicts : ℕ → ℕ → Verdict) (run place : ℕ) (changes : List Change)
    → ((p : ℕ) → verdicts run p ≡ Undecided) → rows_in verdicts run place changes ≡ undecided_from run place changes
rows-undecided verdicts run place [] none = refl
rows-undecided verdicts run place (change ∷ changes) none =
    rw (none place, rows-undecided verdicts run (place + 1) changes none) refl

-- ---- one more verdict

-- others has this verdict at one pair, and is verdicts elsewhere
abbrev pub IsWith : ℕ → ℕ → Verdict → (ℕ → ℕ → Verdict) → (ℕ → ℕ → Verdict) → Type 0
IsWith run place verdict verdicts others =
    (r p : ℕ) → others r p ≡ cond (nat_eq r run && nat_eq p place) verdict (verdicts r p)

abbrev row : ℕ → ℕ → Change → Verdict → PairRow
row run place change verdict = record { run = run; place = place; change = change; verdict = verdict }

row-with : (t : Bool) (run place : ℕ) (change : Change) (old new : Verdict)
    → cond t (row run place change new) (row run place change old) ≡ row run place change (cond t new old)
row-with true run place change old new = refl
row-with false run place change old new = refl

rows-with : (run place : ℕ) (verdict : Verdict) (verdicts others : ℕ → ℕ → Verdict)
    → IsWith run place verdict verdicts others → (r p : ℕ) (changes : List Change)
    → map (with_verdict run place verdict) (rows_in verdicts r p changes) ≡ rows_in others r p changes
rows-with run place verdict verdicts others is r p [] = refl
rows-with run place verdict verdicts others is r p (change ∷ changes) =
    rw (
      is r p,
      row-with (nat_eq r run && nat_eq p place) r p change (verdicts r p) verdict,
      rows-with run place verdict verdicts others is r (p + 1) changes,
    ) refl

map-append : {X Y : Type 0} (f : X → Y) (xs ys : List X) → map f (xs ++ ys) ≡ map f xs ++ map f ys
map-append f [] ys = refl
map-append f (x ∷ xs) ys = ap (λ zs. f x ∷ zs) (map-append f xs ys)

pub pairs-with : (run place : ℕ) (verdict : Verdict) (verdicts others : ℕ → ℕ → Verdict)
    → IsWith run place verdict verdicts others → (r : ℕ) (history : List Command)
    → map (with_verdict run place verdict) (pairs_in verdicts r history) ≡ pairs_in others r history
pairs-with run place verdict verdicts others is r [] = refl
pairs-with run place verdict verdicts others is r (commands.Enter seal report ∷ history) =
    map-append (with_verdict run place verdict) (rows_in verdicts r 0 report.changes) (pairs_in verdicts (r + 1) history)
    ∙ rw (
      rows-with run place verdict verdicts others is r 0 report.changes,
      pairs-with run place verdict verdicts others is (r + 1) history,
    ) refl
pairs-with run place verdict verdicts others is r (commands.Decide rr p mark ∷ history) =
    pairs-with run place verdict verdicts others is r history
pairs-with run place verdict verdicts others is r (commands.List rr ∷ history) =
    pairs-with run place verdict verdicts others is r history
pairs-with run place verdict verdicts others is r (commands.Clear rr ∷ history) =
    pairs-with run place verdict verdicts others is r history

-- ---- the verdict of a pair that is found

abbrev HasVerdict : (ℕ → ℕ → Verdict) → PairRow → Type 0
HasVerdict verdicts row = row.verdict ≡ verdicts row.run row.place

all-append : {X : Type 0} (P : X → Type 0) (xs ys : List X) → AllByRecursion P xs → AllByRecursion P ys
    → AllByRecursion P (xs ++ ys)
all-append P [] ys here there = there
all-append P (x ∷ xs) ys here there = (here.0, all-append P xs ys here.1 there)

rows-have : (verdicts : ℕ → ℕ → Verdict) (run place : ℕ) (changes : List Change)
    → AllByRecursion (HasVerdict verdicts) (rows_in verdicts run place changes)
rows-have verdicts run place [] = tt
rows-have verdicts run place (change ∷ changes) = (refl, rows-have verdicts run (place + 1) changes)

pairs-have : (verdicts : ℕ → ℕ → Verdict) (run : ℕ) (history : List Command)
    → AllByRecursion (HasVerdict verdicts) (pairs_in verdicts run history)
pairs-have verdicts run [] = tt
pairs-have verdicts run (commands.Enter seal report ∷ history) =
    all-append (HasVerdict verdicts) (rows_in verdicts run 0 report.changes) (pairs_in verdicts (run + 1) history)
    (rows-have verdicts run 0 report.changes) (pairs-have verdicts (run + 1) history)
pairs-have verdicts run (commands.Decide r p mark ∷ history) = pairs-have verdicts run history
pairs-have verdicts run (commands.List r ∷ history) = pairs-have verdicts run history
pairs-have verdicts run (commands.Clear r ∷ history) = pairs-have verdicts run history

found-has : {X : Type 0} (P : X → Type 0) (test : X → Bool) (xs : List X) (x : X) → AllByRecursion P xs
    → find test xs ≡ Some x → P x
found-has P test [] x all found = cc
found-has {X} P test (y ∷ ys) x all found = by-test (test y) (found-has P test ys x all.1) found
  where
    by-test : (here : Bool) → (find test ys ≡ Some x → P x) → cond here (Some y) (find test ys) ≡ Some x → P x
    by-test true later found = let same : y ≡ x = cc in subst P same all.0
    by-test false later found = later found

pub found-verdict : (verdicts : ℕ → ℕ → Verdict) (first : ℕ) (history : List Command) (run place : ℕ) (row : PairRow)
    → pair_at (pairs_in verdicts first history) run place ≡ Some row → row.verdict ≡ verdicts run place
found-verdict verdicts first history run place row found =
    let has = found-has (HasVerdict verdicts) (is_pair run place) (pairs_in verdicts first history) row
    (pairs-have verdicts first history) found in
    let named = and_parts _ _ (found-passes (is_pair run place) (pairs_in verdicts first history) row found) in
    has ∙ ap (λ r. verdicts r row.place) (eqb-true _ _ named.0) ∙ ap (λ p. verdicts run p) (eqb-true _ _ named.1)
