-- The lines of a text, one after the other.
use Rattle.std.proofs.Common.{◌≡◌, ◌⊎◌, inl, inr, ℕ, suc, ◌+◌, ◌<◌, ◌≤◌, ◌==◌, Bool, true, false, cond, List, [], ◌∷◌, ◌++◌, length}
use Rattle.std.proofs.Common.{refl, ap, sym, ◌∙◌, subst, arith}
use Rattle.std.proofs.lemmas.Bool.{eqb-true, false_from_ne_true}
use Rattle.std.proofs.lemmas.List.{append_assoc, append-nil}
use Rattle.ledger_script.specs.ScriptText.{IsLineText}
use Rattle.ledger_runs.specs.declared.scripts.TheConstants.{LINE_FEED}
use Rattle.ledger_runs.specs.declared.scripts.AskedLine.{AskedLine}
use Rattle.ledger_runs.specs.Lines.{with_byte, lines_of, AreAsked, HasNoForm, IsFirstBad}
use Rattle.ledger_runs.specs.InsideSteps.{IsLine, IsFirstLine, LineFails, ReadingFails}
use Rattle.ledger_runs.specs.declared.refusals.LedgerRefusal.{LedgerRefusal}

other-byte : (byte : ℕ) → (byte ≡ LINE_FEED → ⊥) → (byte == LINE_FEED) ≡ false
other-byte byte other = false_from_ne_true _ (λ same. other (eqb-true _ _ same))

lines-ended : (line rest : List ℕ) → IsLine line → lines_of (line ++ LINE_FEED ∷ rest) ≡ line ∷ lines_of rest
lines-ended [] rest is = refl
lines-ended (byte ∷ line) rest is = rw (other-byte byte is.0, lines-ended line rest is.1) refl

lines-last : (byte : ℕ) (line : List ℕ) → IsLine (byte ∷ line) → lines_of (byte ∷ line) ≡ (byte ∷ line) ∷ []
lines-last byte [] is = rw (other-byte byte is.0) refl
lines-last byte (next ∷ line) is = rw (other-byte byte is.0, lines-last next line is.1) refl

last-line : (line : List ℕ) → IsLine line → 0 < length line → lines_of line ≡ line ∷ []
last-line [] is some = absurd (omega (arith, some))
last-line (byte ∷ line) is some = lines-last byte line is

-- the first line is taken off
lines-first : (text line behind : List ℕ) → 0 < length text → IsFirstLine text line behind
    → lines_of text ≡ line ∷ lines_of behind
lines-first text line behind some is = by-end is.whole
  where
    by-end : ((text ≡ line ++ LINE_FEED ∷ behind) ⊎ ((text ≡ line) × (behind ≡ []))) → lines_of text ≡ line ∷ lines_of behind
    by-end (inl whole) = ap lines_of whole ∙ lines-ended line behind is.line_is
    by-end (inr whole) =
        ap lines_of whole.0 ∙ last-line line is.line_is (subst (λ (t : List ℕ). 0 < length t) whole.0 some)
        ∙ ap (λ (b : List ℕ). line ∷ lines_of b) (sym whole.1)

-- there are no more lines than bytes
pub lines-few : (text : List ℕ) → length (lines_of text) ≤ length text
lines-few [] = omega arith
lines-few (byte ∷ text) = by-test (byte == LINE_FEED) (lines-few text)
  where
    with-few : (lines : List (List ℕ)) → length lines ≤ length text → length (with_byte byte lines) ≤ suc (length text)
    with-few [] few = omega arith
    with-few (line ∷ lines) few = omega (arith, few)

    by-test : (t : Bool) → length (lines_of text) ≤ length text
        → length (cond t ([] ∷ lines_of text) (with_byte byte (lines_of text))) ≤ suc (length text)
    by-test true few = omega (arith, few)
    by-test false few = with-few (lines_of text) few

-- this many lines were counted
pub record IsCounted (text rest : List ℕ) (count : ℕ) : Type 0 where
  pub all : count + length (lines_of rest) ≡ length (lines_of text)

pub counted-more : (text rest line behind : List ℕ) (count : ℕ) → IsCounted text rest count → 0 < length rest
    → IsFirstLine rest line behind → IsCounted text behind (count + 1)
counted-more text rest line behind count is some first =
    let size : length (lines_of rest) ≡ suc (length (lines_of behind)) =
    ap (λ (lines : List (List ℕ)). length lines) (lines-first rest line behind some first) in
    record { all = omega (arith, is.all, size) }

-- this many lines were read: what the rest asks for is asked for at the end of all, and the first of no form in it
-- is that of all
pub record AreLinesRead (text rest : List ℕ) (number : ℕ) (asked : List AskedLine) : Type 0 where
  pub count : number + length (lines_of rest) ≡ length (lines_of text)
  pub asks : (more : List AskedLine) → AreAsked (number + 1) (lines_of rest) more → AreAsked 1 (lines_of text) (asked ++ more)
  pub bad : (line : ℕ) → IsFirstBad (number + 1) (lines_of rest) line → IsFirstBad 1 (lines_of text) line

-- one that asks for something
pub read-line : (text rest line behind : List ℕ) (number : ℕ) (asked all : List AskedLine) (next : AskedLine)
    → AreLinesRead text rest number asked → 0 < length rest → IsFirstLine rest line behind → 0 < length line
    → next.line ≡ number + 1 → IsLineText line next.asks → all ≡ asked ++ next ∷ []
    → AreLinesRead text behind (number + 1) all
read-line text rest [] behind number asked all next read some first long numbered is added = absurd (omega (arith, long))
read-line text rest (byte ∷ line) behind number asked all next read some first long numbered is added =
    let lines : lines_of rest ≡ (byte ∷ line) ∷ lines_of behind = lines-first rest (byte ∷ line) behind some first in
    let size : length (lines_of rest) ≡ suc (length (lines_of behind)) = ap (λ (ls : List (List ℕ)). length ls) lines in
    record {
      count = omega (arith, read.count, size);
      asks = λ more are. subst (λ (xs : List AskedLine). AreAsked 1 (lines_of text) xs)
          (sym (ap (λ (xs : List AskedLine). xs ++ more) added ∙ append_assoc asked (next ∷ []) more))
          (read.asks (next ∷ more) (subst (λ (ls : List (List ℕ)). AreAsked (number + 1) ls (next ∷ more)) (sym lines)
          (numbered, is, are)));
      bad = λ l wrong. read.bad l (subst (λ (ls : List (List ℕ)). IsFirstBad (number + 1) ls l) (sym lines)
          (inr (next.asks, is, wrong)));
    }

-- one of no form
read-bad : (text rest line behind : List ℕ) (number : ℕ) (asked : List AskedLine) → AreLinesRead text rest number asked
    → 0 < length rest → IsFirstLine rest line behind → 0 < length line → HasNoForm line
    → IsFirstBad 1 (lines_of text) (number + 1)
read-bad text rest [] behind number asked read some first long wrong = absurd (omega (arith, long))
read-bad text rest (byte ∷ line) behind number asked read some first long wrong =
    read.bad (number + 1) (subst (λ (ls : List (List ℕ)). IsFirstBad (number + 1) ls (number + 1))
    (sym (lines-first rest (byte ∷ line) behind some first)) (inl (refl, wrong)))

pub read-all : (text rest : List ℕ) (number : ℕ) (asked : List AskedLine) → AreLinesRead text rest number asked
    → length rest ≡ 0 → AreAsked 1 (lines_of text) asked
read-all text [] number asked read none = subst (λ (xs : List AskedLine). AreAsked 1 (lines_of text) xs) (append-nil asked) (read.asks [] tt)
read-all text (byte ∷ rest) number asked read none = absurd (omega (arith, none))

-- the reading ends at a line that is not read
pub read-fails : (text rest line behind : List ℕ) (number : ℕ) (asked : List AskedLine) (refusal : LedgerRefusal)
    → AreLinesRead text rest number asked → 0 < length rest → IsFirstLine rest line behind → 0 < length line
    → LineFails line (number + 1) refusal → ReadingFails 1 (lines_of text) refusal
read-fails text rest line behind number asked refusal read some first long (inl early) = inl early
read-fails text rest line behind number asked refusal read some first long (inr bad) =
    inr (number + 1, bad.0, read-bad text rest line behind number asked read some first long bad.1)
