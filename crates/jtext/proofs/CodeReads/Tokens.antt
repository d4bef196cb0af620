-- One byte of a word, a text or a number.
use Rattle.std.proofs.Common.{◌≡◌, ℕ, ◌+◌, ◌<◌, List, ◌∷◌, length, drop, get_or, refl, ap, ◌∙◌, arith, true, false}
use Rattle.std.specs.Prelude.{Some, None, Result, Ok, Err}
use Rattle.std.proofs.lemmas.List.{drop_more}
use Rattle.std.proofs.lemmas.Bool.{ne_eqb, eq-eqb}
use Rattle.jtext.specs.InsideTokens.{word_step, is_done, Inner, inner_step, needing, takes, GoesOn, TextEnds}
use Rattle.jtext.proofs.CodeReads.Pieces.{passes_none, passes_more, passes_on}
use Rattle.jtext.specs.declared.text.Need.{Need}

step_same : (first byte : ℕ) (more : List ℕ) → byte ≡ first → word_step (first ∷ more) byte ≡ Some more
step_same first byte more same = rw (eq-eqb byte first same) refl

step_other : (first byte : ℕ) (more : List ℕ) → (byte ≡ first → ⊥) → word_step (first ∷ more) byte ≡ None
step_other first byte more other = rw (ne_eqb byte first other) refl

pub word_goes : (word : List ℕ) (i byte : ℕ) → i < length word → byte ≡ get_or word i 0
    → word_step (drop i word) byte ≡ Some (drop (i + 1) word)
word_goes word i byte within same = ap (λ (w : List ℕ). word_step w byte) (drop_more word i 0 within)
    ∙ step_same (get_or word i 0) byte (drop (i + 1) word) same

pub word_stops : (word : List ℕ) (i byte : ℕ) → i < length word → (byte ≡ get_or word i 0 → ⊥)
    → word_step (drop i word) byte ≡ None
word_stops word i byte within other = ap (λ (w : List ℕ). word_step w byte) (drop_more word i 0 within)
    ∙ step_other (get_or word i 0) byte (drop (i + 1) word) other

pub word_open : (word : List ℕ) (i : ℕ) → i < length word → is_done (drop i word) ≡ false
word_open word i within = ap is_done (drop_more word i 0 within)

-- a byte that a class of bytes takes
take_same : (first : Need) (more : List Need) (byte : ℕ) → takes first byte ≡ true
    → inner_step (needing (first ∷ more)) byte ≡ Some (needing more)
take_same first more byte takes_it = rw takes_it refl

pub need_goes : (needs : List Need) (i byte : ℕ) (d : Need) → i < length needs → takes (get_or needs i d) byte ≡ true
    → inner_step (needing (drop i needs)) byte ≡ Some (needing (drop (i + 1) needs))
need_goes needs i byte d within takes_it = grind (arith, drop_more, take_same, get_or)

-- one byte of a text
pub goes_one : (first next : Inner) (bytes : List ℕ) (at : ℕ) → at < length bytes
    → inner_step first (get_or bytes at 0) ≡ Some next → GoesOn first next bytes at (at + 1)
goes_one first next bytes at within more = (
  omega arith,
  omega arith,
  passes_more inner_step first bytes at at first next (omega arith) within
      (passes_none inner_step first bytes at) more,
)

-- a part of a text, and what follows
pub ends_on : (first middle last : Inner) (bytes : List ℕ) (from at : ℕ) (result : Result ℕ ℕ)
    → GoesOn first middle bytes from at → TextEnds middle last bytes at result
    → TextEnds first last bytes from result
ends_on first middle last bytes from at (Ok to) (begun, within, passes) (below, inside, more) =
    (omega arith, inside, passes_on inner_step first bytes from at to middle last begun below inside passes more)
ends_on first middle last bytes from at (Err to) (begun, within, passes) (below, inside, inner, more, still, stops) =
    grind (arith, passes_on)
