-- The answer as a function is the answer.
use Rattle.std.proofs.Common.{◌≡◌, ℕ, ◌+◌, ◌<◌, ◌≤◌, List, [], ◌∷◌, ◌++◌, length, take, Bool, true}
use Rattle.std.proofs.Common.{false, refl, sym, ap, ◌∙◌, subst, arith, append_assoc, append-nil, length-append, rules}
use Rattle.std.specs.Prelude.{nat_lt, if◌then◌else◌, Some, None, Result, Ok, Err, ℤ, unsigned_abs}
use Rattle.std.proofs.Math.Seq.{take-append_seam}
use Rattle.std.proofs.lemmas.Bool.{ltb-true, ltb-false}
use Rattle.std.proofs.lemmas.List.{length_push}
use Rattle.text_places.specs.Machine.{run}
use Rattle.text_places.specs.Places.{IsFirstFault}
use Rattle.text_places.proofs.Runs.{run_next}
use Rattle.text_places.proofs.Machines.{fault_at, fault_at_end}
use Rattle.mm_decimal.specs.Numerals.{Value, IsNumeral, HasValue, value_of}
use Rattle.mm_decimal.specs.InsidePhases.{is_last, IsLast}
use Rattle.mm_decimal.specs.InsideScans.{Read, nothing_read, read_after, value_read, value_after, text_value}
use Rattle.mm_decimal.specs.Answers.{Answers}
use Rattle.mm_decimal.specs.AnswerValues.{answer_to, millimetres_of}
use Rattle.mm_decimal.specs.declared.limits.TheConstants.{LIMIT, LONGEST}
use Rattle.mm_decimal.specs.declared.phase.Phase.TheVariants as phases
use Rattle.mm_decimal.specs.declared.numerals.MmRead.{MmRead}
use Rattle.mm_decimal.specs.declared.numerals.NumFault.{NumFault}
use Rattle.mm_decimal.specs.declared.numerals.NumFault.TheVariants.{Long}
use Rattle.mm_decimal.proofs.Passes.{EndsThere, recognizes}
use Rattle.mm_decimal.proofs.Sound.{only_numerals}
use Rattle.mm_decimal.proofs.OneAnswer.{value_by_run, one_answer}

-- what a pass over the whole text answers
abbrev Passes : List ℕ → Result Value ℕ → Type 0
Passes text (Ok value) = HasValue text value
Passes text (Err at) = IsFirstFault IsNumeral text at

module _ (text : List ℕ) where
  value_at_end : (last : Read) → run read_after nothing_read text ≡ Some last → IsLast last.phase
      → HasValue text (value_read last)
  value_at_end last was ends =
      let numeral = only_numerals text last was ends in
      (numeral.0, numeral.1, sym (value_by_run text (value_of numeral.0) last (numeral.0, numeral.1, refl) was))

  at_end : (read : Read) → run read_after nothing_read text ≡ Some read → (ends : Bool) → is_last read.phase ≡ ends
      → Passes text (if ends then Ok (value_read read) else Err (length text))
  at_end read was ends given = grind (arith, value_at_end, fault_at_end, EndsThere, recognizes)

  front_is : (front rest : List ℕ) → front ++ rest ≡ text → take (length front) text ≡ front
  front_is front rest whole = subst (λ (t : List ℕ). take (length front) t ≡ front) whole (take-append_seam front rest)

  more_is : (front rest : List ℕ) (byte : ℕ) → front ++ byte ∷ rest ≡ text → (front ++ byte ∷ []) ++ rest ≡ text
  more_is front rest byte whole = append_assoc front (byte ∷ []) rest ∙ whole

  refused_there : (front rest : List ℕ) (byte : ℕ) (read : Read) → front ++ byte ∷ rest ≡ text
      → run read_after nothing_read front ≡ Some read
      → read_after read byte ≡ None → IsFirstFault IsNumeral text (length front)
  refused_there front rest byte read whole was none =
      fault_at IsNumeral read_after nothing_read EndsThere recognizes text (length front) read
      (subst (λ (t : List ℕ). length front < length t) whole (omega (arith, length-append {A = ℕ})))
      (ap (run read_after nothing_read) (front_is front (byte ∷ rest) whole) ∙ was)
      (ap (λ n. run read_after nothing_read (take n text)) (sym (length_push front byte))
      ∙ ap (run read_after nothing_read) (front_is (front ++ byte ∷ []) rest (more_is front rest byte whole))
      ∙ run_next read_after nothing_read read front byte was ∙ none)

  passes : (front rest : List ℕ) (read : Read) (count : ℕ) → count ≡ length front → front ++ rest ≡ text
      → run read_after nothing_read front ≡ Some read
      → Passes text (value_after read count rest)
  passes front [] read count long whole was = grind (arith, append-nil, at_end)
  passes front (byte ∷ rest) read count long whole was =
      search (rules, length_push, more_is, run_next, refused_there, (passes (front ++ byte ∷ []) rest))

module _ (text : List ℕ) (short : length text ≤ LONGEST) where
  answers_so : (r : Result Value ℕ) → Passes text r → Answers text (answer_to r)
  answers_so r has = grind arith

answers_by : (text : List ℕ) (long : Bool) → nat_lt LONGEST (length text) ≡ long
    → Answers text (if long then Err Long else answer_to (text_value text))
answers_by text true is = ltb-true LONGEST (length text) is
answers_by text false is =
    answers_so text (ltb-false LONGEST (length text) is) (text_value text)
    (passes text [] text nothing_read 0 refl refl refl)

pub measured_answers : (text : List ℕ) → Answers text (millimetres_of text)
unfolding millimetres_of
measured_answers text = answers_by text (nat_lt LONGEST (length text)) refl

-- what is read of a text is within the limit
pub read_within : (text : List ℕ) (read : MmRead) → millimetres_of text ≡ Ok read → unsigned_abs read.mm ≤ LIMIT
read_within text read is =
    let (short, (value, has, known)) = subst (Answers text) is (measured_answers text) in
    subst (λ (z : ℤ). unsigned_abs z ≤ LIMIT) (sym known.mm) known.limit

-- an answer is this one
pub answer_is_measured : (text : List ℕ) (answer : Result MmRead NumFault) → Answers text answer
    → answer ≡ millimetres_of text
answer_is_measured text answer is = one_answer text answer (millimetres_of text) is (measured_answers text)
