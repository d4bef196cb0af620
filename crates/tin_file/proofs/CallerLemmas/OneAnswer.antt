-- Bytes have one answer.
use Rattle.std.proofs.Common.{◌≡◌, ◌≢◌, ℕ, List, Result, Err, refl, sym, ◌∙◌, ap}
use Rattle.jtext.specs.Values.{Json as Value}
use Rattle.jtext.specs.Texts.{IsBad, IsDeep}
use Rattle.jtext.specs.declared.json_texts.TheConstants.{DEEPEST}
use Rattle.jtext.proofs.CallerLemmas.Exclusion.{bad_once, deep_once, bad_or_deep}
use Rattle.jtext.proofs.CallerLemmas.OneValue.{one_value}
use Rattle.tin_file.specs.Laws.{AnswerIsOne, TallAnswerIsOne}
use Rattle.tin_file.specs.TinFiles.{reading, IsReadBy, AnswersBy}
use Rattle.tin_file.specs.TallFiles.{tall_reading}
use Rattle.tin_file.specs.declared.faults.TinFault.{TinFault}
use Rattle.tin_file.specs.declared.faults.TinFault.TheVariants.{Json, Deep}
use Rattle.tin_file.specs.declared.faults.TinFault.TheVariants.{TooMany, Row, NoMemory}

-- a reading of values
module _ {A : Type 0} (of_value : Value → Result A TinFault) (bytes : List ℕ) where
  -- no JSON text, or what is read of one
  data IsAnswered (answer : Result A TinFault) : Type 0 where
    bad : (at : ℕ) → answer ≡ Err (Json at) → IsBad bytes at → IsAnswered answer
    deep : (at : ℕ) → answer ≡ Err (Deep at) → IsDeep bytes at → IsAnswered answer
    read : IsReadBy of_value bytes answer → IsAnswered answer

  answered : (answer : Result A TinFault) → AnswersBy of_value bytes answer → answer ≢ Err NoMemory
      → IsAnswered answer
  answered (Err (Json at)) is other = bad at refl is
  answered (Err (Deep at)) is other = deep at refl is
  answered (Err (TooMany list)) is other = read is
  answered (Err (Row list row)) is other = read is
  answered (Err NoMemory) is other = absurd (other refl)
  answered answer is other = read is

  answered_one : (a b : Result A TinFault) → IsAnswered a → IsAnswered b → a ≡ b
  answered_one a b (bad at is x) (bad other also y) = is
      ∙ (ap (λ k. Err (Json k)) (bad_once bytes at other x y) ∙ sym also)
  answered_one a b (bad at is x) (deep other also y) = absurd (bad_or_deep bytes at other x y)
  answered_one a b (bad at is x) (read (whole, text, also)) = absurd (x.fault.refused (DEEPEST, (whole, text)))
  answered_one a b (deep at is x) (bad other also y) = absurd (bad_or_deep bytes other at y x)
  answered_one a b (deep at is x) (deep other also y) = is
      ∙ (ap (λ k. Err (Deep k)) (deep_once bytes at other x y) ∙ sym also)
  answered_one a b (deep at is x) (read (whole, text, also)) = absurd (x.fault.refused (whole, text))
  answered_one a b (read (whole, text, is)) (bad at also y) = absurd (y.fault.refused (DEEPEST, (whole, text)))
  answered_one a b (read (whole, text, is)) (deep at also y) = absurd (y.fault.refused (whole, text))
  answered_one a b (read (whole, text, is)) (read (other, text_too, also)) = sym is
      ∙ (ap of_value (one_value DEEPEST DEEPEST bytes whole other text text_too) ∙ also)

  one_answer : (answer other : Result A TinFault) → AnswersBy of_value bytes answer → answer ≢ Err NoMemory
      → AnswersBy of_value bytes other → other ≢ Err NoMemory
      → answer ≡ other
  one_answer answer other x a y b = answered_one answer other (answered answer x a) (answered other y b)

pub answer_is_one : AnswerIsOne
answer_is_one how bytes = one_answer (reading how) bytes

pub tall_answer_is_one : TallAnswerIsOne
tall_answer_is_one how bytes = one_answer (tall_reading how) bytes
