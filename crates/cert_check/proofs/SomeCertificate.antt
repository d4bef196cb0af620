-- Any bytes are the certificate of some lists, or have a first line that is not of the form: read over the definitions
-- alone.
use Rattle.std.proofs.Common.{◌≡◌, ◌⊎◌, inl, inr, ℕ, zero, suc, ◌+◌, ◌<◌, ◌≤◌, ◌^◌, Bool, true, false, List, [], ◌∷◌}
use Rattle.std.proofs.Common.{◌++◌, length, take, drop, get_or, refl, sym, ◌∙◌, ap, arith}
use Rattle.std.specs.Char.{is_ascii_digit}
use Rattle.std.specs.List.{prefix_len}
use Rattle.std.specs.Fmt.{decimal}
use Rattle.std.specs.Str.{all_ascii_digits}
use Rattle.std.specs.Str.Parse.{digits_value}
use Rattle.std.proofs.lemmas.Bool.{cases_lt, cases_eq}
use Rattle.std.proofs.lemmas.Fmt.{decimal_is_IsNumeral, decimal-digits_value}
use Rattle.plain_laws.proofs.Digits.{digit_texts}
use Rattle.cert_check.specs.Certificates.{head_text, separator}
use Rattle.cert_check.specs.Lines.{BeginsWithLine, HasNoLine, AreLines, IsBadBehind}
use Rattle.cert_check.specs.InsideNumbers.{IsNumber, IsEnded}
use Rattle.cert_check.specs.Laws.{TextOutcomeExists}
use Rattle.text_places.proofs.DigitFronts.{are_front_digits}
use Rattle.cert_check.proofs.Digits.{no_leading_zero, no_front, number_front, not_ended}
use Rattle.cert_check.proofs.Digits.{nothing_behind, ended_is_number}
use Rattle.cert_check.proofs.LineLaws.{number_before, line_front, line_behind, shorter, line_shorter, AreLinesSoFar}
use Rattle.cert_check.proofs.LineLaws.{lines_start, lines_more, lines_end, lines_bad, count_of, bad_line}

-- ---- the number that some digits write
wide : (n : ℕ) → n < 2 ^ 32 → n < 2 ^ 64
wide n h = omega arith

too_great : (k n : ℕ) → k ≡ n → n < 2 ^ 32 → 2 ^ 32 ≤ k → ⊥
too_great k n e small great = absurd (omega arith)

not_none : (ds : List ℕ) (n : ℕ) → n < 2 ^ 32 → ds ≡ decimal n → length ds ≤ 0 → ⊥
not_none ds n small is none = grind (arith, decimal_is_IsNumeral, wide)

number_or : (digits : List ℕ) → all_ascii_digits digits ≡ true
    → ((n : ℕ) × (n < 2 ^ 32) × (digits ≡ decimal n)) ⊎ ((n : ℕ) → n < 2 ^ 32 → digits ≡ decimal n → ⊥)
number_or digits all = elim (cases_lt 0 (length digits)) [
  | inr none ↦ inr (λ n small is. not_none digits n small is none)
  | inl some ↦ elim (cases_lt 1 (length digits)) [
    | inr one ↦ plain some (λ _. only (length digits) some one)
    | inl more ↦ elim (cases_eq (get_or digits 0 0) 48) [
      | inl lead ↦ inr (λ n small is. no_leading_zero n digits small is (more, lead))
      | inr other ↦ plain some (λ lead. absurd (other lead))
    ]
  ]
]
  where
    only : (k : ℕ) → 0 < k → k ≤ 1 → k ≡ 1
    only k h l = omega arith

    plain : 0 < length digits → (get_or digits 0 0 ≡ 48 → length digits ≡ 1)
        → ((n : ℕ) × (n < 2 ^ 32) × (digits ≡ decimal n)) ⊎ ((n : ℕ) → n < 2 ^ 32 → digits ≡ decimal n → ⊥)
    plain some lead = elim (cases_lt (digits_value 10 digits) (2 ^ 32)) [
      | inl small ↦ inl (
        digits_value 10 digits,
        small,
        sym (decimal-digits_value digit_texts digits all some lead (wide (digits_value 10 digits) small)),
      )
      | inr great ↦ inr (λ n small is. too_great (digits_value 10 digits) n
          (ap (λ (ds : List ℕ). digits_value 10 ds) is ∙ (decimal_is_IsNumeral n (wide n small)).1) small great)
    ]

-- ---- a number with what ends it
abbrev HasEnded : List ℕ → Type 0
HasEnded text = (n : ℕ) × (last : Bool) × (rest : List ℕ) × IsEnded text n last rest

abbrev HasNone : List ℕ → Type 0
HasNone text = (n : ℕ) (last : Bool) (rest : List ℕ) → IsEnded text n last rest → ⊥

ended_behind : (text : List ℕ) (n : ℕ) (behind : List ℕ) → IsNumber text n behind → (xs : List ℕ) → behind ≡ xs
    → HasEnded text ⊎ HasNone text
ended_behind text n behind number [] e =
    inr (nothing_behind text n behind number (ap (λ (xs : List ℕ). length xs) e))
ended_behind text n behind number (byte ∷ rest) e =
    grind (arith, cases_eq byte 10, cases_eq byte 32, not_ended text n behind number)

ended_or : (text : List ℕ) → HasEnded text ⊎ HasNone text
ended_or text =
    let count = prefix_len is_ascii_digit text in
    elim (number_or (take count text) (are_front_digits text)) [
      | inl (n, small, is) ↦ ended_behind text n (drop count text)
          (number_front text (take count text) (drop count text) count n refl refl refl is small) (drop count text) refl
      | inr none ↦ inr (λ n last rest ended.
          no_front text (take count text) count refl refl none n (separator last ∷ rest)
          (ended_is_number text n last rest ended))
    ]

-- ---- a line
none_behind : (text : List ℕ) → HasNone text → HasNoLine text
none_behind text none rest line = let front = line_front text rest line in none front.number front.last front.behind
    front.ended

line_or : (most : ℕ) (text : List ℕ) → length text ≤ most
    → ((rest : List ℕ) × BeginsWithLine text rest) ⊎ HasNoLine text
line_or zero text few = inr (none_behind text (λ n last rest ended. none (length rest) (length text)
    (shorter text n last rest ended) few))
  where
    none : (k m : ℕ) → k < m → m ≤ 0 → ⊥
    none k m h l = absurd (omega arith)
line_or (suc most) text few = elim (ended_or text) [
  | inr none ↦ inr (none_behind text none)
  | inl (n, true, behind, ended) ↦ inl (behind, number_before text n true behind behind ended refl)
  | inl (n, false, behind, ended) ↦
      elim (line_or most behind (fewer (length behind) (length text) (shorter text n false behind ended) few)) [
        | inl (rest, line) ↦ inl (rest, number_before text n false behind rest ended line)
        | inr none ↦ inr (λ rest line. none rest (line_behind text n false behind rest ended line))
      ]
]
  where
    fewer : (k m : ℕ) → k < m → m ≤ suc most → k ≤ most
    fewer k m h l = omega arith

-- ---- line by line
lines_or : (most : ℕ) (text rest : List ℕ) (count : ℕ) → length rest ≤ most → AreLinesSoFar text rest count
    → ((n : ℕ) × AreLines text n) ⊎ ((n : ℕ) × IsBadBehind text n)
lines_or most text [] count few far = inl (count, lines_end text [] count far refl)
lines_or zero text (byte ∷ bytes) count few far = absurd (omega (arith, few))
lines_or (suc most) text (byte ∷ bytes) count few far =
    elim (line_or (length (byte ∷ bytes)) (byte ∷ bytes) (omega arith)) [
      | inl (behind, line) ↦ lines_or most text behind (count + 1)
          (fewer (length behind) (length (byte ∷ bytes)) (line_shorter (byte ∷ bytes) behind line) few)
          (lines_more text (byte ∷ bytes) behind count far line)
      | inr none ↦ inr (count, lines_bad text (byte ∷ bytes) count far (λ e. cc) none)
    ]
  where
    fewer : (k m : ℕ) → k < m → m ≤ suc most → k ≤ most
    fewer k m h l = omega arith

-- ---- with the first line
behind_or : (front text : List ℕ) → ((rest : List ℕ) × (text ≡ front ++ rest))
    ⊎ ((rest : List ℕ) → text ≡ front ++ rest → ⊥)
behind_or [] text = inl (text, refl)
behind_or (byte ∷ front) [] = inr (λ rest e. cc)
behind_or (byte ∷ front) (other ∷ text) = grind (arith, cases_eq other byte, behind_or front text)

pub text_outcome_exists : TextOutcomeExists
text_outcome_exists bytes = elim (behind_or head_text bytes) [
  | inr none ↦ inr (1, none)
  | inl (text, is) ↦ elim (lines_or (length text) text text 0 (omega arith) (lines_start text text refl)) [
    | inl (n, lines) ↦ let (lists, counted, certificate) = count_of bytes text n is lines in inl (lists, certificate)
    | inr (n, bad) ↦ inr (n + 2, bad_line bytes text n (n + 2) is bad refl)
  ]
]
