-- Numbers below 2^32 in digits without leading zeros.
use Rattle.std.specs.Prelude.{◌↔◌, IsTrue, IfSome, IfNone, Option}
use Rattle.std.proofs.Common.{◌≡◌, ℕ, zero, suc, ◌+◌, ◌<◌, ◌≤◌, ◌^◌, Bool, true, false, List, [], ◌∷◌, ◌++◌}
use Rattle.std.proofs.Common.{length, take, drop, get_or, Result, Ok, Err, sym, ◌∙◌, ap, subst, arith}
use Rattle.std.specs.Char.{is_ascii_digit}
use Rattle.std.specs.List.{prefix_len}
use Rattle.std.specs.Fmt.{decimal}
use Rattle.std.specs.Result.{OkIff, result_ok}
use Rattle.std.specs.Str.{all_ascii_digits}
use Rattle.std.specs.Str.Parse.{digits_value, ParsesUnsigned}
use Rattle.std.proofs.lemmas.Fmt.{decimal_is_IsNumeral, decimal-digits_value, first_decimal}
use Rattle.std.proofs.lemmas.Fmt.{decimal_injective, decimal_digit, parse-decimal}
use Rattle.std.proofs.lemmas.List.{take_at, drop_at, take-append-drop}
use Rattle.std.proofs.lemmas.Str.Parse.{parse_digits}
use Rattle.plain_laws.proofs.Digits.{digit_texts}
use Rattle.cert_check.specs.Certificates.{separator}
use Rattle.text_places.proofs.DigitFronts.{front_stops, digits_end}
use Rattle.cert_check.specs.InsideNumbers.{HasLeadingZero, IsNumber, IsEnded}

wide : (n : ℕ) → n < 2 ^ 32 → n < 2 ^ 64
wide n h = omega arith

-- a written number has no leading zero
pub no_leading_zero : (n : ℕ) (digits : List ℕ) → n < 2 ^ 32 → digits ≡ decimal n → HasLeadingZero digits → ⊥
no_leading_zero n digits small is lead = grind (arith, decimal_digit, first_decimal, wide)

-- digits that are read are written so
read_is_written : {E : Type 0} (digits : List ℕ) (answer : Result ℕ E) (n : ℕ) → all_ascii_digits digits ≡ true
    → (HasLeadingZero digits → ⊥)
    → ParsesUnsigned 32 10 digits answer → answer ≡ Ok n → (digits ≡ decimal n) × (n < 2 ^ 32)
read_is_written {E} digits answer n all plain is ok =
    by_answer (subst (λ (r : Result ℕ E). OkIff r ((0 < length digits) × (digits_value 10 digits < 2 ^ 32))
    (digits_value 10 digits)) ok (parse_digits digit_texts 32 digits answer is all))
  where
    only : 0 < length digits → get_or digits 0 0 ≡ 48 → length digits ≡ 1
    only some none = one (length digits) some (λ (more : 1 < length digits). plain (more, none))
      where
        few : (k : ℕ) → (1 < k → ⊥) → k ≤ 1
        few k h = grind (arith, h)

        one : (k : ℕ) → 0 < k → (1 < k → ⊥) → k ≡ 1
        one k h f = let g = few k f in omega arith

    by_answer : OkIff {E = E} (Ok n) ((0 < length digits) × (digits_value 10 digits < 2 ^ 32)) (digits_value 10 digits)
        → (digits ≡ decimal n) × (n < 2 ^ 32)
    by_answer h = (same h, subst (λ (k : ℕ). k < 2 ^ 32) (sym h.1) h.0.1)
      where
        same : OkIff {E = E} (Ok n) ((0 < length digits) × (digits_value 10 digits < 2 ^ 32)) (digits_value 10 digits)
            → digits ≡ decimal n
        same h = sym (decimal-digits_value digit_texts digits all h.0.0 (only h.0.0)
            (wide (digits_value 10 digits) h.0.1)) ∙ ap decimal (sym h.1)

-- digits that are not read are no number's
not_read : {E : Type 0} (digits : List ℕ) (answer : Result ℕ E) (e : E) (n : ℕ) → n < 2 ^ 32 → digits ≡ decimal n
    → ParsesUnsigned 32 10 digits answer → answer ≡ Err e → ⊥
not_read digits answer e n small is parses err = let read =
    parse-decimal 32 n digits answer small (wide n small) is parses in cc

-- ---- the digits at the front
-- a number's digits are all that are at the front
pub record IsFront (text : List ℕ) (number : ℕ) (rest : List ℕ) : Type 0 where
  pub digits : take (prefix_len is_ascii_digit text) text ≡ decimal number
  pub behind : drop (prefix_len is_ascii_digit text) text ≡ rest

front_of : (text : List ℕ) (number : ℕ) (rest : List ℕ) → IsNumber text number rest → IsFront text number rest
front_of text number rest is = subst (λ (t : List ℕ). IsFront t number rest) (sym is.spelled) whole
  where
    all : all_ascii_digits (decimal number) ≡ true
    all = digit_texts.from (decimal number) (decimal_is_IsNumeral number (wide number is.small)).0.1

    count : prefix_len is_ascii_digit (decimal number ++ rest) ≡ length (decimal number)
    count = digits_end (decimal number) rest all is.stops

    whole : IsFront (decimal number ++ rest) number rest
    whole = grind (arith, count, take_at, drop_at)

-- a text begins with one number
pub record AreSame (m n : ℕ) (rest more : List ℕ) : Type 0 where
  pub number : m ≡ n
  pub behind : rest ≡ more

one_number : (text : List ℕ) (m n : ℕ) (rest more : List ℕ) → IsNumber text m rest → IsNumber text n more
    → AreSame m n rest more
one_number text m n rest more h k =
    let f = front_of text m rest h in
    grind (arith, front_of, decimal_injective, wide)

pub ended_is_number : (text : List ℕ) (n : ℕ) (last : Bool) (rest : List ℕ) → IsEnded text n last rest
    → IsNumber text n (separator last ∷ rest)
ended_is_number text n last rest h = grind arith

-- ---- what ends a number
same_head : (a b : ℕ) (xs ys : List ℕ) → a ∷ xs ≡ b ∷ ys → (a ≡ b) × (xs ≡ ys)
same_head a b xs ys h = (cc, cc)

pub record IsOneEnd (m n : ℕ) (last also : Bool) (rest more : List ℕ) : Type 0 where
  pub number : m ≡ n
  pub ends : last ≡ also
  pub behind : rest ≡ more

pub one_end : (text : List ℕ) (m n : ℕ) (last also : Bool) (rest more : List ℕ) → IsEnded text m last rest
    → IsEnded text n also more → IsOneEnd m n last also rest more
one_end text m n last also rest more h k =
    let same = one_number text m n (separator last ∷ rest) (separator also ∷ more) (ended_is_number text m last rest h)
    (ended_is_number text n also more k) in
    grind (arith, same_head)

-- ---- what `parse` gives
pub parsed_some : {E : Type 0} (digits : List ℕ) (answer : Result ℕ E) (found : Option ℕ) (lead : Bool)
    → all_ascii_digits digits ≡ true → (IsTrue lead ↔ HasLeadingZero digits) → lead ≡ false
    → ParsesUnsigned 32 10 digits answer → found ≡ result_ok answer
    → IfSome found (λ n. (digits ≡ decimal n) × (n < 2 ^ 32))
parsed_some {E} digits answer found lead all is_lead no_lead parses e = grind (arith, read_is_written {E = E} digits)

pub parsed_none : {E : Type 0} (digits : List ℕ) (answer : Result ℕ E) (found : Option ℕ)
    → ParsesUnsigned 32 10 digits answer → found ≡ result_ok answer
    → IfNone found ((n : ℕ) → n < 2 ^ 32 → digits ≡ decimal n → ⊥)
parsed_none {E} digits answer found parses e = grind (arith, not_read)

-- ---- the number at the front
pub no_front : (text digits : List ℕ) (count : ℕ) → count ≡ prefix_len is_ascii_digit text → digits ≡ take count text
    → ((n : ℕ) → n < 2 ^ 32 → digits ≡ decimal n → ⊥)
    → (n : ℕ) (rest : List ℕ) → IsNumber text n rest → ⊥
no_front text digits count k is none n rest h = grind (arith, front_of)

pub number_front : (text digits behind : List ℕ) (count n : ℕ) → count ≡ prefix_len is_ascii_digit text
    → digits ≡ take count text → behind ≡ drop count text → digits ≡ decimal n → n < 2 ^ 32 → IsNumber text n behind
number_front text digits behind count n k is rest written small = grind (arith, take-append-drop, front_stops)

pub not_ended : (text : List ℕ) (n : ℕ) (behind : List ℕ) → IsNumber text n behind
    → ((last : Bool) → get_or behind 0 0 ≡ separator last → ⊥)
    → (m : ℕ) (last : Bool) (more : List ℕ) → IsEnded text m last more → ⊥
not_ended text n behind h none m last more k =
    let same = one_number text n m behind (separator last ∷ more) h (ended_is_number text m last more k) in
    none last (ap (λ (xs : List ℕ). get_or xs 0 0) same.behind)

pub nothing_behind : (text : List ℕ) (n : ℕ) (behind : List ℕ) → IsNumber text n behind → length behind ≡ 0
    → (m : ℕ) (last : Bool) (more : List ℕ) → IsEnded text m last more → ⊥
nothing_behind text n behind h e m last more k =
    let same = one_number text n m behind (separator last ∷ more) h (ended_is_number text m last more k) in
    let long = ap (λ (xs : List ℕ). length xs) same.behind in
    none (length behind) (length more) e long
  where
    none : (i j : ℕ) → i ≡ 0 → i ≡ suc j → ⊥
    none i j e f = absurd (omega arith)
