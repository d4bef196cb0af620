-- Numbers of digits without leading zeros.
use Rattle.std.proofs.Common.{◌≡◌, ◌==◌, ℕ, zero, suc, ◌<◌, ◌≤◌, ◌^◌, Bool, true, false, ◌&&◌, cond, List, [], ◌∷◌}
use Rattle.std.proofs.Common.{◌++◌, length, take, drop, get_or, Some, None, Result, Ok, Err, refl, sym, ◌∙◌, ap, arith}
use Rattle.std.proofs.Common.{nat_lt, subst}
use Rattle.std.specs.Prelude.{not}
use Rattle.std.specs.Char.{is_ascii_digit}
use Rattle.std.specs.List.{prefix_len}
use Rattle.std.specs.Fmt.{decimal}
use Rattle.std.specs.Result.{OkIff, result_ok}
use Rattle.std.specs.Str.{all_ascii_digits}
use Rattle.std.specs.Str.Parse.{digits_value, ParsesUnsigned}
use Rattle.std.proofs.lemmas.Bool.Decides.{nat_tests}
use Rattle.std.proofs.lemmas.Fmt.{decimal_is_IsNumeral, decimal-digits_value, first_decimal}
use Rattle.std.proofs.lemmas.Fmt.{decimal_nonempty, decimal_digit}
use Rattle.std.proofs.lemmas.List.{take_at, drop_at, take-append-drop}
use Rattle.std.proofs.lemmas.Str.Parse.{parse_digits}
use Rattle.text_fields.proofs.StepChains.{bound, some_is}
use Rattle.text_fields.specs.Fields.{has_leading_zero, number_of_digits, number_front}
use Rattle.plain_laws.proofs.Digits.{digit_texts}
use Rattle.text_places.specs.Digits.{Stops}
use Rattle.text_places.proofs.DigitFronts.{are_front_digits, digits_end}

-- the three tests: there is a digit, the first of several is 0, the value fits
abbrev tested : Bool → Bool → Bool → Bool
tested some lead small = (some && not lead) && small

some_fails : (some lead small : Bool) → lead ≡ false → (some ≡ true → small ≡ true → ⊥) → tested some lead small ≡ false
some_fails some true small not_lead never = absurd cc
some_fails true false true not_lead never = absurd (never refl refl)
some_fails true false false not_lead never = refl
some_fails false false small not_lead never = refl

passed : (some lead small : Bool) → tested some lead small ≡ true → (some ≡ true) × (lead ≡ false) × (small ≡ true)
passed true true small is = absurd cc
passed true false true is = (refl, refl, refl)
passed true false false is = absurd cc
passed false lead small is = absurd cc

chosen : (test : Bool) (value number : ℕ) → cond test (Some value) None ≡ Some number → (test ≡ true) × (value ≡ number)
chosen true value number is = (refl, cc)
chosen false value number is = absurd cc

-- digits that are read
number_some : (digits : List ℕ) → has_leading_zero digits ≡ false → 0 < length digits → digits_value 10 digits < 2 ^ 64
    → number_of_digits digits ≡ Some (digits_value 10 digits)
unfolding number_of_digits
number_some digits plain some small =
    let there : nat_lt 0 (length digits) ≡ true = grind (arith, nat_tests, some) in
    let fits : nat_lt (digits_value 10 digits) (2 ^ 64) ≡ true = grind (arith, nat_tests, small) in
    rw (there, plain, fits) refl

-- digits that are not
number_none : (digits : List ℕ) → has_leading_zero digits ≡ false
    → (0 < length digits → digits_value 10 digits < 2 ^ 64 → ⊥) → number_of_digits digits ≡ None
unfolding number_of_digits
number_none digits plain never =
    ap (λ test. cond test (Some (digits_value 10 digits)) None)
    (some_fails (nat_lt 0 (length digits)) (has_leading_zero digits) (nat_lt (digits_value 10 digits) (2 ^ 64)) plain
    (λ some small. never (grind (arith, nat_tests, some)) (grind (arith, nat_tests, small))))

-- what `parse` says of digits
pub parsed : {E : Type 0} (digits : List ℕ) (answer : Result ℕ E) → all_ascii_digits digits ≡ true
    → has_leading_zero digits ≡ false
    → ParsesUnsigned 64 10 digits answer → result_ok answer ≡ number_of_digits digits
parsed {E} digits answer all plain is = by_answer answer (parse_digits digit_texts 64 digits answer is all)
  where
    by_answer : (answer : Result ℕ E) → OkIff answer ((0 < length digits) × (digits_value 10 digits < 2 ^ 64))
        (digits_value 10 digits) → result_ok answer ≡ number_of_digits digits
    by_answer (Ok number) is = ap Some is.1 ∙ sym (number_some digits plain is.0.0 is.0.1)
    by_answer (Err e) is = sym (number_none digits plain (λ some small. is (some, small)))

-- what is known of digits that are read
record IsRead (digits : List ℕ) (number : ℕ) : Type 0 where
  pub some : 0 < length digits
  pub plain : has_leading_zero digits ≡ false
  pub small : digits_value 10 digits < 2 ^ 64
  pub value : digits_value 10 digits ≡ number

number_told : (digits : List ℕ) (number : ℕ) → number_of_digits digits ≡ Some number → IsRead digits number
unfolding number_of_digits
number_told digits number is =
    let found = chosen ((nat_lt 0 (length digits) && not (has_leading_zero digits)) && nat_lt (digits_value 10 digits)
    (2 ^ 64)) (digits_value 10 digits) number is in
    let tests = passed (nat_lt 0 (length digits)) (has_leading_zero digits) (nat_lt (digits_value 10 digits) (2 ^ 64))
    found.0 in
    let some = tests.0 in let small = tests.2 in
    record {
      some = grind (arith, nat_tests, some);
      plain = tests.1;
      small = grind (arith, nat_tests, small);
      value = found.1;
    }

no_zero : (number : ℕ) → number < 2 ^ 64 → has_leading_zero (decimal number) ≡ false
no_zero zero small =
    let shown : decimal 0 ≡ 48 ∷ [] = decimal_digit 0 (omega arith) in
    rw shown refl
no_zero (suc number) small =
    let first = first_decimal (suc number) (omega arith) small in
    other (nat_lt 1 (length (decimal (suc number)))) (get_or (decimal (suc number)) 0 0) first
  where
    other : (more : Bool) (digit : ℕ) → 48 < digit → (more && (digit == 48)) ≡ false
    other true digit above = grind (arith, nat_tests, above)
    other false digit above = refl

-- a written number is read
number_again : (number : ℕ) → number < 2 ^ 64 → number_of_digits (decimal number) ≡ Some number
number_again number small =
    let numeral = decimal_is_IsNumeral number small in
    number_some (decimal number) (no_zero number small) (decimal_nonempty number small)
    (subst (λ n. n < 2 ^ 64) (sym numeral.1) small) ∙ ap Some numeral.1

one_of : (n : ℕ) → 0 < n → (1 < n → ⊥) → n ≡ 1
one_of n some few = omega (arith, few_is n few)
  where
    few_is : (n : ℕ) → (1 < n → ⊥) → n ≤ 1
    few_is n few = grind (arith, few)

only_digit : (digits : List ℕ) → 0 < length digits → has_leading_zero digits ≡ false → get_or digits 0 0 ≡ 48
    → length digits ≡ 1
only_digit digits some plain is =
    one_of (length digits) some (λ more. both (nat_lt 1 (length digits)) (get_or digits 0 0 == 48)
    (grind (arith, nat_tests, more)) (grind (arith, nat_tests, is)) plain)
  where
    both : (a b : Bool) → a ≡ true → b ≡ true → (a && b) ≡ false → ⊥
    both true true _ _ other = cc
    both true false _ other _ = cc
    both false b other _ _ = cc

-- a number that is read is written so
number_takes : (digits : List ℕ) (number : ℕ) → all_ascii_digits digits ≡ true
    → number_of_digits digits ≡ Some number
    → (digits ≡ decimal number) × (number < 2 ^ 64)
number_takes digits number all is =
    let told = number_told digits number is in
    let same : decimal (digits_value 10 digits) ≡ digits =
    decimal-digits_value digit_texts digits all told.some (only_digit digits told.some told.plain) told.small in
    (sym same ∙ ap decimal told.value, subst (λ n. n < 2 ^ 64) told.value told.small)

pub number_at_again : (number : ℕ) (rest : List ℕ) → number < 2 ^ 64 → Stops rest
    → number_front (decimal number ++ rest) ≡ Some (number, rest)
unfolding number_front
number_at_again number rest small stops =
    let all : all_ascii_digits (decimal number) ≡ true =
    digit_texts.from (decimal number) (decimal_is_IsNumeral number small).0.1 in
    let count = digits_end (decimal number) rest all stops in
    rw (count, take_at (decimal number) rest _ refl, drop_at (decimal number) rest _ refl, number_again number small)
    refl

pub number_at_takes : (text : List ℕ) (found : ℕ × List ℕ) → number_front text ≡ Some found
    → (text ≡ decimal found.0 ++ found.1) × (found.0 < 2 ^ 64)
unfolding number_front
number_at_takes text found is =
    let front = take (prefix_len is_ascii_digit text) text in
    let behind = drop (prefix_len is_ascii_digit text) text in
    let read = bound (number_of_digits front) (λ n. Some (n, behind)) found is in
    let made : ℕ × List ℕ = (read.found, behind) in
    let taken = number_takes front read.found (are_front_digits text) read.is in
    let whole : front ++ behind ≡ text = take-append-drop (prefix_len is_ascii_digit text) text in
    subst (λ (pair : ℕ × List ℕ). (text ≡ decimal pair.0 ++ pair.1) × (pair.0 < 2 ^ 64))
    (some_is made found read.goes_on)
    (sym whole ∙ ap (λ f. f ++ behind) taken.0, taken.1)
