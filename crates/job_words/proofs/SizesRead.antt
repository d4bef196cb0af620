-- Sizes that are not read.
use Rattle.std.proofs.Common.{◌≡◌, ◌<◌, ◌^◌, ◌&&◌, ℕ, List, [], ◌∷◌, true, false, Some, None, Result, Err, refl, ap₂}
use Rattle.std.proofs.Common.{arith, rules}
use Rattle.std.specs.Prelude.{if◌then◌else◌}
use Rattle.std.specs.Char.{is_ascii_digit}
use Rattle.std.specs.List.{list_all}
use Rattle.std.specs.Str.Parse.{IsNumeral, digits_value, digits_value_after, without_leading_plus}
use Rattle.std.proofs.lemmas.Str.Parse.{IsNumeralModel, numerals_by_fold, parse_digits}
use Rattle.clap.proofs.WalkLemmas.{both}
use Rattle.job_words.specs.declared.limits.TheConstants.{MOST_SIZE}
use Rattle.job_words.specs.Sizes.{is_plain, is_size, size_of}
use Rattle.job_words.proofs.TestValues.{fails, no-more}

-- digits, and the number that they write
digits : IsNumeralModel (λ ds. list_all is_ascii_digit ds ≡ true) (digits_value 10)
digits = numerals_by_fold _ (search rules) (digits_value_after 10) (search rules)

-- digits that are no number of 32 bits write no size
pub size-unread : (word : List ℕ) → (IsNumeral 10 (without_leading_plus word)
    × (digits_value 10 (without_leading_plus word) < 2 ^ 32) → ⊥) → is_plain word ≡ true → size_of word ≡ None
size-unread [] unread plain = refl
size-unread (d ∷ ds) unread plain =
    let error : Result ℕ ℕ = Err 0 in
    let none = parse_digits digits 32 (d ∷ ds) error unread (both _ _ plain).0 in
    let small : is_size (digits_value 10 (d ∷ ds)) ≡ true
    → digits_value 10 (d ∷ ds) < 2 ^ 32 = λ is. omega
    (arith, no-more (digits_value 10 (d ∷ ds)) MOST_SIZE (both _ _ is).1) in
    let large : is_size (digits_value 10 (d ∷ ds)) ≡ false = fails _ (λ is. none (omega arith, small is)) in
    ap₂ (λ a b. if a && b then Some (digits_value 10 (d ∷ ds)) else None) plain large
