-- Texts of decimal digits, as std reads them.
use Rattle.std.proofs.Common.{◌≡◌, ℕ, List, true}
use Rattle.std.specs.Str.{all_ascii_digits, IsUtf8}
use Rattle.std.specs.Str.Parse.{digits_value}
use Rattle.std.proofs.lemmas.Fmt.{IsAscii-from_digits}
use Rattle.std.proofs.lemmas.Str.{IsUtf8-from_ascii}
use Rattle.std.proofs.lemmas.Str.Parse.{IsNumeralModel, numerals_by_value, tells_all_ascii_digits}

pub digit_texts : IsNumeralModel (λ ds. all_ascii_digits ds ≡ true) (digits_value 10)
digit_texts = numerals_by_value (λ ds. all_ascii_digits ds ≡ true) tells_all_ascii_digits

pub digits_utf8 : (digits : List ℕ) → all_ascii_digits digits ≡ true → IsUtf8 digits
digits_utf8 digits all = IsUtf8-from_ascii digits (IsAscii-from_digits digits (digit_texts.to digits all))
