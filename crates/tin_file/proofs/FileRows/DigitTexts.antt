-- Texts of digits, digit by digit, and the number that they write.
use Rattle.std.proofs.Common.{◌≡◌, ℕ, ◌+◌, ◌-◌, ◌*◌, ◌<◌, ◌≤◌, List, [], ◌∷◌, length, get_or, take, drop, true}
use Rattle.std.proofs.Common.{sym, ap, ◌∙◌, arith, add-one}
use Rattle.std.specs.Prelude.{min, Some}
use Rattle.std.specs.Char.{is_ascii_digit}
use Rattle.std.specs.List.{list_all}
use Rattle.std.proofs.Math.Seq.{drop-cons}
use Rattle.std.proofs.lemmas.List.{take_more, take_all, drop_all}
use Rattle.mm_decimal.proofs.Values.{number_after, number_after-append, number_after-none}
use Rattle.tin_base.specs.declared.limits.TheConstants.{MOST_CORNERS}
use Rattle.tin_file.specs.Triangles.{whole_number}
use Rattle.tin_file.specs.RowContents.{at_most}

module _ (text : List ℕ) (i : ℕ) where
  pub digits_on : i < length text → is_ascii_digit (get_or text i 0) ≡ true
      → list_all is_ascii_digit (drop i text) ≡ list_all is_ascii_digit (drop (i + 1) text)
  digits_on within h = grind (arith, get_or, add-one, drop-cons)

  limited : (x n d most : ℕ) → n ≡ min x most → min (n * 10 + d) most ≡ min (10 * x + d) most
  limited x n d most is = omega arith

  pub number_more : (number : ℕ) → i < length text → number ≡ min (number_after 0 (take i text)) MOST_CORNERS
      → min (number * 10 + (get_or text i 0 - 48)) MOST_CORNERS ≡ min (number_after 0 (take (i + 1) text)) MOST_CORNERS
  number_more number within is =
      limited (number_after 0 (take i text)) number (get_or text i 0 - 48) MOST_CORNERS is
      ∙ ap (λ n. min n MOST_CORNERS) (sym (ap (number_after 0) (take_more text i 0 within)
      ∙ number_after-append 0 (take i text) (get_or text i 0 ∷ [])))

  pub number_whole : (number : ℕ) → length text ≤ i
      → list_all is_ascii_digit text ≡ list_all is_ascii_digit (drop i text)
      → number ≡ min (number_after 0 (take i text)) MOST_CORNERS → Some number ≡ at_most (whole_number text)
  number_whole number behind digits is = grind (arith, drop_all, number_after, take_all, number_after-none)
