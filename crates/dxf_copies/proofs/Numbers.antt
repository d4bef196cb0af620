-- Numbers of handles are small.
use Rattle.std.proofs.Common.{◌≡◌, ℕ, ◌+◌, ◌*◌, ◌^◌, ◌≤◌, ◌<◌, List, length, get_or, true, arith}
use Rattle.std.specs.List.{list_all}
use Rattle.std.specs.Char.{is_ascii_hexdigit}
use Rattle.std.proofs.Math.Nat.{pow-le-pow_right}
use Rattle.std.proofs.lemmas.Grind.{pow_more}
use Rattle.std.proofs.lemmas.Bool.Decides.{nat_tests}
use Rattle.std.proofs.lemmas.List.Folds.{list_all_at}
use Rattle.dxf_entities.specs.Handles.{is_handle}
use Rattle.dxf_copies.specs.Rendering.{digit_of}

digit_small : (byte : ℕ) → is_ascii_hexdigit byte ≡ true → digit_of byte < 16
digit_small byte is = grind (arith, nat_tests)

-- a handle has fifteen digits at most
pub handle_short : (text : List ℕ) → is_handle text ≡ true → length text ≤ 15
handle_short text is = grind (arith, nat_tests)

pub handle_digits : (text : List ℕ) → is_handle text ≡ true → list_all is_ascii_hexdigit text ≡ true
handle_digits text is = grind (arith, nat_tests)

pub digit_at : (text : List ℕ) (i : ℕ) → is_handle text ≡ true → i < length text → digit_of (get_or text i 0) < 16
digit_at text i is within = grind (arith, digit_small, handle_digits, list_all_at)

pub below_all : (number i : ℕ) → number < 16 ^ i → i ≤ 15 → number < 2 ^ 60
below_all number i below few = let most : 16 ^ i ≤ 16 ^ 15 = grind (arith, pow-le-pow_right) in omega (arith, most)

pub one_digit : (number digit i : ℕ) → number < 16 ^ i → digit < 16 → 16 * number + digit < 16 ^ (i + 1)
one_digit number digit i below small = rw (pow_more 16 i) (omega arith)
