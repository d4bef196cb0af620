-- The digits at the start of a text.
use Rattle.std.proofs.Common.{◌≡◌, ℕ, suc, ◌+◌, Bool, true, false, cond, List, [], ◌∷◌, ◌++◌, length, take, drop}
use Rattle.std.proofs.Common.{refl, sym, arith}
use Rattle.std.specs.Char.{is_ascii_digit}
use Rattle.std.specs.List.{prefix_len}
use Rattle.std.specs.Str.{all_ascii_digits}
use Rattle.std.proofs.lemmas.Bool.{and_parts}
use Rattle.text_places.specs.Digits.{Stops}

pub are_front_digits : (text : List ℕ) → all_ascii_digits (take (prefix_len is_ascii_digit text) text) ≡ true
are_front_digits [] = refl
are_front_digits (byte ∷ text) = by_test (are_front_digits text) (is_ascii_digit byte) refl
  where
    one_more : 1 + prefix_len is_ascii_digit text ≡ suc (prefix_len is_ascii_digit text)
    one_more = omega arith

    by_test : all_ascii_digits (take (prefix_len is_ascii_digit text) text) ≡ true → (test : Bool)
        → test ≡ is_ascii_digit byte
        → all_ascii_digits (take (cond test (1 + prefix_len is_ascii_digit text) 0) (byte ∷ text)) ≡ true
    by_test later true is = rw (one_more, ← is) later
    by_test later false is = refl

-- what comes after them stops
pub front_stops : (text : List ℕ) → Stops (drop (prefix_len is_ascii_digit text) text)
front_stops [] = tt
front_stops (byte ∷ text) = by_test (front_stops text) (is_ascii_digit byte) refl
  where
    one_more : 1 + prefix_len is_ascii_digit text ≡ suc (prefix_len is_ascii_digit text)
    one_more = omega arith

    by_test : Stops (drop (prefix_len is_ascii_digit text) text) → (test : Bool) → test ≡ is_ascii_digit byte
        → Stops (drop (cond test (1 + prefix_len is_ascii_digit text) 0) (byte ∷ text))
    by_test later true is = rw one_more later
    by_test later false is = sym is

-- digits with what stops after them are all the digits at the front
pub digits_end : (digits rest : List ℕ) → all_ascii_digits digits ≡ true → Stops rest
    → prefix_len is_ascii_digit (digits ++ rest) ≡ length digits
digits_end [] [] all stops = refl
digits_end [] (byte ∷ rest) all stops = rw stops refl
digits_end (digit ∷ digits) rest all stops =
    let parts = and_parts (is_ascii_digit digit) (all_ascii_digits digits) all in
    let later = digits_end digits rest parts.1 stops in
    rw (parts.0, later) (omega arith)
