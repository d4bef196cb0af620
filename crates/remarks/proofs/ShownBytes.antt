-- What is shown of a text is ASCII, and so UTF-8.
use Rattle.std.proofs.Common.{◌≡◌, ℕ, ◌<◌, true, List, take, get_or, arith, subst}
use Rattle.std.specs.Prelude.{not, nat_le, All, IsUtf8}
use Rattle.std.specs.Char.{is_ascii_graphic}
use Rattle.std.specs.List.{prefix_len}
use Rattle.std.proofs.lemmas.Bool.{and_parts}
use Rattle.std.proofs.lemmas.Bool.Decides.{nat_tests}
use Rattle.std.proofs.lemmas.List.{get_or-take}
use Rattle.std.proofs.lemmas.List.Folds.{length-prefix_len}
use Rattle.std.proofs.lemmas.List.Sums.{prefix_len_passes}
use Rattle.std.proofs.lemmas.Str.{IsUtf8-from_ascii}
use Rattle.std.proofs.lemmas.Str.Ascii.{IsAscii-from_all}
use Rattle.remarks.specs.Excerpts.{is_bracket_byte, is_shown_byte}

shown_small : (byte : ℕ) → is_shown_byte byte ≡ true → byte < 128
shown_small byte is =
    let graphic : is_ascii_graphic byte ≡ true =
    (and_parts (is_ascii_graphic byte) (not (is_bracket_byte byte)) is).0 in
    let small : nat_le byte 126 ≡ true = (and_parts (nat_le 33 byte) (nat_le byte 126) graphic).1 in
    grind (arith, nat_tests, small)

pub shown_utf8 : (bytes : List ℕ) → IsUtf8 (take (prefix_len is_shown_byte bytes) bytes)
shown_utf8 bytes =
    let small : All (λ byte. byte < 128) (take (prefix_len is_shown_byte bytes) bytes) =
    λ i d within.
    let before : i < prefix_len is_shown_byte bytes =
    subst (λ n. i < n) (length-prefix_len is_shown_byte bytes) within in
    rw (get_or-take (prefix_len is_shown_byte bytes) bytes i d before)
    (shown_small (get_or bytes i d) (prefix_len_passes is_shown_byte bytes i d before)) in
    IsUtf8-from_ascii _ (IsAscii-from_all _ small)
