-- One character more of a text that is shown.
use Rattle.std.proofs.Common.{◌≡◌, ℕ, ◌-◌, ◌<◌, ◌≤◌, List, [], ◌∷◌, ◌++◌, true, false, nat_lt, length, refl, sym, ◌∙◌}
use Rattle.std.proofs.Common.{ap, ap₂, subst, arith, append_assoc}
use Rattle.std.specs.Prelude.{codes}
use Rattle.std.specs.Char.{encode_utf8}
use Rattle.std.specs.Str.{chars, IsUtf8}
use Rattle.std.proofs.Math.Utf8.{encodes}
use Rattle.std.proofs.lemmas.Bool.{lt-ltb, le-ltb}
use Rattle.std.proofs.lemmas.List.{append-nil}
use Rattle.std.proofs.lemmas.Str.{encodes-chars, chars_from_encodes, IsUtf8-past_char}
use Rattle.shown_text.specs.Characters.{shown_character, size_of}
use Rattle.shown_text.specs.Texts.{shown_within}

pub past_utf8 : (rest more : List ℕ) (c : ℕ) → IsUtf8 rest → rest ≡ encode_utf8 c ++ more → IsUtf8 more
past_utf8 rest more c utf8 is = IsUtf8-past_char rest more c utf8 is

cut : (rest more : List ℕ) (c : ℕ) → IsUtf8 rest → rest ≡ encode_utf8 c ++ more → chars rest ≡ c ∷ chars more
cut rest more c utf8 is =
    let others : encodes (chars more) ≡ more = encodes-chars more (past_utf8 rest more c utf8 is) in
    sym (chars_from_encodes (c ∷ chars more) rest utf8 (ap (λ (t : List ℕ). encode_utf8 c ++ t) others ∙ sym is))

pub ends_here : (text target new rest more : List ℕ) (room c size : ℕ) → IsUtf8 rest → rest ≡ encode_utf8 c ++ more
    → size ≡ size_of c → room < size → text ++ shown_within room (chars rest) ≡ target → new ≡ text ++ codes ".." → new ≡ target
ends_here text target new rest more room c size utf8 is same full kept pushed =
    let over : nat_lt room (size_of c) ≡ true = lt-ltb room (size_of c) (subst (λ n. room < n) same full) in
    let dots : shown_within room (chars rest) ≡ codes ".." = rw (cut rest more c utf8 is, over) refl in
    pushed ∙ (ap (λ (t : List ℕ). text ++ t) (sym dots) ∙ kept)

pub goes_on : (text target new rest more : List ℕ) (room c size : ℕ) → IsUtf8 rest → rest ≡ encode_utf8 c ++ more
    → size ≡ size_of c → size ≤ room → text ++ shown_within room (chars rest) ≡ target → new ≡ text ++ shown_character c
    → new ++ shown_within (room - size) (chars more) ≡ target
goes_on text target new rest more room c size utf8 is same fits kept pushed =
    let within : nat_lt room (size_of c) ≡ false = le-ltb room (size_of c) (subst (λ n. n ≤ room) same fits) in
    let shown : shown_within room (chars rest) ≡ shown_character c ++ shown_within (room - size_of c) (chars more) =
    rw (cut rest more c utf8 is, within) refl in
    ap₂ (λ (t : List ℕ) (n : ℕ). t ++ shown_within (room - n) (chars more)) pushed same
    ∙ (append_assoc text (shown_character c) (shown_within (room - size_of c) (chars more))
    ∙ (ap (λ (t : List ℕ). text ++ t) (sym shown) ∙ kept))

pub is_over : (text target rest : List ℕ) (room : ℕ) → length rest ≡ 0
    → text ++ shown_within room (chars rest) ≡ target → text ≡ target
unfolding chars
is_over text target [] room none kept = sym (append-nil text) ∙ kept
is_over text target (byte ∷ rest) room none kept = absurd (omega (arith, none))
