-- The characters of a name between quotation marks.
use Rattle.std.proofs.Common.{◌≡◌, ℕ, suc, ◌<◌, ◌≤◌, inl, inr, Bool, true, false, ◌==◌, ◌||◌, List, [], ◌∷◌, ◌++◌, map}
use Rattle.std.proofs.Common.{length, get_or, refl, sym, ◌∙◌, ap, ap₂, arith, append-nil, IsUtf8}
use Rattle.std.proofs.lemmas.Bool.{and_parts, cases_lt, ne_eqb}
use Rattle.std.proofs.lemmas.List.Concat.{flat_map-append}
use Rattle.std.proofs.lemmas.Str.{encode_ascii, inside_one, encodes-chars, scalars-chars}
use lib.Utf8.{scalars, encode, encodes}
use Rattle.std.specs.Str.{chars}
use Rattle.std.specs.Prelude.{if◌then◌else◌}
use Rattle.jtext.specs.Characters.{chars_text, char_text, unescaped, escaped}
use Rattle.change_places.specs.PlacesText.{escaped_byte, name_text}
use Rattle.change_places.specs.PlacesValue.{name_char, name_chars}

-- bytes outside of ASCII stand for themselves
high_bytes : (bytes : List ℕ) → ((k : ℕ) → k < length bytes → 128 ≤ get_or bytes k 0) → name_text bytes ≡ bytes
high_bytes [] high = refl
high_bytes (byte ∷ bytes) high =
    let big : 128 ≤ byte = high 0 (omega arith) in
    rw (ne_eqb byte 34 (λ e. omega (arith, e, big)), ne_eqb byte 92 (λ e. omega (arith, e, big)))
    (ap (λ (rest : List ℕ). byte ∷ rest) (high_bytes bytes (λ k below. high (suc k) (omega (arith, below)))))

low_by : (escape : Bool) (c : ℕ) (own : List ℕ) → own ≡ c ∷ []
    → char_text (if escape then escaped c else unescaped own) ≡ (if escape then 92 ∷ c ∷ [] else c ∷ []) ++ []
low_by true c own is = refl
low_by false c own is = is

high_by : (escape : Bool) (c : ℕ) (own : List ℕ) → escape ≡ false
    → char_text (if escape then escaped c else unescaped own) ≡ own
high_by true c own is = cc
high_by false c own is = refl

one_char : (c : ℕ) → char_text (name_char c) ≡ name_text (encode c)
one_char c = elim (cases_lt c 128) [
  | inl small ↦ low_by (c == 34 || c == 92) c (encode c) (encode_ascii c small)
      ∙ ap name_text (sym (encode_ascii c small))
  | inr big ↦
      let high : (k : ℕ) → k < length (encode c)
      → 128 ≤ get_or (encode c) k 0 = λ k below. elim (cases_lt (get_or (encode c) k 0) 128) [
        | inl low ↦ absurd (omega (arith, inside_one c [] (encode c) k (sym (append-nil _)) below low))
        | inr h ↦ h
      ] in
      high_by (c == 34 || c == 92) c (encode c)
      (rw (ne_eqb c 34 (λ e. omega (arith, e, big)), ne_eqb c 92 (λ e. omega (arith, e, big))) refl)
      ∙ sym (high_bytes (encode c) high)
]

chars_spelled : (cs : List ℕ) → scalars cs ≡ true → chars_text (map name_char cs) ≡ name_text (encodes cs)
chars_spelled [] are = refl
chars_spelled (c ∷ cs) are =
    let parts = and_parts _ _ are in
    ap₂ (λ (a b : List ℕ). a ++ b) (one_char c) (chars_spelled cs parts.1)
    ∙ sym (flat_map-append escaped_byte (encode c) (encodes cs))

pub name_spelled : (name : List ℕ) → IsUtf8 name → chars_text (name_chars name) ≡ name_text name
name_spelled name utf8 = chars_spelled (chars name) (scalars-chars name utf8) ∙ ap name_text (encodes-chars name utf8)
