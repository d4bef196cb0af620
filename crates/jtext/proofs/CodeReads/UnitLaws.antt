-- The units of a character by its first bytes.
use Rattle.std.proofs.Common.{◌≡◌, ℕ, ◌+◌, ◌*◌, ◌<◌, ◌≤◌, ◌⊎◌, inl, inr, List, [], ◌∷◌, ◌++◌, length, drop, get_or}
use Rattle.std.proofs.Common.{refl, sym, ap, ◌∙◌, arith, subst}
use Rattle.std.specs.Prelude.{nat_lt}
use Rattle.std.proofs.lemmas.Bool.{cond_both}
use Rattle.std.proofs.lemmas.List.{drop_more, length-drop}
use Rattle.plain_laws.proofs.Lists.{same_first, same_rest}
use Rattle.jtext.specs.Characters.{Class, from_to, hexadecimal, IsOf, Fits, Form, classes, IsUnescaped, Char, unescaped}
use Rattle.jtext.specs.Characters.{escaped, coded, IsEscape, IsChar, IsHexadecimal, char_text, code_point}
use Rattle.jtext.specs.Characters.{units_of_point, digit_value, hexadecimal_value, units_of_char}
use Rattle.jtext.specs.InsideUnits.{IsOutside}

pub one_byte : (c : Class) (bytes : List ℕ) → Fits (c ∷ []) bytes → (a : ℕ) × (bytes ≡ a ∷ []) × IsOf c a
one_byte c [] fits = absurd fits
one_byte c (a ∷ []) fits = (a, refl, fits.0)
one_byte c (a ∷ b ∷ bytes) fits = absurd fits.1

pub two_bytes : (c d : Class) (bytes : List ℕ) → Fits (c ∷ d ∷ []) bytes
    → (a b : ℕ) × (bytes ≡ a ∷ b ∷ []) × IsOf c a × IsOf d b
two_bytes c d [] fits = absurd fits
two_bytes c d (a ∷ bytes) fits = let (b, rest, is) =
    one_byte d bytes fits.1 in (a, b, ap (λ (t : List ℕ). a ∷ t) rest, fits.0, is)

pub three_bytes : (c d e : Class) (bytes : List ℕ) → Fits (c ∷ d ∷ e ∷ []) bytes
    → (x y z : ℕ) × (bytes ≡ x ∷ y ∷ z ∷ []) × IsOf c x × IsOf d y × IsOf e z
three_bytes c d e [] fits = absurd fits
three_bytes c d e (x ∷ bytes) fits = let (y, z, rest, is, also) =
    two_bytes d e bytes fits.1 in (x, y, z, ap (λ (t : List ℕ). x ∷ t) rest, fits.0, is, also)

pub four_bytes : (c d e f : Class) (bytes : List ℕ) → Fits (c ∷ d ∷ e ∷ f ∷ []) bytes
    → (w x y z : ℕ) × (bytes ≡ w ∷ x ∷ y ∷ z ∷ []) × IsOf c w × IsOf d x × IsOf e y × IsOf f z
four_bytes c d e f [] fits = absurd fits
four_bytes c d e f (w ∷ bytes) fits = let (x, y, z, rest, is, also, last) =
    three_bytes d e f bytes fits.1 in (w, x, y, z, ap (λ (t : List ℕ). w ∷ t) rest, fits.0, is, also, last)

-- one byte of ASCII that is no reverse solidus
abbrev IsAlone : List ℕ → Type 0
IsAlone bytes = (byte : ℕ) × (bytes ≡ byte ∷ []) × (byte < 128) × (byte ≡ 92 → ⊥)

-- bytes outside of ASCII that stand for a code point outside of it
abbrev IsWide : List ℕ → Type 0
IsWide bytes = (byte : ℕ) × (more : List ℕ) × (bytes ≡ byte ∷ more) × (128 ≤ byte) × (128 ≤ code_point bytes)

alone : (low high : ℕ) (bytes : List ℕ) → Fits (from_to low high ∷ []) bytes → high < 128 → (high < 92) ⊎ (92 < low)
    → IsAlone bytes
alone low high bytes fits small apart = grind (arith, one_byte)

wide_two : (low high : ℕ) (bytes : List ℕ) → Fits (from_to low high ∷ from_to 0x80 0xBF ∷ []) bytes → 0xC2 ≤ low
    → IsWide bytes
wide_two low high bytes fits above = grind (arith, two_bytes)

wide_three : (low high next last : ℕ) (bytes : List ℕ)
    → Fits (from_to low high ∷ from_to next last ∷ from_to 0x80 0xBF ∷ []) bytes → 0xE0 ≤ low
    → (0xE1 ≤ low) ⊎ (0xA0 ≤ next) → 0x80 ≤ next → IsWide bytes
wide_three low high next last bytes fits above apart tail = grind (arith, three_bytes)

wide_four : (low high next last : ℕ) (bytes : List ℕ)
    → Fits (from_to low high ∷ from_to next last ∷ from_to 0x80 0xBF ∷ from_to 0x80 0xBF ∷ []) bytes → 0xF0 ≤ low
    → (0xF1 ≤ low) ⊎ (0x90 ≤ next) → IsWide bytes
wide_four low high next last bytes fits above apart = grind (arith, four_bytes)

alone_or_wide : (form : Form) (bytes : List ℕ) → Fits (classes form) bytes → IsAlone bytes ⊎ IsWide bytes
alone_or_wide Form.low bytes fits = inl (alone 0x20 0x21 bytes fits (omega arith) (inl (omega arith)))
alone_or_wide Form.middle bytes fits = inl (alone 0x23 0x5B bytes fits (omega arith) (inl (omega arith)))
alone_or_wide Form.high bytes fits = inl (alone 0x5D 0x7F bytes fits (omega arith) (inr (omega arith)))
alone_or_wide Form.two bytes fits = inr (wide_two 0xC2 0xDF bytes fits (omega arith))
alone_or_wide Form.three_first bytes fits =
    inr (wide_three 0xE0 0xE0 0xA0 0xBF bytes fits (omega arith) (inr (omega arith)) (omega arith))
alone_or_wide Form.three_lower bytes fits =
    inr (wide_three 0xE1 0xEC 0x80 0xBF bytes fits (omega arith) (inl (omega arith)) (omega arith))
alone_or_wide Form.three_before bytes fits =
    inr (wide_three 0xED 0xED 0x80 0x9F bytes fits (omega arith) (inl (omega arith)) (omega arith))
alone_or_wide Form.three_upper bytes fits =
    inr (wide_three 0xEE 0xEF 0x80 0xBF bytes fits (omega arith) (inl (omega arith)) (omega arith))
alone_or_wide Form.four_first bytes fits =
    inr (wide_four 0xF0 0xF0 0x90 0xBF bytes fits (omega arith) (inr (omega arith)))
alone_or_wide Form.four bytes fits = inr (wide_four 0xF1 0xF3 0x80 0xBF bytes fits (omega arith) (inl (omega arith)))
alone_or_wide Form.four_last bytes fits = inr
    (wide_four 0xF4 0xF4 0x80 0x8F bytes fits (omega arith) (inl (omega arith)))

outside_point : (point : ℕ) → 128 ≤ point → (unit : ℕ) × (more : List ℕ) × (units_of_point point ≡ unit ∷ more)
    × (128 ≤ unit)
outside_point point above =
    cond_both (nat_lt point 0x10000) _ _ (λ (units : List ℕ). (unit : ℕ) × (more : List ℕ) × (units ≡ unit ∷ more)
    × (128 ≤ unit))
    (λ _. (point, [], refl, above)) (λ _. (_, _, refl, omega arith))

-- a first byte outside of ASCII
pub wide_unit : (first : ℕ) (tail : List ℕ) (char : Char) (rest : List ℕ) → IsChar char
    → first ∷ tail ≡ char_text char ++ rest → 128 ≤ first → IsOutside char
wide_unit first tail (unescaped bytes) rest (form, fits) text above =
    grind (arith, alone_or_wide, same_first, outside_point)
wide_unit first tail (escaped byte) rest is text above =
    absurd (omega (arith, same_first first 92 tail (byte ∷ rest) text))
wide_unit first tail (coded digits) rest is text above =
    absurd (omega (arith, same_first first 92 tail (117 ∷ (digits ++ rest)) text))

-- no character that is by itself begins with a reverse solidus
not_solidus : (tail bytes rest : List ℕ) → IsUnescaped bytes → 92 ∷ tail ≡ bytes ++ rest → ⊥
not_solidus tail bytes rest (form, fits) text = grind (arith, alone_or_wide, same_first)

no_escape : IsEscape 117 → ⊥
no_escape (inl h) = absurd (omega arith)
no_escape (inr (inl h)) = absurd (omega arith)
no_escape (inr (inr (inl h))) = absurd (omega arith)
no_escape (inr (inr (inr (inl h)))) = absurd (omega arith)
no_escape (inr (inr (inr (inr (inl h))))) = absurd (omega arith)
no_escape (inr (inr (inr (inr (inr (inl h)))))) = absurd (omega arith)
no_escape (inr (inr (inr (inr (inr (inr (inl h))))))) = absurd (omega arith)
no_escape (inr (inr (inr (inr (inr (inr (inr h))))))) = absurd (omega arith)

-- an escape of four hexadecimal digits
coded_unit : (tail : List ℕ) (char : Char) (rest : List ℕ) → IsChar char → 92 ∷ 117 ∷ tail ≡ char_text char ++ rest
    → (a b c d : ℕ) × IsHexadecimal a × IsHexadecimal b × IsHexadecimal c × IsHexadecimal d
    × (tail ≡ a ∷ b ∷ c ∷ d ∷ rest)
    × (units_of_char char ≡ hexadecimal_value 0 (a ∷ b ∷ c ∷ d ∷ []) ∷ [])
coded_unit tail (unescaped bytes) rest is text = absurd (not_solidus (117 ∷ tail) bytes rest is text)
coded_unit tail (escaped byte) rest is text =
    absurd (no_escape (subst IsEscape (sym (same_first 117 byte tail rest
    (same_rest 92 92 (117 ∷ tail) (byte ∷ rest) text))) is))
coded_unit tail (coded digits) rest is text =
    let (a, b, c, d, all, ia, ib, ic, id) = four_bytes hexadecimal hexadecimal hexadecimal hexadecimal digits is in (
      a,
      b,
      c,
      d,
      ia,
      ib,
      ic,
      id,
      same_rest 117 117 tail (digits ++ rest) (same_rest 92 92 (117 ∷ tail) (117 ∷ (digits ++ rest)) text)
          ∙ ap (λ (t : List ℕ). t ++ rest) all,
      ap (λ (t : List ℕ). hexadecimal_value 0 t ∷ []) all,
    )

-- four bytes from a place on
four_more : (xs : List ℕ) (at : ℕ) → at + 4 ≤ length xs
    → drop at xs ≡ get_or xs at 0 ∷ get_or xs (at + 1) 0 ∷ get_or xs (at + 2) 0 ∷ get_or xs (at + 3) 0
    ∷ drop (at + 4) xs
four_more xs at within = grind (arith, drop_more, get_or)

same_four : (a b c d a' b' c' d' : ℕ) (xs ys : List ℕ) → a ∷ b ∷ c ∷ d ∷ xs ≡ a' ∷ b' ∷ c' ∷ d' ∷ ys
    → (a ≡ a') × (b ≡ b') × (c ≡ c') × (d ≡ d') × (xs ≡ ys)
same_four a b c d a' b' c' d' xs ys h = (cc, cc, cc, cc, cc)

-- what the code makes of the four bytes at a place
pub coded_value : (raw : List ℕ) (at : ℕ) (char : Char) (rest : List ℕ) → at + 4 ≤ length raw → IsChar char
    → 92 ∷ 117 ∷ drop at raw ≡ char_text char ++ rest → (v w x y : ℕ)
    → (IsHexadecimal (get_or raw at 0) → v ≡ digit_value (get_or raw at 0))
    → (IsHexadecimal (get_or raw (at + 1) 0) → w ≡ digit_value (get_or raw (at + 1) 0))
    → (IsHexadecimal (get_or raw (at + 2) 0) → x ≡ digit_value (get_or raw (at + 2) 0))
    → (IsHexadecimal (get_or raw (at + 3) 0) → y ≡ digit_value (get_or raw (at + 3) 0))
    → (units_of_char char ≡ (256 * (16 * v + w) + (16 * x + y)) ∷ []) × (drop (at + 4) raw ≡ rest)
coded_value raw at char rest within is text v w x y hv hw hx hy =
    grind (arith, coded_unit, same_four, get_or, four_more)

-- there are four
pub coded_long : (raw : List ℕ) (at : ℕ) (char : Char) (rest : List ℕ) → at ≤ length raw → IsChar char
    → 92 ∷ 117 ∷ drop at raw ≡ char_text char ++ rest → at + 4 ≤ length raw
coded_long raw at char rest within is text =
    let (a, b, c, d, ia, ib, ic, id, all, units) = coded_unit (drop at raw) char rest is text in
    omega (arith, ap length all, length-drop at raw)

-- a character is at least one byte
pub char_long : (char : Char) → IsChar char → 0 < length (char_text char)
char_long (unescaped bytes) (form, fits) = grind (arith, alone_or_wide)
char_long char is = omega arith
