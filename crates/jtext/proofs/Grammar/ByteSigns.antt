-- What the sign of a byte says of the byte, and the other way round.
use Rattle.std.proofs.Common.{◌≡◌, ℕ, ◌≤◌, ◌<◌, ◌⊎◌, inl, inr, true, refl, ap, ◌==◌, arith}
use Rattle.std.specs.Prelude.{◌&&◌, ◌||◌, nat_le, if◌then◌else◌}
use Rattle.std.proofs.lemmas.Bool.{leb-true, le-leb, lt-leb, eqb-true, eqb-false, ne_eqb, and_parts, or_cases, or_left}
use Rattle.std.proofs.lemmas.Bool.{or_right, cond_both}
use Rattle.jtext.specs.Numbers.{IsDigit, IsMark}
use Rattle.jtext.specs.Characters.{IsOf, IsEscape, from_to, hexadecimal, Class}
use Rattle.jtext.specs.Values.{IsBlank}
use Rattle.jtext.specs.InsideSigns.{byte_sign, opening, closing, letter}
use Rattle.jtext.specs.InsideTokens.{text_sign, escape_sign, takes}
use Rattle.jtext.specs.declared.signs.Bracket.TheVariants.{Square, Curly}
use Rattle.jtext.specs.declared.signs.Bracket.{Bracket}
use Rattle.jtext.specs.declared.signs.Sign.{Sign}
use Rattle.jtext.specs.declared.signs.Sign.TheVariants as signs
use Rattle.jtext.specs.declared.text.TextSign.{TextSign}
use Rattle.jtext.specs.declared.text.TextSign.TheVariants as texts
use Rattle.jtext.specs.declared.text.EscapeSign.{EscapeSign}
use Rattle.jtext.specs.declared.text.EscapeSign.TheVariants as escapes
use Rattle.jtext.specs.declared.text.Lead.{Lead}
use Rattle.jtext.specs.declared.text.Lead.TheVariants as leads
use Rattle.jtext.specs.declared.text.Need.{Need}
use Rattle.jtext.specs.declared.text.Need.TheVariants as needs

-- the bytes of each sign
abbrev pub HasSign : Sign → ℕ → Type 0
HasSign signs.Digit byte = (49 ≤ byte) × (byte ≤ 57)
HasSign signs.Zero byte = byte ≡ 48
HasSign signs.Comma byte = byte ≡ 44
HasSign signs.Blank byte = IsBlank byte
HasSign signs.Quote byte = byte ≡ 34
HasSign (signs.Opening bracket) byte = byte ≡ opening bracket
HasSign (signs.Closing bracket) byte = byte ≡ closing bracket
HasSign signs.Colon byte = byte ≡ 58
HasSign signs.Minus byte = byte ≡ 45
HasSign signs.Plus byte = byte ≡ 43
HasSign signs.Point byte = byte ≡ 46
HasSign signs.Mark byte = IsMark byte
HasSign (signs.Letter word) byte = byte ≡ letter word
HasSign signs.First byte = byte ≡ 239
HasSign signs.Other byte = Unit {0}

in_range : (low high byte : ℕ) → (nat_le low byte && nat_le byte high) ≡ true → (low ≤ byte) × (byte ≤ high)
in_range low high byte t = let h = and_parts (nat_le low byte) (nat_le byte high)
    t in (leb-true low byte h.0, leb-true byte high h.1)

one_of_two : (a b byte : ℕ) → (byte == a || byte == b) ≡ true → (byte ≡ a) ⊎ (byte ≡ b)
one_of_two a b byte t = grind (arith, or_cases, eqb-true)

blank_of : (byte : ℕ) → (byte == 32 || byte == 9 || byte == 10 || byte == 13) ≡ true → IsBlank byte
blank_of byte t = grind (arith, or_cases, eqb-true, one_of_two)

pub has_sign : (byte : ℕ) → HasSign (byte_sign byte) byte
has_sign byte = grind (arith, cond_both, in_range, eqb-true, blank_of, one_of_two)

pub nonzero_sign : (byte : ℕ) → 49 ≤ byte → byte ≤ 57 → byte_sign byte ≡ signs.Digit
nonzero_sign byte a b = rw (le-leb 49 byte a, le-leb byte 57 b) refl

pub digit_sign : (byte : ℕ) → IsDigit byte → (byte_sign byte ≡ signs.Zero) ⊎ (byte_sign byte ≡ signs.Digit)
digit_sign byte (low, high) = grind (arith, nonzero_sign)

pub blank_sign : (byte : ℕ) → IsBlank byte → byte_sign byte ≡ signs.Blank
blank_sign byte (inl h) = ap byte_sign h
blank_sign byte (inr (inl h)) = ap byte_sign h
blank_sign byte (inr (inr (inl h))) = ap byte_sign h
blank_sign byte (inr (inr (inr h))) = ap byte_sign h

pub mark_sign : (byte : ℕ) → IsMark byte → byte_sign byte ≡ signs.Mark
mark_sign byte (inl h) = ap byte_sign h
mark_sign byte (inr h) = ap byte_sign h

pub closing_sign : (bracket : Bracket) → byte_sign (closing bracket) ≡ signs.Closing bracket
closing_sign Square = refl
closing_sign Curly = refl

-- Bytes in texts.

abbrev pub HasLead : Lead → ℕ → Type 0
HasLead leads.Two byte = (0xC2 ≤ byte) × (byte ≤ 0xDF)
HasLead leads.ThreeFirst byte = byte ≡ 0xE0
HasLead leads.ThreeBefore byte = byte ≡ 0xED
HasLead leads.Three byte = (0xE1 ≤ byte) × (byte ≤ 0xEF) × (byte ≡ 0xED → ⊥)
HasLead leads.FourFirst byte = byte ≡ 0xF0
HasLead leads.Four byte = (0xF1 ≤ byte) × (byte ≤ 0xF3)
HasLead leads.FourLast byte = byte ≡ 0xF4

abbrev pub HasTextSign : TextSign → ℕ → Type 0
HasTextSign texts.Quote byte = byte ≡ 34
HasTextSign texts.Backslash byte = byte ≡ 92
HasTextSign texts.Plain byte = (0x20 ≤ byte) × (byte ≤ 0x7F) × (byte ≡ 34 → ⊥) × (byte ≡ 92 → ⊥)
HasTextSign (texts.Lead lead) byte = HasLead lead byte
HasTextSign texts.Refused byte = Unit {0}

pub has_text_sign : (byte : ℕ) → HasTextSign (text_sign byte) byte
has_text_sign byte = grind (arith, cond_both, eqb-true, in_range, eqb-false)

pub plain_sign : (byte : ℕ) → 0x20 ≤ byte → byte ≤ 0x7F → (byte ≡ 34 → ⊥) → (byte ≡ 92 → ⊥)
    → text_sign byte ≡ texts.Plain
plain_sign byte a b c d = rw (ne_eqb byte 34 c, ne_eqb byte 92 d, le-leb 0x20 byte a, le-leb byte 0x7F b) refl

-- above the single bytes
text_sign_above : (byte : ℕ) → 0x7F < byte → text_sign byte ≡ (
    if nat_le 0xC2 byte && nat_le byte 0xDF then texts.Lead leads.Two
    else if byte == 0xE0 then texts.Lead leads.ThreeFirst
    else if byte == 0xED then texts.Lead leads.ThreeBefore
    else if nat_le 0xE1 byte && nat_le byte 0xEF then texts.Lead leads.Three
    else if byte == 0xF0 then texts.Lead leads.FourFirst
    else if nat_le 0xF1 byte && nat_le byte 0xF3 then texts.Lead leads.Four
    else if byte == 0xF4 then texts.Lead leads.FourLast
    else texts.Refused)
text_sign_above byte a = grind (arith, ne_eqb, le-leb, lt-leb)

pub two_sign : (byte : ℕ) → 0xC2 ≤ byte → byte ≤ 0xDF → text_sign byte ≡ texts.Lead leads.Two
two_sign byte a b = rw (text_sign_above byte (omega arith), le-leb 0xC2 byte a, le-leb byte 0xDF b) refl

pub three_sign : (byte : ℕ) → 0xE1 ≤ byte → byte ≤ 0xEF → (byte ≡ 0xED → ⊥) → text_sign byte ≡ texts.Lead leads.Three
three_sign byte a b c = grind (arith, text_sign_above, le-leb, lt-leb, ne_eqb)

pub four_sign : (byte : ℕ) → 0xF1 ≤ byte → byte ≤ 0xF3 → text_sign byte ≡ texts.Lead leads.Four
four_sign byte a b = grind (arith, text_sign_above, le-leb, lt-leb, ne_eqb)

abbrev pub HasEscapeSign : EscapeSign → ℕ → Type 0
HasEscapeSign escapes.Short byte = IsEscape byte
HasEscapeSign escapes.Unicode byte = byte ≡ 117
HasEscapeSign escapes.Refused byte = Unit {0}

escape_of : (byte : ℕ) → (byte == 34 || byte == 92 || byte == 47 || byte == 98 || byte == 102 || byte == 110 || byte ==
    114 || byte == 116) ≡ true → IsEscape byte
escape_of byte t = grind (arith, or_cases, eqb-true, one_of_two)

pub has_escape_sign : (byte : ℕ) → HasEscapeSign (escape_sign byte) byte
has_escape_sign byte = grind (arith, cond_both, escape_of, eqb-true)

pub short_sign : (byte : ℕ) → IsEscape byte → escape_sign byte ≡ escapes.Short
short_sign byte (inl h) = ap escape_sign h
short_sign byte (inr (inl h)) = ap escape_sign h
short_sign byte (inr (inr (inl h))) = ap escape_sign h
short_sign byte (inr (inr (inr (inl h)))) = ap escape_sign h
short_sign byte (inr (inr (inr (inr (inl h))))) = ap escape_sign h
short_sign byte (inr (inr (inr (inr (inr (inl h)))))) = ap escape_sign h
short_sign byte (inr (inr (inr (inr (inr (inr (inl h))))))) = ap escape_sign h
short_sign byte (inr (inr (inr (inr (inr (inr (inr h))))))) = ap escape_sign h

-- the class of what is needed
abbrev pub class_of : Need → Class
class_of needs.Tail = from_to 0x80 0xBF
class_of needs.TailFromA0 = from_to 0xA0 0xBF
class_of needs.TailTo9F = from_to 0x80 0x9F
class_of needs.TailFrom90 = from_to 0x90 0xBF
class_of needs.TailTo8F = from_to 0x80 0x8F
class_of needs.Hexadecimal = hexadecimal

in_test : (low high byte : ℕ) → (low ≤ byte) × (byte ≤ high) → (nat_le low byte && nat_le byte high) ≡ true
in_test low high byte h = rw (le-leb low byte h.0, le-leb byte high h.1) refl

hexadecimal_of : (byte : ℕ) → IsOf hexadecimal byte → takes needs.Hexadecimal byte ≡ true
hexadecimal_of byte (inl h) = grind (arith, or_left, in_test)
hexadecimal_of byte (inr (inl h)) = grind (arith, or_left, or_right, in_test)
hexadecimal_of byte (inr (inr h)) = or_right (nat_le 48 byte && nat_le byte 57 || nat_le 65 byte && nat_le byte 70)
    (nat_le 97 byte && nat_le byte 102) (in_test 97 102 byte h)

pub taken : (first : Need) (byte : ℕ) → IsOf (class_of first) byte → takes first byte ≡ true
taken needs.Tail byte h = rw (le-leb 0x80 byte h.0, le-leb byte 0xBF h.1) refl
taken needs.TailFromA0 byte h = rw (le-leb 0xA0 byte h.0, le-leb byte 0xBF h.1) refl
taken needs.TailTo9F byte h = rw (le-leb 0x80 byte h.0, le-leb byte 0x9F h.1) refl
taken needs.TailFrom90 byte h = rw (le-leb 0x90 byte h.0, le-leb byte 0xBF h.1) refl
taken needs.TailTo8F byte h = rw (le-leb 0x80 byte h.0, le-leb byte 0x8F h.1) refl
taken needs.Hexadecimal byte h = hexadecimal_of byte h

pub is_of : (first : Need) (byte : ℕ) → takes first byte ≡ true → IsOf (class_of first) byte
is_of needs.Tail byte t = in_range 0x80 0xBF byte t
is_of needs.TailFromA0 byte t = in_range 0xA0 0xBF byte t
is_of needs.TailTo9F byte t = in_range 0x80 0x9F byte t
is_of needs.TailFrom90 byte t = in_range 0x90 0xBF byte t
is_of needs.TailTo8F byte t = in_range 0x80 0x8F byte t
is_of needs.Hexadecimal byte t = grind (arith, or_cases, in_range)
