-- Which texts lead through a text in quotation marks.
use Rattle.std.proofs.Common.{◌≡◌, ℕ, ◌≤◌, ◌<◌, ◌⊎◌, inl, inr, List, [], ◌∷◌, ◌++◌, map, Bool, true, false, refl, ap}
use Rattle.std.proofs.Common.{sym, ◌∙◌, arith, subst, append_assoc}
use Rattle.std.specs.Prelude.{Some, None, IsSomeAnd, if◌then◌else◌}
use Rattle.std.proofs.lemmas.Option.{same_Some}
use Rattle.text_places.specs.Machine.{run}
use Rattle.text_places.proofs.Runs.{run_on}
use Rattle.jtext.specs.Characters.{Class, Fits, IsOf, Form, classes, IsUnescaped, Char, unescaped, escaped, coded}
use Rattle.jtext.specs.Characters.{IsChar, AreChars, char_text, chars_text}
use Rattle.jtext.specs.InsideTokens.{Inner, plain, escape, need, closed, text_sign, escape_sign, takes, lead_needs}
use Rattle.jtext.specs.InsideTokens.{hexadecimal_needs, needing, after_text_sign, after_escape_sign, inner_step}
use Rattle.jtext.specs.declared.text.TextSign.{TextSign}
use Rattle.jtext.specs.declared.text.TextSign.TheVariants as texts
use Rattle.jtext.specs.declared.text.EscapeSign.{EscapeSign}
use Rattle.jtext.specs.declared.text.EscapeSign.TheVariants as escapes
use Rattle.jtext.specs.declared.text.Lead.{Lead}
use Rattle.jtext.specs.declared.text.Lead.TheVariants as leads
use Rattle.jtext.specs.declared.text.Need.{Need}
use Rattle.jtext.proofs.CodeReads.Pieces.{some_next, some_more}
use Rattle.jtext.proofs.Grammar.ByteSigns.{class_of, taken, is_of, plain_sign, two_sign, three_sign, four_sign, short_sign}
use Rattle.jtext.proofs.Grammar.ByteSigns.{HasLead, HasTextSign, has_text_sign, HasEscapeSign, has_escape_sign}

-- the bytes after a first one
needs_read : (needs : List Need) (bytes : List ℕ) → Fits (map class_of needs) bytes
    → run inner_step (needing needs) bytes ≡ Some plain
needs_read [] [] fits = refl
needs_read (first ∷ more) (byte ∷ bytes) fits = rw (taken first byte fits.0) (needs_read more bytes fits.1)
needs_read needs bytes fits = absurd fits

-- one byte that is by itself
one_read : (low high : ℕ) (bytes : List ℕ) → Fits (Class.from_to low high ∷ []) bytes
    → ((byte : ℕ) → low ≤ byte → byte ≤ high → text_sign byte ≡ texts.Plain)
    → run inner_step plain bytes ≡ Some plain
one_read low high [] fits signs_of = absurd fits
one_read low high (byte ∷ []) fits signs_of = rw (signs_of byte fits.0.0 fits.0.1) refl
one_read low high (byte ∷ other ∷ bytes) fits signs_of = absurd fits.1

-- a first byte and those after it
lead_read : (lead : Lead) (low high : ℕ) (bytes : List ℕ)
    → Fits (Class.from_to low high ∷ map class_of (lead_needs lead)) bytes
    → ((byte : ℕ) → low ≤ byte → byte ≤ high → text_sign byte ≡ texts.Lead lead)
    → run inner_step plain bytes ≡ Some plain
lead_read lead low high [] fits signs_of = absurd fits
lead_read lead low high (byte ∷ bytes) fits signs_of =
    rw (signs_of byte fits.0.0 fits.0.1) (needs_read (lead_needs lead) bytes fits.1)

only_byte : (low byte : ℕ) → low ≤ byte → byte ≤ low → byte ≡ low
only_byte low byte a b = omega arith

form_read : (form : Form) (bytes : List ℕ) → Fits (classes form) bytes → run inner_step plain bytes ≡ Some plain
form_read Form.low bytes fits = one_read 0x20 0x21 bytes fits
    (λ byte a b. plain_sign byte (omega arith) (omega arith) (λ h. absurd (omega arith)) (λ h. absurd (omega arith)))
form_read Form.middle bytes fits = one_read 0x23 0x5B bytes fits
    (λ byte a b. plain_sign byte (omega arith) (omega arith) (λ h. absurd (omega arith)) (λ h. absurd (omega arith)))
form_read Form.high bytes fits = one_read 0x5D 0x7F bytes fits
    (λ byte a b. plain_sign byte (omega arith) (omega arith) (λ h. absurd (omega arith)) (λ h. absurd (omega arith)))
form_read Form.two bytes fits = lead_read leads.Two 0xC2 0xDF bytes fits two_sign
form_read Form.three_first bytes fits = lead_read leads.ThreeFirst 0xE0 0xE0 bytes fits
    (λ byte a b. ap text_sign (only_byte 0xE0 byte a b))
form_read Form.three_lower bytes fits = lead_read leads.Three 0xE1 0xEC bytes fits
    (λ byte a b. three_sign byte a (omega arith) (λ h. absurd (omega arith)))
form_read Form.three_before bytes fits = lead_read leads.ThreeBefore 0xED 0xED bytes fits
    (λ byte a b. ap text_sign (only_byte 0xED byte a b))
form_read Form.three_upper bytes fits = lead_read leads.Three 0xEE 0xEF bytes fits
    (λ byte a b. three_sign byte (omega arith) b (λ h. absurd (omega arith)))
form_read Form.four_first bytes fits = lead_read leads.FourFirst 0xF0 0xF0 bytes fits
    (λ byte a b. ap text_sign (only_byte 0xF0 byte a b))
form_read Form.four bytes fits = lead_read leads.Four 0xF1 0xF3 bytes fits four_sign
form_read Form.four_last bytes fits = lead_read leads.FourLast 0xF4 0xF4 bytes fits
    (λ byte a b. ap text_sign (only_byte 0xF4 byte a b))

char_read : (char : Char) → IsChar char → run inner_step plain (char_text char) ≡ Some plain
char_read (unescaped bytes) is = form_read is.0 bytes is.1
char_read (escaped byte) is = rw (short_sign byte is) refl
char_read (coded digits) is = needs_read hexadecimal_needs digits is

-- the characters and the quotation mark after them
pub quoted_read : (chars : List Char) → AreChars chars
    → run inner_step plain (chars_text chars ++ 34 ∷ []) ≡ Some closed
quoted_read [] all = refl
quoted_read (char ∷ chars) all = grind (arith, append_assoc, run_on, char_read, (quoted_read chars all.1))

-- What completes a text from each state on.
abbrev EndsPlain : List ℕ → Type 0
EndsPlain rest = (chars : List Char) × AreChars chars × (rest ≡ chars_text chars ++ 34 ∷ [])

abbrev EndsChar : List ℕ → List ℕ → Type 0
EndsChar front rest = (part tail : List ℕ) × (char : Char) × IsChar char × (char_text char ≡ front ++ part)
    × (rest ≡ part ++ tail) × EndsPlain tail

abbrev Ends : Inner → List ℕ → Type 0
Ends plain rest = EndsPlain rest
Ends escape rest = EndsChar (92 ∷ []) rest
Ends (need first more) rest = (part tail : List ℕ) × Fits (class_of first ∷ map class_of more) part
    × (rest ≡ part ++ tail) × EndsPlain tail
Ends closed rest = rest ≡ []

-- what the bytes that are needed and the rest of the text make together
needing_ends : (needs : List Need) (rest : List ℕ) → Ends (needing needs) rest
    → (part tail : List ℕ) × Fits (map class_of needs) part × (rest ≡ part ++ tail) × EndsPlain tail
needing_ends [] rest ends = ([], rest, tt, refl, ends)
needing_ends (first ∷ more) rest ends = ends

char_more : (char : Char) (tail : List ℕ) → IsChar char → EndsPlain tail → EndsPlain (char_text char ++ tail)
char_more char tail is (chars, all, text) = (
  char ∷ chars,
  (is, all),
  ap (λ (t : List ℕ). char_text char ++ t) text
      ∙ sym (append_assoc (char_text char) (chars_text chars) (34 ∷ [])),
)

-- the form of a first byte
lead_form : (lead : Lead) (byte : ℕ) → HasLead lead byte → (part : List ℕ) → Fits (map class_of (lead_needs lead)) part
    → IsUnescaped (byte ∷ part)
lead_form leads.Two byte is part fits = (Form.two, (is, fits))
lead_form leads.ThreeFirst byte is part fits = (Form.three_first, ((omega arith, omega arith), fits))
lead_form leads.ThreeBefore byte is part fits = (Form.three_before, ((omega arith, omega arith), fits))
lead_form leads.Three byte is part fits = elim (around byte is.2) [
  | inl below ↦ (Form.three_lower, ((is.0, omega arith), fits))
  | inr above ↦ (Form.three_upper, ((omega arith, is.1), fits))
]
  where
    around : (n : ℕ) → (n ≡ 0xED → ⊥) → (n < 0xED) ⊎ (0xED < n)
    around n h = grind arith
lead_form leads.FourFirst byte is part fits = (Form.four_first, ((omega arith, omega arith), fits))
lead_form leads.Four byte is part fits = (Form.four, (is, fits))
lead_form leads.FourLast byte is part fits = (Form.four_last, ((omega arith, omega arith), fits))

plain_form : (byte : ℕ) → HasTextSign texts.Plain byte → IsUnescaped (byte ∷ [])
plain_form byte is = elim (where_is byte is.2 is.3) [
  | inl below ↦ (Form.low, ((is.0, omega arith), tt))
  | inr (inl between) ↦ (Form.middle, ((omega (arith, between.0), omega (arith, between.1)), tt))
  | inr (inr above) ↦ (Form.high, ((omega arith, is.1), tt))
]
  where
    where_is : (n : ℕ) → (n ≡ 34 → ⊥) → (n ≡ 92 → ⊥) → (n < 34) ⊎ ((34 < n) × (n < 92)) ⊎ (92 < n)
    where_is n a b = grind arith

plain_back : (sign : TextSign) (byte : ℕ) (rest : List ℕ) → HasTextSign sign byte
    → IsSomeAnd (after_text_sign sign) (λ next. Ends next rest) → EndsPlain (byte ∷ rest)
plain_back texts.Plain byte rest is h = char_more (unescaped (byte ∷ [])) rest (plain_form byte is) h
plain_back texts.Quote byte rest is h = ([], tt, rw (is, h) refl)
plain_back texts.Backslash byte rest is (part, tail, char, ok, text, split, ends) =
    subst EndsPlain (ap (λ (t : List ℕ). t ++ tail) text ∙ rw (is, split) refl) (char_more char tail ok ends)
plain_back (texts.Lead lead) byte rest is h =
    let (part, tail, fits, split, ends) = needing_ends (lead_needs lead) rest h in
    subst EndsPlain (ap (λ (t : List ℕ). byte ∷ t) (sym split))
    (char_more (unescaped (byte ∷ part)) tail (lead_form lead byte is part fits) ends)
plain_back texts.Refused byte rest is h = absurd h

escape_back : (sign : EscapeSign) (byte : ℕ) (rest : List ℕ) → HasEscapeSign sign byte
    → IsSomeAnd (after_escape_sign sign) (λ next. Ends next rest) → EndsChar (92 ∷ []) (byte ∷ rest)
escape_back escapes.Short byte rest is h = (byte ∷ [], rest, escaped byte, is, refl, refl, h)
escape_back escapes.Unicode byte rest is h =
    let (part, tail, fits, split, ends) = needing_ends hexadecimal_needs rest h in (
      byte ∷ part,
      tail,
      coded part,
      fits,
      ap (λ (b : ℕ). 92 ∷ b ∷ part) (sym is),
      ap (λ (t : List ℕ). byte ∷ t) split,
      ends,
    )
escape_back escapes.Refused byte rest is h = absurd h

need_back : (first : Need) (more : List Need) (byte : ℕ) (rest : List ℕ) (test : Bool)
    → (test ≡ true → IsOf (class_of first) byte)
    → IsSomeAnd (if test then Some (needing more) else None) (λ next. Ends next rest)
    → Ends (need first more) (byte ∷ rest)
need_back first more byte rest true is h =
    let (part, tail, fits, split, ends) = needing_ends more rest h in
    (byte ∷ part, tail, (is refl, fits), ap (λ (t : List ℕ). byte ∷ t) split, ends)
need_back first more byte rest false is h = absurd h

inner_back : (inner : Inner) (byte : ℕ) (rest : List ℕ) → IsSomeAnd (inner_step inner byte) (λ next. Ends next rest)
    → Ends inner (byte ∷ rest)
inner_back plain byte rest h = plain_back (text_sign byte) byte rest (has_text_sign byte) h
inner_back escape byte rest h = escape_back (escape_sign byte) byte rest (has_escape_sign byte) h
inner_back (need first more) byte rest h = need_back first more byte rest (takes first byte) (is_of first byte) h
inner_back closed byte rest h = absurd h

inner_ends : (inner : Inner) (rest : List ℕ) → run inner_step inner rest ≡ Some closed → Ends inner rest
inner_ends inner [] was = subst (λ (i : Inner). Ends i []) (sym (same_Some inner closed was)) refl
inner_ends inner (byte ∷ rest) was =
    inner_back inner byte rest
    (some_more (inner_step inner byte) (λ next. run inner_step next rest ≡ Some closed) (λ next. Ends next rest)
    (λ next on. inner_ends next rest on)
    (some_next (inner_step inner byte) (λ next. run inner_step next rest) closed was))

-- what is read to its closing mark is characters and the mark
pub quoted_only : (rest : List ℕ) → run inner_step plain rest ≡ Some closed
    → (chars : List Char) × AreChars chars × (rest ≡ chars_text chars ++ 34 ∷ [])
quoted_only rest was = inner_ends plain rest was
