-- The passes over one number, one text and one word. Only private functions speak of them.
use Rattle.std.specs.Prelude.{◌≡◌, ℕ, ◌≤◌, ◌<◌, Bool, true, false, ◌&&◌, ◌||◌, ◌==◌, nat_le, if◌then◌else◌, List, []}
use Rattle.std.specs.Prelude.{◌∷◌, length, slice_range, slice_index, Option, Some, None, Result, Ok, Err}
use Rattle.text_places.specs.Machine.{run}
use Rattle.jtext.specs.InsideSigns.{byte_sign}
use Rattle.jtext.specs.declared.signs.Sign.{Sign}
use Rattle.jtext.specs.declared.signs.Sign.TheVariants as signs
use Rattle.jtext.specs.declared.number.NumberPlace.{NumberPlace}
use Rattle.jtext.specs.declared.number.NumberPlace.TheVariants as numbers
use Rattle.jtext.specs.declared.text.TextSign.{TextSign}
use Rattle.jtext.specs.declared.text.TextSign.TheVariants as texts
use Rattle.jtext.specs.declared.text.Lead.{Lead}
use Rattle.jtext.specs.declared.text.Lead.TheVariants as leads
use Rattle.jtext.specs.declared.text.EscapeSign.{EscapeSign}
use Rattle.jtext.specs.declared.text.EscapeSign.TheVariants as escapes
use Rattle.jtext.specs.declared.text.Need.{Need}
use Rattle.jtext.specs.declared.text.Need.TheVariants as needs

-- Numbers.

abbrev pub number_after : NumberPlace → Sign → Option NumberPlace
number_after numbers.Minus signs.Zero = Some numbers.Zero
number_after numbers.Minus signs.Digit = Some numbers.Whole
number_after numbers.Zero signs.Point = Some numbers.Point
number_after numbers.Zero signs.Mark = Some numbers.Mark
number_after numbers.Whole signs.Zero = Some numbers.Whole
number_after numbers.Whole signs.Digit = Some numbers.Whole
number_after numbers.Whole signs.Point = Some numbers.Point
number_after numbers.Whole signs.Mark = Some numbers.Mark
number_after numbers.Point signs.Zero = Some numbers.Fraction
number_after numbers.Point signs.Digit = Some numbers.Fraction
number_after numbers.Fraction signs.Zero = Some numbers.Fraction
number_after numbers.Fraction signs.Digit = Some numbers.Fraction
number_after numbers.Fraction signs.Mark = Some numbers.Mark
number_after numbers.Mark signs.Plus = Some numbers.MarkSign
number_after numbers.Mark signs.Minus = Some numbers.MarkSign
number_after numbers.Mark signs.Zero = Some numbers.Exponent
number_after numbers.Mark signs.Digit = Some numbers.Exponent
number_after numbers.MarkSign signs.Zero = Some numbers.Exponent
number_after numbers.MarkSign signs.Digit = Some numbers.Exponent
number_after numbers.Exponent signs.Zero = Some numbers.Exponent
number_after numbers.Exponent signs.Digit = Some numbers.Exponent
number_after place sign = None

abbrev pub number_step : NumberPlace → ℕ → Option NumberPlace
number_step place byte = number_after place (byte_sign byte)

abbrev pub is_last_place : NumberPlace → Bool
is_last_place numbers.Zero = true
is_last_place numbers.Whole = true
is_last_place numbers.Fraction = true
is_last_place numbers.Exponent = true
is_last_place place = false

-- any number of digits may follow
abbrev pub IsDigits : NumberPlace → Type 0
IsDigits numbers.Whole = Unit {0}
IsDigits numbers.Fraction = Unit {0}
IsDigits numbers.Exponent = Unit {0}
IsDigits place = ⊥

-- Texts.

abbrev pub text_sign : ℕ → TextSign
text_sign byte =
    if byte == 34 then texts.Quote
    else if byte == 92 then texts.Backslash
    else if nat_le 0x20 byte && nat_le byte 0x7F then texts.Plain
    else if nat_le 0xC2 byte && nat_le byte 0xDF then texts.Lead leads.Two
    else if byte == 0xE0 then texts.Lead leads.ThreeFirst
    else if byte == 0xED then texts.Lead leads.ThreeBefore
    else if nat_le 0xE1 byte && nat_le byte 0xEF then texts.Lead leads.Three
    else if byte == 0xF0 then texts.Lead leads.FourFirst
    else if nat_le 0xF1 byte && nat_le byte 0xF3 then texts.Lead leads.Four
    else if byte == 0xF4 then texts.Lead leads.FourLast
    else texts.Refused

abbrev pub escape_sign : ℕ → EscapeSign
escape_sign byte =
    if byte == 34 || byte == 92 || byte == 47 || byte == 98 || byte == 102 || byte == 110 || byte == 114 || byte == 116
    then escapes.Short
    else if byte == 117 then escapes.Unicode
    else escapes.Refused

abbrev pub takes : Need → ℕ → Bool
takes needs.Tail byte = nat_le 0x80 byte && nat_le byte 0xBF
takes needs.TailFromA0 byte = nat_le 0xA0 byte && nat_le byte 0xBF
takes needs.TailTo9F byte = nat_le 0x80 byte && nat_le byte 0x9F
takes needs.TailFrom90 byte = nat_le 0x90 byte && nat_le byte 0xBF
takes needs.TailTo8F byte = nat_le 0x80 byte && nat_le byte 0x8F
takes needs.Hexadecimal byte = (nat_le 48 byte && nat_le byte 57) || (nat_le 65 byte && nat_le byte 70) ||
    (nat_le 97 byte && nat_le byte 102)

abbrev pub lead_needs : Lead → List Need
lead_needs leads.Two = needs.Tail ∷ []
lead_needs leads.ThreeFirst = needs.TailFromA0 ∷ needs.Tail ∷ []
lead_needs leads.Three = needs.Tail ∷ needs.Tail ∷ []
lead_needs leads.ThreeBefore = needs.TailTo9F ∷ needs.Tail ∷ []
lead_needs leads.FourFirst = needs.TailFrom90 ∷ needs.Tail ∷ needs.Tail ∷ []
lead_needs leads.Four = needs.Tail ∷ needs.Tail ∷ needs.Tail ∷ []
lead_needs leads.FourLast = needs.TailTo8F ∷ needs.Tail ∷ needs.Tail ∷ []

abbrev pub hexadecimal_needs : List Need
hexadecimal_needs = needs.Hexadecimal ∷ needs.Hexadecimal ∷ needs.Hexadecimal ∷ needs.Hexadecimal ∷ []

-- between characters, after a reverse solidus, within a character whose bytes have to be so, and after
-- the text
pub data Inner : Type 0 where
  plain : Inner
  escape : Inner
  need : Need → List Need → Inner
  closed : Inner

abbrev pub needing : List Need → Inner
needing [] = plain
needing (first ∷ more) = need first more

abbrev pub after_text_sign : TextSign → Option Inner
after_text_sign texts.Plain = Some plain
after_text_sign texts.Quote = Some closed
after_text_sign texts.Backslash = Some escape
after_text_sign (texts.Lead lead) = Some (needing (lead_needs lead))
after_text_sign texts.Refused = None

abbrev pub after_escape_sign : EscapeSign → Option Inner
after_escape_sign escapes.Short = Some plain
after_escape_sign escapes.Unicode = Some (needing hexadecimal_needs)
after_escape_sign escapes.Refused = None

abbrev pub inner_step : Inner → ℕ → Option Inner
inner_step plain byte = after_text_sign (text_sign byte)
inner_step escape byte = after_escape_sign (escape_sign byte)
inner_step (need first more) byte = if takes first byte then Some (needing more) else None
inner_step closed byte = None

abbrev pub is_closed : Inner → Bool
is_closed closed = true
is_closed inner = false

-- From this place on the pass leads to a place; or it goes wrong at one, before the end of the text.
abbrev pub GoesWrong : Inner → List ℕ → ℕ → ℕ → Type 0
GoesWrong first bytes from at = (from ≤ at) × (at ≤ length bytes) × (inner : Inner)
    × (run inner_step first (slice_range bytes from at) ≡ Some inner)
    × (is_closed inner ≡ false) × (at < length bytes → inner_step inner (slice_index bytes at) ≡ None)

abbrev pub GoesOn : Inner → Inner → List ℕ → ℕ → ℕ → Type 0
GoesOn first last bytes from at = (from ≤ at) × (at ≤ length bytes)
    × (run inner_step first (slice_range bytes from at) ≡ Some last)

abbrev pub TextEnds : Inner → Inner → List ℕ → ℕ → Result ℕ ℕ → Type 0
TextEnds first last bytes from (Ok at) = GoesOn first last bytes from at
TextEnds first last bytes from (Err at) = GoesWrong first bytes from at

abbrev pub NeedsEnd : List ℕ → ℕ → List Need → Result ℕ ℕ → Type 0
NeedsEnd bytes from needs result = TextEnds (needing needs) plain bytes from result

-- Words.

abbrev pub word_step : List ℕ → ℕ → Option (List ℕ)
word_step [] byte = None
word_step (first ∷ more) byte = if byte == first then Some more else None

abbrev pub is_done : List ℕ → Bool
is_done [] = true
is_done (first ∷ more) = false

-- Where the word ends, or the first place that is not as the word wants.
abbrev pub WordEnds : List ℕ → List ℕ → ℕ → Result ℕ ℕ → Type 0
WordEnds word bytes from (Ok at) = (from ≤ at) × (at ≤ length bytes)
    × (run word_step word (slice_range bytes from at) ≡ Some [])
WordEnds word bytes from (Err at) = (from ≤ at) × (at ≤ length bytes) × (rest : List ℕ)
    × (run word_step word (slice_range bytes from at) ≡ Some rest)
    × (is_done rest ≡ false) × (at < length bytes → word_step rest (slice_index bytes at) ≡ None)
