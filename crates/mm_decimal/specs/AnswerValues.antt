-- The answer to a text, as a function: what is above reads texts by it. What the answer is, Answers.antt says by
-- the grammar of numerals, and the law `measured_is_the_answer` that it is this one. How the value of a text is found
-- is private.
use Rattle.std.specs.Prelude.{ℕ, ◌*◌, ◌%◌, ◌==◌, ◌||◌, nat_lt, if◌then◌else◌, List, length, Result, Ok, Err}
use Rattle.std.specs.Prelude.{unsigned_abs}
use Rattle.mm_decimal.specs.Numerals.{Value}
use Rattle.mm_decimal.specs.Millimetres.{numerator, denominator, mm_of}
use Rattle.mm_decimal.specs.InsideScans.{text_value}
use Rattle.mm_decimal.specs.declared.limits.TheConstants.{HIGHEST, LIMIT, LONGEST}
use Rattle.mm_decimal.specs.declared.numerals.MmRead.{MmRead}
use Rattle.mm_decimal.specs.declared.numerals.NumFault.{NumFault}
use Rattle.mm_decimal.specs.declared.numerals.NumFault.TheVariants.{Form, Long, Range}

-- the answer to a numeral of this value
abbrev pub in_millimetres : Value → Result MmRead NumFault
in_millimetres v =
    if nat_lt HIGHEST v.power || nat_lt LIMIT (unsigned_abs (mm_of v)) then Err Range
    else Ok (record { mm = mm_of v; exact = ((1000 * numerator v) % denominator v) == 0 })

-- the answer to a numeral of this value, or to a text that is no numeral and has its first fault at this place
abbrev pub answer_to : Result Value ℕ → Result MmRead NumFault
answer_to (Ok value) = in_millimetres value
answer_to (Err at) = Err (Form at)

unfoldable pub millimetres_of : List ℕ → Result MmRead NumFault
millimetres_of text = if nat_lt LONGEST (length text) then Err Long else answer_to (text_value text)
