-- A list of points with heights: lines of three numbers, with blanks between, before and after, or of blanks alone.
-- Places are those of the whole text, in bytes from 0.
use Rattle.std.specs.Prelude.{◌≡◌, ℕ, ◌+◌, ◌==◌, ◌&&◌, ◌||◌, not, Bool, List, [], ◌∷◌, ◌++◌, length, map, take, drop}
use Rattle.std.specs.Prelude.{slice_index, nat_le, sum_by, Result, Ok, Err, if◌then◌else◌}
use Rattle.std.specs.List.{list_all, prefix_len, slice_split}
use Rattle.std.specs.Char.{is_ascii_alphabetic, is_ascii_digit}
use Rattle.mm_decimal.specs.AnswerValues.{millimetres_of}
use Rattle.mm_decimal.specs.Answers.{loss_of}
use Rattle.mm_decimal.specs.declared.numerals.MmRead.{MmRead}
use Rattle.mm_decimal.specs.declared.numerals.NumFault.{NumFault}
use Rattle.sheet_base.specs.declared.flags.How.{How}
use Rattle.sheet_base.specs.declared.faults.LayerFault.{LayerFault}
use Rattle.sheet_base.specs.declared.faults.LayerFault.TheVariants.{Bad, Number, Inexact, NoMemory}
use Rattle.text_places.specs.Blanks.{is_blank_byte}
use Rattle.tin_height.specs.declared.points.Numeral.{Numeral}
use Rattle.tin_height.specs.declared.points.LineRow.{LineRow}
use Rattle.tin_height.specs.declared.points.Points.{Points}

-- a digit, +, -, ., e or E
abbrev pub is_numeric : ℕ → Bool
is_numeric byte = is_ascii_digit byte || byte == 43 || byte == 45 || byte == 46 || byte == 101 || byte == 69

-- how many bytes at the front are a number: the longest run of its bytes, which begins with no letter
abbrev pub number_length : List ℕ → ℕ
number_length [] = 0
number_length (byte ∷ text) = if is_ascii_alphabetic byte then 0 else prefix_len is_numeric (byte ∷ text)

-- the first place from here on whose byte is no blank
abbrev pub past_blanks : List ℕ → ℕ → ℕ
past_blanks bytes from = from + prefix_len is_blank_byte (drop from bytes)

-- what follows on a value, or its fault
abbrev pub then_read : {A B : Type 0} → (A → Result B LayerFault) → Result A LayerFault → Result B LayerFault
then_read f (Ok value) = f value
then_read f (Err fault) = Err fault

abbrev pub numeral_or_fault : How → ℕ → ℕ → Result MmRead NumFault → Result Numeral LayerFault
numeral_or_fault how at end (Ok read) =
    if how.exact && not read.exact then Err (Inexact at)
    else Ok (record { mm = read.mm; inexact = loss_of read; end = end })
numeral_or_fault how at end (Err fault) = Err (Number at fault)

-- the number that begins at this place
abbrev pub number_at : How → List ℕ → ℕ → Result Numeral LayerFault
number_at how bytes from =
    if number_length (drop from bytes) == 0 then Err (Bad from)
    else numeral_or_fault how from (from + number_length (drop from bytes))
    (millimetres_of (take (number_length (drop from bytes)) (drop from bytes)))

-- the next number after blanks
abbrev pub next_number : How → List ℕ → ℕ → Result Numeral LayerFault
next_number how bytes from = number_at how bytes (past_blanks bytes from)

-- a line feed
abbrev pub is_feed : ℕ → Bool
is_feed byte = byte == 10

-- a line ends at this place
abbrev pub is_line_end : List ℕ → ℕ → Bool
is_line_end bytes place = nat_le (length bytes) place || is_feed (slice_index bytes place)

-- the line ends after blanks
abbrev pub line_end : List ℕ → ℕ → Result ℕ LayerFault
line_end bytes from =
    if is_line_end bytes (past_blanks bytes from) then Ok (past_blanks bytes from) else Err (Bad (past_blanks bytes from))

abbrev pub line_row : ℕ → Numeral → Numeral → Numeral → ℕ → LineRow
line_row from x y z end = record {
  row = record { p = record { x = x.mm; y = y.mm }; z = z.mm; start = from; end = z.end };
  inexact = x.inexact + y.inexact + z.inexact;
  line_end = end;
}

-- the row that begins at this place: three numbers, and then the line's end
abbrev pub row_at : How → List ℕ → ℕ → Result LineRow LayerFault
row_at how bytes from =
    then_read (λ x. then_read (λ y. then_read (λ z. then_read (λ end. Ok (line_row from x y z end))
    (line_end bytes z.end)) (next_number how bytes y.end)) (next_number how bytes x.end)) (number_at how bytes from)

-- the lines of a text: what is between its line feeds
abbrev pub text_lines : List ℕ → List (List ℕ)
text_lines text = slice_split is_feed text

-- rows in front of those of later lines; or the first fault of both
abbrev pub joined_rows : Result (List LineRow) LayerFault → Result (List LineRow) LayerFault
    → Result (List LineRow) LayerFault
joined_rows (Ok rows) (Ok later) = Ok (rows ++ later)
joined_rows (Ok rows) (Err fault) = Err fault
joined_rows (Err fault) later = Err fault

-- the row of the line that begins at this place, after blanks; none where the line is blank
abbrev pub line_rows : How → List ℕ → ℕ → List ℕ → Result (List LineRow) LayerFault
line_rows how bytes at line =
    if list_all is_blank_byte line then Ok []
    else then_read (λ row. Ok (row ∷ [])) (row_at how bytes (past_blanks bytes at))

-- the rows of lines, each after the line feed of the one before, where the first line begins at this place
abbrev pub rows_of : How → List ℕ → ℕ → List (List ℕ) → Result (List LineRow) LayerFault
rows_of how bytes at [] = Ok []
rows_of how bytes at (line ∷ lines) =
    joined_rows (line_rows how bytes at line) (rows_of how bytes (at + length line + 1) lines)

-- the rows of all lines
abbrev pub reading : How → List ℕ → Result (List LineRow) LayerFault
reading how bytes = rows_of how bytes 0 (text_lines bytes)

-- the points of these rows, or the same fault; memory may run out
abbrev pub ArePointsOf : Result Points LayerFault → Result (List LineRow) LayerFault → Type 0
ArePointsOf (Ok points) (Ok lines) =
    (points.rows ≡ map (λ (line : LineRow). line.row) lines)
    × (points.inexact ≡ sum_by (λ (line : LineRow). line.inexact) lines)
ArePointsOf (Ok points) (Err fault) = ⊥
ArePointsOf (Err NoMemory) wanted = Unit {0}
ArePointsOf (Err fault) wanted = wanted ≡ Err fault

-- what is read of a list: the points of all lines, in order, and how many of their numbers lost digits
abbrev pub points_in : Result (List LineRow) LayerFault → Result Points LayerFault
points_in (Ok lines) = Ok (record {
  rows = map (λ (line : LineRow). line.row) lines;
  inexact = sum_by (λ (line : LineRow). line.inexact) lines;
})
points_in (Err fault) = Err fault

abbrev pub points_read : How → List ℕ → Result Points LayerFault
points_read how bytes = points_in (reading how bytes)
