-- The pairs of a drawing, or why it has none. Lines are taken two by two, as a group code and its value
-- (AutoCAD DXF reference, ASCII form).
use Rattle.std.specs.Prelude.{ℕ, ◌+◌, ◌≡◌, ℤ, pos, Bool, true, false, ◌&&◌, if◌then◌else◌, List, [], ◌∷◌, ◌++◌, length}
use Rattle.std.specs.Prelude.{nat_eq, Option, None, Some, Result, Ok, Err}
use Rattle.std.specs.List.{prefix_len, starts_with}
use Rattle.std.specs.Str.{bytes_eq}
use Rattle.std.specs.Ordering.{int_eq}
use Rattle.dxf_pairs.specs.declared.pairs.Pair.{Pair}
use Rattle.dxf_pairs.specs.declared.faults.PairFault.{PairFault}
use Rattle.dxf_pairs.specs.declared.faults.PairFault.TheVariants.{Binary, Code, Odd, NoEof, NoMemory}
use Rattle.dxf_pairs.specs.declared.pair_lists.TheConstants.{BINARY, LAST_VALUE}
use Rattle.dxf_pairs.specs.Lines.{Line, lines}
use Rattle.text_places.specs.Blanks.{is_blank_byte}
use Rattle.dxf_pairs.specs.Values.{value_of}
use Rattle.dxf_pairs.specs.Codes.{code_of}

-- the pair of a group code's line and the value's line after it
abbrev pub pair_of : ℤ → Line → Line → Pair
pair_of code first second =
    let value = second.start + prefix_len is_blank_byte second.text in
    record {
      code = code;
      start = first.start;
      value = value;
      value_end = value + length (value_of second.text);
      end =
          second.end;
      line = first.number;
    }

-- a group code and a value that end a drawing
abbrev pub ends_drawing : ℤ → List ℕ → Bool
ends_drawing code value = int_eq code (pos 0) && bytes_eq value LAST_VALUE.now

-- pairs that come before what is read after them
abbrev pub behind : List Pair → Result (List Pair) PairFault → Result (List Pair) PairFault
behind pairs (Ok more) = Ok (pairs ++ more)
behind pairs (Err fault) = Err fault

-- a pair, and what is read after it unless it is the last
abbrev pub first_pair : Pair → Bool → Result (List Pair) PairFault → Result (List Pair) PairFault
first_pair pair true rest = Ok (pair ∷ [])
first_pair pair false rest = behind (pair ∷ []) rest

-- the pair of two lines in front of what is read after them, where the first is a group code
abbrev pub of_two : Line → Line → Option ℤ → Result (List Pair) PairFault → Result (List Pair) PairFault
of_two first second None rest = Err (Code first.number)
of_two first second (Some code) rest = first_pair (pair_of code first second) (ends_drawing code (value_of second.text))
    rest

-- a line that is the last of the text, where a group code is due
abbrev pub of_one : Line → Option ℤ → Result (List Pair) PairFault
of_one line None = Err (Code line.number)
of_one line (Some code) = Err (Odd line.number)

-- the pairs of lines up to the end of the drawing, or the first fault
abbrev pub reading : List Line → Result (List Pair) PairFault
reading [] = Err NoEof
reading (first ∷ []) = of_one first (code_of first.text)
reading (first ∷ second ∷ lines) = of_two first second (code_of first.text) (reading lines)

-- the pairs of the bytes, or why they have none
abbrev pub drawing : List ℕ → Result (List Pair) PairFault
drawing bytes = if starts_with nat_eq bytes BINARY.now then Err Binary else reading (lines bytes)

-- the answer is this fault; memory may always run out
abbrev pub Stops : Result (List Pair) PairFault → PairFault → Type 0
Stops answer NoMemory = Unit {0}
Stops answer fault = answer ≡ Err fault
