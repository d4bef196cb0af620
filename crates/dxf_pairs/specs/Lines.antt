-- The lines of a text, each with its place.
use Rattle.std.specs.Prelude.{ℕ, ◌+◌, ◌-◌, ◌==◌, List, [], ◌∷◌, length, take, drop}
use Rattle.std.specs.List.{slice_split}
use Rattle.std.proofs.Common.{min}
use Rattle.dxf_pairs.specs.declared.line_ends.TheConstants.{LINE_FEED}
use Rattle.dxf_pairs.specs.declared.line_ends.LineEnds.{LineEnds}

-- the part after the last line feed is a line unless it is empty
abbrev pub last_line : List ℕ → List (List ℕ)
last_line [] = []
last_line (byte ∷ line) = (byte ∷ line) ∷ []

-- of the parts between line feeds all are lines but an empty last one
abbrev pub without_empty_last : List (List ℕ) → List (List ℕ)
without_empty_last [] = []
without_empty_last (line ∷ []) = last_line line
without_empty_last (line ∷ next ∷ lines) = line ∷ without_empty_last (next ∷ lines)

-- the lines of a text, without their line feeds; after a line feed at the end there is no further line
abbrev pub lines_of : List ℕ → List (List ℕ)
lines_of text = without_empty_last (slice_split (λ byte. byte == LINE_FEED) text)

-- a line: its bytes without the line feed, its number, where it starts, and the place past its line feed, or else the
-- end of the bytes
pub record Line : Type 0 where
  pub text : List ℕ
  pub number : ℕ
  pub start : ℕ
  pub end : ℕ

-- the lines with their places in this many bytes, where the first has this place and number
abbrev pub lines_of_texts : ℕ → ℕ → ℕ → List (List ℕ) → List Line
lines_of_texts size start number [] = []
lines_of_texts size start number (text ∷ texts) =
    let end = min (start + length text + 1) size in
    record { text = text; number = number; start = start; end = end } ∷ lines_of_texts size end (number + 1) texts

-- the lines of the bytes from a place on, where a line of this number starts
abbrev pub lines_from : List ℕ → ℕ → ℕ → List Line
lines_from bytes start number = lines_of_texts (length bytes) start number (lines_of (drop start bytes))

-- the lines of the bytes
abbrev pub lines : List ℕ → List Line
lines bytes = lines_of_texts (length bytes) 0 1 (lines_of bytes)

-- the bytes from one place to before another
abbrev pub between : ℕ → ℕ → List ℕ → List ℕ
between start end bytes = take (end - start) (drop start bytes)

-- the line of these places in the bytes
abbrev pub line_at : List ℕ → LineEnds → ℕ → Line
line_at bytes ends number = record {
  text = between ends.start ends.end bytes;
  number = number;
  start =
      ends.start;
  end = ends.past;
}
