-- Steps of reading pairs.
use Rattle.std.proofs.Common.{append_assoc, ◌≡◌, ◌+◌, length, arith, ℕ, ℤ, List, [], ◌∷◌, ◌++◌, refl, ap}
use Rattle.std.proofs.Common.{Some, Result, Ok, Err, Bool, false, sym}
use Rattle.dxf_pairs.specs.declared.pairs.Pair.{Pair}
use Rattle.dxf_pairs.specs.declared.faults.PairFault.{PairFault}
use Rattle.std.specs.List.{prefix_len, starts_with}
use Rattle.std.specs.Prelude.{nat_eq}
use Rattle.dxf_pairs.specs.declared.pair_lists.TheConstants.{BINARY}
use Rattle.dxf_pairs.specs.declared.line_ends.LineEnds.{LineEnds}
use Rattle.dxf_pairs.specs.Lines.{Line, lines, lines_from, line_at, between}
use Rattle.text_places.specs.Blanks.{is_blank_byte}
use Rattle.dxf_pairs.specs.Values.{value_of}
use Rattle.dxf_pairs.specs.Codes.{code_of}
use Rattle.dxf_pairs.specs.Pairs.{drawing, reading, pair_of, first_pair, ends_drawing, behind}

-- two lines, whose first one is a group code
two_read : (all lines rest : List Line) (first second : Line) (code : ℤ) → all ≡ first ∷ lines
    → lines ≡ second ∷ rest → code_of first.text ≡ Some code
    → reading all ≡ first_pair (pair_of code first second) (ends_drawing code (value_of second.text)) (reading rest)
two_read all lines rest first second code all_is lines_is has = grind arith

-- the pair of two lines of the bytes, by their places
pub pair_read : (bytes : List ℕ) (start line value value_end : ℕ) (first second : LineEnds) (code : ℤ)
    → first.start ≡ start → value ≡ second.start + prefix_len is_blank_byte (between second.start second.end bytes)
    → value_end ≡ value + length (value_of (between second.start second.end bytes))
    → between value value_end bytes ≡ value_of (between second.start second.end bytes)
    → lines_from bytes start line ≡ line_at bytes first line ∷ lines_from bytes first.past (line + 1)
    → lines_from bytes first.past (line + 1) ≡ line_at bytes second (line + 1)
    ∷ lines_from bytes second.past (line + 1 + 1)
    → code_of (between first.start first.end bytes) ≡ Some code → reading (lines_from bytes start line)
    ≡ first_pair (record {
      code = code;
      start = start;
      value = value;
      value_end = value_end;
      end = second.past;
      line = line;
    })
    (ends_drawing code (between value value_end bytes)) (reading (lines_from bytes second.past (line + 2)))
pair_read bytes start line value value_end first second code start_is value_is end_is text_is one two has =
    grind (arith, two_read)

-- one pair more is in front
behind-more : (pairs : List Pair) (pair : Pair) (rest : Result (List Pair) PairFault)
    → behind pairs (first_pair pair false rest) ≡ behind (pairs ++ pair ∷ []) rest
behind-more pairs pair (Ok more) = ap Ok (sym (append_assoc pairs (pair ∷ []) more))
behind-more pairs pair (Err fault) = refl

-- a pair that was read, and is not the last, is appended
pub go_on : (whole here : Result (List Pair) PairFault) (pairs now : List Pair) (pair : Pair) (last : Bool)
    (rest : Result (List Pair) PairFault)
    → whole ≡ behind pairs here → here ≡ first_pair pair last rest → false ≡ last → now ≡ pairs ++ pair ∷ []
    → whole ≡ behind now rest
go_on whole here pairs now pair last rest so_far first not_last more =
    rw (more, so_far, first, ← not_last) (behind-more pairs pair rest)

-- what is read of lines is read of a drawing that is not in the binary form
pub text_form : (bytes : List ℕ) (answer : Result (List Pair) PairFault) (binary : Bool)
    → binary ≡ starts_with nat_eq bytes BINARY.now → binary ≡ false
    → reading (lines bytes) ≡ answer → drawing bytes ≡ answer
text_form bytes answer binary is other read = rw (← is, other) read
