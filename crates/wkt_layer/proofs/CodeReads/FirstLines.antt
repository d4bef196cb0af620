-- The first line of a text.
use Rattle.std.proofs.Common.{◌≡◌, ◌+◌, ℕ, List, [], ◌∷◌, length, take, drop, arith}
use Rattle.memchr.specs.Find.{is_byte, Nowhere, NoneBefore, Passes}
use Rattle.wkt_layer.specs.declared.limits.TheConstants.{LINE_FEED}
use Rattle.text_places.proofs.LineParts.{part_alone, part_before}
use Rattle.wkt_layer.specs.Layers.{geometry_lines}

-- a text without a line feed is one line
pub one_line : (text : List ℕ) → Nowhere (Passes (is_byte LINE_FEED) text) 0 (length text)
    → geometry_lines text ≡ text ∷ []
one_line text nowhere = part_alone LINE_FEED text (λ k within. nowhere k (omega arith) within)

-- the first line ends before the first line feed
pub line_before : (text : List ℕ) (end : ℕ) → NoneBefore (Passes (is_byte LINE_FEED) text) 0 (length text) end
    → Passes (is_byte LINE_FEED) text end
    → geometry_lines text ≡ take end text ∷ geometry_lines (drop (end + 1) text)
line_before text end first here = part_before LINE_FEED text end first.high (λ k. first.before k (omega arith)) here
