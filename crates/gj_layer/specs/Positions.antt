-- Positions (RFC 7946, section 3.1.1), in whole millimetres.
use Rattle.std.specs.Prelude.{ℕ, ◌+◌, Bool, not, ◌&&◌, List, [], ◌∷◌, length, Option, Some, None, Result, Ok, Err}
use Rattle.std.specs.Prelude.{if◌then◌else◌}
use Rattle.jtext.specs.Values.{Json, Elements, numeral, array, no_element, element, spelling}
use Rattle.jtext.specs.Nodes.{inner_place, element_start, next_place}
use Rattle.mm_decimal.specs.AnswerValues.{millimetres_of}
use Rattle.mm_decimal.specs.Answers.{loss_of}
use Rattle.mm_decimal.specs.declared.numerals.MmRead.{MmRead}
use Rattle.mm_decimal.specs.declared.numerals.NumFault.{NumFault}
use Rattle.plane_base.specs.declared.shapes.Pt.{Pt}
use Rattle.sheet_base.specs.declared.faults.LayerFault.{LayerFault}
use Rattle.sheet_base.specs.declared.faults.LayerFault.TheVariants as faults
use Rattle.sheet_base.specs.PointHeights.{Height, Position}
use Rattle.gj_layer.specs.declared.positions.PositionRead.{PositionRead}
use Rattle.sheet_base.specs.Faults.{and_then}

-- a number text that is read and, where that is asked for, loses no digits
abbrev pub accepted_read : Bool → ℕ → Result MmRead NumFault → Result MmRead LayerFault
accepted_read exact start (Ok read) = if exact && not read.exact then Err (faults.Inexact start) else Ok read
accepted_read exact start (Err fault) = Err (faults.Number start fault)

abbrev pub number : Bool → ℕ → Json → Result MmRead LayerFault
number exact start (numeral text) = accepted_read exact start (millimetres_of text)
number exact start value = Err (faults.Shape start)

-- a number that is a height
abbrev pub some_height : Result MmRead LayerFault → Result (Option MmRead) LayerFault
some_height (Ok z) = Ok (Some z)
some_height (Err fault) = Err fault

-- the first fault of two numbers and a height, or the position that is between these places
abbrev pub position_from : ℕ → ℕ → Result MmRead LayerFault → Result MmRead LayerFault
    → Result (Option MmRead) LayerFault → Result PositionRead LayerFault
position_from start end (Ok x) (Ok y) (Ok z) = Ok (record { x = x; y = y; z = z; start = start; end = end })
position_from start end (Err fault) y z = Err fault
position_from start end (Ok x) (Err fault) z = Err fault
position_from start end (Ok x) (Ok y) (Err fault) = Err fault

-- two numbers with what comes after them: nothing, or a third element, which is the height; a fourth one is refused
-- before all of them
abbrev pub with_height : Bool → ℕ → Elements → (Result (Option MmRead) LayerFault → Result PositionRead LayerFault)
    → Result PositionRead LayerFault
with_height exact place no_element numbers = numbers (Ok None)
with_height exact place (element before z after no_element) numbers =
    numbers (some_height (number exact (element_start place before) z))
with_height exact place (element before z after (element blank fourth more rest)) numbers =
    Err (faults.Height (element_start (next_place (element_start place before) z after) blank))

-- the first two elements are numbers
abbrev pub array_position : Bool → ℕ → ℕ → ℕ → Elements → Result PositionRead LayerFault
array_position exact start end place (element before x behind (element ahead y after rest)) =
    let x_start = element_start place before in
    let y_start = element_start (next_place x_start x behind) ahead in
    with_height exact (next_place y_start y after) rest
    (position_from start end (number exact x_start x) (number exact y_start y))
array_position exact start end place elements = Err (faults.Shape start)

abbrev pub position : Bool → ℕ → Json → Result PositionRead LayerFault
position exact start (array blank elements) =
    array_position exact start (start + length (spelling (array blank elements))) (inner_place start blank) elements
position exact start value = Err (faults.Shape start)

-- one more in front of the others
abbrev pub in_front : PositionRead → List PositionRead → Result (List PositionRead) LayerFault
in_front one others = Ok (one ∷ others)

-- the elements whose text begins at this place are positions
abbrev pub positions : Bool → ℕ → Elements → Result (List PositionRead) LayerFault
positions exact place no_element = Ok []
positions exact place (element before value after rest) =
    let start = element_start place before in
    and_then (λ one. and_then (in_front one) (positions exact (next_place start value after) rest))
    (position exact start value)

abbrev pub point_of : PositionRead → Pt
point_of position = record { x = position.x.mm; y = position.y.mm }

-- the height of a third number, where there is one
abbrev pub height_from : Option MmRead → Height
height_from None = None
height_from (Some z) = Some z.mm

abbrev pub height_of : PositionRead → Height
height_of position = height_from position.z

-- the point with its height
abbrev pub position_of : PositionRead → Position
position_of position = record { point = point_of position; height = height_of position }

abbrev pub lost_height : Option MmRead → ℕ
lost_height None = 0
lost_height (Some z) = loss_of z

abbrev pub lost_of : PositionRead → ℕ
lost_of position = loss_of position.x + loss_of position.y + lost_height position.z
