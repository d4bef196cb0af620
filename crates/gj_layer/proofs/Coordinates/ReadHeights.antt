-- The height of a position that is read is within reach.
use Rattle.std.proofs.Common.{◌≡◌, ℕ, ◌≤◌, Bool, subst, refl, arith}
use Rattle.std.specs.Prelude.{unsigned_abs, Option, None, Result, Ok, Err}
use Rattle.jtext.specs.Values.{Json, Elements, numeral, array, no_element, element}
use Rattle.jtext.specs.Nodes.{inner_place, element_start}
use Rattle.mm_decimal.specs.AnswerValues.{millimetres_of}
use Rattle.mm_decimal.specs.declared.limits.TheConstants.{LIMIT}
use Rattle.mm_decimal.specs.declared.numerals.MmRead.{MmRead}
use Rattle.mm_decimal.specs.declared.numerals.NumFault.{NumFault}
use Rattle.mm_decimal.proofs.MeasuredAnswers.{read_within}
use Rattle.sheet_base.specs.PointHeights.{IsHeightWithinReach}
use Rattle.sheet_base.specs.declared.faults.LayerFault.{LayerFault}
use Rattle.gj_layer.specs.declared.positions.PositionRead.{PositionRead}
use Rattle.gj_layer.specs.Positions.{accepted_read, number, some_height, position_from, with_height, array_position}
use Rattle.gj_layer.specs.Positions.{position, height_from, height_of}

accepted_is : (exact : Bool) (start : ℕ) (answer : Result MmRead NumFault) (read : MmRead)
    → accepted_read exact start answer ≡ Ok read → answer ≡ Ok read
accepted_is exact start (Ok other) read is = grind arith
accepted_is exact start (Err fault) read is = cc

number_reach : (exact : Bool) (start : ℕ) (value : Json) (read : MmRead) → number exact start value ≡ Ok read
    → unsigned_abs read.mm ≤ LIMIT
number_reach exact start (numeral text) read is =
    read_within text read (accepted_is exact start (millimetres_of text) read is)
number_reach exact start _ read is = cc

height_reach : (exact : Bool) (start : ℕ) (value : Json) (r : Result MmRead LayerFault) → number exact start value ≡ r
    → (z : Option MmRead) → some_height r ≡ Ok z → IsHeightWithinReach (height_from z)
height_reach exact start value (Ok read) read_is z is = grind (arith, number_reach)
height_reach exact start value (Err fault) read_is z is = cc

none_reach : (z : Option MmRead) → (let height : Result (Option MmRead) LayerFault = Ok None in height) ≡ Ok z
    → IsHeightWithinReach (height_from z)
none_reach z is =
    let same : None ≡ z = cc in subst (λ (o : Option MmRead). IsHeightWithinReach (height_from o)) same tt

from_reach : (start end : ℕ) (x y : Result MmRead LayerFault) (z : Result (Option MmRead) LayerFault)
    (one : PositionRead) → ((height : Option MmRead) → z ≡ Ok height → IsHeightWithinReach (height_from height))
    → position_from start end x y z ≡ Ok one → IsHeightWithinReach (height_of one)
from_reach start end (Ok x) (Ok y) (Ok z) one within is = grind arith
from_reach start end x y z one within is = cc

with_reach : (exact : Bool) (place : ℕ) (elements : Elements) (start end : ℕ) (x y : Result MmRead LayerFault)
    (one : PositionRead) → with_height exact place elements (position_from start end x y) ≡ Ok one
    → IsHeightWithinReach (height_of one)
with_reach exact place no_element start end x y one is = from_reach start end x y (Ok None) one none_reach is
with_reach exact place (element before z after no_element) start end x y one is =
    let at = element_start place before in
    from_reach start end x y (some_height (number exact at z)) one
    (height_reach exact at z (number exact at z) refl) is
with_reach exact place (element before z after (element blank fourth more rest)) start end x y one is = cc

array_reach : (exact : Bool) (start end place : ℕ) (elements : Elements) (one : PositionRead)
    → array_position exact start end place elements ≡ Ok one → IsHeightWithinReach (height_of one)
array_reach exact start end place (element before x behind (element ahead y after rest)) one is =
    with_reach exact _ rest start end (number exact _ x) (number exact _ y) one is
array_reach exact start end place elements one is = cc

pub position_reach : (exact : Bool) (start : ℕ) (value : Json) (one : PositionRead)
    → position exact start value ≡ Ok one
    → IsHeightWithinReach (height_of one)
position_reach exact start (array blank elements) one is =
    array_reach exact start _ (inner_place start blank) elements one is
position_reach exact start _ one is = cc
