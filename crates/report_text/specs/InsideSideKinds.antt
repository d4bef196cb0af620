-- What the lines of sides of rings are read as. Only private functions speak of it.
use Rattle.std.specs.Prelude.{ℕ, ◌==◌, Bool, ◌||◌, not, if◌then◌else◌, List, [], length, codes, Option, None, Some}
use Rattle.ring_side.specs.declared.kinds.Side.{Side}
use Rattle.ring_side.specs.declared.kinds.Side.TheVariants.{Inside, Border, Outside}
use Rattle.ring_side.specs.declared.kinds.Way.{Way}
use Rattle.ring_side.specs.declared.kinds.Way.TheVariants.{Positive, Negative, Zero}
use Rattle.ring_side.specs.declared.kinds.Spot.{Spot}
use Rattle.ring_side.specs.declared.kinds.SideChange.{SideChange}
use Rattle.ring_side.specs.declared.kinds.SideChange.TheVariants.{Turn, Point}
use Rattle.report_text.specs.declared.side_kinds.RingPlace.{RingPlace}
use Rattle.text_fields.specs.Fields.{◌>>=◌, after_word, long_field, short_field}
use Rattle.report_text.specs.InsideLineKinds.{found_or, as_kind}

-- the line of the number of changes of sides
unfoldable pub side_count_of : List ℕ → Option ℕ
side_count_of line = do
  count ← long_field (codes "sides ") line
  if length count.1 == 0 then Some count.0 else None

-- a ring at the start of a text
unfoldable pub ring_front : List ℕ → Option (RingPlace × List ℕ)
ring_front text = do
  layer ← short_field [] text
  path ← short_field (codes "/") layer.1
  Some (record { layer = layer.0; path = path.0 }, path.1)

-- a point at the start of a text
unfoldable pub spot_front : List ℕ → Option (Spot × List ℕ)
spot_front text = do
  layer ← short_field [] text
  path ← short_field (codes "/") layer.1
  vertex ← short_field (codes "/") path.1
  Some (record { layer = layer.0; path = path.0; vertex = vertex.0 }, vertex.1)

-- a direction's word after a space
unfoldable pub way_front : List ℕ → Option (Way × List ℕ)
way_front text =
    found_or (as_kind Positive (after_word (codes " positive") text))
    (found_or (as_kind Negative (after_word (codes " negative") text)) (as_kind Zero (after_word (codes " zero") text)))

-- a side's word after a space
unfoldable pub side_front : List ℕ → Option (Side × List ℕ)
side_front text =
    found_or (as_kind Inside (after_word (codes " inside") text))
    (found_or (as_kind Border (after_word (codes " border") text))
    (as_kind Outside (after_word (codes " outside") text)))

abbrev pub number_of_way : Way → ℕ
number_of_way Positive = 0
number_of_way Negative = 1
number_of_way Zero = 2

abbrev pub number_of_side : Side → ℕ
number_of_side Inside = 0
number_of_side Border = 1
number_of_side Outside = 2

-- the line of a ring that has another direction
unfoldable pub turn_of : List ℕ → Option SideChange
turn_of line = do
  front ← after_word (codes "turn ") line
  ring ← ring_front front
  was ← way_front ring.1
  now ← way_front was.1
  if (number_of_way was.0 == number_of_way now.0) || not (length now.1 == 0) then None else Some
      (Turn ring.0.layer ring.0.path was.0 now.0)

-- the line of a point that is on another side of a ring
unfoldable pub point_of : List ℕ → Option SideChange
point_of line = do
  front ← after_word (codes "side ") line
  ring ← ring_front front
  between ← after_word (codes " ") ring.1
  at ← spot_front between
  was ← side_front at.1
  now ← side_front was.1
  if (number_of_side was.0 == number_of_side now.0) || not (length now.1 == 0) then None else Some
      (Point ring.0.layer ring.0.path at.0 was.0 now.0)

-- the line of a change of a side or a direction
abbrev pub side_change_of : List ℕ → Option SideChange
side_change_of line = found_or (turn_of line) (point_of line)
