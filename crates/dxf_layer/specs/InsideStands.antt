-- Where the code is in its walk over a drawing, and how much is read along it. Only private functions speak of it.
use Rattle.std.specs.Prelude.{◌≡◌, ℕ, ◌+◌, List, length, drop, None, Result, Ok, Err, ⊤}
use Rattle.std.specs.List.{prefix_len}
use Rattle.sheet_base.specs.declared.faults.LayerFault.{LayerFault}
use Rattle.sheet_base.specs.Sheets.{Contents}
use Rattle.dxf_pairs.specs.declared.pairs.Pair.{Pair}
use Rattle.dxf_layer.specs.declared.walks.EntityPlace.{EntityPlace as Held}
use Rattle.dxf_layer.specs.declared.walks.EntityPlace.TheVariants as held
use Rattle.dxf_entities.specs.Entities.{is_no_head}
use Rattle.dxf_entities.specs.DrawingContents.{HoldsAtMost, RefusesBy}
use Rattle.dxf_layer.specs.InsideWalks.{WalkPlace, free, staying, reading, Step}
use Rattle.dxf_entities.specs.Polylines.{own_shape}
use Rattle.dxf_entities.specs.Shapes.{with_shape, with_shapes}

-- the vertices so far of a polyline that is read come after what was read before it, without their path
abbrev pub with_pending : Contents → WalkPlace → Contents
with_pending before free = before
with_pending before staying = before
with_pending before (reading kind vertices) = with_shape before (own_shape None vertices)

abbrev pub Shows : Held → WalkPlace → ℕ → Type 0
Shows held.Free free first = ⊤
Shows held.Staying staying first = ⊤
Shows (held.Reading kind begin) (reading other vertices) first = (kind ≡ other) × (begin ≡ first)
Shows place spot first = ⊥

-- the code is at this place of the walk, after what was read before
pub record Stands (place : Held) (now before : Contents) (spot : WalkPlace) : Type 0 where
  pub held : now ≡ with_pending before spot
  pub shows : Shows place spot (length before.points)

-- The code goes where the walk goes, or answers its fault.
abbrev pub GoesTo : Result Step LayerFault → Contents → Held → Contents → Type 0
GoesTo (Ok here) before next now = Stands next now (with_shapes before here.shapes) here.next
GoesTo (Err fault) before next now = ⊥

abbrev pub Goes : Result Step LayerFault → Contents → Result Held LayerFault → Contents → Type 0
Goes wanted before (Ok next) now = GoesTo wanted before next now
Goes wanted before (Err fault) now = RefusesBy wanted fault

-- the room for what is read of the pairs before the next head
abbrev pub room_before : List Pair → ℕ
room_before pairs = prefix_len is_no_head pairs

-- what is read at the first of the pairs has room beside the pairs up to the next head
abbrev pub GrowsAlong : List Pair → Contents → Contents → Type 0
GrowsAlong pairs before now = (count : ℕ) → HoldsAtMost (count + room_before pairs) before
    → HoldsAtMost ((count + 2) + room_before (drop 1 pairs)) now
