-- The nodes of the parts of a ring. Only private functions speak of them.
use Rattle.std.specs.Prelude.{◌≡◌, ℕ, zero, suc, ◌<◌, ◌≤◌, List, length, Option, None, Some, slice_index_or, pos}
use Rattle.plane_base.specs.declared.shapes.Pt.{Pt}
use Rattle.plane_base.specs.declared.shapes.Rect.{Rect}
use Rattle.plane_base.specs.Boxes.{HasPoint}
use Rattle.ring_side.specs.declared.kinds.Side.{Side}
use Rattle.ring_side.specs.declared.trees.RingPart.{RingPart}
use Rattle.ring_side.specs.Rings.{chain}
use Rattle.ring_side.specs.InsideSides.{side_by_all}
use Rattle.ring_side.specs.InsideParts.{HasAll, part_of, before_of}

abbrev pub no_box : Rect
no_box = record { x0 = pos 0; y0 = pos 0; x1 = pos 0; y1 = pos 0 }

-- the node of a place that has none
abbrev pub no_node : RingPart
no_node = record { around = no_box; first = 0; past = 0; base = 0 }

abbrev pub node_at : List RingPart → ℕ → RingPart
node_at nodes place = slice_index_or nodes place no_node

-- before which point of the ring the part of the node before a place ends
abbrev pub end_before : List RingPart → ℕ → ℕ
end_before nodes zero = 0
end_before nodes (suc place) = (node_at nodes place).past

-- a box with the points of a part, and the point before them
pub record IsAroundPart (around : Rect) (ring : List Pt) (first past : ℕ) : Type 0 where
  pub from : HasPoint around (before_of ring first)
  pub points : HasAll around (part_of ring first past)

-- a node at a place, of a part of the ring: those of its smaller parts are from `base` to before the place, and the
-- last of them ends where the part does
pub record IsNode (ring : List Pt) (nodes : List RingPart) (place : ℕ) (node : RingPart) : Type 0 where
  pub base : node.base ≤ place
  pub begins : end_before nodes node.base ≡ node.first
  pub some : node.first < node.past
  pub within : node.past ≤ length ring
  pub ends : node.base < place → end_before nodes place ≡ node.past
  pub around : IsAroundPart node.around ring node.first node.past

abbrev pub AreNodes : List Pt → List RingPart → Type 0
AreNodes ring nodes = (place : ℕ) → place < length nodes → IsNode ring nodes place (node_at nodes place)

-- nodes of a part that ends before this point
pub record AreNodesUpTo (ring : List Pt) (nodes : List RingPart) (past : ℕ) : Type 0 where
  pub each : AreNodes ring nodes
  pub ends : end_before nodes (length nodes) ≡ past

-- the nodes of the whole ring
abbrev pub AreNodesOf : List Pt → List RingPart → Type 0
AreNodesOf ring nodes = AreNodesUpTo ring nodes (length ring)

-- the side of the part of a node, where it is stated
abbrev pub IsSideOfPart : List Pt → RingPart → Pt → Option Side → Type 0
IsSideOfPart ring node p None = Unit {0}
IsSideOfPart ring node p (Some side) =
    side_by_all p (chain (before_of ring node.first) (part_of ring node.first node.past)) ≡ side
