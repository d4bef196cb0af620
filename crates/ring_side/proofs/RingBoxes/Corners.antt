-- The corners of boxes round groups are near the points of a ring.
use Rattle.std.proofs.Common.{◌≡◌, ℕ, zero, suc, ◌+◌, ◌-◌, ◌<◌, ◌≤◌, ℤ, pos, ◌+ℤ◌, ◌-ℤ◌, ◌<ℤ◌, ◌≤ℤ◌, List, length, map, get_or, arith, sym, subst}
use Rattle.std.specs.Prelude.{All, slice_index}
use Rattle.std.proofs.lemmas.Int.{ints}
use Rattle.plane_base.specs.declared.shapes.Pt.{Pt}
use Rattle.plane_base.specs.declared.shapes.Rect.{Rect}
use Rattle.plane_base.specs.declared.shapes.TheConstants.{SPAN}
use Rattle.plane_base.specs.Plane.{IsNear}
use Rattle.plane_base.specs.Boxes.{HasPoint, HasBox, IsOrdered}
use Rattle.plane_base.proofs.Bounds.BoxLemmas.{ordered_with}
use Rattle.sheet_base.specs.Sheets.{Contents}
use Rattle.sheet_base.specs.ImageFits.{Runs}
use Rattle.tin_base.specs.declared.frames.Frame.{Frame}
use Rattle.ring_side.specs.declared.kinds.Spot.{Spot}
use Rattle.ring_side.specs.declared.groups.Group.{Group}
use Rattle.ring_side.specs.Layers.{AreLayers}
use Rattle.ring_side.specs.Rings.{AreNearTo}
use Rattle.ring_side.specs.SideChanges.{spots_run, place_of, ring_of, sheet_at, path_at}
use Rattle.sheet_base.specs.Segments.{points_in}
use Rattle.ring_side.specs.InsideParts.{HasAll}
use Rattle.ring_side.specs.InsideGroups.{IsPath, IsSpot, IsGroup, IsAmong, AreAmong, AreBoxesOf, box_at, group_at, no_group}
use Rattle.ring_side.specs.InsideClear.{corner_of}
use Rattle.ring_side.specs.InsideOrders.{IsOrder}
use Rattle.ring_side.specs.InsideClusters.{IsLeastAround}
use Rattle.ring_side.proofs.ChangeLists.RingFacts.{near_place}
use Rattle.ring_side.proofs.PointSides.Nearness.{near_back}
use Rattle.ring_side.proofs.PointGroups.ClusterLemmas.{box_itself}

abbrev reach : ℤ
reach = SPAN -ℤ pos 1

-- what is near a point
abbrev near_box : Pt → Rect
near_box a = record { x0 = a.x -ℤ reach; y0 = a.y -ℤ reach; x1 = a.x +ℤ reach; y1 = a.y +ℤ reach }

low_by : (p a s : ℤ) → (a -ℤ p) <ℤ s → (a -ℤ (s -ℤ pos 1)) ≤ℤ p
low_by p a s h = omega (arith, ints)

high_by : (p a s : ℤ) → (p -ℤ a) <ℤ s → p ≤ℤ (a +ℤ (s -ℤ pos 1))
high_by p a s h = omega (arith, ints)

in_near : (p a : Pt) → IsNear p a → HasPoint (near_box a) p
in_near p a near = record {
  left = low_by p.x a.x SPAN near.1;
  right = high_by p.x a.x SPAN near.0;
  bottom = low_by p.y a.y SPAN near.3;
  top = high_by p.y a.y SPAN near.2;
}

by_low : (p a s : ℤ) → (a -ℤ (s -ℤ pos 1)) ≤ℤ p → (a -ℤ p) <ℤ s
by_low p a s h = omega (arith, ints)

by_high : (p a s : ℤ) → p ≤ℤ (a +ℤ (s -ℤ pos 1)) → (p -ℤ a) <ℤ s
by_high p a s h = omega (arith, ints)

of_near : (p a : Pt) → HasPoint (near_box a) p → IsNear p a
of_near p a has = (by_high p.x a.x SPAN has.right, by_low p.x a.x SPAN has.left, by_high p.y a.y SPAN has.top, by_low p.y a.y SPAN has.bottom)

-- ---- all places of a group
all_in_near : (sheets : List Contents) (images : List Runs) (frame : Frame) (a : Pt) (layer path vertex count : ℕ)
    → IsPath sheets layer path → vertex + count ≤ points_in (path_at (sheet_at sheets layer) path)
    → AreAmong sheets images frame (spots_run layer path vertex count)
    → ((spot : Spot) → IsSpot sheets spot → IsAmong sheets images frame spot → IsNear (place_of sheets images frame spot) a)
    → HasAll (near_box a) (map (place_of sheets images frame) (spots_run layer path vertex count))
all_in_near sheets images frame a layer path vertex zero is within are near = tt
all_in_near sheets images frame a layer path vertex (suc count) is within are near =
    let s : Spot = record { layer = layer; path = path; vertex = vertex } in (
      in_near (place_of sheets images frame s) a (near s (record { path = is; vertex = omega arith }) are.0),
      all_in_near sheets images frame a layer path (vertex + 1) count is (omega arith) are.1 near,
    )

box_in_near : (sheets : List Contents) (images : List Runs) (frame : Frame) (a : Pt) (groups : List Group) (boxes : List Rect) (k : ℕ)
    → All (λ (g : Group). IsGroup sheets g) groups → AreBoxesOf sheets images frame groups boxes
    → ((spot : Spot) → IsSpot sheets spot → IsAmong sheets images frame spot → IsNear (place_of sheets images frame spot) a)
    → k < length groups → HasBox (near_box a) (box_at boxes k)
box_in_near sheets images frame a groups boxes k each of_groups near within =
    let group : Group = group_at groups k in
    let is : IsGroup sheets group = each k no_group within in
    let some = is.some in let end = is.within in
    (of_groups.each k within).least (near_box a)
    (all_in_near sheets images frame a group.layer group.path group.first (group.past - group.first) is.path (omega arith)
    (of_groups.among k within) near)

-- ---- the corner of a box round groups
ordered_by_first : (place : Spot → Pt) (box : Rect) (layer path first count : ℕ) → 0 < count
    → HasAll box (map place (spots_run layer path first count)) → IsOrdered box
ordered_by_first place box layer path first zero some has = absurd (omega arith)
ordered_by_first place box layer path first (suc count) some has =
    ordered_with box (place (record { layer = layer; path = path; vertex = first })) has.0

box_ordered : (sheets : List Contents) (images : List Runs) (frame : Frame) (groups : List Group) (boxes : List Rect) (k : ℕ)
    → All (λ (g : Group). IsGroup sheets g) groups → AreBoxesOf sheets images frame groups boxes → k < length groups
    → IsOrdered (box_at boxes k)
box_ordered sheets images frame groups boxes k each of_groups within =
    let group : Group = group_at groups k in
    let is : IsGroup sheets group = each k no_group within in
    let some = is.some in
    ordered_by_first (place_of sheets images frame) (box_at boxes k) group.layer group.path group.first (group.past - group.first)
    (omega arith) (of_groups.each k within).has

four : (a b c d e : ℤ) → a ≤ℤ b → b ≤ℤ c → c ≤ℤ d → d ≤ℤ e → a ≤ℤ e
four a b c d e h i j k = omega (arith, ints)

corner_in_outer : (outer box inner : Rect) → HasBox outer box → HasBox box inner → IsOrdered inner → HasPoint outer (corner_of box)
corner_in_outer outer box inner h k is = record {
  left = h.left;
  right = four box.x0 inner.x0 inner.x1 box.x1 outer.x1 k.left is.0 k.right h.right;
  bottom = h.bottom;
  top = four box.y0 inner.y0 inner.y1 box.y1 outer.y1 k.bottom is.1 k.top h.top;
}

pub group_corner_near : (sheets : List Contents) (images : List Runs) (frame : Frame) (layer path : ℕ) (groups : List Group)
    (boxes : List Rect) (k : ℕ) (points : List Pt) → AreLayers sheets images → IsPath sheets layer path
    → points ≡ ring_of sheets images frame layer path → All (λ (g : Group). IsGroup sheets g) groups
    → AreBoxesOf sheets images frame groups boxes → k < length groups → AreNearTo points (corner_of (box_at boxes k))
group_corner_near sheets images frame layer path groups boxes k points layers is e each of_groups within =
    let box : Rect = box_at boxes k in
    subst (λ (ps : List Pt). AreNearTo ps (corner_of box)) (sym e)
    (λ (i : ℕ) (d : Pt) (inside : i < length (ring_of sheets images frame layer path)).
    let a : Pt = get_or (ring_of sheets images frame layer path) i d in
    near_back (corner_of box) a (of_near (corner_of box) a
    (corner_in_outer (near_box a) box box
    (box_in_near sheets images frame a groups boxes k each of_groups
    (λ (spot : Spot) (at : IsSpot sheets spot) (among : IsAmong sheets images frame spot).
    near_back a (place_of sheets images frame spot) (near_place sheets images frame layer path spot layers is at among i d inside))
    within)
    (box_itself box) (box_ordered sheets images frame groups boxes k each of_groups within))))

pub corner_near : (sheets : List Contents) (images : List Runs) (frame : Frame) (layer path : ℕ) (groups : List Group)
    (order : List ℕ) (boxes : List Rect) (first past : ℕ) (box : Rect) (points : List Pt) → AreLayers sheets images
    → IsPath sheets layer path → points ≡ ring_of sheets images frame layer path → All (λ (g : Group). IsGroup sheets g) groups
    → AreBoxesOf sheets images frame groups boxes → IsOrder (length groups) order
    → first < past → past ≤ length order → IsLeastAround box order boxes first past → AreNearTo points (corner_of box)
corner_near sheets images frame layer path groups order boxes first past box points layers is e each of_groups in_order some within around =
    subst (λ (ps : List Pt). AreNearTo ps (corner_of box)) (sym e)
    (λ (i : ℕ) (d : Pt) (inside : i < length (ring_of sheets images frame layer path)).
    let a : Pt = get_or (ring_of sheets images frame layer path) i d in
    let number : (k : ℕ) → k < length order → slice_index order k < length groups = λ k h. in_order.each k 0 h in
    near_back (corner_of box) a (of_near (corner_of box) a
    (corner_in_outer (near_box a) box (box_at boxes (slice_index order first))
    (around.least (near_box a) (λ (k : ℕ) (low : first ≤ k) (high : k < past).
    box_in_near sheets images frame a groups boxes (slice_index order k) each of_groups
    (λ (spot : Spot) (at : IsSpot sheets spot) (among : IsAmong sheets images frame spot).
    near_back a (place_of sheets images frame spot) (near_place sheets images frame layer path spot layers is at among i d inside))
    (number k (omega arith))))
    (around.has first (omega arith) some)
    (box_ordered sheets images frame groups boxes (slice_index order first) each of_groups (number first (omega arith))))))
