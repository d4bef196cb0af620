-- The least box of some points, and of one more.
use Rattle.std.proofs.Common.{◌≡◌, ◌+◌, ◌<◌, ℕ, List, [], ◌∷◌, ◌++◌, ap, get_or, length, map, refl, take}
use Rattle.plane_base.specs.declared.shapes.Pt.{Pt}
use Rattle.plane_base.specs.declared.shapes.Rect.{Rect}
use Rattle.plane_base.specs.Boxes.{HasBox, HasPoint, box_with_point}
use Rattle.plane_base.specs.Plane.{Point, whole}
use Rattle.plane_base.proofs.Bounds.BoxLemmas.{outer_has, widened_has, widened_least}
use Rattle.std.proofs.lemmas.List.{map-append, take_more}
use Rattle.tin_base.specs.declared.corners.Corner.{Corner}
use Rattle.tin_base.specs.declared.frames.Frame.{Frame}
use Rattle.tin_base.specs.Triangulation.{place}
use Rattle.run_notes.specs.InsideStrays.{HasEach, IsLeastBox, spot_in}

-- the point at the place of a corner
same-spot : (p : Pt) (frame : Frame) (corner : Corner) → whole p ≡ place frame corner → p ≡ spot_in frame corner
same-spot p frame corner is = ap as_pt is
  where
    as_pt : Point → Pt
    as_pt q = record { x = q.x; y = q.y }

-- a box that has each of the points, widened by one more
each-push : (points : List Pt) (p : Pt) (box : Rect) → HasEach box points → HasEach (box_with_point box p) (points ++ p ∷ [])
each-push [] p box each = ((widened_has box p).0, tt)
each-push (q ∷ points) p box each =
    (outer_has (box_with_point box p) box q (widened_has box p).1 each.0, each-push points p box each.1)

-- a box that has each of the points and one more
before-last : (points : List Pt) (p : Pt) (box : Rect) → HasEach box (points ++ p ∷ [])
    → HasEach box points × HasPoint box p
before-last [] p box each = (tt, each.0)
before-last (q ∷ points) p box each = let rest = before-last points p box each.1 in ((each.0, rest.0), rest.1)

-- the least box of points and one more
least-push : (points : List Pt) (p : Pt) (box : Rect) → IsLeastBox points box
    → IsLeastBox (points ++ p ∷ []) (box_with_point box p)
least-push points p box is = record {
  has = each-push points p box is.has;
  least = λ (other : Rect) each. widest other (before-last points p other each);
}
  where
    widest : (other : Rect) → HasEach other points × HasPoint other p → HasBox other (box_with_point box p)
    widest other each = widened_least other box p (is.least other each.0) each.1

-- the least box of corners and of the next one
pub least-more : (frame : Frame) (first : Corner) (rest : List Corner) (i : ℕ) (d : Corner) (p : Pt)
    (found wider : Rect) → IsLeastBox (map (spot_in frame) (first ∷ take i rest)) found → i < length rest
    → whole p ≡ place frame (get_or rest i d) → wider ≡ box_with_point found p
    → IsLeastBox (map (spot_in frame) (first ∷ take (i + 1) rest)) wider
least-more frame first rest i d p found wider least within stands is =
    let spots : List Pt = map (spot_in frame) (first ∷ take i rest) in
    let more : map (spot_in frame) (first ∷ take (i + 1) rest) ≡ spots ++ p ∷ [] = rw (
      take_more rest i d within,
      map-append (spot_in frame) (take i rest) (get_or rest i d ∷ []),
      same-spot p frame (get_or rest i d) stands,
    ) refl in
    rw (more, is) (least-push spots p found least)
