-- A triangle is in its box.
use Rattle.std.proofs.Common.{◌≡◌, inl, inr, ℕ, pos, ◌<ℤ◌, List, sym, subst}
use Rattle.plane_base.specs.declared.shapes.Pt.{Pt}
use Rattle.plane_base.specs.declared.shapes.Tri.{Tri}
use Rattle.plane_base.specs.declared.shapes.Rect.{Rect}
use Rattle.plane_base.specs.Plane.{Point, IsMix, whole, corners_of}
use Rattle.plane_base.specs.Boxes.{IsIn, AreIn, IsOrdered, box_of_triangle}
use Rattle.plane_base.proofs.Bounds.BoxLemmas.{inside_in, whole_in, triangle_has, triangle_ordered}
use Rattle.tin_base.specs.declared.frames.Frame.{Frame}
use Rattle.tin_base.specs.Triangulation.{Triangulation, numbers_of, places}
use Rattle.tin_check.specs.TriangleBoxes.{IsBoxIn}
use Rattle.tin_check.specs.Marks.{points_of, IsAmong}

-- a point of a triangle is in its box
pub triangle_in : (t : Tri) (box : Rect) → box ≡ box_of_triangle t → (r : Point) → pos 0 <ℤ r.w → IsMix r (corners_of t)
    → IsIn box r
triangle_in t box is r hr mix = subst (λ (b : Rect). IsIn b r) (sym is) (inside_in t r hr mix)

-- so are its corners
all_in : (t : Tri) (box : Rect) → box ≡ box_of_triangle t → AreIn box (corners_of t)
all_in t box is = subst (λ (b : Rect). AreIn b (corners_of t)) (sym is)
    (let has = triangle_has t in let b = box_of_triangle t in
    (whole_in b t.a has.first, (whole_in b t.b has.second, (whole_in b t.c has.third, tt))))

pub corner_in : (t : Tri) (box : Rect) → box ≡ box_of_triangle t → (p : Pt) → IsAmong (points_of t) p
    → IsIn box (whole p)
corner_in t box is p (inl h) = let i = all_in t box is in subst (λ (q : Pt). IsIn box (whole q)) (sym h) i.0
corner_in t box is p (inr (inl h)) = let i = all_in t box is in subst (λ (q : Pt). IsIn box (whole q)) (sym h) i.1.0
corner_in t box is p (inr (inr (inl h))) =
    let i = all_in t box is in subst (λ (q : Pt). IsIn box (whole q)) (sym h) i.1.1.0
corner_in t box is p (inr (inr (inr h))) = absurd h

pub box_ordered : (t : Tri) (box : Rect) → box ≡ box_of_triangle t → IsOrdered box
box_ordered t box is = subst IsOrdered (sym is) (triangle_ordered t)

-- of a triangle of a triangulation
pub places_in : (tin : Triangulation) (frame : Frame) (t : ℕ) (box : Rect) → IsBoxIn tin frame t box
    → AreIn box (places tin frame (numbers_of tin t))
places_in tin frame t box is = subst (λ (ps : List Point). AreIn box ps) is.corners (all_in is.tri box is.is)
