-- The boxes of pieces: each is in its own, and pieces whose boxes are apart have no common point.
use Rattle.std.proofs.Common.{◌≡◌, ℕ, ◌<◌, ℤ, pos, ◌<ℤ◌, List, [], ◌∷◌, length, get_or, refl, sym, ap, subst}
use Rattle.std.proofs.Common.{arith}
use Rattle.std.specs.Prelude.{All}
use Rattle.std.specs.List.{AllByRecursion}
use Rattle.plane_base.specs.Boxes.{IsIn, IsOrdered, AreApart, HasBox, box_of_segment, box_of_triangle, common_of}
use Rattle.plane_base.specs.Plane.{Point, whole, corners_of}
use Rattle.plane_base.specs.declared.shapes.Pt.{Pt}
use Rattle.plane_base.specs.declared.shapes.Rect.{Rect}
use Rattle.plane_base.specs.declared.shapes.Tri.{Tri}
use Rattle.plane_base.proofs.Bounds.BoxLemmas.{lesser_greatest, greater_least, least_greatest, greatest_least, segment_ordered}
use Rattle.plane_base.proofs.Bounds.BoxLemmas.{between_in, inside_in, common_within, common_has, ordered_by, none_in_both}
use Rattle.tin_base.specs.declared.pieces.Piece.{Piece}
use Rattle.tin_base.specs.declared.relations.Rel.TheVariants.{Apart}
use Rattle.tin_base.specs.declared.frames.Frame.{Frame}
use Rattle.tin_base.specs.declared.frames.Frame.TheVariants.{Source}
use Rattle.tin_base.specs.Triangulation.{Triangulation, corner_at, place, places, numbers_of}
use Rattle.tin_base.specs.Triangulation.{x_in, y_in}
use Rattle.tin_base.specs.Limits.{IsWithinLimits}
use Rattle.tin_base.specs.Segments.{Part}
use Rattle.tin_base.specs.Relations.{IsBetween}
use Rattle.tin_base.specs.Pieces.{IsPieceOf, IsPieceInside, first_point, last_point}
use Rattle.meet_rel.proofs.PieceClips.{range_of}
use Rattle.meet_rel.proofs.ClipEnds.{piece_ends}
use Rattle.meet_rel.proofs.Scale.{mix_first}
use Rattle.topo_check.specs.Changes.{HadRelation, HasRelation}
use Rattle.topo_check.specs.InsideBoxes.{IsAround, EachCorner, IsAmongCorners, IsExactBox, rounded_box_of}
use Rattle.plain_laws.proofs.Order.{up_trans}

-- ---- pieces whose boxes are apart are apart
pub far_had : (tin : Triangulation) (p q : Piece) (r s : Rect) → IsExactBox tin p r → IsExactBox tin q s → AreApart r s
    → HadRelation tin Apart p q
far_had tin p q r s i j apart part other h k = λ point common.
    none_in_both r s apart point common.positive (i.encloses part h point common.positive common.first)
    (j.encloses other k point common.positive common.second)

pub far_has : (p q : Piece) → AreApart (rounded_box_of p) (rounded_box_of q) → HasRelation Apart p q
far_has p q apart = λ point common.
    none_in_both (rounded_box_of p) (rounded_box_of q) apart point common.positive
    (between_in p.ia p.ib point common.positive common.first)
    (between_in q.ia q.ib point common.positive common.second)

-- ---- boxes of corners
abbrev IsCorner : Triangulation → Frame → Pt → Type 0
IsCorner tin frame p = (n : ℕ) × (n < length tin.corners) × (whole p ≡ place frame (corner_at tin n))

-- the points of a triangle are corners
pub are_corners : (tin : Triangulation) (frame : Frame) (t : Tri) (ns : List ℕ) → length ns ≡ 3
    → All (λ n. n < length tin.corners) ns
    → corners_of t ≡ places tin frame ns → AllByRecursion (IsCorner tin frame) (t.a ∷ t.b ∷ t.c ∷ [])
are_corners tin frame t [] three h e = absurd (omega (arith, three))
are_corners tin frame t (i ∷ []) three h e = absurd (omega (arith, three))
are_corners tin frame t (i ∷ j ∷ []) three h e = absurd (omega (arith, three))
are_corners tin frame t (i ∷ j ∷ k ∷ m ∷ ns) three h e = absurd (omega (arith, three))
are_corners tin frame t (i ∷ j ∷ k ∷ []) three h e = (
  (i, h 0 0 (omega arith), ap (λ ps. get_or ps 0 (whole t.a)) e),
  (
    (j, h 1 0 (omega arith), ap (λ ps. get_or ps 1 (whole t.a)) e),
    ((k, h 2 0 (omega arith), ap (λ ps. get_or ps 2 (whole t.a)) e), tt),
  ),
)

-- what each corner keeps to, points that are corners keep to
keep_to : (tin : Triangulation) (frame : Frame) (Q : Pt → Type 0) (ps : List Pt)
    → ((p : Pt) → IsCorner tin frame p → Q p)
    → AllByRecursion (IsCorner tin frame) ps → AllByRecursion Q ps
keep_to tin frame Q [] each h = tt
keep_to tin frame Q (p ∷ ps) each h = (each p h.0, keep_to tin frame Q ps each h.1)

x_of : (tin : Triangulation) (frame : Frame) (P : ℤ → Type 0) → EachCorner tin (λ corner. P (x_in frame corner))
    → (p : Pt) → IsCorner tin frame p → P p.x
x_of tin frame P each p is = subst (λ (z : ℤ). P z) (sym (ap (λ (q : Point). q.x) is.2)) (each is.0 is.1)

y_of : (tin : Triangulation) (frame : Frame) (P : ℤ → Type 0) → EachCorner tin (λ corner. P (y_in frame corner))
    → (p : Pt) → IsCorner tin frame p → P p.y
y_of tin frame P each p is = subst (λ (z : ℤ). P z) (sym (ap (λ (q : Point). q.y) is.2)) (each is.0 is.1)

-- a box round corners is among them
pub among_corners : (tin : Triangulation) (frame : Frame) (ps : List Pt) (box : Rect)
    → AllByRecursion (IsCorner tin frame) ps → IsAround ps box → IsAmongCorners tin frame box
among_corners tin frame ps box are h = grind (arith, x_of, y_of, keep_to)

pub among_within : (tin : Triangulation) (frame : Frame) (outer inner : Rect) → HasBox outer inner
    → IsAmongCorners tin frame outer → IsAmongCorners tin frame inner
among_within tin frame outer inner w h = record {
  left = λ m each. up_trans m outer.x0 inner.x0 (h.left m each) w.left;
  bottom = λ m each. up_trans m outer.y0 inner.y0 (h.bottom m each) w.bottom;
  right = λ m each. up_trans inner.x1 outer.x1 m w.right (h.right m each);
  top = λ m each. up_trans inner.y1 outer.y1 m w.top (h.top m each);
}

pub around_triangle : (t : Tri) → IsAround (t.a ∷ t.b ∷ t.c ∷ []) (box_of_triangle t)
around_triangle t = grind (arith, least_greatest, greatest_least)

-- ---- the box of an exact piece
-- what the boxes of the segment and of the triangle have in common
pub exact_boxed : (tin : Triangulation) (piece : Piece) (t : Tri) → IsPieceInside tin piece → IsWithinLimits tin
    → corners_of t ≡ places tin Source (numbers_of tin piece.tri)
    → IsExactBox tin piece (common_of (box_of_segment piece.a piece.b) (box_of_triangle t))
exact_boxed tin piece t inside limits is =
    let part = inside.is_piece.0 in
    let of = inside.is_piece.1 in
    let first = (piece_ends tin piece (record { a = piece.a; b = piece.b; tri = t }) part
    (record { a_is = refl; b_is = refl; tri_is = is }) of).first_positive in record {
      ordered = ordered_by box (first_point piece part) first
          (points part of (first_point piece part) first (mix_first (first_point piece part) (last_point piece part)));
      encloses = points;
      among = among_within tin Source (box_of_triangle t) box
          (common_within (box_of_segment piece.a piece.b) (box_of_triangle t)).1
          (among_corners tin Source (t.a ∷ t.b ∷ t.c ∷ []) (box_of_triangle t)
          (are_corners tin Source t (numbers_of tin piece.tri) (limits.three piece.tri (range_of tin piece inside))
          (limits.in_range piece.tri (range_of tin piece inside)) is) (around_triangle t));
    }
  where
    box : Rect
    box = common_of (box_of_segment piece.a piece.b) (box_of_triangle t)

    points : (part : Part) → IsPieceOf tin piece part → (r : Point) → pos 0 <ℤ r.w
        → IsBetween (first_point piece part) (last_point piece part) r
        → IsIn (common_of (box_of_segment piece.a piece.b) (box_of_triangle t)) r
    points part of r hr between =
        let it = (piece_ends tin piece (record { a = piece.a; b = piece.b; tri = t }) part
        (record { a_is = refl; b_is = refl; tri_is = is }) of).forth r hr between in
        common_has (box_of_segment piece.a piece.b) (box_of_triangle t) r (between_in piece.a piece.b r hr it.between)
        (inside_in t r hr it.inside)

-- ---- the box of a rounded segment
pub record IsRoundImages (p : Piece) (box : Rect) : Type 0 where
  pub ordered : IsOrdered box
  pub around : IsAround (p.ia ∷ p.ib ∷ []) box

pub rounded_boxed : (piece : Piece) → IsRoundImages piece (rounded_box_of piece)
rounded_boxed piece = grind (arith, segment_ordered, lesser_greatest, greater_least)
