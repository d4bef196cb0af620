-- Triangles whose boxes are apart fit together; and the boxes of all triangles are near each other.
use Rattle.std.proofs.Common.{below_more, ◌≡◌, inl, ℕ, ◌<◌, ◌≤◌, pos, ◌<ℤ◌, true, List, [], ◌∷◌, ◌++◌}
use Rattle.std.proofs.Common.{◌+◌, length, get_or, map, refl, sym, ap, ◌∙◌, subst, arith}
use Rattle.std.proofs.lemmas.List.{get_or_default, get_or_append_left, get_or_push, length_push}
use Rattle.plain_laws.proofs.Order.{one_of_three}
use lib.Signed.{lt_z_yes}
use Rattle.plane_base.specs.declared.shapes.Pt.{Pt}
use Rattle.plane_base.specs.declared.shapes.Tri.{Tri}
use Rattle.plane_base.specs.declared.shapes.Rect.{Rect}
use Rattle.plane_base.specs.Plane.{whole, corners_of}
use Rattle.plane_base.specs.Boxes.{IsOrdered, AreApart, box_of_triangle}
use Rattle.cell_grid.specs.Boxes.{AreOrdered, IsWithinSpan, AreWithinSpan, box_at, no_box}
use Rattle.tin_base.specs.declared.frames.Frame.{Frame}
use Rattle.tin_base.specs.Triangulation.{Triangulation, numbers_of}
use Rattle.tin_base.specs.Soundness.{has, DoFit}
use Rattle.tin_base.specs.Limits.{IsWithinLimits}
use Rattle.tin_base.proofs.TriangleLemmas.TestAnswers.{yes}
use Rattle.tin_check.specs.CommonPoints.{MeetOnlyIn}
use Rattle.tin_check.specs.Marks.{points_of, marked_of, IsAmong, AreNearTris}
use Rattle.tin_check.specs.TriangleBoxes.{IsBoxIn, AreBoxesIn}
use Rattle.tin_check.proofs.TriangleTests.CornerShifts.{marked_among}
use Rattle.tin_check.proofs.CallerLemmas.CornerMarks.{same_marked, told, all_near}
use Rattle.plane_base.proofs.Bounds.BoxLemmas.{none_in_both, least_is_one, greatest_is_one}
use Rattle.tin_check.proofs.PairFits.InBoxes.{triangle_in, corner_in, box_ordered}

one : pos 0 <ℤ pos 1
one = lt_z_yes tt

-- ---- triangles whose boxes are apart
-- no corner is common to both
none_marked : (ms : List Pt) (r s : Tri) (p q : Rect) → p ≡ box_of_triangle r → q ≡ box_of_triangle s → AreApart p q
    → ((c : Pt) → IsAmong ms c → IsAmong (points_of r) c × IsAmong (points_of s) c) → length ms ≤ 2
none_marked [] r s p q hp hq apart both = omega arith
none_marked (c ∷ ms) r s p q hp hq apart both =
    let h = both c (inl refl) in
    absurd (none_in_both p q apart (whole c) one (corner_in r p hp c h.0) (corner_in s q hq c h.1))

pub apart_fit : (tin : Triangulation) (frame : Frame) (t u : ℕ) (p q : Rect) → IsBoxIn tin frame t p
    → IsBoxIn tin frame u q → AreApart p q → DoFit tin frame t u
apart_fit tin frame t u p q hp hq apart =
    (told tin frame t u r s true hp.corners hq.corners (yes (none_marked ms r s p q hp.is hq.is apart both, none_met))).0 refl
  where
    r : Tri
    r = hp.tri

    s : Tri
    s = hq.tri

    ms : List Pt
    ms = marked_of (map (has (numbers_of tin u)) (numbers_of tin t)) (points_of r)

    both : (c : Pt) → IsAmong ms c → IsAmong (points_of r) c × IsAmong (points_of s) c
    both c h = (
      marked_among (map (has (numbers_of tin u)) (numbers_of tin t)) (points_of r) c h,
      marked_among (map (has (numbers_of tin t)) (numbers_of tin u)) (points_of s) c
          ((same_marked tin frame (numbers_of tin t) (numbers_of tin u) (points_of r) (points_of s) hp.corners hq.corners c).0 h),
    )

    none_met : MeetOnlyIn (corners_of r) (corners_of s) (map whole ms)
    none_met x hx in_r in_s = absurd (none_in_both p q apart x hx (triangle_in r p hp.is x hx in_r)
        (triangle_in s q hq.is x hx in_s))

-- ---- the boxes of all triangles are near each other
span_of : (r s : Tri) → AreNearTris r s → IsWithinSpan (box_of_triangle r) (box_of_triangle s)
span_of r s near = grind (arith, one_of_three, greatest_is_one, least_is_one)

pub boxes_ordered : (tin : Triangulation) (frame : Frame) (boxes : List Rect)
    → AreBoxesIn tin frame (length tin.triangles) boxes → AreOrdered boxes
boxes_ordered tin frame boxes are i d within =
    subst IsOrdered (get_or_default boxes i no_box d within) (let is =
    are.each i (omega (arith, are.count)) in box_ordered is.tri (box_at boxes i) is.is)

pub boxes_span : (tin : Triangulation) (frame : Frame) (boxes : List Rect) → IsWithinLimits tin
    → AreBoxesIn tin frame (length tin.triangles) boxes → AreWithinSpan boxes
boxes_span tin frame boxes limits are i d hi j e hj =
    subst (λ p. IsWithinSpan p (get_or boxes j e)) (get_or_default boxes i no_box d hi)
    (subst (λ q. IsWithinSpan (box_at boxes i) q) (get_or_default boxes j no_box e hj)
    (let p = are.each i (omega (arith, are.count)) in
    let q = are.each j (omega (arith, are.count)) in
    subst (λ (b : Rect). IsWithinSpan b (box_at boxes j)) (sym p.is)
    (subst (λ (b : Rect). IsWithinSpan (box_of_triangle p.tri) b) (sym q.is) (span_of p.tri q.tri
    (all_near tin frame i j p.tri q.tri limits (omega (arith, are.count)) (omega (arith, are.count)) p.corners q.corners)))))

-- ---- while boxes are put after each other
pub more_boxes : (tin : Triangulation) (frame : Frame) (n : ℕ) (boxes later : List Rect) (box : Rect)
    → AreBoxesIn tin frame n boxes → IsBoxIn tin frame n box → later ≡ boxes ++ box ∷ []
    → AreBoxesIn tin frame (n + 1) later
more_boxes tin frame n boxes later box are is e = record {
  count = ap length e ∙ length_push boxes box ∙ ap (λ n. n + 1) are.count;
  each = λ t ht. subst (λ (bs : List Rect). IsBoxIn tin frame t (box_at bs t)) (sym e)
      (below_more (λ k. IsBoxIn tin frame k (box_at (boxes ++ box ∷ []) k)) n earlier last t ht);
}
  where
    earlier : (t : ℕ) → t < n → IsBoxIn tin frame t (box_at (boxes ++ box ∷ []) t)
    earlier t ht = subst (λ (b : Rect). IsBoxIn tin frame t b)
        (sym (get_or_append_left boxes (box ∷ []) no_box t (omega (arith, are.count)))) (are.each t ht)

    last : IsBoxIn tin frame n (box_at (boxes ++ box ∷ []) n)
    last = subst (λ (b : Rect). IsBoxIn tin frame n b) (sym (get_or_push boxes box no_box n are.count)) is

pub all_boxes : (tin : Triangulation) (frame : Frame) (n : ℕ) (boxes : List Rect) → n ≡ length tin.triangles
    → AreBoxesIn tin frame n boxes → AreBoxesIn tin frame (length tin.triangles) boxes
all_boxes tin frame n boxes e are = subst (λ (m : ℕ). AreBoxesIn tin frame m boxes) e are
