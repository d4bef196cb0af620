-- Two triangles with one corner in common fit together where turns at it show that they have no other common point.
use Rattle.std.proofs.Common.{◌≡◌, inl, inr, ℕ, ◌<◌, pos, ◌<ℤ◌, Bool, true, false, List, [], ◌∷◌, length, map, get_or}
use Rattle.std.proofs.Common.{Option, Some, refl, sym, ◌∙◌, ap, subst, arith}
use Rattle.std.specs.Prelude.{All, IfSome}
use Rattle.plane_base.specs.Plane.{Point, whole, corners_of}
use Rattle.plane_base.specs.declared.shapes.Pt.{Pt}
use Rattle.plane_base.specs.declared.shapes.Tri.{Tri}
use Rattle.tin_base.specs.declared.frames.Frame.{Frame}
use Rattle.tin_base.specs.Triangulation.{Triangulation, numbers_of, places}
use Rattle.tin_base.specs.Soundness.{turn_in, has, DoFit}
use Rattle.tin_base.specs.Limits.{IsWithinLimits}
use Rattle.tin_check.specs.CommonPoints.{MeetOnlyIn}
use Rattle.tin_check.specs.Marks.{points_of, marked_of, IsCounted, AreNearTris}
use Rattle.tin_check.specs.declared.pairs.Corners.{Corners}
use Rattle.tin_check.specs.InsideNumbers.{AreCounted, AreAt, IsMarkedCorner, AreFrom}
use Rattle.tin_check.proofs.TriangleTests.Tests.{IsPositive}
use Rattle.tin_check.proofs.TriangleTests.CornerShifts.{counted_same, first_meet, second_meet, first_near, second_near, fits_by}
use Rattle.tin_check.proofs.CallerLemmas.CornerMarks.{all_near, told}
use Rattle.tin_check.proofs.PairFits.BySides.{point_of, tri_of, positive_of, IsTurnedTo, turned_to}

-- ---- the numbers, counted from a corner on
-- the corner i is common, and the other two are not
pub record IsCommonCorner (ns us : List ℕ) (i j k : ℕ) : Type 0 where
  pub counted : AreCounted ns i j k
  pub common : has us i ≡ true
  pub second_apart : has us j ≡ false
  pub third_apart : has us k ≡ false

at_first : (a b c i j k : ℕ) → AreAt (a ∷ b ∷ c ∷ []) i j k 0 1 2 → AreCounted (a ∷ b ∷ c ∷ []) i j k
at_first a b c i j k (p, q, r) = rw (p, q, r) (inl refl)

at_second : (a b c i j k : ℕ) → AreAt (a ∷ b ∷ c ∷ []) i j k 1 2 0 → AreCounted (a ∷ b ∷ c ∷ []) i j k
at_second a b c i j k (p, q, r) = rw (p, q, r) (inr (inl refl))

at_third : (a b c i j k : ℕ) → AreAt (a ∷ b ∷ c ∷ []) i j k 2 0 1 → AreCounted (a ∷ b ∷ c ∷ []) i j k
at_third a b c i j k (p, q, r) = rw (p, q, r) (inr (inr refl))

common_corner : (ns us : List ℕ) (marks : List Bool) (i j k : ℕ) → length ns ≡ 3 → marks ≡ map (has us) ns
    → IsMarkedCorner marks ns i j k → IsCommonCorner ns us i j k
common_corner [] us marks i j k three e at = absurd (omega (arith, three))
common_corner (a ∷ []) us marks i j k three e at = absurd (omega (arith, three))
common_corner (a ∷ b ∷ []) us marks i j k three e at = absurd (omega (arith, three))
common_corner (a ∷ b ∷ c ∷ d ∷ ns) us marks i j k three e at = absurd (omega (arith, three))
common_corner (a ∷ b ∷ c ∷ []) us marks i j k three e at =
    go (subst (λ (ms : List Bool). IsMarkedCorner ms (a ∷ b ∷ c ∷ []) i j k) e at)
  where
    it : (x y z : ℕ) → AreCounted (a ∷ b ∷ c ∷ []) i j k → has us x ≡ true → has us y ≡ false → has us z ≡ false → i ≡ x
        → j ≡ y → k ≡ z → IsCommonCorner (a ∷ b ∷ c ∷ []) us i j k
    it x y z counted f g h p q r =
        record {
          counted = counted;
          common = ap (λ (n : ℕ). has us n) p ∙ f;
          second_apart = ap (λ (n : ℕ). has us n) q ∙ g;
          third_apart = ap (λ (n : ℕ). has us n) r ∙ h;
        }

    go : IsMarkedCorner (map (has us) (a ∷ b ∷ c ∷ [])) (a ∷ b ∷ c ∷ []) i j k
        → IsCommonCorner (a ∷ b ∷ c ∷ []) us i j k
    go (inl ((f, g, h), (p, q, r))) = it a b c (at_first a b c i j k (p, q, r)) f g h p q r
    go (inr (inl ((f, g, h), (p, q, r)))) = it b c a (at_second a b c i j k (p, q, r)) f g h p q r
    go (inr (inr ((f, g, h), (p, q, r)))) = it c a b (at_third a b c i j k (p, q, r)) f g h p q r

pub from_counted : (ns : List ℕ) (n i j k : ℕ) → length ns ≡ 3 → AreFrom ns n i j k → AreCounted ns i j k
from_counted [] n i j k three at = absurd (omega (arith, three))
from_counted (a ∷ []) n i j k three at = absurd (omega (arith, three))
from_counted (a ∷ b ∷ []) n i j k three at = absurd (omega (arith, three))
from_counted (a ∷ b ∷ c ∷ d ∷ ns) n i j k three at = absurd (omega (arith, three))
from_counted (a ∷ b ∷ c ∷ []) n i j k three (e, inl at) = at_first a b c i j k at
from_counted (a ∷ b ∷ c ∷ []) n i j k three (e, inr (inl at)) = at_second a b c i j k at
from_counted (a ∷ b ∷ c ∷ []) n i j k three (e, inr (inr at)) = at_third a b c i j k at

-- the three are numbers of corners
pub counted_within : (ns : List ℕ) (i j k m : ℕ) → AreCounted ns i j k → All (λ n. n < m) ns
    → (i < m) × (j < m) × (k < m)
counted_within ns i j k m (inl e) all = let l =
    subst (λ (xs : List ℕ). All (λ n. n < m) xs) e
    all in (l 0 0 (omega arith), l 1 0 (omega arith), l 2 0 (omega arith))
counted_within ns i j k m (inr (inl e)) all = let l =
    subst (λ (xs : List ℕ). All (λ n. n < m) xs) e
    all in (l 1 0 (omega arith), l 2 0 (omega arith), l 0 0 (omega arith))
counted_within ns i j k m (inr (inr e)) all = let l =
    subst (λ (xs : List ℕ). All (λ n. n < m) xs) e
    all in (l 2 0 (omega arith), l 0 0 (omega arith), l 1 0 (omega arith))

-- ---- the triangle, counted from the marked corner on
record IsTurnedAt (tin : Triangulation) (frame : Frame) (ns us : List ℕ) (i j k : ℕ) : Type 0 where
  tri : Tri
  is : corners_of tri ≡ places tin frame ns
  counted : IsCounted tri (tri_of tin frame i j k)
  corner : marked_of (map (has us) ns) (points_of tri) ≡ point_of tin frame i ∷ []

one_marked : (a b c : Bool) (p q r : Pt) → a ≡ true → b ≡ false → c ≡ false
    → marked_of (a ∷ b ∷ c ∷ []) (p ∷ q ∷ r ∷ []) ≡ p ∷ []
one_marked a b c p q r e f g = rw (e, f, g) refl

two_marked : (a b c : Bool) (p q r : Pt) → a ≡ false → b ≡ true → c ≡ false
    → marked_of (a ∷ b ∷ c ∷ []) (p ∷ q ∷ r ∷ []) ≡ q ∷ []
two_marked a b c p q r e f g = rw (e, f, g) refl

three_marked : (a b c : Bool) (p q r : Pt) → a ≡ false → b ≡ false → c ≡ true
    → marked_of (a ∷ b ∷ c ∷ []) (p ∷ q ∷ r ∷ []) ≡ r ∷ []
three_marked a b c p q r e f g = rw (e, f, g) refl

turned_at : (tin : Triangulation) (frame : Frame) (ns us : List ℕ) (i j k : ℕ) → IsCommonCorner ns us i j k
    → IsTurnedAt tin frame ns us i j k
turned_at tin frame ns us i j k s = go s.counted
  where
    go : AreCounted ns i j k → IsTurnedAt tin frame ns us i j k
    go (inl e) =
        subst (λ (l : List ℕ). IsTurnedAt tin frame l us i j k) (sym e)
        (record {
          tri = tri_of tin frame i j k;
          is = refl;
          counted = inl refl;
          corner = one_marked (has us i) (has us j) (has us k) (point_of tin frame i) (point_of tin frame j)
              (point_of tin frame k) s.common s.second_apart s.third_apart;
        })
    go (inr (inl e)) =
        subst (λ (l : List ℕ). IsTurnedAt tin frame l us i j k) (sym e)
        (record {
          tri = tri_of tin frame k i j;
          is = refl;
          counted = inr (inl refl);
          corner = two_marked (has us k) (has us i) (has us j) (point_of tin frame k) (point_of tin frame i)
              (point_of tin frame j) s.third_apart s.common s.second_apart;
        })
    go (inr (inr e)) =
        subst (λ (l : List ℕ). IsTurnedAt tin frame l us i j k) (sym e)
        (record {
          tri = tri_of tin frame j k i;
          is = refl;
          counted = inr (inr refl);
          corner = three_marked (has us j) (has us k) (has us i) (point_of tin frame j) (point_of tin frame k)
              (point_of tin frame i) s.second_apart s.third_apart s.common;
        })

-- ---- the triangle as it was read
tri_from : List Point → Tri → Tri
tri_from (p ∷ q ∷ r ∷ []) t = record {
  a = record { x = p.x; y = p.y };
  b = record { x = q.x; y = q.y };
  c =
      record { x = r.x; y = r.y };
}
tri_from ps t = t

tri_is : (tin : Triangulation) (frame : Frame) (i j k : ℕ) (r : Tri) → corners_of r ≡ places tin frame (i ∷ j ∷ k ∷ [])
    → r ≡ tri_of tin frame i j k
unfolding tri_from
tri_is tin frame i j k r e = ap (λ (ps : List Point). tri_from ps r) e

pub counted_positive : (tin : Triangulation) (frame : Frame) (t i j k : ℕ) (r : Tri)
    → AreCounted (numbers_of tin t) i j k → corners_of r ≡ places tin frame (i ∷ j ∷ k ∷ [])
    → pos 0 <ℤ turn_in tin frame t
    → IsPositive r
counted_positive tin frame t i j k r counted e d =
    let x = turned_to tin frame (numbers_of tin t) i j k counted in
    let same = counted_same x.tri (tri_of tin frame i j k) x.counted in
    subst (λ (s : Tri). IsPositive s) (sym (tri_is tin frame i j k r e))
    (same.positive (positive_of tin frame (numbers_of tin t) x.tri x.is d))

pub counted_near : (tin : Triangulation) (frame : Frame) (t u i j k d e f : ℕ) (r s : Tri) → IsWithinLimits tin
    → t < length tin.triangles → u < length tin.triangles → AreCounted (numbers_of tin t) i j k
    → AreCounted (numbers_of tin u) d e f
    → corners_of r ≡ places tin frame (i ∷ j ∷ k ∷ []) → corners_of s ≡ places tin frame (d ∷ e ∷ f ∷ [])
    → AreNearTris r s
counted_near tin frame t u i j k d e f r s limits ht hu first second is_r is_s =
    let x = turned_to tin frame (numbers_of tin t) i j k first in
    let y = turned_to tin frame (numbers_of tin u) d e f second in
    let near = all_near tin frame t u x.tri y.tri limits ht hu x.is y.is in
    subst (λ (v : Tri). AreNearTris v s) (sym (tri_is tin frame i j k r is_r))
    (subst (λ (v : Tri). AreNearTris (tri_of tin frame i j k) v) (sym (tri_is tin frame d e f s is_s))
    (second_near (tri_of tin frame i j k) y.tri (tri_of tin frame d e f) y.counted
    (first_near x.tri (tri_of tin frame i j k) y.tri x.counted near)))

pub same_corner : (tin : Triangulation) (frame : Frame) (i j k d e f : ℕ) (r s : Tri)
    → corners_of r ≡ places tin frame (i ∷ j ∷ k ∷ []) → corners_of s ≡ places tin frame (d ∷ e ∷ f ∷ []) → i ≡ d
    → r.a ≡ s.a
same_corner tin frame i j k d e f r s is_r is_s h =
    ap (λ (v : Tri). v.a) (tri_is tin frame i j k r is_r) ∙ ap (λ (n : ℕ). point_of tin frame n) h
    ∙ sym (ap (λ (v : Tri). v.a) (tri_is tin frame d e f s is_s))

pub read_meet : (tin : Triangulation) (frame : Frame) (i j k d e f : ℕ) (r s : Tri)
    → corners_of r ≡ places tin frame (i ∷ j ∷ k ∷ []) → corners_of s ≡ places tin frame (d ∷ e ∷ f ∷ [])
    → MeetOnlyIn (corners_of r) (corners_of s) (whole r.a ∷ [])
    → MeetOnlyIn (places tin frame (i ∷ j ∷ k ∷ [])) (places tin frame (d ∷ e ∷ f ∷ [])) (places tin frame (i ∷ []))
read_meet tin frame i j k d e f r s is_r is_s only =
    subst (λ (v : Tri). MeetOnlyIn (corners_of (tri_of tin frame i j k)) (corners_of v) (places tin frame (i ∷ [])))
    (tri_is tin frame d e f s is_s)
    (subst (λ (v : Tri). MeetOnlyIn (corners_of v) (corners_of s) (whole v.a ∷ [])) (tri_is tin frame i j k r is_r)
    only)

-- ---- the answer
pub corner_tells : (tin : Triangulation) (frame : Frame) (t u i j k d e f : ℕ)
    → IsCommonCorner (numbers_of tin t) (numbers_of tin u) i j k → AreCounted (numbers_of tin u) d e f
    → MeetOnlyIn (places tin frame (i ∷ j ∷ k ∷ [])) (places tin frame (d ∷ e ∷ f ∷ [])) (places tin frame (i ∷ []))
    → DoFit tin frame t u
corner_tells tin frame t u i j k d e f first second only =
    (told tin frame t u x.tri y.tri true x.is y.is
    (fits_by x.tri y.tri (marked_of (map (has (numbers_of tin u)) (numbers_of tin t)) (points_of x.tri))
    (point_of tin frame i ∷ []) true x.corner (omega arith) (λ yes. meet, λ fit. refl))).0 refl
  where
    x : IsTurnedAt tin frame (numbers_of tin t) (numbers_of tin u) i j k
    x = turned_at tin frame (numbers_of tin t) (numbers_of tin u) i j k first

    y : IsTurnedTo tin frame (numbers_of tin u) d e f
    y = turned_to tin frame (numbers_of tin u) d e f second

    meet : MeetOnlyIn (corners_of x.tri) (corners_of y.tri) (map whole (point_of tin frame i ∷ []))
    meet =
        (first_meet x.tri (tri_of tin frame i j k) y.tri (whole (point_of tin frame i) ∷ []) x.counted).0
        ((second_meet (tri_of tin frame i j k) y.tri (tri_of tin frame d e f) (whole (point_of tin frame i) ∷ [])
        y.counted).0 only)

-- ---- the corners, as they were read
pub corner_read : (tin : Triangulation) (rows : List (List ℕ)) (t u : ℕ) (marks : List Bool) (found : Option Corners)
    (at : Corners) → rows ≡ tin.triangles → length (numbers_of tin t) ≡ 3
    → marks ≡ map (has (numbers_of tin u)) (numbers_of tin t)
    → IfSome found (λ s. IsMarkedCorner marks (get_or rows t []) s.first s.second s.third) → found ≡ Some at
    → IsCommonCorner (numbers_of tin t) (numbers_of tin u) at.first at.second at.third
corner_read tin rows t u marks found at is three same marked e =
    let it : IsMarkedCorner marks (get_or rows t []) at.first at.second at.third =
    subst (λ (o : Option Corners). IfSome o (λ s. IsMarkedCorner marks (get_or rows t []) s.first s.second s.third))
    e marked in
    common_corner (numbers_of tin t) (numbers_of tin u) marks at.first at.second at.third three same
    (subst (λ (xs : List (List ℕ)). IsMarkedCorner marks (get_or xs t []) at.first at.second at.third) is it)

pub from_read : (tin : Triangulation) (rows : List (List ℕ)) (u n : ℕ) (found : Option Corners) (at : Corners)
    → rows ≡ tin.triangles
    → IfSome found (λ s. AreFrom (get_or rows u []) n s.first s.second s.third) → found ≡ Some at
    → AreFrom (numbers_of tin u) n at.first at.second at.third
from_read tin rows u n found at is from e =
    let it : AreFrom (get_or rows u []) n at.first at.second at.third =
    subst (λ (o : Option Corners). IfSome o (λ s. AreFrom (get_or rows u []) n s.first s.second s.third)) e from in
    subst (λ (xs : List (List ℕ)). AreFrom (get_or xs u []) n at.first at.second at.third) is it
