-- Two triangles of positive turn fit together or they do not: decided over the definitions alone.
use Rattle.std.proofs.Common.{◌≡◌, ◌⊎◌, ◌↔◌, inl, inr, ℕ, ◌≤◌, ℤ, pos, ◌*ℤ◌, ◌≤ℤ◌, ◌<ℤ◌, Bool, true, false, not, IsTrue}
use Rattle.std.proofs.Common.{List, [], ◌∷◌, length, map, refl, sym, ap, ap₂, ◌∙◌, subst, arith}
use Rattle.std.proofs.lemmas.Int.{ints}
use Rattle.std.proofs.lemmas.List.{length-map}
use lib.Signed.{lt_z_yes}
use Rattle.plane_base.specs.Plane.{Point, IsMix, whole, corners_of, along}
use Rattle.plane_base.specs.Slices.{IsParam}
use Rattle.plane_base.specs.Laws.{AreFromTo}
use Rattle.plane_base.specs.declared.shapes.Pt.{Pt}
use Rattle.plane_base.specs.declared.shapes.Tri.{Tri}
use Rattle.plane_base.proofs.MixLaws.Along.{along-w}
use Rattle.plane_base.proofs.TriangleLaws.Intervals.{segments_meet_in_intervals}
use Rattle.plane_base.proofs.MixLaws.Parameters.{segments_have_parameters}
use Rattle.plane_base.proofs.MixLaws.Mixes.{same_sym, mix_moved}
use Rattle.plane_base.proofs.TriangleLaws.CommonPoints.{in_or_out}
use Rattle.tin_base.specs.declared.frames.Frame.{Frame}
use Rattle.tin_base.specs.declared.corners.Corner.{Corner}
use Rattle.tin_base.specs.Triangulation.{Triangulation, x_in, y_in, corner_at, numbers_of, places}
use Rattle.tin_base.specs.Soundness.{turn_of_three, turn_in, has, DoFit}
use Rattle.tin_base.proofs.TriangleLemmas.TestAnswers.{yes, no, told, denied}
use Rattle.tin_check.specs.CommonPoints.{HaveCommonPoint, MeetOnlyIn}
use Rattle.tin_check.specs.Marks.{points_of, marked_of, IsAmong, HaveSamePoints, next_of, IsCounted}
use Rattle.tin_check.proofs.TriangleTests.Places.{along_side}
use Rattle.tin_check.proofs.TriangleTests.Tests.{IsPositive, seen_meets, last_side, side_beyond, last_beyond, side_tells}
use Rattle.tin_check.proofs.TriangleTests.CornerShifts.{counted_same, first_meet, second_meet, through, common_among, IsSide}
use Rattle.tin_check.proofs.TriangleTests.CornerShifts.{side_first_among, side_second_among, FitsIn, fits_by, fits_at_side}
use Rattle.tin_check.proofs.CallerLemmas.CornerMarks.{same_marked}
use Rattle.tin_check.proofs.CallerLemmas.CornerMarks as marking

one : pos 0 <ℤ pos 1
one = lt_z_yes tt

-- an answer to whether a fact holds
abbrev Answer : Type 0 → Type 0
Answer P = (found : Bool) × (IsTrue found ↔ P)

or_not : {P : Type 0} → Answer P → P ⊎ (P → ⊥)
or_not (true, i) = inl (told i)
or_not (false, i) = inr (denied i)

-- ---- a segment and a triangle have a common point or none
segment_or : (p q : Pt) (t : Tri) → IsPositive t → Answer (HaveCommonPoint (whole p ∷ whole q ∷ []) (corners_of t))
segment_or p q t d =
    go (segments_meet_in_intervals (whole t.a) (whole t.b) (whole t.c) (whole p) (whole q)
    (one, (one, (one, (one, (one, tt))))) d)
  where
    le_self : (z : ℤ) → z ≤ℤ z
    le_self z = omega (arith, ints)

    go : ((n d : ℤ) → IsParam n d → IsMix (along (whole p) (whole q) n d) (corners_of t) → ⊥)
        ⊎ AreFromTo (whole t.a) (whole t.b) (whole t.c) (whole p) (whole q)
        → Answer (HaveCommonPoint (whole p ∷ whole q ∷ []) (corners_of t))
    go (inl none) = (false, no none_met)
      where
        none_met : HaveCommonPoint (whole p ∷ whole q ∷ []) (corners_of t) → ⊥
        none_met (x, hx, on, inside) =
            let r = (segments_have_parameters (whole p) (whole q) x).0 on in
            let at = along (whole p) (whole q) r.n r.d in
            none r.n r.d r.param (mix_moved x at (corners_of t) hx (same_sym x at r.same) inside)
    go (inr i) = (
      true,
      yes (
        along (whole p) (whole q) i.least i.least_of,
        along-w i.least i.least_of i.first.0,
        along_side (whole p) (whole q) i.least i.least_of i.first,
        (i.between i.least i.least_of i.first).1 (le_self (i.least *ℤ i.least_of), i.order),
      ),
    )

-- ---- two triangles have a common point or none
meet_or : (t u : Tri) → IsPositive t → IsPositive u → Answer (HaveCommonPoint (corners_of t) (corners_of u))
meet_or t u d d' =
    go (in_or_out (whole t.a) (whole t.b) (whole t.c) (whole u.a) one one one one d) (segment_or t.a t.b u d')
    (segment_or t.b t.c u d') (segment_or t.c t.a u d')
  where
    go : IsMix (whole u.a) (corners_of t) ⊎ (IsMix (whole u.a) (corners_of t) → ⊥)
        → Answer (HaveCommonPoint (whole t.a ∷ whole t.b ∷ []) (corners_of u))
        → Answer (HaveCommonPoint (whole t.b ∷ whole t.c ∷ []) (corners_of u))
        → Answer (HaveCommonPoint (whole t.c ∷ whole t.a ∷ []) (corners_of u))
        → Answer (HaveCommonPoint (corners_of t) (corners_of u))
    go (inl m) first second third = (true, yes (seen_meets t u (inl m)))
    go (inr n) (true, i) second third = (true, yes (seen_meets t u (inr (inl (told i)))))
    go (inr n) (false, i) (true, j) third = (true, yes (seen_meets t u (inr (inr (inl (told j))))))
    go (inr n) (false, i) (false, j) (found, k) = (found, last_side t u found d d' n (denied i) (denied j) k)

-- ---- no corner in common
no_mix : (p : Point) → IsMix p [] → ⊥
no_mix p ([], e, some, same) = absurd (omega arith)
no_mix p (k ∷ ks, e, some, same) = absurd (omega arith)

apart_or : (t u : Tri) → IsPositive t → IsPositive u → Answer (MeetOnlyIn (corners_of t) (corners_of u) [])
apart_or t u d d' = go (meet_or t u d d')
  where
    go : Answer (HaveCommonPoint (corners_of t) (corners_of u)) → Answer (MeetOnlyIn (corners_of t) (corners_of u) [])
    go (true, i) = let (p, hp, in_t, in_u) = told i in (false, no (λ only. no_mix p (only p hp in_t in_u)))
    go (false, i) = (true, yes (λ p hp in_t in_u. absurd (denied i (p, hp, in_t, in_u))))

-- ---- the triangle counted from one of its corners
counted_from : (u : Tri) (p : Pt) → IsAmong (points_of u) p → (s : Tri) × IsCounted u s × (p ≡ s.a)
counted_from u p (inl e) = (u, inl refl, e)
counted_from u p (inr (inl e)) = (next_of u, inr (inl refl), e)
counted_from u p (inr (inr (inl e))) = (next_of (next_of u), inr (inr refl), e)
counted_from u p (inr (inr (inr h))) = absurd h

among_next : (t : Tri) (p : Pt) → IsAmong (points_of t) p → IsAmong (points_of (next_of t)) p
among_next t p (inl e) = inr (inr (inl e))
among_next t p (inr (inl e)) = inl e
among_next t p (inr (inr (inl e))) = inr (inl e)
among_next t p (inr (inr (inr h))) = absurd h

among_counted : (t s : Tri) (p : Pt) → IsCounted t s → IsAmong (points_of t) p → IsAmong (points_of s) p
among_counted t s p (inl e) h = subst (λ (r : Tri). IsAmong (points_of r) p) (sym e) h
among_counted t s p (inr (inl e)) h = subst (λ (r : Tri). IsAmong (points_of r) p) (sym e) (among_next t p h)
among_counted t s p (inr (inr e)) h = subst (λ (r : Tri). IsAmong (points_of r) p) (sym e)
    (among_next (next_of t) p (among_next t p h))

-- ---- one corner in common
corner_or : (t u : Tri) → IsPositive t → IsPositive u → IsAmong (points_of u) t.a
    → Answer (MeetOnlyIn (corners_of t) (corners_of u) (whole t.a ∷ []))
corner_or t u d d' among =
    let (s, counted, first) = counted_from u t.a among in
    let same = counted_same u s counted in
    let (found, i) = go s first (same.positive d') (segment_or t.b t.c s (same.positive d'))
    (segment_or s.b s.c t d) in
    (found, through i (second_meet t u s (whole t.a ∷ []) counted))
  where
    go : (s : Tri) → t.a ≡ s.a → IsPositive s → Answer (HaveCommonPoint (whole t.b ∷ whole t.c ∷ []) (corners_of s))
        → Answer (HaveCommonPoint (whole s.b ∷ whole s.c ∷ []) (corners_of t))
        → Answer (MeetOnlyIn (corners_of t) (corners_of s) (whole t.a ∷ []))
    go s e ds (true, i) other = (false, no (side_beyond t s d (told i)))
    go s e ds (false, i) (found, j) = (not found, last_beyond t s found e d ds (denied i) j)

-- ---- a side in common
int_or : (x y : ℤ) → (x ≡ y) ⊎ (x ≡ y → ⊥)
int_or x y = grind (arith, ints)

abbrev pt : ℤ → ℤ → Pt
pt x y = record { x = x; y = y }

same_or : (p q : Pt) → Answer (p ≡ q)
same_or p q = go (int_or p.x q.x) (int_or p.y q.y)
  where
    both : p.x ≡ q.x → p.y ≡ q.y → p ≡ q
    both h k = ap₂ (λ (x y : ℤ). pt x y) h k

    go : (p.x ≡ q.x) ⊎ (p.x ≡ q.x → ⊥) → (p.y ≡ q.y) ⊎ (p.y ≡ q.y → ⊥) → Answer (p ≡ q)
    go (inl h) (inl k) = (true, yes (both h k))
    go (inl h) (inr k) = (false, no (λ e. k (ap (λ (r : Pt). r.y) e)))
    go (inr h) other = (false, no (λ e. h (ap (λ (r : Pt). r.x) e)))

side_or : (t u : Tri) → IsPositive t → IsPositive u → IsAmong (points_of u) t.a → IsAmong (points_of u) t.b
    → Answer (MeetOnlyIn (corners_of t) (corners_of u) (whole t.a ∷ whole t.b ∷ []))
side_or t u d d' first second =
    let (s, counted, begins) = counted_from u t.b second in
    let same = counted_same u s counted in
    let (found, i) = same_or t.a s.b in (
      found,
      through
          (side_tells t s found d (same.positive d') begins (among_counted u s t.a counted first) i)
          (second_meet t u s (whole t.a ∷ whole t.b ∷ []) counted),
    )

-- ---- by marked corners
at_corner : (t r u : Tri) (of_u : List Bool) → IsCounted t r → IsPositive t → IsPositive u
    → HaveSamePoints (r.a ∷ []) (marked_of of_u (points_of u)) → Answer (FitsIn t u (r.a ∷ []))
at_corner t r u of_u counted d d' same =
    let as_t = counted_same t r counted in
    let (found, i) = corner_or r u (as_t.positive d) d' (common_among (r.a ∷ []) of_u u r.a same (inl refl)) in (
      found,
      fits_by t u (r.a ∷ []) (r.a ∷ []) found refl (omega arith)
          (through i (first_meet t r u (whole r.a ∷ []) counted)),
    )

at_side : (t r u : Tri) (ps : List Pt) (of_u : List Bool) → IsCounted t r → IsSide ps r → IsPositive t → IsPositive u
    → HaveSamePoints ps (marked_of of_u (points_of u)) → Answer (FitsIn t u ps)
at_side t r u ps of_u counted side d d' same =
    let as_t = counted_same t r counted in
    let (found, i) = side_or r u (as_t.positive d) d' (common_among ps of_u u r.a same (side_first_among ps r side))
    (common_among ps of_u u r.b same (side_second_among ps r side)) in (
      found,
      fits_at_side t u r ps found side (through i (first_meet t r u (whole r.a ∷ whole r.b ∷ []) counted)),
    )

marks_or : (t u : Tri) (of_t of_u : List Bool) → length of_t ≡ 3 → IsPositive t → IsPositive u
    → HaveSamePoints (marked_of of_t (points_of t)) (marked_of of_u (points_of u))
    → Answer (FitsIn t u (marked_of of_t (points_of t)))
marks_or t u [] of_u three d d' same = absurd (omega arith)
marks_or t u (x ∷ []) of_u three d d' same = absurd (omega arith)
marks_or t u (x ∷ y ∷ []) of_u three d d' same = absurd (omega arith)
marks_or t u (x ∷ y ∷ z ∷ m ∷ ms) of_u three d d' same = absurd (omega arith)
marks_or t u (false ∷ false ∷ false ∷ []) of_u three d d' same =
    let (found, i) = apart_or t u d d' in (found, fits_by t u [] [] found refl (omega arith) i)
marks_or t u (true ∷ false ∷ false ∷ []) of_u three d d' same = at_corner t t u of_u (inl refl) d d' same
marks_or t u (false ∷ true ∷ false ∷ []) of_u three d d' same =
    at_corner t (next_of t) u of_u (inr (inl refl)) d d' same
marks_or t u (false ∷ false ∷ true ∷ []) of_u three d d' same =
    at_corner t (next_of (next_of t)) u of_u (inr (inr refl)) d d' same
marks_or t u (true ∷ true ∷ false ∷ []) of_u three d d' same =
    at_side t t u (t.a ∷ t.b ∷ []) of_u (inl refl) (inl refl) d d' same
marks_or t u (false ∷ true ∷ true ∷ []) of_u three d d' same =
    at_side t (next_of t) u (t.b ∷ t.c ∷ []) of_u (inr (inl refl)) (inl refl) d d' same
marks_or t u (true ∷ false ∷ true ∷ []) of_u three d d' same =
    at_side t (next_of (next_of t)) u (t.a ∷ t.c ∷ []) of_u (inr (inr refl)) (inr refl) d d' same
marks_or t u (true ∷ true ∷ true ∷ []) of_u three d d' same = (false, no (λ fit. too_many fit.0))
  where
    too_many : 3 ≤ 2 → ⊥
    too_many h = absurd (omega arith)

-- ---- two triangles of a triangulation
not_zero : pos 0 <ℤ pos 0 → ⊥
not_zero h = absurd h.lt

stands : Frame → Corner → Pt
stands frame corner = record { x = x_in frame corner; y = y_in frame corner }

-- three numbers of corners, whose turn is positive, as a triangle
record IsTriangle (tin : Triangulation) (frame : Frame) (ns : List ℕ) : Type 0 where
  tri : Tri
  three : length ns ≡ 3
  is : corners_of tri ≡ places tin frame ns
  positive : IsPositive tri

triangle_of : (tin : Triangulation) (frame : Frame) (ns : List ℕ) → pos 0 <ℤ turn_of_three (places tin frame ns)
    → IsTriangle tin frame ns
unfolding stands
triangle_of tin frame [] d = absurd (not_zero d)
triangle_of tin frame (i ∷ []) d = absurd (not_zero d)
triangle_of tin frame (i ∷ j ∷ []) d = absurd (not_zero d)
triangle_of tin frame (i ∷ j ∷ k ∷ l ∷ ns) d = absurd (not_zero d)
triangle_of tin frame (i ∷ j ∷ k ∷ []) d = record {
  tri = record {
    a = stands frame (corner_at tin i);
    b = stands frame (corner_at tin j);
    c = stands frame (corner_at tin k);
  };
  three = refl;
  is = refl;
  positive = d;
}

pub fit_or : (tin : Triangulation) (frame : Frame) (t u : ℕ) → pos 0 <ℤ turn_in tin frame t
    → pos 0 <ℤ turn_in tin frame u → DoFit tin frame t u ⊎ (DoFit tin frame t u → ⊥)
fit_or tin frame t u d d' =
    let ns = numbers_of tin t in
    let us = numbers_of tin u in
    let r = triangle_of tin frame ns d in
    let s = triangle_of tin frame us d' in
    let (found, i) = marks_or r.tri s.tri (map (has us) ns) (map (has ns) us) (length-map ns (has us) ∙ r.three)
    r.positive s.positive (same_marked tin frame ns us (points_of r.tri) (points_of s.tri) r.is s.is) in
    or_not (found, marking.told tin frame t u r.tri s.tri found r.is s.is i)
