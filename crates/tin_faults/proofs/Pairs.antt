-- Two triangles that turn to the left, with the marks of their common corners, fit together as the numbers say.
use Rattle.std.proofs.Common.{◌≡◌, ◌≢◌, ◌⊎◌, ◌↔◌, inl, inr, ℕ, suc, ◌<◌, ◌≤◌, ℤ, pos, neg_ℤ, ◌<ℤ◌, Bool, true, false, ◌||◌}
use Rattle.std.proofs.Common.{◌&&◌, IsTrue, eqb, List, [], ◌∷◌, ◌++◌, length, map, get_or, sym, ◌∙◌, ap, subst, arith}
use Rattle.std.proofs.lemmas.Int.{ints}
use Rattle.std.proofs.lemmas.Bool.Decides.{eqb_tells}
use Rattle.std.proofs.lemmas.Bool.{or_right}
use Rattle.std.proofs.lemmas.List.{length-map}
use Rattle.plane_base.specs.Plane.{Point, IsMix, whole, turn_of, corners_of}
use Rattle.plane_base.specs.declared.shapes.Pt.{Pt}
use Rattle.plane_base.specs.declared.shapes.Tri.{Tri}
use Rattle.plane_base.proofs.MixLaws.Turns.{turn_cycle, turn_swap}
use Rattle.tin_base.specs.declared.frames.Frame.{Frame}
use Rattle.tin_base.specs.Triangulation.{Triangulation, place, corner_at, numbers_of, places}
use Rattle.tin_base.specs.Soundness.{has, common, DoFit}
use Rattle.tin_base.specs.Limits.{IsWithinLimits}
use Rattle.tin_base.proofs.TriangleLemmas.Members.{has_head}
use Rattle.tin_base.proofs.TriangleLemmas.TriangleCorners.{near_points}
use Rattle.tin_check.specs.CommonPoints.{MeetOnlyIn}
use Rattle.tin_check.specs.Marks.{points_of, marked_of, IsAmong, HaveSamePoints, AreNearTris}
use Rattle.tin_faults.specs.InsidePairs.{IsCountedEither, IsLeftTurned}
use Rattle.tin_faults.proofs.Numbers.{HaveSameNumbers, same_back, has_common, DoFitBy, fit_same, fit_to, fit_from}
use Rattle.tin_check.proofs.CallerLemmas.CornerMarks.{marked-places}

-- ---- points at the places of corners of a list
-- the point is at the place of a corner of the list
abbrev pub IsPlaceOf : Triangulation → Frame → List ℕ → Pt → Type 0
IsPlaceOf tin frame ns p = (k : ℕ) × (has ns k ≡ true) × (whole p ≡ place frame (corner_at tin k))

place_of_among : (tin : Triangulation) (frame : Frame) (ns : List ℕ) (ps : List Pt) (p : Pt)
    → map whole ps ≡ places tin frame ns → IsAmong ps p → IsPlaceOf tin frame ns p
place_of_among tin frame ns [] p e h = absurd h
place_of_among tin frame [] (q ∷ ps) p e h = absurd (cc)
place_of_among tin frame (n ∷ ns) (q ∷ ps) p e (inl h) = grind (arith, has_head)
place_of_among tin frame (n ∷ ns) (q ∷ ps) p e (inr h) = grind (arith, or_right, place_of_among tin frame ns ps p)

same_point : (p q : Pt) → whole p ≡ whole q → p ≡ q
same_point p q e = grind arith

among_of_place : (tin : Triangulation) (frame : Frame) (ns : List ℕ) (ps : List Pt) (p : Pt) (k : ℕ)
    → map whole ps ≡ places tin frame ns → has ns k ≡ true → whole p ≡ place frame (corner_at tin k) → IsAmong ps p
among_of_place tin frame [] ps p k e h is = absurd (cc)
among_of_place tin frame (n ∷ ns) [] p k e h is = absurd (cc)
among_of_place tin frame (n ∷ ns) (q ∷ ps) p k e h is =
    grind (arith, eqb_tells, same_point, among_of_place tin frame ns ps p k)

-- ---- the marked corners
swapped : (a b : Bool) → (a && b) ≡ true → (b && a) ≡ true
swapped a b e = grind arith

one_way : (tin : Triangulation) (frame : Frame) (ns us : List ℕ) (ps qs : List Pt) (p : Pt)
    → map whole ps ≡ places tin frame ns → map whole qs ≡ places tin frame us
    → IsAmong (marked_of (map (has us) ns) ps) p → IsAmong (marked_of (map (has ns) us) qs) p
one_way tin frame ns us ps qs p e f h =
    let at = place_of_among tin frame (common ns us) (marked_of (map (has us) ns) ps) p
    (marked-places tin frame ns us ps e) h in
    among_of_place tin frame (common us ns) (marked_of (map (has ns) us) qs) p at.0 (marked-places tin frame us ns qs f)
    (has_common us ns at.0 ∙ swapped (has ns at.0) (has us at.0) (sym (has_common ns us at.0) ∙ at.1)) at.2

pub same_marked : (tin : Triangulation) (frame : Frame) (ns us : List ℕ) (r s : Tri) (of_t of_u : List Bool)
    → of_t ≡ map (has us) ns → of_u ≡ map (has ns) us → corners_of r ≡ places tin frame ns
    → corners_of s ≡ places tin frame us
    → HaveSamePoints (marked_of of_t (points_of r)) (marked_of of_u (points_of s))
same_marked tin frame ns us r s of_t of_u e f is_r is_s =
    subst (λ (ms : List Bool). HaveSamePoints (marked_of ms (points_of r)) (marked_of of_u (points_of s))) (sym e)
    (subst (λ (ms : List Bool). HaveSamePoints (marked_of (map (has us) ns) (points_of r)) (marked_of ms (points_of s)))
    (sym f) (λ p. (
      one_way tin frame ns us (points_of r) (points_of s) p is_r is_s,
      one_way tin frame us ns (points_of s) (points_of r) p is_s is_r,
    )))

-- ---- near
below_of_has : (ns : List ℕ) (n k : ℕ) → ((i : ℕ) → i < length ns → get_or ns i 0 < n) → has ns k ≡ true → k < n
below_of_has [] n k all h = absurd (cc)
below_of_has (q ∷ ns) n k all h = go (eqb_tells q k) (below_of_has ns n k (λ i w. all (suc i) (omega arith)))
  where
    behind : (a b : Bool) → a ≡ false → (a || b) ≡ true → b ≡ true
    behind true b e i = absurd (cc)
    behind false b e i = i

    go : ((eqb q k ≡ true) × (q ≡ k)) ⊎ ((eqb q k ≡ false) × (q ≢ k)) → (has ns k ≡ true → k < n) → k < n
    go (inl e) more = subst (λ (m : ℕ). m < n) e.1 (all 0 (omega arith))
    go (inr e) more = more (behind (eqb q k) (has ns k) e.0 h)

number_below : (tin : Triangulation) (t k : ℕ) (ns : List ℕ) → IsWithinLimits tin → t < length tin.triangles
    → HaveSameNumbers (numbers_of tin t) ns → has ns k ≡ true → k < length tin.corners
number_below tin t k ns limits ht same h =
    below_of_has (numbers_of tin t) (length tin.corners) k (λ i w. limits.in_range t ht i 0 w) (same.same k ∙ h)

-- a corner of either of two triangles
record IsCornerOf (tin : Triangulation) (frame : Frame) (p : Pt) : Type 0 where
  number : ℕ
  in_range : number < length tin.corners
  stands : whole p ≡ place frame (corner_at tin number)

corner_of : (tin : Triangulation) (frame : Frame) (t : ℕ) (ns : List ℕ) (r : Tri) (p : Pt) → IsWithinLimits tin
    → t < length tin.triangles → HaveSameNumbers (numbers_of tin t) ns → corners_of r ≡ places tin frame ns
    → IsAmong (points_of r) p → IsCornerOf tin frame p
corner_of tin frame t ns r p limits ht same is h =
    grind (arith, place_of_among tin frame ns (points_of r) p is h, number_below tin t)

pub all_near : (tin : Triangulation) (frame : Frame) (t u : ℕ) (ns us : List ℕ) (r s : Tri) → IsWithinLimits tin
    → t < length tin.triangles → u < length tin.triangles → HaveSameNumbers (numbers_of tin t) ns
    → HaveSameNumbers (numbers_of tin u) us → corners_of r ≡ places tin frame ns → corners_of s ≡ places tin frame us
    → AreNearTris r s
all_near tin frame t u ns us r s limits ht hu same_t same_u e f p q h k =
    let a = any p h in
    let b = any q k in
    near_points tin frame a.number b.number p q limits a.in_range b.in_range a.stands b.stands
  where
    any : (p : Pt) → IsAmong (points_of r ++ points_of s) p → IsCornerOf tin frame p
    any p (inl h) = corner_of tin frame t ns r p limits ht same_t e (inl h)
    any p (inr (inl h)) = corner_of tin frame t ns r p limits ht same_t e (inr (inl h))
    any p (inr (inr (inl h))) = corner_of tin frame t ns r p limits ht same_t e (inr (inr (inl h)))
    any p (inr (inr (inr h))) = corner_of tin frame u us s p limits hu same_u f h

-- ---- the answer
pub answer : (tin : Triangulation) (frame : Frame) (t u : ℕ) (ns us : List ℕ) (r s : Tri) (of_t : List Bool) (found : Bool)
    → HaveSameNumbers (numbers_of tin t) ns → HaveSameNumbers (numbers_of tin u) us → of_t ≡ map (has us) ns
    → corners_of r ≡ places tin frame ns → corners_of s ≡ places tin frame us
    → IsTrue found ↔ ((length (marked_of of_t (points_of r)) ≤ 2)
    × MeetOnlyIn (corners_of r) (corners_of s) (map whole (marked_of of_t (points_of r))))
    → IsTrue found ↔ DoFit tin frame t u
answer tin frame t u ns us r s of_t found same_t same_u marks e f i = (
  λ h. fit_to tin frame t u (fit_same tin frame ns (numbers_of tin t) us (numbers_of tin u)
      (same_back (numbers_of tin t) ns same_t) (same_back (numbers_of tin u) us same_u) (there (i.0 h))),
  λ h. i.1 (back (fit_same tin frame (numbers_of tin t) ns (numbers_of tin u) us same_t same_u (fit_from tin frame t u h))),
)
  where
    ms : List Pt
    ms = marked_of of_t (points_of r)

    stand : map whole ms ≡ places tin frame (common ns us)
    stand = grind (arith, marked-places)

    count : length ms ≡ length (common ns us)
    count = grind (arith, length-map, ms, stand)

    there : (length ms ≤ 2) × MeetOnlyIn (corners_of r) (corners_of s) (map whole ms) → DoFitBy tin frame ns us
    there h = grind (arith, count, stand)

    back : DoFitBy tin frame ns us → (length ms ≤ 2) × MeetOnlyIn (corners_of r) (corners_of s) (map whole ms)
    back h = (
      subst (λ (n : ℕ). n ≤ 2) (sym count) h.few,
      λ p hp in_r in_s. subst (λ (ps : List Point). IsMix p ps) (sym stand)
          (h.meet p hp (subst (λ (ps : List Point). IsMix p ps) e in_r) (subst (λ (ps : List Point). IsMix p ps) f in_s)),
    )

-- ---- a triangle as it was read, and the other way round
counted_same : (ns : List ℕ) → length ns ≡ 3 → IsCountedEither ns ns
counted_same ns e = grind arith

counted_turned : (ns : List ℕ) → length ns ≡ 3 → IsCountedEither ns (get_or ns 0 0 ∷ get_or ns 2 0 ∷ get_or ns 1 0 ∷ [])
counted_turned ns e = grind arith

-- the triangle with its last two corners exchanged
abbrev pub turned_tri : Tri → Tri
turned_tri r = record { a = r.a; b = r.c; c = r.b }

pub turned_turn : (a b c : Point) → turn_of a b c ≡ neg_ℤ (turn_of a c b)
turned_turn a b c = turn_swap a b c ∙ ap (λ (z : ℤ). neg_ℤ z) (turn_cycle b a c)

places_turned : (tin : Triangulation) (frame : Frame) (ns : List ℕ) (r : Tri) → length ns ≡ 3
    → corners_of r ≡ places tin frame ns
    → corners_of (turned_tri r) ≡ places tin frame (get_or ns 0 0 ∷ get_or ns 2 0 ∷ get_or ns 1 0 ∷ [])
places_turned tin frame (i ∷ j ∷ k ∷ []) r e is = grind arith
places_turned tin frame ns r e is = absurd (omega arith)

pub left_as_read : (tin : Triangulation) (frame : Frame) (t : ℕ) (r : Tri) (ns : List ℕ) → IsWithinLimits tin
    → t < length tin.triangles → ns ≡ numbers_of tin t → corners_of r ≡ places tin frame (numbers_of tin t)
    → pos 0 <ℤ turn_of (whole r.a) (whole r.b) (whole r.c) → IsLeftTurned tin frame t r ns
left_as_read tin frame t r ns limits ht same is positive = grind (arith, counted_same)

pub left_turned_back : (tin : Triangulation) (frame : Frame) (t : ℕ) (r : Tri) (ns : List ℕ) → IsWithinLimits tin
    → t < length tin.triangles → ns ≡ numbers_of tin t → corners_of r ≡ places tin frame (numbers_of tin t)
    → (pos 0 <ℤ turn_of (whole r.a) (whole r.b) (whole r.c) → ⊥) → turn_of (whole r.a) (whole r.b) (whole r.c) ≢ pos 0
    → IsLeftTurned tin frame t (turned_tri r) (get_or ns 0 0 ∷ get_or ns 2 0 ∷ get_or ns 1 0 ∷ [])
left_turned_back tin frame t r ns limits ht same is not_left not_flat =
    subst (λ (ms : List ℕ). IsLeftTurned tin frame t (turned_tri r) (get_or ms 0 0 ∷ get_or ms 2 0 ∷ get_or ms 1 0 ∷ []))
    (sym same) (record {
      counted = counted_turned (numbers_of tin t) (limits.three t ht);
      places_are = places_turned tin frame (numbers_of tin t) r (limits.three t ht) is;
      positive = above (turn_of (whole r.a) (whole r.b) (whole r.c)) (turn_of (whole r.a) (whole r.c) (whole r.b))
          (turned_turn (whole r.a) (whole r.b) (whole r.c)) not_left not_flat;
    })
  where
    below : (y : ℤ) → (pos 0 <ℤ y → ⊥) → y ≢ pos 0 → y <ℤ pos 0
    below y h i = grind (arith, ints)

    above : (y z : ℤ) → y ≡ neg_ℤ z → (pos 0 <ℤ y → ⊥) → y ≢ pos 0 → pos 0 <ℤ z
    above y z e h i = let k = below y h i in omega (arith, ints)
