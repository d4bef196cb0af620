-- Where a step leaves its triangle: at the segment's end, or through one side.
use Rattle.std.proofs.Common.{◌≡◌, ◌≢◌, ℕ, zero, suc, ◌<◌, ℤ, pos, ◌+ℤ◌, ◌-ℤ◌, ◌*ℤ◌, ◌<ℤ◌, true, List, [], ◌∷◌, length}
use Rattle.std.proofs.Common.{get_or, refl, sym, ap, subst, arith}
use Rattle.std.proofs.lemmas.Int.{ints}
use Rattle.integer_ring.proofs.Ring.{num, ◌⊕◌, ◌⊖◌, ◌⊗◌}
use Rattle.integer_ring.proofs.Claims.{◌≐◌, eqn, ◌because◌, ◌⇒◌, follows}
use Rattle.frac128.specs.declared.frac.Frac.{Frac}
use Rattle.plane_base.specs.Plane.{Point, Same, whole, along, turn_of, IsMix, corners_of, IsNear, IsNearAll, IsNearTri}
use Rattle.plane_base.specs.Slices.{IsParam, IsCommon, AreEnds, IsWholeWay, IsCrossed, IsEnd, LiesAt}
use Rattle.plane_base.specs.declared.shapes.Pt.{Pt}
use Rattle.plane_base.specs.declared.shapes.Tri.{Tri}
use Rattle.plane_base.specs.declared.stretches.End.{End}
use Rattle.plane_base.specs.declared.stretches.End.TheVariants.{Vertex, Side}
use Rattle.plane_base.specs.declared.stretches.Stretch.{Stretch}
use Rattle.plane_base.proofs.MixLaws.Mixes.{same_refl, same_sym, same_trans, same_moved, mix_moved}
use Rattle.plane_base.proofs.MixLaws.Along.{along-w}
use Rattle.tin_base.specs.declared.frames.Frame.TheVariants.{Source, Target}
use Rattle.tin_base.specs.Triangulation.{Triangulation, place, corner_at, numbers_of, places, IsInTriangle}
use Rattle.tin_base.specs.Limits.{IsWithinLimits}
use Rattle.tin_base.specs.Soundness.{has}
use Rattle.tin_base.specs.Segments.{spot_at}
use Rattle.tin_base.proofs.TriangleLemmas.Members.{has_first, has_second, has_third}
use Rattle.affine_image.specs.RoundedImages.{rounded_point, IsRoundedImage, IsRoundedImageAt}
use Rattle.affine_image.specs.Cuts.{cut_of}
use Rattle.affine_image.proofs.CornerSegments.{cuts_are_images}
use Rattle.affine_image.proofs.PlaceImages.{rounded_moved}
use Rattle.tin_base.specs.Slices.{spot_of, IsSliceIn, AreNearTriangle}
use Rattle.tin_base.proofs.SegmentSpots.Params.{at_spot}
use Rattle.tin_base.proofs.SegmentSpots.SlicedParts.{params}
use Rattle.tin_base.proofs.TriangleLemmas.TrianglePlaces.{source_at, stands}
use Rattle.affine_image.specs.InsideSides.{corner_number, next_corner}
use Rattle.affine_image.proofs.SideCrossings.{parallel, crossing, IsOnSide}
use Rattle.plain_laws.proofs.Weights.{share_axis}
use Rattle.affine_image.proofs.Near.{turned}

abbrev point_of : Point → Pt
point_of p = record { x = p.x; y = p.y }

stands_at : (tin : Triangulation) (n : ℕ) (p : Pt) → whole p ≡ place Source (corner_at tin n) → source_at tin n ≡ p
stands_at tin n p e = sym (ap point_of e)

-- the ends of a segment are near a corner of the triangle
pub near_one : (tin : Triangulation) (a b : Pt) (t k m : ℕ) → IsWithinLimits tin → t < length tin.triangles → k < 3
    → AreNearTriangle tin a b t → m ≡ corner_number tin t k → (p : Pt) → whole p ≡ place Source (corner_at tin m)
    → IsNearAll a b p
near_one tin a b t k m limits ht hk near em p e =
    subst (λ (q : Pt). IsNearAll a b q) (stands_at tin m p e)
    (subst (λ (n : ℕ). IsNearAll a b (source_at tin n)) (sym em)
    (go (numbers_of tin t) (limits.three t ht) near k hk))
  where
    each : (c : Pt) → IsNear c a → IsNear c b → IsNear a b → IsNearAll a b c
    each c to_a to_b ab = (ab, turned c a to_a, turned c b to_b)

    go : (ns : List ℕ) → length ns ≡ 3 → ((r : Tri) → corners_of r ≡ places tin Source ns
        → IsNearTri r a × IsNearTri r b × IsNear a b) → (k : ℕ) → k < 3 → IsNearAll a b (source_at tin (get_or ns k 0))
    go (i ∷ j ∷ l ∷ []) three is zero h = let n =
        is (record { a = source_at tin i; b = source_at tin j; c = source_at tin l }) refl in each (source_at tin i)
        n.0.0 n.1.0 n.2
    go (i ∷ j ∷ l ∷ []) three is (suc zero) h = let n =
        is (record { a = source_at tin i; b = source_at tin j; c = source_at tin l }) refl in each (source_at tin j)
        n.0.1 n.1.1 n.2
    go (i ∷ j ∷ l ∷ []) three is (suc (suc zero)) h = let n =
        is (record { a = source_at tin i; b = source_at tin j; c = source_at tin l }) refl in each (source_at tin l)
        n.0.2 n.1.2 n.2
    go ns three is k h = absurd (omega arith)

pub next_below : (k : ℕ) → next_corner k < 3
next_below zero = omega arith
next_below (suc zero) = omega arith
next_below (suc (suc k)) = omega arith

-- ---- the spot of a parameter

same_place : (a b : Pt) (f : Frac) → IsParam f.num f.den
    → Same (spot_at a b (spot_of f)) (along (whole a) (whole b) f.num f.den)
same_place a b f h = grind (arith, at_spot, same_moved, share_axis, same_refl)

at_end : (n d a b : ℤ) → n ≡ d → ((d -ℤ n) *ℤ a +ℤ n *ℤ b) *ℤ pos 1 ≡ b *ℤ ((d -ℤ n) *ℤ pos 1 +ℤ n *ℤ pos 1)
at_end = follows 4 (λ n d a b. n ≐ d ⇒ ((d ⊖ n) ⊗ a ⊕ n ⊗ b) ⊗ num (pos 1) ≐ b
    ⊗ ((d ⊖ n) ⊗ num (pos 1) ⊕ n ⊗ num (pos 1)) because eqn 0 (b ⊖ a)) tt

-- the last parameter is at b
last_place : (a b : Pt) (n d : ℤ) → n ≡ d → Same (along (whole a) (whole b) n d) (whole b)
last_place a b n d e = (at_end n d a.x b.x e, at_end n d a.y b.y e)

-- ---- it leaves at the end of the segment
abbrev pub HasTriangle : Triangulation → ℕ → Type 0
HasTriangle tin t = (r : Tri) × (corners_of r ≡ places tin Source (numbers_of tin t))

ends_at_last : (tin : Triangulation) (a b : Pt) (t : ℕ) (slice : Stretch) → IsWithinLimits tin
    → t < length tin.triangles → IsSliceIn tin a b t slice → slice.leave ≡ Vertex → slice.hi.num ≡ slice.hi.den
ends_at_last tin a b t slice limits ht told e = go (stands tin t limits ht)
  where
    go : HasTriangle tin t → slice.hi.num ≡ slice.hi.den
    go r = let ends = (told r.0 r.1).1 in subst
        (λ (end : End). LiesAt a b r.0 slice.hi (slice.hi.num ≡ slice.hi.den) end) e ends.leave

pub has_last : (tin : Triangulation) (a b : Pt) (t : ℕ) (slice : Stretch) → IsWithinLimits tin
    → t < length tin.triangles → IsSliceIn tin a b t slice → slice.leave ≡ Vertex → IsInTriangle tin Source t (whole b)
has_last tin a b t slice limits ht told e = go (stands tin t limits ht)
  where
    go : HasTriangle tin t → IsInTriangle tin Source t (whole b)
    go r =
        let common = (told r.0 r.1).0 in
        let x = along (whole a) (whole b) slice.hi.num slice.hi.den in
        let same = last_place a b slice.hi.num slice.hi.den (ends_at_last tin a b t slice limits ht told e) in
        subst (λ (ps : List Point). IsMix (whole b) ps) r.1
        (mix_moved x (whole b) (corners_of r.0) (along-w slice.hi.num slice.hi.den slice.hi.positive)
        (same_sym x (whole b) same) common.1.1)

one : pos 0 <ℤ pos 1
one = omega (arith, ints)

pub last_image : (tin : Triangulation) (a b : Pt) (t : ℕ) (slice : Stretch) (image : Pt) → IsWithinLimits tin
    → t < length tin.triangles → IsSliceIn tin a b t slice → slice.leave ≡ Vertex → IsRoundedImage tin b image
    → IsRoundedImageAt tin (spot_at a b (spot_of slice.hi)) image
last_image tin a b t slice image limits ht told e is =
    let ends = params tin a b t slice limits ht told in
    let x = along (whole a) (whole b) slice.hi.num slice.hi.den in
    let same = last_place a b slice.hi.num slice.hi.den (ends_at_last tin a b t slice limits ht told e) in
    rounded_moved tin (whole b) (spot_at a b (spot_of slice.hi)) image one
    (same_trans (spot_at a b (spot_of slice.hi)) x (whole b) (along-w slice.hi.num slice.hi.den slice.hi.positive)
    (same_place a b slice.hi ends.hi) same) is

-- ---- it leaves through a side
pub record IsSide (tin : Triangulation) (a b : Pt) (t k : ℕ) (f : Frac) : Type 0 where
  pub below : k < 3
  pub crossed : IsCrossed a b (source_at tin (corner_number tin t k))
      (source_at tin (corner_number tin t (next_corner k))) f
  pub has_from : has (numbers_of tin t) (corner_number tin t k) ≡ true
  pub has_to : has (numbers_of tin t) (corner_number tin t (next_corner k)) ≡ true

abbrev IsSideOf : Triangulation → Pt → Pt → List ℕ → ℕ → Frac → Type 0
IsSideOf tin a b ns k f =
    (k < 3) × IsCrossed a b (source_at tin (get_or ns k 0)) (source_at tin (get_or ns (next_corner k) 0)) f
    × (has ns (get_or ns k 0) ≡ true) × (has ns (get_or ns (next_corner k) 0) ≡ true)

side_of_three : (tin : Triangulation) (a b : Pt) (i j l k : ℕ) (f : Frac) (V : Type 0)
    → IsEnd V (IsCrossed a b (source_at tin i) (source_at tin j) f)
    (IsCrossed a b (source_at tin j) (source_at tin l) f) (IsCrossed a b (source_at tin l) (source_at tin i) f) (Side k)
    → IsSideOf tin a b (i ∷ j ∷ l ∷ []) k f
side_of_three tin a b i j l zero f V h = (omega arith, h.1, has_first i j l, has_second i j l)
side_of_three tin a b i j l (suc zero) f V h = (omega arith, h.1.1, has_second i j l, has_third i j l)
side_of_three tin a b i j l (suc (suc zero)) f V h = (omega arith, h.1.2, has_third i j l, has_first i j l)
side_of_three tin a b i j l (suc (suc (suc k))) f V h = absurd h.1

pub side_told : (tin : Triangulation) (a b : Pt) (t k : ℕ) (slice : Stretch) → IsWithinLimits tin
    → t < length tin.triangles → IsSliceIn tin a b t slice → slice.leave ≡ Side k → IsSide tin a b t k slice.hi
side_told tin a b t k slice limits ht told e = by (go (numbers_of tin t) (limits.three t ht) told)
  where
    by : IsSideOf tin a b (numbers_of tin t) k slice.hi → IsSide tin a b t k slice.hi
    by h = record { below = h.0; crossed = h.1; has_from = h.2; has_to = h.3 }

    go : (ns : List ℕ) → length ns ≡ 3 → ((r : Tri) → corners_of r ≡ places tin Source ns
        → IsCommon a b r slice × AreEnds a b r slice × (a ≡ b → IsWholeWay slice)) → IsSideOf tin a b ns k slice.hi
    go [] three is = absurd (omega arith)
    go (i ∷ []) three is = absurd (omega arith)
    go (i ∷ j ∷ []) three is = absurd (omega arith)
    go (i ∷ j ∷ l ∷ m ∷ ns) three is = absurd (omega arith)
    go (i ∷ j ∷ l ∷ []) three is =
        let r : Tri = record { a = source_at tin i; b = source_at tin j; c = source_at tin l } in
        let ends = (is r refl).1 in
        side_of_three tin a b i j l k slice.hi (slice.hi.num ≡ slice.hi.den)
        (subst (λ (end : End). LiesAt a b r slice.hi (slice.hi.num ≡ slice.hi.den) end) e ends.leave)

-- the turns of its ends differ
pub side_differs : (tin : Triangulation) (a b : Pt) (t k : ℕ) (f : Frac) (p q : ℕ) → IsSide tin a b t k f
    → p ≡ corner_number tin t k → q ≡ corner_number tin t (next_corner k)
    → turn_of (whole a) (whole b) (place Source (corner_at tin p)) ≢ turn_of (whole a) (whole b)
    (place Source (corner_at tin q))
side_differs tin a b t k f p q side ep eq same =
    let crossed = side.crossed in
    crossed.across (parallel a b (source_at tin (corner_number tin t k))
    (source_at tin (corner_number tin t (next_corner k)))
    (subst (λ (m : ℕ). turn_of (whole a) (whole b) (place Source (corner_at tin m))
    ≡ turn_of (whole a) (whole b) (place Source (corner_at tin (corner_number tin t (next_corner k))))) ep
    (subst (λ (n : ℕ). turn_of (whole a) (whole b) (place Source (corner_at tin p))
    ≡ turn_of (whole a) (whole b) (place Source (corner_at tin n))) eq same)))

-- the parameter on the side, and the image
abbrev pub IsMeeting : Triangulation → Pt → Pt → ℕ → ℕ → Frac → Type 0
IsMeeting tin a b p q s = (k l : ℤ) → turn_of (whole a) (whole b)
    (along (place Source (corner_at tin p)) (place Source (corner_at tin q)) k l) ≡ pos 0 → k *ℤ s.den ≡ s.num *ℤ l

pub on_side : (tin : Triangulation) (a b : Pt) (t k p q : ℕ) (slice : Stretch) (s : Frac) → IsWithinLimits tin
    → t < length tin.triangles → IsSliceIn tin a b t slice → slice.leave ≡ Side k → p ≡ corner_number tin t k
    → q ≡ corner_number tin t (next_corner k) → IsMeeting tin a b p q s
    → IsOnSide a b (source_at tin p) (source_at tin q) slice.hi.num slice.hi.den s.num s.den
on_side tin a b t k p q slice s limits ht told e ep eq once =
    let side = side_told tin a b t k slice limits ht told e in
    let crossed = side.crossed in
    crossing a b (source_at tin p) (source_at tin q) slice.hi.num slice.hi.den s.num s.den slice.hi.positive s.positive
    (subst (λ (m : ℕ). IsMix (along (whole a) (whole b) slice.hi.num slice.hi.den)
    (whole (source_at tin m) ∷ whole (source_at tin q) ∷ [])) (sym ep)
    (subst (λ (m : ℕ). IsMix (along (whole a) (whole b) slice.hi.num slice.hi.den)
    (whole (source_at tin (corner_number tin t k)) ∷ whole (source_at tin m) ∷ [])) (sym eq) crossed.holds)) once

pub side_image : (tin : Triangulation) (a b : Pt) (t k p q : ℕ) (slice : Stretch) (s : Frac) (image : Pt)
    → IsWithinLimits tin → t < length tin.triangles → IsSliceIn tin a b t slice → slice.leave ≡ Side k
    → p ≡ corner_number tin t k → q ≡ corner_number tin t (next_corner k) → IsMeeting tin a b p q s
    → image ≡ rounded_point (cut_of tin Target p q s.num s.den) → IsRoundedImageAt tin (spot_at a b (spot_of slice.hi)) image
side_image tin a b t k p q slice s image limits ht told e ep eq once is =
    let side = side_told tin a b t k slice limits ht told e in
    let on = on_side tin a b t k p q slice s limits ht told e ep eq once in
    let ends = params tin a b t slice limits ht told in
    let x = along (whole a) (whole b) slice.hi.num slice.hi.den in
    let w = along-w slice.hi.num slice.hi.den slice.hi.positive in
    let there = cuts_are_images tin t p q s.num s.den x ht
    (subst (λ (m : ℕ). has (numbers_of tin t) m ≡ true) (sym ep) side.has_from)
    (subst (λ (m : ℕ). has (numbers_of tin t) m ≡ true) (sym eq) side.has_to) on.param on.same in
    subst (λ (i : Pt). IsRoundedImageAt tin (spot_at a b (spot_of slice.hi)) i) (sym is)
    (rounded_moved tin x (spot_at a b (spot_of slice.hi)) (rounded_point (cut_of tin Target p q s.num s.den)) w
    (same_place a b slice.hi ends.hi) there)
