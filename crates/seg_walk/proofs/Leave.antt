-- How a segment leaves a triangle, as the triangle's slice says.
use Rattle.std.proofs.Common.{◌≡◌, ℕ, zero, suc, ◌<◌, ℤ, pos, ◌+ℤ◌, ◌-ℤ◌, ◌*ℤ◌, ◌<ℤ◌, List, [], ◌∷◌, length, get_or}
use Rattle.std.proofs.Common.{ap, subst, arith}
use Rattle.integer_ring.proofs.Ring.{num, neg, ◌⊕◌, ◌⊖◌, ◌⊗◌}
use Rattle.integer_ring.proofs.Claims.{◌≐◌, eqn, ◌⊞◌, ◌because◌, ◌⇒◌, follows}
use Rattle.frac128.specs.declared.frac.Frac.{Frac}
use Rattle.plane_base.specs.Plane.{Point, turn_of, IsMix, whole, corners_of, along}
use Rattle.plane_base.specs.Slices.{IsParam, IsParallel, IsCrossed, LiesAt}
use Rattle.plane_base.specs.declared.shapes.Pt.{Pt}
use Rattle.plane_base.specs.declared.shapes.Tri.{Tri}
use Rattle.plane_base.specs.declared.stretches.End.{End}
use Rattle.plane_base.specs.declared.stretches.End.TheVariants.{Vertex, Side}
use Rattle.plane_base.specs.declared.stretches.Stretch.{Stretch}
use Rattle.plane_base.proofs.MixLaws.Along.{along-w}
use Rattle.tin_base.specs.declared.frames.Frame.TheVariants.{Source}
use Rattle.tin_base.specs.Triangulation.{Triangulation, numbers_of, places}
use Rattle.tin_base.specs.Limits.{IsWithinLimits}
use Rattle.tin_base.specs.Segments.{Spot, spot_at}
use Rattle.tin_base.proofs.SegmentSpots.SegmentSlices.{mix_by, one_axis}
use Rattle.tin_index.specs.Sides.{next_of}
use Rattle.tin_base.specs.Slices.{spot_of, IsSliceIn}
use Rattle.seg_walk.specs.InsideExits.{place_at, IsOnLine, IsLeftAt}
use Rattle.tin_base.proofs.TriangleLemmas.TrianglePlaces.{stands}
use Rattle.tin_base.proofs.SegmentSpots.Params.{at_spot, spot_some}
use Rattle.tin_base.proofs.SegmentSpots.SlicedParts.{within}

-- ---- the point at a parameter is that of its spot
mix_at : (a b : Pt) (f : Frac) (ps : List Point) → IsParam f.num f.den
    → IsMix (along (whole a) (whole b) f.num f.den) ps → IsMix (spot_at a b (spot_of f)) ps
mix_at a b f ps h m = grind (arith, at_spot, mix_by, along-w, one_axis)

-- ---- a side with both corners on the line is parallel to the segment
parallel_z : (ax ay bx by px py qx qy : ℤ)
    → ax *ℤ (by *ℤ pos 1 -ℤ py *ℤ pos 1) -ℤ ay *ℤ (bx *ℤ pos 1 -ℤ px *ℤ pos 1) +ℤ pos 1 *ℤ (bx *ℤ py -ℤ px *ℤ by)
    ≡ pos 0
    → ax *ℤ (by *ℤ pos 1 -ℤ qy *ℤ pos 1) -ℤ ay *ℤ (bx *ℤ pos 1 -ℤ qx *ℤ pos 1) +ℤ pos 1 *ℤ (bx *ℤ qy -ℤ qx *ℤ by)
    ≡ pos 0 → (bx -ℤ ax) *ℤ (qy -ℤ py) ≡ (by -ℤ ay) *ℤ (qx -ℤ px)
parallel_z =
    follows 8 (λ ax ay bx by px py qx qy. ax ⊗ (by ⊗ num (pos 1) ⊖ py ⊗ num (pos 1)) ⊖ ay
    ⊗ (bx ⊗ num (pos 1) ⊖ px ⊗ num (pos 1)) ⊕ num (pos 1) ⊗ (bx ⊗ py ⊖ px ⊗ by) ≐ num (pos 0)
    ⇒ ax ⊗ (by ⊗ num (pos 1) ⊖ qy ⊗ num (pos 1)) ⊖ ay ⊗ (bx ⊗ num (pos 1) ⊖ qx ⊗ num (pos 1)) ⊕ num (pos 1)
    ⊗ (bx ⊗ qy ⊖ qx ⊗ by) ≐ num (pos 0)
    ⇒ (bx ⊖ ax) ⊗ (qy ⊖ py) ≐ (by ⊖ ay) ⊗ (qx ⊖ px) because eqn 1 (num (pos 1)) ⊞ eqn 0 (neg (num (pos 1)))) tt

parallel : (a b p q : Pt) → turn_of (whole a) (whole b) (whole p) ≡ pos 0
    → turn_of (whole a) (whole b) (whole q) ≡ pos 0 → IsParallel a b p q
parallel a b p q e f = parallel_z a.x a.y b.x b.y p.x p.y q.x q.y e f

-- ---- the side that is crossed
record Crosses (tin : Triangulation) (a b : Pt) (c d : ℕ) (x : Spot) : Type 0 where
  on_side : IsMix (spot_at a b x) (place_at tin c ∷ place_at tin d ∷ [])
  crossed : IsOnLine tin a b c → IsOnLine tin a b d → ⊥

crosses : (tin : Triangulation) (a b p q : Pt) (c d : ℕ) (f : Frac) → whole p ≡ place_at tin c
    → whole q ≡ place_at tin d → IsParam f.num f.den → IsCrossed a b p q f → Crosses tin a b c d (spot_of f)
crosses tin a b p q c d f is_c is_d h cross = grind (arith, mix_at, parallel)

abbrev nowhere : Point
nowhere = record { x = pos 0; y = pos 0; w = pos 0 }

-- by the triangle's three corners
by_side : (tin : Triangulation) (a b : Pt) (ns : List ℕ) (r : Tri) (f : Frac) (V : Type 0) (k : ℕ) → length ns ≡ 3
    → corners_of r ≡ places tin Source ns → IsParam f.num f.den → LiesAt a b r f V (Side k)
    → (k < 3) × Crosses tin a b (get_or ns k 0) (get_or ns (next_of k) 0) (spot_of f)
by_side tin a b [] r f V k e is h lies = absurd (omega arith)
by_side tin a b (i ∷ []) r f V k e is h lies = absurd (omega arith)
by_side tin a b (i ∷ j ∷ []) r f V k e is h lies = absurd (omega arith)
by_side tin a b (i ∷ j ∷ l ∷ m ∷ ns) r f V k e is h lies = absurd (omega arith)
by_side tin a b (i ∷ j ∷ l ∷ []) r f V zero e is h lies = (
  omega arith,
  crosses tin a b r.a r.b i j f (ap (λ (ps : List Point). get_or ps 0 nowhere) is)
      (ap (λ (ps : List Point). get_or ps 1 nowhere) is) h lies.1,
)
by_side tin a b (i ∷ j ∷ l ∷ []) r f V (suc zero) e is h lies = (
  omega arith,
  crosses tin a b r.b r.c j l f (ap (λ (ps : List Point). get_or ps 1 nowhere) is)
      (ap (λ (ps : List Point). get_or ps 2 nowhere) is) h lies.1.1,
)
by_side tin a b (i ∷ j ∷ l ∷ []) r f V (suc (suc zero)) e is h lies = (
  omega arith,
  crosses tin a b r.c r.a l i f (ap (λ (ps : List Point). get_or ps 2 nowhere) is)
      (ap (λ (ps : List Point). get_or ps 0 nowhere) is) h lies.1.2,
)
by_side tin a b (i ∷ j ∷ l ∷ []) r f V (suc (suc (suc k))) e is h lies = absurd lies.1

pub left_at : (tin : Triangulation) (a b : Pt) (t k : ℕ) (slice : Stretch) → IsWithinLimits tin
    → t < length tin.triangles → IsSliceIn tin a b t slice → slice.leave ≡ Side k
    → IsLeftAt tin a b t k (spot_of slice.hi)
left_at tin a b t k slice limits ht told is_side = go (stands tin t limits ht)
  where
    go : (r : Tri) × (corners_of r ≡ places tin Source (numbers_of tin t)) → IsLeftAt tin a b t k (spot_of slice.hi)
    go r =
        let known = told r.0 r.1 in
        let common = known.0 in let ends = known.1 in
        let param = common.1.0 in
        let lies = subst (λ (end : End). LiesAt a b r.0 slice.hi (slice.hi.num ≡ slice.hi.den) end) is_side
        ends.leave in
        let side = by_side tin a b (numbers_of tin t) r.0 slice.hi (slice.hi.num ≡ slice.hi.den) k (limits.three t ht)
        r.1 param lies in
        let cross = side.1 in
        record {
          in_range = ht;
          side = side.0;
          has = record {
            some = spot_some slice.hi param;
            inside =
                subst (λ (ps : List Point). IsMix (spot_at a b (spot_of slice.hi)) ps) r.1
                (mix_at a b slice.hi (corners_of r.0) param common.1.1);
          };
          last = λ s h. (within tin a b t slice s limits ht told h).1;
          on_side = cross.on_side;
          crossed = cross.crossed;
        }

not_less : (n d : ℤ) → n ≡ d → n <ℤ d → ⊥
not_less n d e h = grind arith

-- a slice that ends before the segment's end ends on a side
pub not_at_end : (tin : Triangulation) (a b : Pt) (t : ℕ) (slice : Stretch) → IsWithinLimits tin
    → t < length tin.triangles → IsSliceIn tin a b t slice → slice.leave ≡ Vertex → slice.hi.num <ℤ slice.hi.den → ⊥
not_at_end tin a b t slice limits ht told is_vertex before = go (stands tin t limits ht)
  where
    go : (r : Tri) × (corners_of r ≡ places tin Source (numbers_of tin t)) → ⊥
    go r = grind (arith, not_less)
