-- Any two segments have a gap.
use Rattle.std.proofs.Common.{◌≡◌, ◌⊎◌, inl, inr, ℕ, zero, suc, ◌+◌, ◌-◌, ◌*◌, ◌/◌, ◌<◌, ◌≤◌, min, ℤ, pos, ◌+ℤ◌}
use Rattle.std.proofs.Common.{◌-ℤ◌, ◌*ℤ◌, ◌≤ℤ◌, ◌<ℤ◌, unsigned_abs, refl, subst, arith}
use Rattle.std.proofs.lemmas.Bool.{cases_lt}
use Rattle.integer_ring.proofs.Order.{≤_or_>}
use Rattle.plane_base.specs.declared.shapes.Pt.{Pt}
use Rattle.seg_gap.specs.InsideEnds.{AreOpposite, DoCross, dot_of, IsEndSquare, IsLeast, IsHalfRoot}
use Rattle.seg_gap.specs.Gaps.{IsGap}
use Rattle.seg_gap.specs.Laws.{GapExists}
use Rattle.seg_gap.proofs.Steps.{whole_turn}
use Rattle.seg_gap.proofs.Sides.{AreAside, opposite_or_aside}
use Rattle.seg_gap.proofs.Feet.{square_of_end, square_of_foot, end_square_swapped, sum_some}
use Rattle.seg_gap.proofs.Heights.{height_low, height_high}
use Rattle.seg_gap.proofs.Least.{lesser, least_of}
use Rattle.seg_gap.proofs.GapLaws.{gap_crossing, gap_by_ends}

-- ---- an end and a segment
abbrev four_squares_of : ℤ → ℤ → ℕ
four_squares_of x y = 4 * (unsigned_abs x * unsigned_abs x + unsigned_abs y * unsigned_abs y)

four_squares_are : (x y : ℤ) → pos (four_squares_of x y) ≡ pos 4 *ℤ (x *ℤ x +ℤ y *ℤ y)
four_squares_are x y = grind arith

end_square : (p c d : Pt) → (value : ℕ) × IsEndSquare p c d value
end_square p c d = by (≤_or_> (dot_of c p d) (pos 0)) (≤_or_> (dot_of d p c) (pos 0))
  where
    by : (dot_of c p d ≤ℤ pos 0) ⊎ (pos 0 <ℤ dot_of c p d) → (dot_of d p c ≤ℤ pos 0) ⊎ (pos 0 <ℤ dot_of d p c)
        → (value : ℕ) × IsEndSquare p c d value
    by (inl from) other =
        let value = four_squares_of (p.x -ℤ c.x) (p.y -ℤ c.y) in
        (value, square_of_end p c d value from (four_squares_are (p.x -ℤ c.x) (p.y -ℤ c.y)))
    by (inr from) (inl to) =
        let value = four_squares_of (p.x -ℤ d.x) (p.y -ℤ d.y) in (
          value,
          end_square_swapped p c d value
              (square_of_end p d c value to (four_squares_are (p.x -ℤ d.x) (p.y -ℤ d.y))),
        )
    by (inr from) (inr to) =
        let t = whole_turn c d p in
        let s = dot_of c p d +ℤ dot_of d p c in
        let value = 4 * (unsigned_abs t * unsigned_abs t) / unsigned_abs s in
        let some = sum_some (dot_of c p d) (dot_of d p c) from to in (
          value,
          square_of_foot p c d t value from to refl
              (height_low t s (unsigned_abs t) (unsigned_abs s) refl refl some)
              (height_high t s (unsigned_abs t) (unsigned_abs s) refl refl some),
        )

-- ---- the four ends
least_exists : (a b c d : Pt) → (value : ℕ) × IsLeast a b c d value
least_exists a b c d =
    let (s, of_a) = end_square a c d in
    let (t, of_b) = end_square b c d in
    let (u, of_c) = end_square c a b in
    let (v, of_d) = end_square d a b in
    let x = min s t in
    let y = min u v in (
      min x y,
      least_of a b c d s t u v x y (min x y) of_a of_b of_c of_d (lesser s t x refl) (lesser u v y refl)
          (lesser x y (min x y) refl),
    )

-- ---- half a root
half_from : (value left half : ℕ) → (0 < half → (2 * half - 1) * (2 * half - 1) ≤ value)
    → value < (2 * (half + left) + 1) * (2 * (half + left) + 1) → (root : ℕ) × IsHalfRoot value root
half_from value zero half low high = (half, record { low = low; high = at_end half high })
  where
    at_end : (half : ℕ) → value < (2 * (half + 0) + 1) * (2 * (half + 0) + 1)
        → value < (2 * half + 1) * (2 * half + 1)
    at_end half h = omega arith
half_from value (suc left) half low high =
    by (λ more. half_from value left (half + 1) (λ some. next half more) (onward half left high))
    (cases_lt value ((2 * half + 1) * (2 * half + 1)))
  where
    next : (half : ℕ) → (2 * half + 1) * (2 * half + 1) ≤ value
        → (2 * (half + 1) - 1) * (2 * (half + 1) - 1) ≤ value
    next half h =
        let e : 2 * half + 1 ≡ 2 * (half + 1) - 1 = omega arith in
        subst (λ (n : ℕ). n * n ≤ value) e h

    onward : (half left : ℕ) → value < (2 * (half + suc left) + 1) * (2 * (half + suc left) + 1)
        → value < (2 * (half + 1 + left) + 1) * (2 * (half + 1 + left) + 1)
    onward half left h = omega arith

    by : ((2 * half + 1) * (2 * half + 1) ≤ value → (root : ℕ) × IsHalfRoot value root)
        → (value < (2 * half + 1) * (2 * half + 1)) ⊎ ((2 * half + 1) * (2 * half + 1) ≤ value)
        → (root : ℕ) × IsHalfRoot value root
    by rest (inl here) = (half, record { low = low; high = here })
    by rest (inr more) = rest more

half_root : (value : ℕ) → (root : ℕ) × IsHalfRoot value root
half_root value = half_from value value 0 (λ some. absurd (omega (arith, some))) (below value)
  where
    below : (n : ℕ) → n < (2 * (0 + n) + 1) * (2 * (0 + n) + 1)
    below n = grind arith

-- ---- two segments
not_both : (u v : ℤ) → AreOpposite u v → AreAside u v → ⊥
not_both u v h k = grind arith

cross_or : (a b c d : Pt) → DoCross a b c d ⊎ (DoCross a b c d → ⊥)
cross_or a b c d = grind (arith, opposite_or_aside, not_both)

pub gap_exists : GapExists
gap_exists a b c d = by (cross_or a b c d)
  where
    by : DoCross a b c d ⊎ (DoCross a b c d → ⊥) → (gap : ℕ) × IsGap a b c d gap
    by (inl cross) = (0, gap_crossing a b c d cross)
    by (inr apart) =
        let (value, least) = least_exists a b c d in
        let (half, root) = half_root value in
        (half, gap_by_ends a b c d value half apart least root)
