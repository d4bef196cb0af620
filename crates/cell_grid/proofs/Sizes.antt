-- The level of a box, and how long its sides are.
use Rattle.std.proofs.Common.{◌≡◌, ℕ, ◌+◌, ◌*◌, ◌^◌, ◌<◌, ◌≤◌, add-one, ⊎_elim, List, get_or, refl, arith}
use Rattle.std.proofs.Math.Nat.{pow-le-pow_right, pow-succ'}
use Rattle.std.proofs.lemmas.Bool.{cases_lt}
use Rattle.std.proofs.lemmas.Int.{ints}
use Rattle.std.proofs.lemmas.Nat.{leading_length}
use Rattle.plane_base.specs.declared.shapes.Pt.{Pt}
use Rattle.plane_base.specs.declared.shapes.Rect.{Rect}
use Rattle.plane_base.specs.Boxes.{IsOrdered}
use Rattle.cell_grid.specs.Boxes.{AreOrdered, IsWithinSpan, AreWithinSpan}
use Rattle.cell_grid.specs.Stripes.{IsPastCorner}
use Rattle.cell_grid.specs.InsideSizes.{longer_side, binary_digits, level_of, AreOfLevels}

-- a number has fewer values than its digits allow, and no fewer digits than it needs
digits_above : (n : ℕ) → n < 2 ^ 64 → n < 2 ^ binary_digits n
digits_above n h =
    let l = leading_length 64 n h in
    let e : binary_digits n ≡ l.0 = omega (arith, l.1) in
    rw e l.2

pow_up : (k m : ℕ) → k ≤ m → 2 ^ k ≤ 2 ^ m
pow_up k m h = pow-le-pow_right {n = 2} (omega arith) {i = k} {j = m} h

pow_twice : (k m : ℕ) → k < m → 2 * 2 ^ k ≤ 2 ^ m
pow_twice k m h =
    let up : 2 ^ (k + 1) ≤ 2 ^ m = pow_up (k + 1) m (omega arith) in
    let more : 2 ^ (k + 1) ≡ 2 * 2 ^ k = rw (add-one, pow-succ') refl in
    omega arith

no_more : (n k m : ℕ) → n < 2 ^ k → 2 ^ m ≤ 2 * n + 1 → m ≤ k
no_more n k m a b = ⊎_elim (λ more. absurd (omega (arith, a, b, pow_twice k m more))) (λ few. few) (cases_lt k m)

digits_below : (n k : ℕ) → n < 2 ^ 64 → n < 2 ^ k → binary_digits n ≤ k
digits_below n k h small =
    let l = leading_length 64 n h in
    let e : binary_digits n ≡ l.0 = omega (arith, l.1) in
    rw e (no_more n k l.0 small l.3)

-- the sides of a box less than the span long
side_short : (rect : Rect) → IsOrdered rect → IsWithinSpan rect rect → longer_side rect < 2 ^ 31
side_short rect ordered span = omega (arith, ints, ordered.0, ordered.1, span.0, span.1)

level_small : (rect : Rect) → IsOrdered rect → IsWithinSpan rect rect → level_of rect < 32
unfolding level_of
level_small rect ordered span =
    let short = side_short rect ordered span in
    omega (arith, digits_below (longer_side rect) 31 (omega arith) short)

pub levels_small : (boxes : List Rect) → AreOrdered boxes → AreWithinSpan boxes → AreOfLevels 32 boxes
levels_small boxes ordered span k d h = level_small (get_or boxes k d) (ordered k d h) (span k d h k d h)

-- a box is smaller than the cells of its level, and of those above
side_below : (rect : Rect) (shift : ℕ) → longer_side rect < 2 ^ 64 → level_of rect ≤ shift
    → longer_side rect < 2 ^ shift
unfolding level_of
side_below rect shift short h =
    let own = digits_above (longer_side rect) short in
    let up = pow_up (binary_digits (longer_side rect)) shift h in
    omega arith

-- a box past a corner
side_past : (low : Pt) (rect : Rect) → IsPastCorner low rect → longer_side rect < 2 ^ 64
side_past low rect past = let short = side_short rect past.ordered
    (omega (arith, ints, past.left.0, past.right.1), omega (arith, ints, past.bottom.0, past.top.1)) in omega arith

pub small_on : (low : Pt) (rect : Rect) (shift : ℕ) → IsPastCorner low rect → level_of rect ≤ shift
    → longer_side rect < 2 ^ shift
small_on low rect shift past h = side_below rect shift (side_past low rect past) h
