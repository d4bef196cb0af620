-- Four times the square of a turn, over the square of a length, rounded down.
use Rattle.std.proofs.Common.{◌≡◌, ℕ, ◌+◌, ◌*◌, ◌/◌, ℤ, pos, ◌*ℤ◌, ◌≤ℤ◌, ◌<ℤ◌, unsigned_abs, arith}
use Rattle.integer_ring.proofs.Ring.{num, ◌⊕◌, ◌⊗◌}
use Rattle.integer_ring.proofs.Floor.{floor-≤, floor-<}
use Rattle.integer_ring.proofs.Claims.{◌≺◌, over, ◌because◌, ◌⇒◌, follows}

four_squares : (t : ℤ) → pos (4 * (unsigned_abs t * unsigned_abs t)) ≡ pos 4 *ℤ (t *ℤ t)
four_squares t = grind arith

quotient_low : (n d : ℕ) → pos 0 <ℤ pos d → (pos (n / d) *ℤ pos d) ≤ℤ pos n
quotient_low n d h = floor-≤ (pos n) (pos d) h

quotient_high : (n d : ℕ) → pos 0 <ℤ pos d → pos n <ℤ (pos (n / d + 1) *ℤ pos d)
quotient_high n d h =
    follows 3 (λ n q d. n ≺ q ⊗ d ⊕ d ⇒ n ≺ (q ⊕ num (pos 1)) ⊗ d
    because over 0) tt (pos n) (pos (n / d)) (pos d) (floor-< (pos n) (pos d) h)

pub height_low : (t s : ℤ) (h d : ℕ) → h ≡ unsigned_abs t → d ≡ unsigned_abs s → pos 0 <ℤ s
    → (pos (4 * (h * h) / d) *ℤ s) ≤ℤ (pos 4 *ℤ (t *ℤ t))
height_low t s h d e f some = grind (arith, four_squares, quotient_low)

pub height_high : (t s : ℤ) (h d : ℕ) → h ≡ unsigned_abs t → d ≡ unsigned_abs s → pos 0 <ℤ s
    → (pos 4 *ℤ (t *ℤ t)) <ℤ (pos (4 * (h * h) / d + 1) *ℤ s)
height_high t s h d e f some = grind (arith, four_squares, quotient_high)
