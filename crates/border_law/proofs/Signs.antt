-- Signs of whole numbers and of their opposites.
use Rattle.std.proofs.Common.{◌≡◌, ℤ, pos, neg_ℤ, ◌≤ℤ◌, ◌<ℤ◌, arith}
use Rattle.std.proofs.lemmas.Int.{ints}

pub nonneg_zero : (z : ℤ) → z ≡ pos 0 → pos 0 ≤ℤ z
nonneg_zero z e = omega (arith, ints)

pub not_zero : (z : ℤ) → pos 0 <ℤ z → z ≡ pos 0 → ⊥
not_zero z h e = absurd (omega (arith, ints))

pub not_opposite : (y z : ℤ) → y ≡ neg_ℤ z → pos 0 <ℤ y → pos 0 ≤ℤ z → ⊥
not_opposite y z e h k = absurd (omega (arith, ints))
