-- Natural numbers that are the weights of two points.
use Rattle.std.proofs.Common.{ℕ, ◌+◌, ◌<◌, pos}
use Rattle.integer_ring.proofs.Order.{nonneg_pos}
use Rattle.plain_laws.proofs.Weights.{two_positive}
use Rattle.plane_base.specs.TwoWeights.{AreWeights}

pub weights_of : (i j : ℕ) → 0 < i + j → AreWeights (pos i) (pos j)
weights_of i j h = record { first = nonneg_pos i; second = nonneg_pos j; some = two_positive i j h }
