-- What the test of the limits goes through: the corners, each beside those before it, and the rows. Only private
-- functions speak of it.
use Rattle.std.specs.Prelude.{◌≢◌, ℕ, ◌<◌, All, List, [], slice_index_or}
use Rattle.tin_base.specs.declared.corners.Corner.{Corner}
use Rattle.tin_base.specs.declared.frames.Frame.{Frame}
use Rattle.tin_base.specs.Triangulation.{no_corner}
use Rattle.tin_base.specs.Limits.{IsCornerInReach, IsNotFarBelow}

-- two corners of one triangulation: they differ, and in both frames neither is far from the other
abbrev pub AreBeside : Corner → Corner → Type 0
AreBeside c d = (c ≢ d) × ((frame : Frame) → IsNotFarBelow frame c d × IsNotFarBelow frame d c)

-- the n-th corner is beside the first k
abbrev pub IsBesideFirst : List Corner → ℕ → ℕ → Type 0
IsBesideFirst corners n k = (m : ℕ) → m < k
    → AreBeside (slice_index_or corners m no_corner) (slice_index_or corners n no_corner)

-- the first k corners are in reach, and each of them is beside those before it
abbrev pub AreFirstFine : List Corner → ℕ → Type 0
AreFirstFine corners k = (n : ℕ) → n < k → ((frame : Frame)
    → IsCornerInReach frame (slice_index_or corners n no_corner)) × IsBesideFirst corners n n

-- the numbers of the first k rows are below the count
abbrev pub AreRowsBelow : List (List ℕ) → ℕ → ℕ → Type 0
AreRowsBelow rows count k = (t : ℕ) → t < k → All (λ n. n < count) (slice_index_or rows t [])
