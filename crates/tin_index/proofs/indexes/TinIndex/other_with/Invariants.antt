-- The invariant of the loop of `TinIndex::other_with` in src/indexes.rt.
use Rattle.std.proofs.Common.{◌≢◌, ℕ, ◌<◌, get_or}
use Rattle.tin_index.specs.Sides.{HasCorner}
use Rattle.tin_index.proofs.indexes.TinIndex.other_with.Given as goal

-- none of the triangles so far is another one that has the second corner
abbrev pub invariant-loop-place : goal.invariant-loop-place
invariant-loop-place l = (k : ℕ) → k < l.place
    → (get_or l.star k 0 ≢ l.triangle) × HasCorner l.self (get_or l.star k 0) l.second → ⊥
