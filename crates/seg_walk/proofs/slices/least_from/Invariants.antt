-- The invariant of the loop of `least_from` in src/slices.rt.
use Rattle.std.proofs.Common.{ℕ, ◌<◌, get_or}
use Rattle.tin_base.specs.Slices.{spot_of}
use Rattle.seg_walk.specs.InsideStarts.{HasNoPartFrom}
use Rattle.seg_walk.proofs.slices.least_from.Given as goal

-- none of the triangles so far has a part that begins there
abbrev pub invariant-loop-place : goal.invariant-loop-place
invariant-loop-place l = (k : ℕ) → k < l.place → HasNoPartFrom l.tin l.a l.b (spot_of l.at) (get_or l.numbers k 0)
