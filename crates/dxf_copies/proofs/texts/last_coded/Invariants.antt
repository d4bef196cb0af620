-- The invariants of `last_coded` in src/texts.rt.
use Rattle.std.proofs.Common.{◌≡◌, ◌≤◌, length, take, None}
use Rattle.dxf_copies.specs.Rendering.{last_coded}
use Rattle.dxf_copies.proofs.texts.last_coded.Given as goal

abbrev pub invariant-loop-left : goal.invariant-loop-left
invariant-loop-left l = (l.left ≤ length l.pairs)
    × (last_coded l.code None (take l.left l.pairs) ≡ last_coded l.code None l.pairs)

abbrev pub decreases-loop-left : goal.decreases-loop-left
decreases-loop-left l = l.left
