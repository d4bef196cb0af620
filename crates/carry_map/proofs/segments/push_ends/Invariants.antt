-- The invariant of the loop of `push_ends` in src/segments.rt.
use Rattle.std.proofs.Common.{◌≡◌, ◌++◌, map, take}
use Rattle.carry_map.proofs.segments.push_ends.Given as goal

-- the images of the pieces so far come after the points before
abbrev pub invariant-loop-piece : goal.invariant-loop-piece
invariant-loop-piece l = l.points.items ≡ l.fn.points.items ++ map (λ piece. piece.ib) (take l.piece-index l.pieces)
