-- The invariant of the loop of `push_heights` in src/segments.rt.
use Rattle.std.proofs.Common.{◌≡◌, ◌++◌, map, take}
use Rattle.sheet_pieces.specs.SpotHeights.{param_height}
use Rattle.carry_map.proofs.segments.push_heights.Given as goal

-- the heights at the ends of the steps so far come after those before
abbrev pub invariant-loop-step : goal.invariant-loop-step
invariant-loop-step l = l.heights ≡ l.fn.heights
    ++ map (λ step. param_height l.ends.from l.ends.to step.slice.hi) (take l.step-index l.steps)
