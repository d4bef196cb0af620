-- The invariant of the loop of `push_none` in src/heights.rt.
use Rattle.std.proofs.Common.{◌≡◌, ◌++◌}
use Rattle.sheet_base.specs.PointHeights.{no_heights}
use Rattle.sheet_base.proofs.heights.push_none.Given as goal

abbrev pub invariant-loop : goal.invariant-loop
invariant-loop l = l.known.items ≡ l.initial.known.items ++ no_heights l.counter
