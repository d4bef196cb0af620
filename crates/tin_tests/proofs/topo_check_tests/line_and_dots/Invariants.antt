-- The invariant of the loop of `line_and_dots` in src/topo_check_tests.rt.
use Rattle.std.proofs.Common.{All}
use Rattle.tin_tests.specs.Small.{IsTried}
use Rattle.tin_tests.proofs.topo_check_tests.line_and_dots.Given as goal

abbrev pub invariant-loop-number : goal.invariant-loop-number
invariant-loop-number l = All (λ p. IsTried l.tin p) l.pieces.items
