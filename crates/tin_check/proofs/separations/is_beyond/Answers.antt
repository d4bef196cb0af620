-- Answers to the goals of `is_beyond` in src/separations.rt.
use Rattle.std.proofs.Common.{refl}
use Rattle.tin_check.proofs.TriangleTests.TurnTests.{beyond_first, beyond_second, beyond_third}
use Rattle.tin_check.proofs.separations.is_beyond.Goals as goal

pub returns-then-is_right_of : goal.returns-then-is_right_of
returns-then-is_right_of c = λ yes. beyond_first c.args.t.now c.args.u.now c.requires.positive
    (c.if-is_right_of.ensures refl)

pub returns-then-is_right_of-2 : goal.returns-then-is_right_of-2
returns-then-is_right_of-2 c = λ yes. beyond_second c.args.t.now c.args.u.now c.requires.positive
    (c.if-is_right_of-2.ensures refl)

pub returns : goal.returns
returns c = λ yes. beyond_third c.args.t.now c.args.u.now c.requires.positive (c.is_right_of-3.ensures yes)
