-- Answers to the goals of `border_of` in src/borders.rt.
use Rattle.tin_check.proofs.BorderLemmas.BorderSides.{border_is}
use Rattle.tin_check.proofs.borders.border_of.Goals as goal

pub returns : goal.returns
returns c = border_is c.args.tin.now c.deref.result.now c.in_ok-sides.sides.items c.requires
    c.in_ok-sides.ensures.listed c.in_ok-sides.ensures.sides
