-- Answers to the goals of `touch_at_side` in src/sides.rt.
use Rattle.meet_rel.proofs.CommonSides.{touch_by}
use Rattle.meet_rel.proofs.sides.touch_at_side.Goals as goal

pub returns-in-Some : goal.returns-in-Some
returns-in-Some c = λ yes.
    touch_by c.args.p.now c.args.q.now c.in-Some.side.from c.in-Some.side.to c.rel.result c.requires.p c.requires.q
    c.requires.a c.requires.b c.in-Some.ensures.first c.in-Some.ensures.second c.rel.ensures
    (c.is_of_one_point.ensures yes)
