-- Answers to the goals of `list_sides` in src/borders.rt.
use Rattle.tin_check.proofs.BorderLemmas.BorderSides.{next_listed}
use Rattle.tin_check.proofs.borders.list_sides.Goals as goal

pub returns-clause-listed : goal.returns-clause-listed
returns-clause-listed c =
    next_listed c.args.tin.now c.args.mates.now c.triangles.result.now c.args.triangle c.args.sides.now.items
    c.list_side.new.sides.items c.list_side-2.new.sides.items c.list_side-3.new.sides.items c.triangles.ensures.triangles
    c.requires.before
    (c.in_ok-list_side.ensures.more) (c.in_ok-list_side-2.ensures.more) (c.in_ok-list_side-3.ensures.more)
    (c.in_ok-list_side.ensures.listed) (c.in_ok-list_side-2.ensures.listed) (c.in_ok-list_side-3.ensures.listed)
