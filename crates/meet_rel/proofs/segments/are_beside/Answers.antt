-- Answers to the goals of `are_beside` in src/segments.rt.
use Rattle.std.proofs.lemmas.Int.{to_z-of_z}
use Rattle.meet_rel.specs.Signs.{AreBelow}
use Rattle.meet_rel.proofs.TurnTests.{second_tells}
use Rattle.meet_rel.proofs.segments.are_beside.Goals as goal

pub returns-else-are_below : goal.returns-else-are_below
returns-else-are_below c =
    let a = c.ranges.a in let b = c.ranges.b in let d = c.ranges.c in let e = c.ranges.d in
    second_tells c.are_below.result c.are_below-else-are_below.result (AreBelow c.args.a c.args.b c.args.c c.args.d)
    (AreBelow c.args.c c.args.d c.args.a c.args.b)
    (simp to_z-of_z at c.are_below.ensures) c.if-are_below.false (simp to_z-of_z at c.are_below-else-are_below.ensures)
