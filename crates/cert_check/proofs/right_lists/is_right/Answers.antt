-- Answers to the goals of `is_right` in src/right_lists.rt.
use Rattle.cert_check.proofs.ListPasses.{right_same, right_differ, refused}
use Rattle.cert_check.proofs.right_lists.is_right.Goals as goal

pub returns-then-is_same : goal.returns-then-is_same
returns-then-is_same c = right_same c.args.tin.now c.args.a c.args.b c.args.numbers.now c.is_one_with.result
    (c.is_same.ensures.0 c.if-is_same.true) c.is_one_with.ensures

pub returns-else-is_same : goal.returns-else-is_same
returns-else-is_same c = right_differ c.args.tin.now c.args.a c.args.b c.args.numbers.now c.are_following.result
    (refused c.is_same.result _ c.if-is_same.false c.is_same.ensures) c.are_following.ensures
