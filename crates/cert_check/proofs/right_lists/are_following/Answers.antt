-- Answers to the goals of `are_following` in src/right_lists.rt.
use Rattle.std.proofs.Common.{arith}
use Rattle.std.proofs.Math.ListN.{drop_of_length-le}
use Rattle.cert_check.proofs.ListPasses.{followed_start, followed_more, followed_none, followed_all, never}
use Rattle.cert_check.proofs.right_lists.are_following.Goals as goal

pub loop-number-init : goal.loop-number-init
loop-number-init c = followed_start c.args.tin.now c.args.a c.args.b c.args.numbers.now

pub returns-in_default : goal.returns-in_default
returns-in_default c =
    never _
    (followed_none c.args.tin.now c.args.a c.args.b c.args.numbers.now c.loop-number.number-index c.loop-number.before
    c.show_soundness.ensures.sound (omega arith) c.loop-number.invariant c.in_default.ensures.none)

pub loop-number-preserved : goal.loop-number-preserved
loop-number-preserved c =
    followed_more c.args.tin.now c.args.a c.args.b c.args.numbers.now c.loop-number.number-index c.loop-number.before
    c.in-Some.part (omega arith) c.loop-number.invariant c.in-Some.ensures.some

pub returns : goal.returns
returns c =
    followed_all c.args.tin.now c.args.a c.args.b c.args.numbers.now c.loop-number.number-index c.loop-number.before
    c.is_at_end.result c.show_soundness.ensures.sound
    (drop_of_length-le c.args.numbers.now {i = c.loop-number.number-index} (omega arith)) c.loop-number.invariant
    c.is_at_end.ensures
