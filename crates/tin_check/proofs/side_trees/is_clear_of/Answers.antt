-- Answers to the goals of `is_clear_of` in src/side_trees.rt.
use Rattle.std.proofs.Common.{inl, inr, refl}
use Rattle.tin_check.proofs.BorderLemmas.SideTrees.{apart_clear, right_clear}
use Rattle.tin_check.proofs.side_trees.is_clear_of.Goals as goal

pub returns-then-is_apart_from : goal.returns-then-is_apart_from
returns-then-is_apart_from c = λ yes.
    apart_clear c.args.t.now c.args.own.now c.args.around.now c.requires.own (c.if-is_apart_from.ensures.0 refl)

pub returns-then-is_box_right_of : goal.returns-then-is_box_right_of
returns-then-is_box_right_of c = λ yes.
    right_clear c.args.t.now c.args.around.now c.requires.positive (inl (c.if-is_box_right_of.ensures refl))

pub returns-then-is_box_right_of-2 : goal.returns-then-is_box_right_of-2
returns-then-is_box_right_of-2 c = λ yes.
    right_clear c.args.t.now c.args.around.now c.requires.positive (inr (inl (c.if-is_box_right_of-2.ensures refl)))

pub returns : goal.returns
returns c = λ yes.
    right_clear c.args.t.now c.args.around.now c.requires.positive (inr (inr (c.is_box_right_of-3.ensures yes)))
