-- Answers to the goals of `meets_tree` in src/side_trees.rt.
use Rattle.std.proofs.Common.{refl, subst, sym, ap, ◌∙◌}
use Rattle.tin_check.specs.declared.side_trees.SideTree.{SideTree}
use Rattle.tin_check.specs.declared.side_trees.SideTree.TheVariants.{Parts}
use Rattle.plane_base.specs.declared.shapes.Rect.{Rect}
use Rattle.tin_check.specs.InsideSideTrees.{first_of, past_of, around_of, IsAround, IsNearBox, IsTree}
use Rattle.tin_check.proofs.BorderLemmas.SideTrees.{box_near_tri, clear_meets, parts_meet, tree_around}
use Rattle.tin_check.proofs.side_trees.+meets_tree.Goals as goal

pub is_clear_of-requires-clause-near : goal.is_clear_of-requires-clause-near
is_clear_of-requires-clause-near t c =
    subst (λ (box : Rect). IsNearBox c.args.t.now box) (sym c.around_of.ensures)
    (box_near_tri c.args.tin.now c.args.frame c.args.sides.now (first_of c.args.tree.now) (past_of c.args.tree.now)
    c.args.triangle c.args.t.now (around_of c.args.tree.now) c.requires.limits c.requires.triangle
    c.requires.corners (tree_around c.args.tin.now c.args.frame c.args.sides.now c.args.tree.now c.requires.tree))

pub returns-then-is_clear_of : goal.returns-then-is_clear_of
returns-then-is_clear_of t c = λ yes.
    clear_meets c.args.tin.now c.args.frame c.args.sides.now (first_of c.args.tree.now) (past_of c.args.tree.now)
    c.args.triangle c.args.t.now c.around_of.result c.requires.limits c.requires.triangle c.requires.corners
    (c.if-is_clear_of.ensures refl)
    (subst (λ (box : Rect). IsAround c.args.tin.now c.args.frame c.args.sides.now (first_of c.args.tree.now)
    (past_of c.args.tree.now) box) (sym c.around_of.ensures)
    (tree_around c.args.tin.now c.args.frame c.args.sides.now c.args.tree.now c.requires.tree))

pub returns-else-not-meets_tree : goal.returns-else-not-meets_tree
returns-else-not-meets_tree t c = λ yes.
    let low = c.deref.result.now in let high = c.deref-in-Parts.result.now in
    let is : IsTree c.args.tin.now c.args.frame c.args.sides.now (Parts c.in-Parts.around c.in-Parts.low c.in-Parts.high) =
    subst (λ (tree : SideTree). IsTree c.args.tin.now c.args.frame c.args.sides.now tree) c.in-Parts.is c.requires.tree in
    parts_meet c.args.tin.now c.args.frame c.args.sides.now c.args.triangle c.args.tree.now low high
    (ap first_of c.in-Parts.is ∙ ap first_of (sym c.deref.ensures))
    (ap past_of c.in-Parts.is ∙ ap past_of (sym c.deref-in-Parts.ensures))
    (ap past_of c.deref.ensures ∙ is.2 ∙ ap first_of (sym c.deref-in-Parts.ensures))
    (c.if-not-meets_tree.ensures refl) (c.meets_tree-in-Parts.ensures yes)
