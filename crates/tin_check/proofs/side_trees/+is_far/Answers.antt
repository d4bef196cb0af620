-- Answers to the goals of `is_far` in src/side_trees.rt.
use Rattle.std.proofs.Common.{refl, subst, sym, ap}
use Rattle.tin_check.specs.declared.side_trees.SideTree.{SideTree}
use Rattle.tin_check.specs.declared.side_trees.SideTree.TheVariants.{Parts}
use Rattle.tin_check.specs.InsideSideTrees.{first_of, past_of, IsTree}
use Rattle.tin_check.proofs.BorderLemmas.SideTrees.{AreFarIn, halves_far}
use Rattle.tin_check.proofs.side_trees.+is_far.Goals as goal

pub returns-else-not-is_far : goal.returns-else-not-is_far
returns-else-not-is_far t c = λ tin frame sides tree yes.
    let is : IsTree tin frame sides (Parts c.in-Parts.around c.in-Parts.low c.in-Parts.high) =
    subst (λ (node : SideTree). IsTree tin frame sides node) c.in-Parts.is tree in
    halves_far tin frame sides c.args.map.now c.args.tree.now c.in-Parts.low.value c.in-Parts.high.value
    (ap first_of c.in-Parts.is) (ap past_of c.in-Parts.is) is.2
    (subst (λ (node : SideTree). AreFarIn tin frame sides c.args.map.now node) c.deref.ensures
    (c.if-not-is_far.ensures tin frame sides (subst (λ (node : SideTree). IsTree tin frame sides node) (sym c.deref.ensures) is.0) refl))
    (subst (λ (node : SideTree). AreFarIn tin frame sides c.args.map.now node) c.deref-in-Parts.ensures
    (c.is_far-in-Parts.ensures tin frame sides
    (subst (λ (node : SideTree). IsTree tin frame sides node) (sym c.deref-in-Parts.ensures) is.1) yes))
