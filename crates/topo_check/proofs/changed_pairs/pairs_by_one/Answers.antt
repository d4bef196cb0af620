-- Answers to the goals of `pairs_by_one` in src/changed_pairs.rt.
use Rattle.std.proofs.Common.{List, subst}
use Rattle.tin_base.specs.declared.frames.Frame.TheVariants.{Target}
use Rattle.topo_check.specs.declared.comparisons.ChangedPair.{ChangedPair}
use Rattle.topo_check.specs.InsidePairs.{DoesCollect, DoShareIn}
use Rattle.topo_check.proofs.Passes.{one_collected}
use Rattle.topo_check.proofs.changed_pairs.pairs_by_one.Goals as goal

pub returns : goal.returns
returns c =
    let tin = c.args.tin.now in let pieces = c.args.pieces.now in let most = c.args.most in
    let boxes = c.args.grid.now.boxes in
    let ys : List ChangedPair = c.collect.new.pairs.items in
    one_collected tin pieces most boxes ys c.show_soundness.ensures.sound c.boxes_share_a_point_or_are_apart.ensures
    c.requires.boxes
    (subst (λ (xs : List ChangedPair). DoesCollect tin pieces most (DoShareIn Target pieces boxes) xs ys)
    c.new-pairs.ensures.items c.in_ok-collect.ensures)
