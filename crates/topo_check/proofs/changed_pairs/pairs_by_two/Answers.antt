-- Answers to the goals of `pairs_by_two` in src/changed_pairs.rt.
use Rattle.std.proofs.Common.{◌<◌, List, length, subst, arith}
use Rattle.tin_base.specs.declared.frames.Frame.TheVariants.{Target}
use Rattle.topo_check.specs.declared.comparisons.ChangedPair.{ChangedPair}
use Rattle.topo_check.specs.InsidePairs.{DoesCollect, DoShareIn}
use Rattle.topo_check.proofs.Passes.{both_collected, over_collected}
use Rattle.topo_check.proofs.changed_pairs.pairs_by_two.Goals as goal

pub returns : goal.returns
returns c =
    let tin = c.args.tin.now in let pieces = c.args.pieces.now in let most = c.args.most in
    let ys : List ChangedPair = c.collect_rounded.new.pairs.items in
    let zs : List ChangedPair = c.collect_exact.new.pairs.items in
    let first = c.in_ok-collect_rounded.ensures in let second = c.in_ok-collect_exact.ensures in
    both_collected tin pieces most first.boxes second.boxes ys zs c.boxes_share_a_point_or_are_apart.ensures
    first.are_boxes second.are_boxes
    (subst (λ (xs : List ChangedPair). DoesCollect tin pieces most (DoShareIn Target pieces first.boxes) xs ys)
    c.new-pairs.ensures.items first.collects) second.collects

pub returns-then-len-most : goal.returns-then-len-most
returns-then-len-most c =
    let tin = c.args.tin.now in let pieces = c.args.pieces.now in let most = c.args.most in
    let ys : List ChangedPair = c.collect_rounded.new.pairs.items in
    let first = c.in_ok-collect_rounded.ensures in
    let more : most < length ys = omega (arith, c.if-len-most.true, c.len.ensures, c.collect_rounded.new.pairs.ok.0) in
    let collects = subst (λ (xs : List ChangedPair). DoesCollect tin pieces most (DoShareIn Target pieces first.boxes)
    xs ys) c.new-pairs.ensures.items first.collects in
    over_collected tin pieces most (DoShareIn Target pieces first.boxes) ys collects more
