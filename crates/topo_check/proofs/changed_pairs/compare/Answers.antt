-- Answers to the goals of `compare` in src/changed_pairs.rt.
use Rattle.topo_check.proofs.Passes.{pair_collected, pair_unchanged}
use Rattle.topo_check.proofs.changed_pairs.compare.Goals as goal

pub returns-in_ok-push : goal.returns-in_ok-push
returns-in_ok-push c =
    pair_collected c.args.tin.now c.args.pieces.now c.args.most c.args.frame c.args.first c.args.second
    c.args.pairs.now.items c.push.new.self.items c.in-Some.pair c.in-Some.ensures.numbers c.in-Some.ensures.changed
    c.in-Some.ensures.compared c.in_ok-push.ensures.items

pub returns-in_default : goal.returns-in_default
returns-in_default c = pair_unchanged c.args.tin.now c.args.pieces.now c.args.most c.args.frame c.args.first
    c.args.second c.args.pairs.now.items c.in_default.ensures.none
