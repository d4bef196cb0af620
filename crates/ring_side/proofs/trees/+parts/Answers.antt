-- Answers to the goals of the cycle of `add_part` and `add_smaller` in src/trees.rt.
use Rattle.std.proofs.Common.{List, sym, refl, subst, arith, ◌∙◌}
use Rattle.plane_base.specs.declared.shapes.Rect.{Rect}
use Rattle.ring_side.specs.declared.trees.RingPart.{RingPart}
use Rattle.ring_side.specs.InsideTrees.{AreNodesUpTo, IsAroundPart}
use Rattle.ring_side.proofs.RingBoxes.RingParts.{around_both}
use Rattle.ring_side.proofs.RingBoxes.RingNodes.{front_shorter, one_more_node}
use Rattle.ring_side.proofs.trees.+parts.Goals as goal

pub add_part-returns-clause-nodes : goal.add_part-returns-clause-nodes
add_part-returns-clause-nodes t c =
    let smaller = c.in_ok-around.ensures in
    subst (λ (ns : List RingPart). AreNodesUpTo c.args.ring.now ns c.args.past) (sym c.in_ok-push.ensures.items)
    (one_more_node c.args.ring.now c.args.nodes.now.items c.add_smaller.new.nodes.items _ c.args.first c.args.past (record {
      each = smaller.each;
      same = smaller.same;
      begins = c.requires.nodes.ends;
      long = front_shorter c.args.nodes.now.items c.add_smaller.new.nodes.items smaller.same;
      ends = smaller.ends;
      some = c.requires.some;
      within = c.requires.within;
      base = c.len-base.ensures ∙ c.args.nodes.now.ok.0;
      of_first = refl;
      of_past = refl;
      around = smaller.around;
    }))

pub add_smaller-returns-clause-around : goal.add_smaller-returns-clause-around
add_smaller-returns-clause-around t c =
    subst (λ (r : Rect). IsAroundPart r c.args.ring.now c.args.first c.args.past) (sym c.with_box.ensures)
    (around_both c.in_ok-low.low c.in_ok-high.high c.args.ring.now c.args.first _ c.args.past (omega arith) (omega arith)
    c.in_ok-low.ensures.around c.in_ok-high.ensures.around)
