-- Answers to the goals of `read_lines` in src/pair_lists.rt.
use Rattle.std.proofs.Common.{arith, ◌+◌}
use Rattle.dxf_pairs.specs.Lines.{lines, lines_from}
use Rattle.dxf_pairs.specs.Pairs.{reading, ends_drawing}
use Rattle.dxf_pairs.specs.Groups.{value_in}
use Rattle.dxf_pairs.proofs.PairSteps.{go_on}
use Rattle.dxf_pairs.proofs.pair_lists.read_lines.Goals as goal

pub loop-start-preserved : goal.loop-start-preserved
loop-start-preserved c =
    let numbered = c.loop-start.invariant.numbered in
    let forward = c.in_ok-pair.ensures.forward in
    record {
      within = c.in_ok-pair.ensures.within;
      numbered = omega arith;
      read = go_on (reading (lines c.args.bytes.now))
          (reading (lines_from c.args.bytes.now c.loop-start.start c.loop-start.line)) c.loop-start.pairs.items
          c.push.new.self.items c.in_ok-pair.pair
          (ends_drawing c.in_ok-pair.pair.code (value_in c.args.bytes.now c.in_ok-pair.pair))
          (reading (lines_from c.args.bytes.now c.in_ok-pair.pair.end (c.loop-start.line + 2)))
          c.loop-start.invariant.read c.in_ok-pair.ensures.ok c.if-is_last.ensures c.in_ok-push.ensures.items;
    }
