-- Answers to the goals of `collect_rounded` in src/changed_pairs.rt.
use Rattle.topo_check.proofs.changed_pairs.collect_rounded.Goals as goal

pub returns : goal.returns
returns c =
    record {
      boxes = c.in_ok-grid.grid.boxes;
      are_boxes = c.in_ok-grid.ensures;
      collects = c.in_ok-collect.ensures;
    }
