-- Answers to the goals of `collect_exact` in src/changed_pairs.rt.
use Rattle.topo_check.proofs.changed_pairs.collect_exact.Goals as goal

pub exact_grid-requires-clause-inside : goal.exact_grid-requires-clause-inside
exact_grid-requires-clause-inside c k d within = (c.requires.comparable k d within k d within).first

pub returns : goal.returns
returns c =
    record {
      boxes = c.in_ok-grid.grid.boxes;
      are_boxes = c.in_ok-grid.ensures;
      collects = c.in_ok-collect.ensures;
    }
