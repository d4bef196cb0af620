-- Answers to the goals of `changed_pairs` in src/changed_pairs.rt.
use Rattle.topo_check.proofs.changed_pairs.changed_pairs.Goals as goal

pub image_grid-requires-clause-inside : goal.image_grid-requires-clause-inside
image_grid-requires-clause-inside c k d within = (c.requires.comparable k d within k d within).first
