-- Answers to the goals of `side_param` in src/crossings.rt.
use Rattle.tin_base.specs.declared.frames.Frame.TheVariants.{Source}
use Rattle.tin_base.proofs.TriangleLemmas.TriangleCorners.{near_points}
use Rattle.affine_image.proofs.crossings.side_param.Goals as goal

pub edge_param-requires-clause-near_p : goal.edge_param-requires-clause-near_p
edge_param-requires-clause-near_p c = c.requires.near_from c.place.result c.place.ensures.place

pub edge_param-requires-clause-near_q : goal.edge_param-requires-clause-near_q
edge_param-requires-clause-near_q c = c.requires.near_to c.place-2.result c.place-2.ensures.place

pub edge_param-requires-clause-near_pq : goal.edge_param-requires-clause-near_pq
edge_param-requires-clause-near_pq c =
    near_points c.args.tin.now Source c.args.side.from c.args.side.to c.place.result c.place-2.result
    c.place.ensures.limits c.requires.from_in_range c.requires.to_in_range c.place.ensures.place
    c.place-2.ensures.place
