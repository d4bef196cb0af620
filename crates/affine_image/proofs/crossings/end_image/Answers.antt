-- Answers to the goals of `end_image` in src/crossings.rt.
use Rattle.affine_image.specs.InsideSides.{next_corner}
use Rattle.affine_image.proofs.StepEnds.{near_one, next_below, has_last, last_image, side_told, side_differs, on_side}
use Rattle.affine_image.proofs.StepEnds.{side_image}
use Rattle.affine_image.proofs.crossings.end_image.Goals as goal

pub image_of-requires-clause-inside : goal.image_of-requires-clause-inside
image_of-requires-clause-inside c = has_last c.args.tin.now c.args.a c.args.b c.args.triangle c.args.part
    c.requires.limits c.requires.in_range c.requires.slice c.in-Vertex.is

pub side_of-side-requires-clause-below : goal.side_of-side-requires-clause-below
side_of-side-requires-clause-below c =
    let side = side_told c.args.tin.now c.args.a c.args.b c.args.triangle c.in-Side.number c.args.part c.requires.limits
    c.requires.in_range c.requires.slice c.in-Side.is in side.below

pub side_param-requires-clause-near_from : goal.side_param-requires-clause-near_from
side_param-requires-clause-near_from c =
    let side = side_told c.args.tin.now c.args.a c.args.b c.args.triangle c.in-Side.number c.args.part c.requires.limits
    c.requires.in_range c.requires.slice c.in-Side.is in
    near_one c.args.tin.now c.args.a c.args.b c.args.triangle c.in-Side.number c.side_of-side.result.from
    c.requires.limits c.requires.in_range side.below c.requires.near c.side_of-side.ensures.from

pub side_param-requires-clause-near_to : goal.side_param-requires-clause-near_to
side_param-requires-clause-near_to c =
    near_one c.args.tin.now c.args.a c.args.b c.args.triangle (next_corner c.in-Side.number) c.side_of-side.result.to
    c.requires.limits c.requires.in_range (next_below c.in-Side.number) c.requires.near c.side_of-side.ensures.to

pub side_param-requires-clause-differ : goal.side_param-requires-clause-differ
side_param-requires-clause-differ c =
    side_differs c.args.tin.now c.args.a c.args.b c.args.triangle c.in-Side.number c.args.part.hi
    c.side_of-side.result.from c.side_of-side.result.to
    (side_told c.args.tin.now c.args.a c.args.b c.args.triangle c.in-Side.number c.args.part c.requires.limits
    c.requires.in_range c.requires.slice c.in-Side.is) c.side_of-side.ensures.from c.side_of-side.ensures.to

pub image_cut-requires-clause-between : goal.image_cut-requires-clause-between
image_cut-requires-clause-between c =
    let on =
    on_side c.args.tin.now c.args.a c.args.b c.args.triangle c.in-Side.number c.side_of-side.result.from
    c.side_of-side.result.to c.args.part c.side_param.result c.requires.limits c.requires.in_range c.requires.slice
    c.in-Side.is
    c.side_of-side.ensures.from c.side_of-side.ensures.to c.side_param.ensures.once in
    on.param

pub returns-in-Vertex : goal.returns-in-Vertex
returns-in-Vertex c = last_image c.args.tin.now c.args.a c.args.b c.args.triangle c.args.part c.image_of.result
    c.requires.limits c.requires.in_range c.requires.slice c.in-Vertex.is c.image_of.ensures

pub returns-in-Side : goal.returns-in-Side
returns-in-Side c =
    side_image c.args.tin.now c.args.a c.args.b c.args.triangle c.in-Side.number c.side_of-side.result.from
    c.side_of-side.result.to c.args.part c.side_param.result c.image_cut.result c.requires.limits
    c.requires.in_range
    c.requires.slice c.in-Side.is c.side_of-side.ensures.from c.side_of-side.ensures.to c.side_param.ensures.once
    c.image_cut.ensures
