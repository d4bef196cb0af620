-- Answers to the goals of `image_cut` in src/images.rt.
use Rattle.affine_image.proofs.CornerSegments.{edge_is_near, cut_is}
use Rattle.affine_image.proofs.images.image_cut.Goals as goal

pub mix_corners-requires : goal.mix_corners-requires
mix_corners-requires c =
    edge_is_near c.args.tin.now c.args.p c.args.q c.place-from.result c.place-to.result c.place-from.ensures.limits
    c.requires.p_in_range c.requires.q_in_range c.place-from.ensures.place c.place-to.ensures.place

pub returns : goal.returns
returns c =
    let w = c.weights_between in let m = c.mix_corners in
    cut_is c.args.tin.now c.args.p c.args.q c.place-from.result c.place-to.result m.result c.args.s.num c.args.s.den
    w.result c.place-from.ensures.place c.place-to.ensures.place c.args.s.positive
    w.ensures.second w.ensures.third w.ensures.whole (record { x = m.ensures.x; y = m.ensures.y })
