-- Answers to the goals of `image_of` in src/images.rt.
use Rattle.affine_image.proofs.WeightedImages.{image_is}
use Rattle.affine_image.proofs.images.image_of.Goals as goal

pub returns : goal.returns
returns c =
    let w = c.weights_at in let m = c.mix_corners in
    image_is c.args.tin.now c.args.tri c.tri.result c.tri-2.result c.args.p m.result w.result c.requires.in_range
    c.tri.ensures.corners c.tri-2.ensures.corners c.requires.inside
    (record { second = w.ensures.second; third = w.ensures.third; whole_is = w.ensures.whole })
    (record { x = m.ensures.x; y = m.ensures.y })
