-- The proof of the law `segments_go_to_segments` in src/laws.rt.
use Rattle.tin_base.proofs.FrameImages.SegmentImages.{images_between, each_between}
use Rattle.tin_base.proofs.laws.segments_go_to_segments.Goals as goal

pub returns : goal.returns
returns c = λ tin sound p q p' q' carried.
    (images_between tin p q p' q' sound carried, each_between tin p q p' q' sound carried)
