-- The proof of the law `relations_are_kept` in src/laws.rt.
use Rattle.tin_base.proofs.FrameImages.SegmentImages.{relation_kept}
use Rattle.tin_base.proofs.laws.relations_are_kept.Goals as goal

pub returns : goal.returns
returns c = λ tin sound p q p' q' e f e' f' c d relation. relation_kept tin p q p' q' e f e' f' sound c d relation
