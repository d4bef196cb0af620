-- The proof of the law `sound_is_one_to_one` in src/laws.rt.
use Rattle.tin_base.proofs.FrameImages.Converse.{one_to_one}
use Rattle.tin_base.proofs.laws.sound_is_one_to_one.Goals as goal

pub returns : goal.returns
returns c = one_to_one
