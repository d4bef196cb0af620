-- The proof of the law `exchanged_frames_give_the_converse` in src/laws.rt.
use Rattle.tin_base.proofs.FrameImages.Converse.{turned_sound, converse}
use Rattle.tin_base.proofs.laws.exchanged_frames_give_the_converse.Goals as goal

pub returns : goal.returns
returns c = λ tin sound. (turned_sound tin sound, converse tin)
