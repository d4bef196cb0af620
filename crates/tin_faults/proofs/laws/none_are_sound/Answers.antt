-- Answers to the goals of `none_are_sound` in src/laws.rt.
use Rattle.tin_faults.proofs.OneList.{sound_of_none}
use Rattle.tin_faults.proofs.laws.none_are_sound.Goals as goal

pub returns : goal.returns
returns c = sound_of_none c.outcome_exists.ensures
