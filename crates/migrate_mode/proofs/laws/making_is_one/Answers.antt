-- Answers to the goals of `making_is_one` in src/laws.rt.
use Rattle.migrate_mode.proofs.OneMigration.{making_is_one}
use Rattle.migrate_mode.proofs.laws.making_is_one.Goals as goal

pub returns : goal.returns
returns c = making_is_one c.layer_texts_are_one.ensures
