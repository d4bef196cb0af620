-- Answers to the goals of `migration_is_one` in src/laws.rt.
use Rattle.migrate_mode.proofs.OneMigration.{migration_is_one}
use Rattle.migrate_mode.proofs.laws.migration_is_one.Goals as goal

pub returns : goal.returns
returns c = migration_is_one c.layer_texts_are_one.ensures
