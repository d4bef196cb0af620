-- Answers to the goals of `migration_keeps_relations` in src/laws.rt.
use Rattle.migrate_mode.proofs.KeptMigrations.{migration_keeps_relations}
use Rattle.migrate_mode.proofs.laws.migration_keeps_relations.Goals as goal

pub returns : goal.returns
returns c = migration_keeps_relations
