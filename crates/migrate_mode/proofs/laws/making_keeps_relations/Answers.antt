-- Answers to the goals of `making_keeps_relations` in src/laws.rt.
use Rattle.migrate_mode.proofs.KeptMigrations.{making_keeps_relations}
use Rattle.migrate_mode.proofs.laws.making_keeps_relations.Goals as goal

pub returns : goal.returns
returns c = making_keeps_relations
