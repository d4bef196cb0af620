-- Answers to the goals of `migration_exists` in src/laws.rt.
use Rattle.migrate_mode.proofs.SomeLayers.{ends_exist}
use Rattle.migrate_mode.proofs.SomeMigration.{migration_exists}
use Rattle.migrate_mode.proofs.laws.migration_exists.Goals as goal

pub returns : goal.returns
returns c =
    migration_exists c.layer_outcomes_exist.ensures
    (ends_exist c.in_each_format-layer_end_exists.ensures c.in_each_format-layer_end_exists-2.ensures c.in_each_format-layer_end_exists-3.ensures)
    c.changes_exist.ensures c.tin_end_exists.ensures c.read_tins_are_within_limits.ensures
