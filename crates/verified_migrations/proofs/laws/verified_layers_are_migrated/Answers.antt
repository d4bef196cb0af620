-- Answers to the goals of `verified_layers_are_migrated` in src/laws.rt.
use Rattle.verified_migrations.proofs.SourcesAlone.{verified_migrated}
use Rattle.verified_migrations.proofs.laws.verified_layers_are_migrated.Goals as goal

pub returns : goal.returns
returns c = verified_migrated c.layer_texts_are_one.ensures c.tin_end_is_one.ensures
