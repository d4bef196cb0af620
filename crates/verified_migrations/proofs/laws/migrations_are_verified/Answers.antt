-- Answers to the goals of `migrations_are_verified` in src/laws.rt.
use Rattle.verified_migrations.proofs.SentLayers.{migrations_verified}
use Rattle.verified_migrations.proofs.laws.migrations_are_verified.Goals as goal

pub returns : goal.returns
returns c = migrations_verified c.pieces_are_rightly_certified.ensures c.read_tins_are_within_limits.ensures
