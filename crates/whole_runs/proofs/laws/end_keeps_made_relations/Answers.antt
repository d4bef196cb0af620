-- Answers to the goals of `end_keeps_made_relations` in src/laws.rt.
use Rattle.whole_runs.proofs.KeptRuns.{end_keeps_made_relations}
use Rattle.whole_runs.proofs.laws.end_keeps_made_relations.Goals as goal

pub returns : goal.returns
returns c = end_keeps_made_relations
