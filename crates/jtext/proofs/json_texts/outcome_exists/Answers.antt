-- The proof of the law `outcome_exists` in src/json_texts.rt.
use Rattle.jtext.proofs.CallerLemmas.Outcomes.{outcome}
use Rattle.jtext.proofs.json_texts.outcome_exists.Goals as goal

pub returns : goal.returns
returns c = outcome
