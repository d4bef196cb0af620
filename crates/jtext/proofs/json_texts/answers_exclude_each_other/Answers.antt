-- The proof of the law `answers_exclude_each_other` in src/json_texts.rt.
use Rattle.jtext.proofs.CallerLemmas.Exclusion.{bad_once, deep_once, bad_or_deep}
use Rattle.jtext.proofs.json_texts.answers_exclude_each_other.Goals as goal

pub returns-clause-bad_once : goal.returns-clause-bad_once
returns-clause-bad_once c = bad_once

pub returns-clause-deep_once : goal.returns-clause-deep_once
returns-clause-deep_once c = deep_once

pub returns-clause-bad_or_deep : goal.returns-clause-bad_or_deep
returns-clause-bad_or_deep c = bad_or_deep
