-- The proof of the law `value_is_one` in src/json_texts.rt.
use Rattle.jtext.specs.declared.json_texts.TheConstants.{DEEPEST}
use Rattle.jtext.proofs.CallerLemmas.OneValue.{one_value, one_place}
use Rattle.jtext.proofs.json_texts.value_is_one.Goals as goal

pub returns-clause-value : goal.returns-clause-value
returns-clause-value c = one_value DEEPEST DEEPEST

pub returns-clause-place : goal.returns-clause-place
returns-clause-place c bytes whole other x y = (one_place DEEPEST DEEPEST bytes whole other x y).1
