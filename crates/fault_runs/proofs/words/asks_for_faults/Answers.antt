-- Answers to the goals of `asks_for_faults` in src/words.rt.
use Rattle.std.proofs.Common.{string_bytes, ◌∙◌}
use Rattle.fault_runs.specs.Words.{is_faults}
use Rattle.fault_runs.proofs.WordsOfCheck.{any_word}
use Rattle.fault_runs.proofs.words.asks_for_faults.Goals as goal

pub returns : goal.returns
returns c = c.has_word.ensures ∙ any_word is_faults string_bytes c.args.words.now
