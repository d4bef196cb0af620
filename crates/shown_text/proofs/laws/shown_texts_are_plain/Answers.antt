-- Answers to the goals of `shown_texts_are_plain` in src/laws.rt.
use Rattle.shown_text.proofs.ShownTexts.{shown_plain}
use Rattle.shown_text.proofs.laws.shown_texts_are_plain.Goals as goal

pub returns : goal.returns
returns c = shown_plain
