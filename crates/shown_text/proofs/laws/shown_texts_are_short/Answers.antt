-- Answers to the goals of `shown_texts_are_short` in src/laws.rt.
use Rattle.shown_text.proofs.ShownTexts.{shown_short}
use Rattle.shown_text.proofs.laws.shown_texts_are_short.Goals as goal

pub returns : goal.returns
returns c = shown_short
