-- Answers to the goals of `short_plain_texts_stay` in src/laws.rt.
use Rattle.shown_text.proofs.ShownTexts.{plain_stays}
use Rattle.shown_text.proofs.laws.short_plain_texts_stay.Goals as goal

pub returns : goal.returns
returns c = plain_stays
