-- What is shown is text.
use Rattle.remarks.proofs.ShownBytes.{shown_utf8}
use Rattle.remarks.proofs.excerpts.excerpt.Goals as goal

pub returns-in-Err : goal.returns-in-Err
returns-in-Err c = absurd (c.in-Err.ensures.cases.0 (rw c.shown_count.ensures (shown_utf8 c.before-front.result.now)))
