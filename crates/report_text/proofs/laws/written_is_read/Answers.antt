-- Answers to the goals of `written_is_read` in src/laws.rt.
use Rattle.report_text.proofs.Outcomes.{written_read}
use Rattle.report_text.proofs.laws.written_is_read.Goals as goal

pub returns : goal.returns
returns c = written_read
