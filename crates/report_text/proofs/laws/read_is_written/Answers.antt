-- Answers to the goals of `read_is_written` in src/laws.rt.
use Rattle.report_text.proofs.Outcomes.{read_written}
use Rattle.report_text.proofs.laws.read_is_written.Goals as goal

pub returns : goal.returns
returns c = read_written
