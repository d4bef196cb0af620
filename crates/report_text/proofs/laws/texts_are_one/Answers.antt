-- The proof of the law `texts_are_one` in src/laws.rt.
use Rattle.report_text.proofs.OneReport.{one_report}
use Rattle.report_text.proofs.laws.texts_are_one.Goals as goal

pub returns : goal.returns
returns c = one_report
