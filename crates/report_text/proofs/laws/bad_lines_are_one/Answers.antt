-- The proof of the law `bad_lines_are_one` in src/laws.rt.
use Rattle.report_text.proofs.OneReport.{one_bad_line}
use Rattle.report_text.proofs.laws.bad_lines_are_one.Goals as goal

pub returns : goal.returns
returns c = one_bad_line
