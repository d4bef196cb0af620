-- Answers to the goals of `certificates_have_no_bad_line` in src/laws.rt.
use Rattle.cert_check.proofs.LineLaws.{no_bad_line}
use Rattle.cert_check.proofs.laws.certificates_have_no_bad_line.Goals as goal

pub returns : goal.returns
returns c = no_bad_line
