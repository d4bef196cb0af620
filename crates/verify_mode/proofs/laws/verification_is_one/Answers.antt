-- Answers to the goals of `verification_is_one` in src/laws.rt.
use Rattle.verify_mode.proofs.OneVerification.{verification_one}
use Rattle.verify_mode.proofs.laws.verification_is_one.Goals as goal

pub returns : goal.returns
returns c = verification_one c.in_each_format-certificates_end_once.ensures c.in_each_format-certificates_end_once-2.ensures
    c.in_each_format-certificates_end_once-3.ensures c.tin_end_is_one.ensures
