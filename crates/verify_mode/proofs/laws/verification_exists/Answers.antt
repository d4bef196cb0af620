-- Answers to the goals of `verification_exists` in src/laws.rt.
use Rattle.verify_mode.proofs.SomeVerification.{ends_exist, verification_exists}
use Rattle.verify_mode.proofs.laws.verification_exists.Goals as goal

pub returns : goal.returns
returns c =
    verification_exists
    (ends_exist c.in_each_format-certificate_end_exists.ensures c.in_each_format-certificate_end_exists-2.ensures c.in_each_format-certificate_end_exists-3.ensures)
    c.tin_end_exists.ensures
