-- Answers to the goals of `certificates_are_one` in src/laws.rt.
use Rattle.std.proofs.Common.{◌∙◌, sym}
use Rattle.std.proofs.lemmas.List.{append_cancel_left}
use Rattle.cert_check.specs.Certificates.{head_text, lines_text}
use Rattle.cert_check.proofs.LineLaws.{one_certificate}
use Rattle.cert_check.proofs.laws.certificates_are_one.Goals as goal

pub returns : goal.returns
returns c =
    λ bytes lists others h k.
    one_certificate lists others h.are_lists k.are_lists
    (append_cancel_left head_text (lines_text lists) (lines_text others) (sym h.spelled ∙ k.spelled))
