-- The invariant of the loop of `first_difference` in src/checks.rt.
use Rattle.cert_check.proofs.TextLaws.{AgreeTo}
use Rattle.cert_check.proofs.checks.first_difference.Given as goal

-- the texts agree up to here
abbrev pub invariant-loop-at : goal.invariant-loop-at
invariant-loop-at l = AgreeTo l.text l.other l.at
