-- Answers to the goals of `compare_pairs` in src/checks.rt.
use Rattle.tin_check.proofs.checks.compare_pairs.Goals as goal

pub returns-in-Some-clause-first : goal.returns-in-Some-clause-first
returns-in-Some-clause-first c = c.first_meeting.ensures
