-- Answers to the goals of `check_pairs` in src/checks.rt.
use Rattle.tin_check.proofs.checks.check_pairs.Goals as goal

pub returns-then-branch-clause-source : goal.returns-then-branch-clause-source
returns-then-branch-clause-source c = c.in_ok-does_border_fit.ensures.source c.if-branch.true

pub returns-then-branch-clause-target : goal.returns-then-branch-clause-target
returns-then-branch-clause-target c = c.in_ok-does_border_fit.ensures.target c.if-branch.true
