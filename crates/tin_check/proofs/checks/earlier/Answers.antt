-- Answers to the goals of `earlier` in src/checks.rt.
use Rattle.std.proofs.Common.{sym, subst, refl}
use Rattle.tin_base.proofs.TriangleLemmas.TestAnswers.{denied}
use Rattle.tin_check.specs.Faults.{IsCause}
use Rattle.tin_check.specs.declared.faults.CheckFault.{CheckFault}
use Rattle.tin_check.proofs.CallerLemmas.FirstFault.{source_first, target_first}
use Rattle.tin_check.proofs.checks.earlier.Goals as goal

pub returns-then-is_before : goal.returns-then-is_before
returns-then-is_before c =
    let tin = c.args.tin.now in let s = c.args.source in let t = c.args.target in
    subst (λ (fault : CheckFault). IsCause tin fault) (sym c.meets.ensures)
    (target_first tin s.first s.second t.first t.second c.requires.positive c.requires.source c.requires.target
    (c.if-is_before.ensures.0 refl))

pub returns-else-is_before : goal.returns-else-is_before
returns-else-is_before c =
    let tin = c.args.tin.now in let s = c.args.source in let t = c.args.target in
    subst (λ (fault : CheckFault). IsCause tin fault) (sym c.meets-else-is_before.ensures)
    (source_first tin s.first s.second t.first t.second c.requires.positive c.requires.source c.requires.target
    (denied c.if-is_before.ensures))
