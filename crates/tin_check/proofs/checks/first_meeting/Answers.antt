-- Answers to the goals of `first_meeting` in src/checks.rt.
use Rattle.std.proofs.Common.{◌+◌, Option, sym, subst}
use Rattle.tin_base.specs.declared.frames.Frame.TheVariants.{Target}
use Rattle.tin_check.specs.Faults.{IsCause}
use Rattle.tin_check.specs.InsideProgress.{IsFirstFoundBelow}
use Rattle.tin_check.specs.declared.faults.CheckFault.{CheckFault}
use Rattle.tin_check.specs.declared.pairs.TrianglePair.{TrianglePair}
use Rattle.tin_check.proofs.CallerLemmas.FirstFault.{source_before}
use Rattle.tin_check.proofs.checks.first_meeting.Goals as goal

pub returns-in-Ok-None : goal.returns-in-Ok-None
returns-in-Ok-None c =
    let tin = c.args.tin.now in let s = c.args.source in
    subst (λ (fault : CheckFault). IsCause tin fault) (sym c.meets.ensures)
    (source_before tin s.first s.second c.requires.positive c.requires.source
    (subst (λ (found : Option TrianglePair). IsFirstFoundBelow tin Target (s.first + 1) found) c.in-Ok-None.field-0-is
    c.in-Ok-None.ensures))
