-- Answers to the goals of `tin_of` in src/made_tins.rt.
use Rattle.std.proofs.Common.{List, ℕ, subst}
use Rattle.tin_base.specs.declared.corners.Corner.{Corner}
use Rattle.tin_base.specs.Triangulation.{triangulation}
use Rattle.tin_base.specs.Limits.{IsWithinLimits}
use Rattle.tin_base.proofs.TriangleLemmas.TestAnswers.{told}
use Rattle.tin_tests.proofs.made_tins.tin_of.Goals as goal

pub of-requires : goal.of-requires
of-requires c =
    subst (λ (rows : List (List ℕ)). IsWithinLimits (triangulation c.args.corners.items rows c.args.inexact))
    c.deref-2.ensures.value
    (subst (λ (cs : List Corner). IsWithinLimits (triangulation cs c.deref-2.result.now c.args.inexact))
    c.deref.ensures.value (told (c.if-are_within_limits.ensures c.args.inexact)))
