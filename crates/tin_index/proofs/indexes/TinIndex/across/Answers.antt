-- Answers to the goals of `TinIndex::across` in src/indexes.rt.
use Rattle.std.proofs.Common.{ℕ, ap, ◌∙◌, subst}
use Rattle.std.proofs.lemmas.Option.{IfSome_then}
use Rattle.tin_base.specs.Limits.{IsWithinLimits}
use Rattle.tin_base.specs.Soundness.{IsSound}
use Rattle.tin_base.specs.Triangulation.{Triangulation}
use Rattle.tin_index.specs.Sides.{corner_of}
use Rattle.tin_index.proofs.Across.{one_across, across_of, across_turned}
use Rattle.tin_index.proofs.indexes.TinIndex.across.Goals as goal

pub returns-then-around-clause-only : goal.returns-then-around-clause-only
returns-then-around-clause-only c =
    IfSome_then c.other_with.result c.other_with.ensures.found
    (λ other found u across.
    one_across c.args.self.now c.args.triangle c.args.side u other
    (subst (λ (tin : Triangulation). IsWithinLimits tin) c.self.view_is c.show_soundness.ensures.limits)
    (subst (λ (tin : Triangulation). IsSound tin) c.self.view_is c.show_soundness.ensures.sound)
    c.requires.triangle c.requires.side across
    (across_turned c.args.self.now c.args.triangle c.args.side c.corner_of-first.result c.corner_of-second.result other
    c.corner_of-first.ensures.value
    (c.corner_of-second.ensures.value ∙ ap (λ (k : ℕ). corner_of c.args.self.now c.args.triangle k)
    c.next_of.ensures.value) found))

pub returns-else-around-clause-only : goal.returns-else-around-clause-only
returns-else-around-clause-only c =
    IfSome_then c.other_with-else-around.result c.other_with-else-around.ensures.found
    (λ other found u across.
    one_across c.args.self.now c.args.triangle c.args.side u other
    (subst (λ (tin : Triangulation). IsWithinLimits tin) c.self.view_is c.show_soundness.ensures.limits)
    (subst (λ (tin : Triangulation). IsSound tin) c.self.view_is c.show_soundness.ensures.sound)
    c.requires.triangle c.requires.side across
    (across_of c.args.self.now c.args.triangle c.args.side c.corner_of-first.result c.corner_of-second.result other
    c.corner_of-first.ensures.value
    (c.corner_of-second.ensures.value ∙ ap (λ (k : ℕ). corner_of c.args.self.now c.args.triangle k)
    c.next_of.ensures.value) found))
