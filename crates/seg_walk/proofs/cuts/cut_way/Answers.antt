-- Answers to the goals of `cut_way` in src/cuts.rt.
use Rattle.std.proofs.Common.{subst}
use Rattle.tin_base.specs.Soundness.{IsSound}
use Rattle.tin_base.specs.Triangulation.{Triangulation}
use Rattle.tin_base.proofs.TriangleLemmas.TestAnswers.{told, denied}
use Rattle.seg_walk.proofs.StepPieces.{on_start, on_more, at_end, not_inside, one_more}
use Rattle.seg_walk.proofs.cuts.cut_way.Goals as goal

pub loop-next-init : goal.loop-next-init
loop-next-init c =
    on_start c.args.index.now c.args.a c.args.b c.new-steps.result.items c.first_step-next.result
    c.new-steps.ensures.items (c.args.triangle, c.requires.in_range, c.requires.has_point) c.first_step-next.ensures

pub returns-then-not-is_before_end-clause-pieces : goal.returns-then-not-is_before_end-clause-pieces
returns-then-not-is_before_end-clause-pieces c =
    (at_end c.args.index.now c.args.a c.args.b c.loop-next.steps.items c.push.new.self.items c.in-Some.step
    c.requires.differ (one_more c.args.index.now c.tin.result.now c.args.a c.args.b c.loop-next.steps.items
    c.push.new.self.items c.loop-next.next c.in-Some.step c.tin.ensures c.show_soundness.ensures.limits c.show_soundness.ensures.sound
    c.requires.differ c.loop-next.invariant c.in-Some.is c.in_ok-push.ensures.ok)
    (denied c.if-not-is_before_end.ensures)).0

pub returns-then-not-is_before_end-clause-inside : goal.returns-then-not-is_before_end-clause-inside
returns-then-not-is_before_end-clause-inside c =
    (at_end c.args.index.now c.args.a c.args.b c.loop-next.steps.items c.push.new.self.items c.in-Some.step
    c.requires.differ (one_more c.args.index.now c.tin.result.now c.args.a c.args.b c.loop-next.steps.items
    c.push.new.self.items c.loop-next.next c.in-Some.step c.tin.ensures c.show_soundness.ensures.limits c.show_soundness.ensures.sound
    c.requires.differ c.loop-next.invariant c.in-Some.is c.in_ok-push.ensures.ok)
    (denied c.if-not-is_before_end.ensures)).1

pub loop-next-smaller : goal.loop-next-smaller
loop-next-smaller c =
    let here =
    one_more c.args.index.now c.tin.result.now c.args.a c.args.b c.loop-next.steps.items c.push.new.self.items
    c.loop-next.next c.in-Some.step c.tin.ensures c.show_soundness.ensures.limits c.show_soundness.ensures.sound c.requires.differ
    c.loop-next.invariant c.in-Some.is c.in_ok-push.ensures.ok in
    here.less

pub loop-next-preserved : goal.loop-next-preserved
loop-next-preserved c = on_more c.args.index.now c.args.a c.args.b c.loop-next.steps.items c.push.new.self.items
    c.in-Some.step c.step_after-next.result (one_more c.args.index.now c.tin.result.now c.args.a c.args.b
    c.loop-next.steps.items c.push.new.self.items c.loop-next.next c.in-Some.step c.tin.ensures c.show_soundness.ensures.limits
    c.show_soundness.ensures.sound c.requires.differ c.loop-next.invariant c.in-Some.is c.in_ok-push.ensures.ok)
    (told c.if-not-is_before_end.ensures) c.step_after-next.ensures

pub returns-clause-outside : goal.returns-clause-outside
returns-clause-outside c =
    λ _ inside. not_inside c.args.index.now c.args.a c.args.b c.loop-next.steps.items c.loop-next.next
    (subst (λ (tin : Triangulation). IsSound tin) c.tin.ensures c.show_soundness.ensures.sound) c.loop-next.invariant
    c.in_default.is inside
