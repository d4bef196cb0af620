-- Answers to the goals of `cut_point` in src/cuts.rt.
use Rattle.std.proofs.Common.{◌≡◌, List, [], ◌∷◌, ◌++◌, subst, sym}
use Rattle.seg_walk.specs.declared.steps.Step.{Step}
use Rattle.seg_walk.specs.Steps.{AreSteps}
use Rattle.seg_walk.proofs.StepPieces.{one_step}
use Rattle.seg_walk.proofs.PointSlices.{point_slice}
use Rattle.seg_walk.proofs.cuts.cut_point.Goals as goal

pub returns-clause-pieces : goal.returns-clause-pieces
returns-clause-pieces c =
    let step : Step = record { tri = c.args.triangle; slice = c.point_way.result } in
    subst (λ (steps : List Step). AreSteps c.args.tin.now c.args.p c.args.p steps)
    (sym (subst (λ (steps : List Step). c.push.new.self.items ≡ steps ++ step ∷ []) c.new-steps.ensures.items
    c.in_ok-push.ensures.ok))
    (one_step c.args.tin.now c.args.p step c.requires.in_range c.requires.has_point c.requires.least
    (point_slice c.args.tin.now c.args.p c.args.triangle c.point_way.result c.requires.has_point
    c.point_way.ensures))
