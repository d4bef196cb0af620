-- Answers to the goals of `tell_segment` in src/segments.rt.
use Rattle.std.proofs.Common.{◌≡◌, ℕ, ◌-◌, ◌++◌, ap, length, vec_len, map, take, List, sym, ◌∙◌, subst, arith}
use Rattle.tin_base.specs.Triangulation.{Triangulation}
use Rattle.sheet_base.specs.PointHeights.{Height}
use Rattle.tin_base.specs.Limits.{IsWithinLimits}
use Rattle.tin_base.specs.Segments.{Part, IsInside, ArePiecesOf}
use Rattle.tin_base.specs.Soundness.{IsSound}
use Rattle.seg_walk.specs.declared.steps.Step.{Step}
use Rattle.sheet_pieces.specs.SpotHeights.{param_height, crossing_heights}
use Rattle.carry_map.specs.CarriedLists.{AreSegmentTold}
use Rattle.seg_walk.specs.Steps.{AreSteps}
use Rattle.carry_map.specs.Causes.{IsWayCause}
use Rattle.carry_map.proofs.ErrorExits.{exits, no_way_cause, cut_cause}
use Rattle.carry_map.proofs.StepHeights.{have_params, heights_are}
use Rattle.carry_map.proofs.StepPieces.{some_steps, too_many}
use Rattle.carry_map.proofs.segments.tell_segment.Goals as goal

pub returns-then-found-most-clause-cause : goal.returns-then-found-most-clause-cause
returns-then-found-most-clause-cause c =
    too_many c.args.index.now c.args.way c.in_ok-steps.steps.items _ c.args.most (length c.as_slice-found.result.now)
    c.in_ok-steps.ensures.inside c.in_ok-steps.ensures.steps
    (ap (λ (steps : List Step). length steps) c.as_slice-found.ensures) c.requires.room (omega arith)

pub slice_bounds-push_heights-count : goal.slice_bounds-push_heights-count
slice_bounds-push_heights-count c =
    let sound = subst (λ (tin : Triangulation). IsSound tin) c.tin-tin.ensures c.show_soundness.ensures.sound in
    let some = some_steps c.args.index.now c.args.way.a c.args.way.b c.in_ok-steps.steps.items sound
    c.in_ok-steps.ensures.inside c.in_ok-steps.ensures.steps in
    let many = ap (λ (steps : List Step). length steps) c.as_slice-found.ensures in
    omega (arith, some, many)

pub tell_pieces-requires-clause-inside : goal.tell_pieces-requires-clause-inside
tell_pieces-requires-clause-inside c = subst (λ (tin : Triangulation). IsInside tin c.args.way.a c.args.way.b)
    (sym c.tin-tin.ensures) c.in_ok-steps.ensures.inside

pub push_heights-requires-clause-between : goal.push_heights-requires-clause-between
push_heights-requires-clause-between c =
    let limits = subst (λ (tin : Triangulation). IsWithinLimits tin) c.tin-tin.ensures c.show_soundness.ensures.limits in
    rw (c.as_slice-found.ensures)
    (have_params c.args.index.now c.args.way.a c.args.way.b c.in_ok-steps.steps.items _ limits
    c.in_ok-steps.ensures.steps)

pub returns-clause-told : goal.returns-clause-told
returns-clause-told c =
    let sound = subst (λ (tin : Triangulation). IsSound tin) c.tin-tin.ensures c.show_soundness.ensures.sound in
    let many : length c.as_slice-found.result.now ≡ length c.in_ok-steps.steps.items =
    ap (λ (steps : List Step). length steps) c.as_slice-found.ensures in
    let high : (parts : List Part) → ArePiecesOf c.args.index.now c.args.way.a c.args.way.b parts
    → map (λ (step : Step). param_height c.args.ends.from c.args.ends.to step.slice.hi)
    (take (length c.as_slice-found.result.now - 1) c.as_slice-found.result.now)
    ≡ crossing_heights c.args.way.a c.args.way.b
    (record { from = c.args.ends.from; to = c.args.ends.to }) parts = λ parts cut.
    ap (λ (steps : List Step). map
    (λ (step : Step). param_height c.args.ends.from c.args.ends.to step.slice.hi)
    (take (length c.as_slice-found.result.now - 1) steps)) c.as_slice-found.ensures
    ∙ heights_are c.args.index.now c.args.way.a c.args.way.b
    (record { from = c.args.ends.from; to = c.args.ends.to }) c.in_ok-steps.steps.items
    (length c.as_slice-found.result.now - 1) parts sound c.in_ok-steps.ensures.inside
    c.in_ok-steps.ensures.steps cut (ap (λ (n : ℕ). n - 1) many) in
    let told = subst (λ (tin : Triangulation). AreSegmentTold tin c.args.way.a c.args.way.b c.args.way.from
    c.args.pieces.now.items c.tell_pieces.new.pieces.items) c.tin-tin.ensures c.in_ok-end.ensures.told in
    record {
      told = told;
      rises = c.in_ok-push_heights.ensures.ok
          ∙ ap (λ (zs : List Height). c.args.heights.now ++ zs) (high told.parts told.cut);
    }

pub returns-clause-more : goal.returns-clause-more
returns-clause-more c =
    let sound = subst (λ (tin : Triangulation). IsSound tin) c.tin-tin.ensures c.show_soundness.ensures.sound in
    let some = some_steps c.args.index.now c.args.way.a c.args.way.b c.in_ok-steps.steps.items sound
    c.in_ok-steps.ensures.inside c.in_ok-steps.ensures.steps in
    let many = ap (λ (steps : List Step). length steps) c.as_slice-found.ensures in
    let grown = c.in_ok-end.ensures.count in
    omega arith

pub tell_pieces-requires-clause-steps : goal.tell_pieces-requires-clause-steps
tell_pieces-requires-clause-steps c =
    subst (λ (tin : Triangulation). AreSteps tin c.args.way.a c.args.way.b c.as_slice-found.result.now)
    (sym c.tin-tin.ensures) (subst (λ (steps : List Step). AreSteps c.args.index.now c.args.way.a c.args.way.b steps)
    (sym c.as_slice-found.ensures) c.in_ok-steps.ensures.steps)

pub returns-in_err-steps-clause-cause : goal.returns-in_err-steps-clause-cause
returns-in_err-steps-clause-cause c =
    let fault = c.in_err-steps.field-0.0 in
    exits (λ fault. IsWayCause c.args.index.now c.args.way (vec_len c.args.pieces.now) c.args.most fault) fault
    c.from_residual.result c.from_residual.ensures.1
    (cut_cause c.args.index.now c.args.way (vec_len c.args.pieces.now) c.args.most fault
    c.in_err-steps.ensures.cause)

pub returns-in_err-push_heights-clause-cause : goal.returns-in_err-push_heights-clause-cause
returns-in_err-push_heights-clause-cause c =
    no_way_cause c.args.index.now c.args.way (vec_len c.args.pieces.now) c.args.most c.in_err-push_heights.field-0.0
    c.from_residual-in_err-push_heights.result c.from_residual-in_err-push_heights.ensures.1
    c.in_err-push_heights.ensures.memory

pub returns-in_err-end-clause-cause : goal.returns-in_err-end-clause-cause
returns-in_err-end-clause-cause c =
    no_way_cause c.args.index.now c.args.way (vec_len c.args.pieces.now) c.args.most c.in_err-end.field-0.0
    c.from_residual-in_err-end.result c.from_residual-in_err-end.ensures.1 c.in_err-end.ensures.memory
