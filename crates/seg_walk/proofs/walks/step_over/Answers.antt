-- Answers to the goals of `step_over` in src/walks.rt.
use Rattle.std.proofs.Common.{◌≡◌, ℕ, length, ap, ◌∙◌, sym, subst}
use Rattle.plane_base.specs.Plane.{whole}
use Rattle.tin_base.specs.declared.frames.Frame.TheVariants.{Source}
use Rattle.tin_base.specs.Images.{IsInSome}
use Rattle.tin_base.specs.Triangulation.{Triangulation}
use Rattle.tin_base.proofs.TriangleLemmas.TestAnswers.{told, denied}
use Rattle.tin_index.specs.Boxes.{IsNearCorners}
use Rattle.tin_index.specs.Sides.{corner_of, IsStar, IsAcross}
use Rattle.tin_base.specs.Slices.{spot_of}
use Rattle.seg_walk.specs.InsideStarts.{GoesOn, HasNoneFrom}
use Rattle.seg_walk.specs.InsideExits.{IsLeftAt}
use Rattle.seg_walk.proofs.SideSteps.{around_first, around_second, across_none, across_some, star_below}
use Rattle.seg_walk.proofs.walks.step_over.Goals as goal

pub is_on_line-requires-clause-near_b : goal.is_on_line-requires-clause-near_b
is_on_line-requires-clause-near_b c = subst (λ (tin : Triangulation). IsNearCorners tin c.args.b)
    (sym c.tin-tin.ensures) c.requires.near_b

pub is_on_line-requires-2-clause-near_b : goal.is_on_line-requires-2-clause-near_b
is_on_line-requires-2-clause-near_b c = subst (λ (tin : Triangulation). IsNearCorners tin c.args.b)
    (sym c.tin-tin.ensures) c.requires.near_b

pub least_from-requires-clause-in_range : goal.least_from-requires-clause-in_range
least_from-requires-clause-in_range c = star_below c.tin-tin.result.now c.corner_of-first.result c.around.result.now
    (subst (λ (tin : Triangulation). IsStar tin c.corner_of-first.result c.around.result.now) (sym c.tin-tin.ensures)
    c.around.ensures)

pub least_from-requires-clause-has_a : goal.least_from-requires-clause-has_a
least_from-requires-clause-has_a c = subst (λ (tin : Triangulation). IsInSome tin Source (whole c.args.a))
    (sym c.tin-tin.ensures) c.requires.has_a

pub least_from-requires-clause-near_b : goal.least_from-requires-clause-near_b
least_from-requires-clause-near_b c = subst (λ (tin : Triangulation). IsNearCorners tin c.args.b)
    (sym c.tin-tin.ensures) c.requires.near_b

pub returns-then-is_on_line : goal.returns-then-is_on_line
returns-then-is_on_line c =
    let e = c.tin-tin.ensures in
    subst (λ (tin : Triangulation). GoesOn tin c.args.a c.args.b (spot_of c.args.at) c.least_from.result) e
    (around_first c.tin-tin.result.now c.args.a c.args.b c.args.triangle c.args.side c.corner_of-first.result
    (spot_of c.args.at) c.around.result.now c.least_from.result c.show_soundness.ensures.limits c.show_soundness.ensures.sound
    (subst (λ (tin : Triangulation). IsLeftAt tin c.args.a c.args.b c.args.triangle c.args.side (spot_of c.args.at))
    (sym c.tin-tin.ensures) c.requires.left)
    c.corner_of-first.ensures.value (told c.if-is_on_line.ensures)
    (subst (λ (tin : Triangulation). IsStar tin c.corner_of-first.result c.around.result.now) (sym c.tin-tin.ensures)
    c.around.ensures) c.least_from.ensures.some c.least_from.ensures.none)

pub least_from-requires-then-is_on_line-2-clause-in_range : goal.least_from-requires-then-is_on_line-2-clause-in_range
least_from-requires-then-is_on_line-2-clause-in_range c =
    star_below c.tin-tin.result.now c.corner_of-second.result c.around-then-is_on_line-2.result.now
    (subst (λ (tin : Triangulation). IsStar tin c.corner_of-second.result c.around-then-is_on_line-2.result.now)
    (sym c.tin-tin.ensures) c.around-then-is_on_line-2.ensures)

pub least_from-requires-then-is_on_line-2-clause-has_a : goal.least_from-requires-then-is_on_line-2-clause-has_a
least_from-requires-then-is_on_line-2-clause-has_a c =
    subst (λ (tin : Triangulation). IsInSome tin Source (whole c.args.a)) (sym c.tin-tin.ensures) c.requires.has_a

pub least_from-requires-then-is_on_line-2-clause-near_b : goal.least_from-requires-then-is_on_line-2-clause-near_b
least_from-requires-then-is_on_line-2-clause-near_b c =
    subst (λ (tin : Triangulation). IsNearCorners tin c.args.b) (sym c.tin-tin.ensures) c.requires.near_b

pub returns-then-is_on_line-2 : goal.returns-then-is_on_line-2
returns-then-is_on_line-2 c =
    let e = c.tin-tin.ensures in
    subst (λ (tin : Triangulation). GoesOn tin c.args.a c.args.b (spot_of c.args.at)
    c.least_from-then-is_on_line-2.result) e
    (around_second c.tin-tin.result.now c.args.a c.args.b c.args.triangle c.args.side c.corner_of-first.result
    c.corner_of-second.result (spot_of c.args.at) c.around-then-is_on_line-2.result.now
    c.least_from-then-is_on_line-2.result c.show_soundness.ensures.limits c.show_soundness.ensures.sound
    (subst (λ (tin : Triangulation). IsLeftAt tin c.args.a c.args.b c.args.triangle c.args.side (spot_of c.args.at))
    (sym c.tin-tin.ensures) c.requires.left)
    c.corner_of-first.ensures.value (c.corner_of-second.ensures.value
    ∙ ap (λ (k : ℕ). corner_of c.tin-tin.result.now c.args.triangle k) c.next_of.ensures.value)
    (denied c.if-is_on_line.ensures)
    (subst (λ (tin : Triangulation). IsStar tin c.corner_of-second.result c.around-then-is_on_line-2.result.now)
    (sym c.tin-tin.ensures) c.around-then-is_on_line-2.ensures) c.least_from-then-is_on_line-2.ensures.some
    c.least_from-then-is_on_line-2.ensures.none)

pub returns-in_default : goal.returns-in_default
returns-in_default c =
    subst (λ (tin : Triangulation). HasNoneFrom tin c.args.a c.args.b (spot_of c.args.at) (length tin.triangles))
    c.tin-tin.ensures
    (across_none c.tin-tin.result.now c.args.a c.args.b c.args.triangle c.args.side c.corner_of-first.result
    c.corner_of-second.result (spot_of c.args.at) c.show_soundness.ensures.limits c.show_soundness.ensures.sound
    (subst (λ (tin : Triangulation). IsLeftAt tin c.args.a c.args.b c.args.triangle c.args.side (spot_of c.args.at))
    (sym c.tin-tin.ensures) c.requires.left) c.corner_of-first.ensures.value
    (c.corner_of-second.ensures.value ∙ ap (λ (k : ℕ). corner_of c.tin-tin.result.now c.args.triangle k)
    c.next_of.ensures.value) (denied c.if-is_on_line.ensures) (denied c.if-is_on_line-2.ensures)
    (subst (λ (tin : Triangulation). (u : ℕ) → IsAcross tin c.args.triangle c.args.side u → ⊥) (sym c.tin-tin.ensures)
    c.in_default.ensures.none))

pub step_in-requires-clause-near_b : goal.step_in-requires-clause-near_b
step_in-requires-clause-near_b c = subst (λ (tin : Triangulation). IsNearCorners tin c.args.b) (sym c.tin-tin.ensures)
    c.requires.near_b

pub returns : goal.returns
returns c =
    subst (λ (tin : Triangulation). GoesOn tin c.args.a c.args.b (spot_of c.args.at) c.step_in.result) c.tin-tin.ensures
    (across_some c.tin-tin.result.now c.args.a c.args.b c.args.triangle c.args.side c.corner_of-first.result
    c.corner_of-second.result c.in-Some.other (spot_of c.args.at) c.step_in.result c.show_soundness.ensures.limits
    c.show_soundness.ensures.sound
    (subst (λ (tin : Triangulation). IsLeftAt tin c.args.a c.args.b c.args.triangle c.args.side (spot_of c.args.at))
    (sym c.tin-tin.ensures) c.requires.left) c.corner_of-first.ensures.value
    (c.corner_of-second.ensures.value ∙ ap (λ (k : ℕ). corner_of c.tin-tin.result.now c.args.triangle k)
    c.next_of.ensures.value) (denied c.if-is_on_line.ensures) (denied c.if-is_on_line-2.ensures)
    (subst (λ (tin : Triangulation). (u : ℕ) → IsAcross tin c.args.triangle c.args.side u → u ≡ c.in-Some.other)
    (sym c.tin-tin.ensures) c.in-Some.ensures.only)
    c.step_in.ensures.triangle c.step_in.ensures.some c.step_in.ensures.none)
