-- Answers to the goals of `cut_in` in src/cuts.rt.
use Rattle.std.proofs.Common.{ℕ, ◌<◌, Bool, false, IsTrue, IfOk, Result, Ok, Err, subst, sym}
use Rattle.plane_base.specs.Plane.{whole}
use Rattle.plane_base.specs.declared.shapes.Pt.{Pt}
use Rattle.tin_base.specs.declared.frames.Frame.TheVariants.{Source}
use Rattle.tin_base.specs.Triangulation.{Triangulation, IsInTriangle}
use Rattle.tin_base.specs.Segments.{IsInside}
use Rattle.tin_base.proofs.TriangleLemmas.TestAnswers.{told}
use Rattle.seg_walk.specs.Steps.{AreSteps}
use Rattle.tin_base.proofs.SegmentSpots.Spots.{point_inside, last_inside}
use Rattle.seg_walk.proofs.cuts.cut_in.Goals as goal

always : {A E P : Type 0} (answer : Result A E) → P → IfOk answer (λ _. P)
always (Ok x) h = h
always (Err e) h = tt

not_true : IsTrue false → ⊥
not_true e = cc

pub returns-then-not-is_among_corners-clause-outside : goal.returns-then-not-is_among_corners-clause-outside
returns-then-not-is_among_corners-clause-outside c =
    λ _ inside. not_true (subst (λ (b : Bool). IsTrue b) c.if-not-is_among_corners.true
    (c.is_among_corners.ensures.has (last_inside c.args.index.now c.args.a c.args.b inside)))

pub cut_point-requires-clause-least : goal.cut_point-requires-clause-least
cut_point-requires-clause-least c =
    subst (λ (tin : Triangulation). (other : ℕ) → other < c.args.triangle
    → IsInTriangle tin Source other (whole c.args.a) → ⊥) (sym c.tin-tin.ensures) c.requires.least

pub returns-then-is_same-clause-pieces : goal.returns-then-is_same-clause-pieces
returns-then-is_same-clause-pieces c =
    subst (λ (b : Pt). IfOk c.cut_point.result (λ steps. AreSteps c.args.index.now c.args.a b steps.items))
    (told c.if-is_same.ensures)
    (subst (λ (tin : Triangulation). IfOk c.cut_point.result (λ steps. AreSteps tin c.args.a c.args.a steps.items))
    c.tin-tin.ensures c.cut_point.ensures.pieces)

pub returns-then-is_same-clause-inside : goal.returns-then-is_same-clause-inside
returns-then-is_same-clause-inside c =
    always c.cut_point.result (subst (λ (b : Pt). IsInside c.args.index.now c.args.a b) (told c.if-is_same.ensures)
    (point_inside c.args.index.now c.args.a (c.args.triangle, c.requires.in_range, c.requires.has_point)))
