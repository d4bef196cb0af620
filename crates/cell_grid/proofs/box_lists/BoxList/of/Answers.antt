-- Answers to the goals of `BoxList::of` in src/box_lists.rt.
use Rattle.std.proofs.Common.{◌≡◌, List, refl, sym, ◌∙◌, subst, rules, arith}
use Rattle.std.specs.Prelude.{FitsSigned}
use Rattle.std.proofs.lemmas.Int.{ints}
use mir.Syntax.{w64}
use Rattle.std.proofs.lemmas.List.{take_all}
use Rattle.plane_base.specs.declared.shapes.Rect.{Rect}
use Rattle.cell_grid.specs.Around.{IsAround, corner_of}
use Rattle.cell_grid.specs.Boxes.{AreOrdered, no_box}
use Rattle.cell_grid.proofs.LevelFields.{boxes_past}
use Rattle.cell_grid.proofs.OffsetBoxes.{placed, placed_more}
use Rattle.cell_grid.proofs.box_lists.BoxList.of.Goals as goal

pub of-requires : goal.of-requires
of-requires c = boxes_past c.args.boxes.now c.args.around (corner_of c.args.around) c.requires.ordered c.requires.around
    refl c.loop-rect.rect-index no_box c.loop-rect-test.true

pub loop-rect-preserved : goal.loop-rect-preserved
loop-rect-preserved c =
    placed_more c.args.around c.args.boxes.now c.loop-rect.rect-index c.loop-rect.items.items c.push.new.self.items
    c.of.result c.loop-rect-test.true c.of.ensures c.in_ok-push.ensures.items c.loop-rect.invariant

pub invariant_of-result : goal.invariant_of-result
invariant_of-result c =
    let all : placed c.args.around c.loop-rect.items.items ≡ c.args.boxes.now = c.loop-rect.invariant
    ∙ take_all c.loop-rect.rect-index c.args.boxes.now c.loop-rect-test.false in
    let right : FitsSigned w64 c.args.around.x1 = search rules in
    let top : FitsSigned w64 c.args.around.y1 = search rules in
    record {
      ordered = subst (λ (l : List Rect). AreOrdered l) (sym all) c.requires.ordered;
      around = subst (λ (l : List Rect). IsAround c.args.around l) (sym all) c.requires.around;
      right = omega (arith, ints, right.sfits);
      top = omega (arith, ints, top.sfits);
    }

pub returns-clause-boxes : goal.returns-clause-boxes
returns-clause-boxes c = c.loop-rect.invariant ∙ take_all c.loop-rect.rect-index c.args.boxes.now c.loop-rect-test.false
