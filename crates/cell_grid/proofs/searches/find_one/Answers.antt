-- Answers to the goals of `find_one` in src/searches.rt.
use Rattle.std.proofs.Common.{refl, subst}
use Rattle.plane_base.specs.declared.shapes.Rect.{Rect}
use Rattle.plane_base.specs.Boxes.{ShareAPoint}
use Rattle.cell_grid.proofs.Finds.{find_one}
use Rattle.cell_grid.proofs.searches.find_one.Goals as goal

pub returns : goal.returns
returns c =
    find_one c.args.boxes.now.boxes c.args.r.now c.args.number c.args.found.now.items c.push.new.self.items (
      c.requires.number,
      subst (λ (r : Rect). ShareAPoint r c.args.r.now) c.rect.ensures
          (c.if-not-shares_a_point.ensures.0 refl),
    ) c.in_ok-push.ensures.items
