-- Answers to the goals of `BoxList::rect` in src/box_lists.rt.
use Rattle.std.proofs.Common.{ap, ◌∙◌, rules, arith}
use Rattle.std.specs.Prelude.{FitsSigned}
use Rattle.std.proofs.lemmas.Int.{ints, to_z-of_z}
use mir.Syntax.{w64}
use Rattle.cell_grid.specs.Boxes.{box_at}
use Rattle.cell_grid.specs.InsideOffsets.{PlacedBoxes}
use Rattle.cell_grid.proofs.OffsetBoxes.{placed_at, placed_inside, placed_within}
use Rattle.cell_grid.proofs.box_lists.BoxList.rect.Goals as goal

pub number_at-requires : goal.number_at-requires
number_at-requires c =
    let within = placed_within c.self.inside.around c.self.inside.items.items c.args.self.now c.args.number
    c.self.view_is c.requires in
    let is = placed_inside c.self.inside.around c.self.inside.items.items c.args.number c.index-offsets.result.now
    c.self.invariant.ordered c.self.invariant.around within c.index-offsets.ensures in
    let low : FitsSigned w64 c.self.inside.around.x0 = search rules in
    simp to_z-of_z (omega (arith, ints, is.0.0, is.1.right, c.self.invariant.right))

pub number_at-requires-2 : goal.number_at-requires-2
number_at-requires-2 c =
    let within = placed_within c.self.inside.around c.self.inside.items.items c.args.self.now c.args.number
    c.self.view_is c.requires in
    let is = placed_inside c.self.inside.around c.self.inside.items.items c.args.number c.index-offsets.result.now
    c.self.invariant.ordered c.self.invariant.around within c.index-offsets.ensures in
    let low : FitsSigned w64 c.self.inside.around.y0 = search rules in
    simp to_z-of_z (omega (arith, ints, is.0.1, is.1.top, c.self.invariant.top))

pub number_at-requires-3 : goal.number_at-requires-3
number_at-requires-3 c =
    let within = placed_within c.self.inside.around c.self.inside.items.items c.args.self.now c.args.number
    c.self.view_is c.requires in
    let is = placed_inside c.self.inside.around c.self.inside.items.items c.args.number c.index-offsets.result.now
    c.self.invariant.ordered c.self.invariant.around within c.index-offsets.ensures in
    let low : FitsSigned w64 c.self.inside.around.x0 = search rules in
    simp to_z-of_z (omega (arith, ints, is.1.right, c.self.invariant.right))

pub number_at-requires-4 : goal.number_at-requires-4
number_at-requires-4 c =
    let within = placed_within c.self.inside.around c.self.inside.items.items c.args.self.now c.args.number
    c.self.view_is c.requires in
    let is = placed_inside c.self.inside.around c.self.inside.items.items c.args.number c.index-offsets.result.now
    c.self.invariant.ordered c.self.invariant.around within c.index-offsets.ensures in
    let low : FitsSigned w64 c.self.inside.around.y0 = search rules in
    simp to_z-of_z (omega (arith, ints, is.1.top, c.self.invariant.top))

pub returns : goal.returns
returns c =
    let within = placed_within c.self.inside.around c.self.inside.items.items c.args.self.now c.args.number
    c.self.view_is c.requires in
    let at = placed_at c.self.inside.around c.self.inside.items.items c.args.number c.index-offsets.result.now within
    c.index-offsets.ensures in
    let there = at ∙ ap (λ (v : PlacedBoxes). box_at v.boxes c.args.number) c.self.view_is in
    let a : FitsSigned w64 c.self.inside.around.x0 = search rules in
    let b : FitsSigned w64 c.self.inside.around.y0 = search rules in
    let d : FitsSigned w64 c.number_at.result = search rules in
    let e : FitsSigned w64 c.number_at-2.result = search rules in
    let f : FitsSigned w64 c.number_at-3.result = search rules in
    let g : FitsSigned w64 c.number_at-4.result = search rules in
    let x0 = simp to_z-of_z at c.number_at.ensures in
    let y0 = simp to_z-of_z at c.number_at-2.ensures in
    let x1 = simp to_z-of_z at c.number_at-3.ensures in
    let y1 = simp to_z-of_z at c.number_at-4.ensures in
    simp to_z-of_z (rw (x0, y0, x1, y1) there)
