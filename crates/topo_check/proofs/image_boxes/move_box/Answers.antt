-- Answers to the goals of `move_box` in src/image_boxes.rt.
use Rattle.std.proofs.Common.{◌≡◌, ◌+ℤ◌, rules, to_z, of_z}
use mir.Syntax.{w64}
use Rattle.plane_base.proofs.Bounds.BoxLemmas.{same_rect}
use Rattle.topo_check.specs.InsideImages.{moved_by}
use Rattle.topo_check.proofs.image_boxes.move_box.Goals as goal

pub returns : goal.returns
returns c =
    let rect = c.args.rect.now in let ways = c.args.displacements.now in
    let x0 : to_z w64 (of_z w64 c.in_ok-checked_add.field-0) ≡ rect.x0 +ℤ ways.x0 = search rules in
    let y0 : to_z w64 (of_z w64 c.in_ok-checked_add-2.field-0) ≡ rect.y0 +ℤ ways.y0 = search rules in
    let x1 : to_z w64 (of_z w64 c.in_ok-checked_add-3.field-0) ≡ rect.x1 +ℤ ways.x1 = search rules in
    let y1 : to_z w64 (of_z w64 c.in_ok-checked_add-4.field-0) ≡ rect.y1 +ℤ ways.y1 = search rules in
    same_rect _ (moved_by ways rect) x0 y0 x1 y1
