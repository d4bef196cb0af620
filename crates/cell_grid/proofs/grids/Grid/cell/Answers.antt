-- Answers to the goals of `Grid::cell` in src/grids.rt.
use Rattle.std.proofs.Common.{◌≡◌, ◌↔◌, ◌<◌, ℕ, List, length, get_or, Contains, refl, ap, sym, subst, ◌∙◌, rules, arith}
use Rattle.std.specs.Prelude.{FitsSigned}
use Rattle.std.proofs.lemmas.Int.{to_z-of_z}
use mir.Syntax.{w64}
use Rattle.std.proofs.lemmas.List.{get_or_default}
use Rattle.plane_base.specs.declared.shapes.Rect.{Rect}
use Rattle.cell_grid.specs.Boxes.{IsHolder, box_at}
use Rattle.cell_grid.specs.InsideSizes.{level_of}
use Rattle.cell_grid.specs.Grids.{Boxes}
use Rattle.cell_grid.specs.Cells.{numbers_at, cell_of}
use Rattle.cell_grid.specs.Around.{put_of}
use Rattle.cell_grid.proofs.LevelFields.{number_kept, number_low, put_past, cell_below, cell_exact}
use Rattle.cell_grid.proofs.LevelPlaces.{grid_levels, size_at}
use Rattle.cell_grid.proofs.grids.Grid.cell.Goals as goal

pub column-requires : goal.column-requires
column-requires c =
    let levels : length c.self.inside.used.items ≡ c.args.self.now.levels =
    ap (λ (v : Boxes). v.levels) c.self.view_is in
    let low = number_low c.self.inside.boxes.boxes c.self.inside.boxes.around c.self.inside.levels.items
    c.self.inside.used.items _ c.index-used.result.now c.index-level.result.now c.self.invariant.used
    c.self.invariant.low c.index-used.ensures (omega (arith, levels, c.requires)) c.index-level.ensures in
    let x : FitsSigned w64 c.put_into-inside.result.x = search rules in
    simp to_z-of_z (put_past c.self.inside.boxes.boxes c.self.inside.boxes.around c.index-level.result.now.low c.args.p
    c.put_into-inside.result c.self.invariant.around low
    (c.put_into-inside.ensures ∙ ap (λ (a : Rect). put_of a c.args.p) c.around.ensures)).0

pub row-requires : goal.row-requires
row-requires c =
    let levels : length c.self.inside.used.items ≡ c.args.self.now.levels =
    ap (λ (v : Boxes). v.levels) c.self.view_is in
    let low = number_low c.self.inside.boxes.boxes c.self.inside.boxes.around c.self.inside.levels.items
    c.self.inside.used.items _ c.index-used.result.now c.index-level.result.now c.self.invariant.used
    c.self.invariant.low c.index-used.ensures (omega (arith, levels, c.requires)) c.index-level.ensures in
    let y : FitsSigned w64 c.put_into-inside.result.y = search rules in
    simp to_z-of_z (put_past c.self.inside.boxes.boxes c.self.inside.boxes.around c.index-level.result.now.low c.args.p
    c.put_into-inside.result c.self.invariant.around low
    (c.put_into-inside.ensures ∙ ap (λ (a : Rect). put_of a c.args.p) c.around.ensures)).1

pub returns-clause-numbers : goal.returns-clause-numbers
returns-clause-numbers c =
    let boxes : c.self.inside.boxes.boxes ≡ c.args.self.now.boxes = ap (λ (v : Boxes). v.boxes) c.self.view_is in
    rw (← boxes) (cell_below c.self.inside.boxes.boxes c.self.inside.cells _ c.at.result.now
    c.self.invariant.numbers c.at.ensures)

pub returns-clause-level : goal.returns-clause-level
returns-clause-level c =
    let boxes : c.self.inside.boxes.boxes ≡ c.args.self.now.boxes = ap (λ (v : Boxes). v.boxes) c.self.view_is in
    let levels : length c.self.inside.used.items ≡ c.args.self.now.levels =
    ap (λ (v : Boxes). v.levels) c.self.view_is in
    let within : c.args.level < length c.self.inside.used.items =
    subst (λ (n : ℕ). c.args.level < n) (sym levels) c.requires in
    let kept = number_kept c.self.inside.boxes.boxes c.self.inside.boxes.around c.self.inside.cells
    c.self.inside.levels.items c.self.inside.used.items c.args.level c.index-used.result.now
    c.index-level.result.now
    c.self.invariant.used c.self.invariant.laid c.self.invariant.low c.self.invariant.levels within c.index-used.ensures
    c.index-level.ensures in
    let x : FitsSigned w64 c.put_into-inside.result.x = search rules in
    let y : FitsSigned w64 c.put_into-inside.result.y = search rules in
    let column = simp to_z-of_z at c.column.ensures.column in
    let row = simp to_z-of_z at c.row.ensures.row in
    let place : c.place.result ≡ cell_of c.index-level.result.now (put_of c.self.inside.boxes.around c.args.p) =
    rw (c.place.ensures.place, column, row, c.put_into-inside.ensures, c.around.ensures) refl in
    let number : c.index-used.result.now ≡ get_or c.self.inside.used.items c.args.level 0 =
    c.index-used.ensures ∙ get_or_default c.self.inside.used.items c.args.level c.index-used.result.now 0 within in
    let exact = cell_exact c.self.inside.boxes.boxes c.self.inside.boxes.around c.self.inside.cells
    c.index-used.result.now c.index-level.result.now c.args.p c.at.result.now c.self.invariant.around kept
    (c.at.ensures ∙ ap (numbers_at c.self.inside.cells) place) in
    let has = grid_levels (length c.self.inside.levels.items) c.self.inside.boxes.boxes c.self.inside.used.items
    c.args.self.now c.self.invariant.used c.self.view_is in
    let sized : (n : ℕ) → IsHolder c.args.self.now.boxes c.args.p n
    → Contains c.at.result.now n ↔ (level_of (box_at c.args.self.now.boxes n) ≡ get_or c.self.inside.used.items
    c.args.level 0) =
    subst (λ (bs : List Rect). (n : ℕ) → IsHolder bs c.args.p n → Contains c.at.result.now n ↔ (level_of (box_at bs n)
    ≡ get_or c.self.inside.used.items c.args.level 0)) boxes
    (subst (λ (k : ℕ). (n : ℕ) → IsHolder c.self.inside.boxes.boxes c.args.p n
    → Contains c.at.result.now n ↔ (level_of (box_at c.self.inside.boxes.boxes n) ≡ k)) number exact) in
    λ n holder.
    let own = size_at c.self.inside.used.items c.args.self.now n c.args.level has holder.0 within in
    let is = sized n holder in
    (λ h. own.0 (is.0 h), λ h. is.1 (own.1 h))
