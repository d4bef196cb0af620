-- Answers to the goals of `Block::of` in src/blocks.rt.
use Rattle.std.proofs.Common.{◌≡◌, rules, arith}
use Rattle.std.specs.Prelude.{FitsSigned}
use Rattle.std.proofs.lemmas.Int.{to_z-of_z}
use mir.Syntax.{w64}
use Rattle.cell_grid.specs.Cells.{column_of, row_of}
use Rattle.cell_grid.proofs.Stripes.{stripe_up}
use Rattle.cell_grid.proofs.blocks.Block.of.Goals as goal

pub overflow_sub-result : goal.overflow_sub-result
overflow_sub-result c =
    let x0 : FitsSigned w64 c.args.rect.now.x0 = search rules in
    let x1 : FitsSigned w64 c.args.rect.now.x1 = search rules in
    let first = simp to_z-of_z at c.column-column.ensures.column in
    let last = simp to_z-of_z at c.column.ensures.column in
    rw (first, last) (stripe_up c.args.level.now.low.x c.args.level.now.shift c.args.rect.now.x0 c.args.rect.now.x1
    c.requires.left.0 c.requires.ordered.0)

pub overflow_sub-result-2 : goal.overflow_sub-result-2
overflow_sub-result-2 c =
    let y0 : FitsSigned w64 c.args.rect.now.y0 = search rules in
    let y1 : FitsSigned w64 c.args.rect.now.y1 = search rules in
    let first = simp to_z-of_z at c.row-row.ensures.row in
    let last = simp to_z-of_z at c.row.ensures.row in
    rw (first, last) (stripe_up c.args.level.now.low.y c.args.level.now.shift c.args.rect.now.y0 c.args.rect.now.y1
    c.requires.bottom.0 c.requires.ordered.1)

pub returns : goal.returns
returns c =
    let x0 : FitsSigned w64 c.args.rect.now.x0 = search rules in
    let x1 : FitsSigned w64 c.args.rect.now.x1 = search rules in
    let y0 : FitsSigned w64 c.args.rect.now.y0 = search rules in
    let y1 : FitsSigned w64 c.args.rect.now.y1 = search rules in
    let column : c.column-column.result ≡ column_of c.args.level.now c.args.rect.now.x0 =
    simp to_z-of_z at c.column-column.ensures.column in
    let last : c.column.result ≡ column_of c.args.level.now c.args.rect.now.x1 =
    simp to_z-of_z at c.column.ensures.column in
    let row : c.row-row.result ≡ row_of c.args.level.now c.args.rect.now.y0 = simp to_z-of_z at c.row-row.ensures.row in
    let top : c.row.result ≡ row_of c.args.level.now c.args.rect.now.y1 = simp to_z-of_z at c.row.ensures.row in
    let up = stripe_up c.args.level.now.low.x c.args.level.now.shift c.args.rect.now.x0 c.args.rect.now.x1
    c.requires.left.0 c.requires.ordered.0 in
    let higher = stripe_up c.args.level.now.low.y c.args.level.now.shift c.args.rect.now.y0 c.args.rect.now.y1
    c.requires.bottom.0 c.requires.ordered.1 in
    record { column = column; row = row; columns = omega arith; rows = omega arith }
