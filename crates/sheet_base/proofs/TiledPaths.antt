-- A sheet has no more paths than points.
use Rattle.std.proofs.Common.{ℕ, ◌+◌, ◌<◌, ◌≤◌, ◌^◌, List, [], ◌∷◌, length, arith}
use Rattle.sheet_base.specs.declared.paths.PathRow.{PathRow}
use Rattle.sheet_base.specs.Sheets.{Contents, AreTiled, IsSheet}

pub rows_few : (rows : List PathRow) (first past : ℕ) → AreTiled rows first past → first + length rows ≤ past
rows_few [] first past are = omega (arith, are)
rows_few (row ∷ rows) first past (is, are) =
    omega (arith, is.begins, is.some, rows_few rows row.past past are)

pub tiled_up : (rows : List PathRow) (first past : ℕ) → AreTiled rows first past → first ≤ past
tiled_up rows first past are = omega (arith, rows_few rows first past are)

pub paths_few : (sheet : Contents) → IsSheet sheet → length sheet.paths < 2 ^ 32
paths_few sheet is = omega (arith, is.few, rows_few sheet.paths 0 (length sheet.points) is.tiled)
