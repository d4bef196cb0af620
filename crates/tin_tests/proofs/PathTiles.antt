-- Paths that follow each other, one more.
use Rattle.std.proofs.Common.{ℕ, ◌+◌, ◌<◌, List, [], ◌∷◌, ◌++◌, take, length, get_or, refl, sym, subst}
use Rattle.std.proofs.lemmas.List.{take_more}
use Rattle.sheet_base.specs.declared.paths.PathRow.{PathRow}
use Rattle.sheet_base.specs.Sheets.{IsPathFrom, AreTiled}

one_more : (rows : List PathRow) (first past : ℕ) (row : PathRow) → AreTiled rows first past → IsPathFrom past row
    → AreTiled (rows ++ row ∷ []) first row.past
one_more [] first past row e h = (subst (λ (n : ℕ). IsPathFrom n row) (sym e) h, refl)
one_more (r ∷ rows) first past row tiled h = (tiled.0, one_more rows r.past past row tiled.1 h)

pub tiled_more : (rows : List PathRow) (i past : ℕ) (row : PathRow) → i < length rows → AreTiled (take i rows) 0 past
    → IsPathFrom past (get_or rows i row) → AreTiled (take (i + 1) rows) 0 (get_or rows i row).past
tiled_more rows i past row h tiled path = subst (λ (rs : List PathRow). AreTiled rs 0 (get_or rows i row).past)
    (sym (take_more rows i row h)) (one_more (take i rows) 0 past (get_or rows i row) tiled path)
