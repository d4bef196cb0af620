-- With which edits the paths of a drawing begin, and that each has one: a law.
use Rattle.std.specs.Prelude.{◌≡◌, ◌⊎◌, ℕ, ◌+◌, List, [], ◌∷◌, Ok}
use Rattle.sheet_base.specs.declared.edits.Edit.{Edit}
use Rattle.sheet_base.specs.declared.edits.What.{What}
use Rattle.sheet_base.specs.declared.edits.What.TheVariants.{Lines, X, Vertex}
use Rattle.sheet_base.specs.declared.flags.How.{How}
use Rattle.sheet_base.specs.declared.paths.PathRow.{PathRow}
use Rattle.sheet_base.specs.Sheets.{Contents}
use Rattle.dxf_layer.specs.Drawings.{drawing_sheet}

-- an edit writes the copies of the line of the path of this number, or begins to write the image of this point
abbrev pub BeginsPath : ℕ → ℕ → What → Type 0
BeginsPath path first what = (what ≡ Lines path) ⊎ ((what ≡ X first) ⊎ (what ≡ Vertex first))

-- some edit does
abbrev pub HasPathEdit : ℕ → ℕ → List Edit → Type 0
HasPathEdit path first [] = ⊥
HasPathEdit path first (edit ∷ edits) = BeginsPath path first edit.what ⊎ HasPathEdit path first edits

-- so it is of each of some paths and its first point; the first path has this number
abbrev pub HavePathEdits : List Edit → ℕ → List PathRow → Type 0
HavePathEdits edits number [] = Unit {0}
HavePathEdits edits number (row ∷ rows) =
    HasPathEdit number row.first edits × HavePathEdits edits (number + 1) rows

-- each path of the sheet of a drawing has an edit with which it begins
abbrev pub EachPathHasAnEdit : Type 0
EachPathHasAnEdit =
    (how : How) (bytes : List ℕ) (sheet : Contents) → drawing_sheet how bytes ≡ Ok sheet
    → HavePathEdits sheet.edits 0 sheet.paths
