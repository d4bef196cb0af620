-- In a drawing each path has an edit with which it begins, by a law of drawings.
use Rattle.std.proofs.Common.{◌≡◌, ℕ, ◌+◌, List, [], ◌∷◌, Ok, ap, inl, inr}
use Rattle.sheet_base.specs.declared.edits.Edit.{Edit}
use Rattle.sheet_base.specs.declared.flags.How.{How}
use Rattle.sheet_base.specs.declared.paths.PathRow.{PathRow}
use Rattle.sheet_base.specs.Sheets.{Contents}
use Rattle.dxf_layer.specs.Drawings.{drawing_sheet}
use Rattle.dxf_layer.specs.PathEdits.{HasPathEdit, HavePathEdits, EachPathHasAnEdit}
use Rattle.sheet_base.specs.EditStarts.{path_of, point_of}
use Rattle.change_places.specs.PathPlaces.{IsBegunBy, AreBegun}

begun-by : (path first : ℕ) (edits : List Edit) → HasPathEdit path first edits → IsBegunBy path first edits
begun-by path first [] has = absurd has
begun-by path first (edit ∷ edits) (inl (inl line)) = inl (ap path_of line)
begun-by path first (edit ∷ edits) (inl (inr (inl value))) = inr (inl (ap point_of value))
begun-by path first (edit ∷ edits) (inl (inr (inr vertex))) = inr (inl (ap point_of vertex))
begun-by path first (edit ∷ edits) (inr has) = inr (inr (begun-by path first edits has))

all-begun : (edits : List Edit) (number : ℕ) (rows : List PathRow) → HavePathEdits edits number rows
    → AreBegun edits number rows
all-begun edits number [] have = tt
all-begun edits number (row ∷ rows) (has, have) =
    (begun-by number row.first edits has, all-begun edits (number + 1) rows have)

pub drawing_begun : EachPathHasAnEdit → (how : How) (text : List ℕ) (sheet : Contents)
    → drawing_sheet how text ≡ Ok sheet → AreBegun sheet.edits 0 sheet.paths
drawing_begun edits how text sheet is = all-begun sheet.edits 0 sheet.paths (edits how text sheet is)
