-- In well-known text each path has an edit with which it begins.
use Rattle.std.proofs.Common.{◌≡◌, ℕ, ◌+◌, Bool, List, [], ◌∷◌, length, Some, refl, subst, sym, inl}
use Rattle.sheet_base.specs.Sheets.{Contents}
use Rattle.sheet_base.proofs.DrawnPaths.{by_kind}
use Rattle.wkt_layer.specs.Layers.{IsWktReadAs}
use Rattle.wkt_layer.specs.Paths.{Path, text_for, edit_of, edits_from, rows_from, kept_points}
use Rattle.sheet_base.specs.EditStarts.{path_of}
use Rattle.change_places.specs.PathPlaces.{AreBegun}
use Rattle.place_runs.proofs.LayerPaths.PathEdits.{all_behind}

begun-from : (number first : ℕ) (paths : List Path)
    → AreBegun (edits_from number paths) number (rows_from first paths)
begun-from number first [] = tt
begun-from number first (path ∷ paths) = (
  inl (by_kind (λ kind. path_of (text_for kind number) ≡ Some number) refl refl refl path.kind),
  all_behind (edit_of number path ∷ []) (edits_from (number + 1) paths) (number + 1)
      (rows_from (first + length (kept_points path)) paths)
      (begun-from (number + 1) (first + length (kept_points path)) paths),
)

pub wkt_begun : (exact : Bool) (text : List ℕ) (sheet : Contents) → IsWktReadAs exact text sheet
    → AreBegun sheet.edits 0 sheet.paths
wkt_begun exact text sheet (paths, are, is) =
    subst (λ (s : Contents). AreBegun s.edits 0 s.paths) (sym is) (begun-from 0 0 paths)
