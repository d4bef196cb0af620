-- Where in a layer's bytes each of its paths is written: its list or its entity, or else the image of its first point.
use Rattle.std.specs.Prelude.{◌≡◌, ◌⊎◌, ℕ, ◌+◌, ◌==◌, Bool, true, false, List, [], ◌∷◌, map, take, count_by, find}
use Rattle.std.specs.Prelude.{Option, None}
use Rattle.std.specs.Prelude.{Some}
use Rattle.sheet_base.specs.declared.edits.Edit.{Edit}
use Rattle.sheet_base.specs.declared.paths.PathRow.{PathRow}
use Rattle.sheet_base.specs.EditStarts.{path_of, point_of, start_in}
use Rattle.sheet_base.specs.Sheets.{Contents}

-- the line, from 1, of a byte: one more than the line feeds (10) before it
abbrev pub line_of : List ℕ → ℕ → ℕ
line_of bytes start = count_by (λ byte. byte == 10) (take start bytes) + 1

-- an edit of a drawing as it is printed: it begins at its line
abbrev pub edit_in_lines : List ℕ → Edit → Edit
edit_in_lines bytes edit = record { start = line_of bytes edit.start; end = edit.end; what = edit.what }

-- edits as they are printed: those of a drawing begin at their lines, and others at their bytes from 0
abbrev pub printed_edits : Bool → List ℕ → List Edit → List Edit
printed_edits true bytes edits = map (edit_in_lines bytes) edits
printed_edits false bytes edits = edits

-- where each of some paths begins; the first has this number
abbrev pub places_from : List Edit → ℕ → List PathRow → List (Option ℕ)
places_from edits number [] = []
places_from edits number (row ∷ rows) = start_in edits number row.first ∷ places_from edits (number + 1) rows

-- where each path of a sheet begins, as it is printed
abbrev pub path_places : Bool → List ℕ → Contents → List (Option ℕ)
path_places drawing bytes sheet = places_from (printed_edits drawing bytes sheet.edits) 0 sheet.paths

-- ---- which places are known
-- some edit writes the whole list or the entity of the path of this number, or begins to write the image of this point
abbrev pub IsBegunBy : ℕ → ℕ → List Edit → Type 0
IsBegunBy number first [] = ⊥
IsBegunBy number first (edit ∷ edits) =
    (path_of edit.what ≡ Some number) ⊎ ((point_of edit.what ≡ Some first) ⊎ IsBegunBy number first edits)

-- so it is of each of some paths and its first point; the first path has this number
abbrev pub AreBegun : List Edit → ℕ → List PathRow → Type 0
AreBegun edits number [] = Unit {0}
AreBegun edits number (row ∷ rows) = IsBegunBy number row.first edits × AreBegun edits (number + 1) rows

-- the place is a number
abbrev pub IsKnown : Option ℕ → Type 0
IsKnown place = (at : ℕ) × (place ≡ Some at)

abbrev pub AreKnown : List (Option ℕ) → Type 0
AreKnown [] = Unit {0}
AreKnown (place ∷ places) = IsKnown place × AreKnown places

-- a law: where each path of a sheet has an edit with which it begins, each place is known
abbrev pub PlacesAreKnown : Type 0
PlacesAreKnown = (drawing : Bool) (bytes : List ℕ) (sheet : Contents) → AreBegun sheet.edits 0 sheet.paths
    → AreKnown (path_places drawing bytes sheet)
