-- A layer of well-known text is read line by line.
use Rattle.std.specs.Prelude.{◌≡◌, ◌==◌, ℕ, ◌+◌, ◌⊎◌, Bool, List, [], ◌∷◌, ◌++◌, length}
use Rattle.std.specs.List.{slice_split}
use Rattle.sheet_base.specs.declared.faults.LayerFault.{LayerFault}
use Rattle.sheet_base.specs.Sheets.{Contents}
use Rattle.wkt_layer.specs.Tokens.{tokens_of}
use Rattle.wkt_layer.specs.Paths.{Path, sheet_of}
use Rattle.wkt_layer.specs.Lines.{IsLineOf}
use Rattle.wkt_layer.specs.Faults.{IsLineFault}
use Rattle.wkt_layer.specs.declared.limits.TheConstants.{LINE_FEED}

-- the lines of a text: what is between its line feeds
abbrev pub geometry_lines : List ℕ → List (List ℕ)
geometry_lines text = slice_split (λ byte. byte == LINE_FEED) text

-- the paths of lines whose first one begins at this place
abbrev pub AreLinesOf : Bool → ℕ → List (List ℕ) → List Path → Type 0
AreLinesOf exact at [] paths = paths ≡ []
AreLinesOf exact at (line ∷ lines) paths =
    (here others : List Path) × IsLineOf exact (tokens_of at line) here
    × AreLinesOf exact (at + length line + 1) lines others × (paths ≡ here ++ others)

-- the fault of the first line that has one
abbrev pub IsFirstLineFault : Bool → ℕ → List (List ℕ) → LayerFault → Type 0
IsFirstLineFault exact at [] fault = ⊥
IsFirstLineFault exact at (line ∷ lines) fault =
    IsLineFault exact (tokens_of at line) (at + length line) fault
    ⊎ ((here : List Path) × IsLineOf exact (tokens_of at line) here
    × IsFirstLineFault exact (at + length line + 1) lines fault)

-- the text is read as this sheet
abbrev pub IsWktReadAs : Bool → List ℕ → Contents → Type 0
IsWktReadAs exact text sheet = (paths : List Path) × AreLinesOf exact 0 (geometry_lines text) paths
    × (sheet ≡ sheet_of paths)

-- the text is refused by this fault
abbrev pub IsWktRefusedBy : Bool → List ℕ → LayerFault → Type 0
IsWktRefusedBy exact text fault = IsFirstLineFault exact 0 (geometry_lines text) fault
