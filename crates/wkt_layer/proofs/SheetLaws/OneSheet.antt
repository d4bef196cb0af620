-- A layer has one sheet, and none where it is refused.
use Rattle.std.proofs.Common.{◌≡◌, ℕ, ◌+◌, inl, inr, Bool, List, [], ◌∷◌, length, sym, ap, ◌∙◌, arith}
use Rattle.std.proofs.lemmas.Option.{same_Some}
use Rattle.sheet_base.specs.declared.faults.LayerFault.{LayerFault}
use Rattle.sheet_base.specs.Sheets.{Contents}
use Rattle.wkt_layer.specs.Tokens.{Placed, tokens_of}
use Rattle.wkt_layer.specs.Geometries.{Geometry, IsGeometry, geometry_tokens}
use Rattle.wkt_layer.specs.Paths.{Path, geometry_paths, sheet_of}
use Rattle.wkt_layer.specs.Lines.{IsLineOf}
use Rattle.wkt_layer.specs.Faults.{IsLineFault}
use Rattle.wkt_layer.specs.Layers.{geometry_lines, AreLinesOf, IsFirstLineFault, IsWktReadAs, IsWktRefusedBy}
use Rattle.wkt_layer.specs.declared.limits.TheConstants.{DEEPEST}
use Rattle.wkt_layer.proofs.Grammar.LinePasses.{line_paths}

-- a line has one list of paths
geometry_one : (exact : Bool) (one other : Geometry) → IsGeometry exact DEEPEST one → IsGeometry exact DEEPEST other
    → geometry_tokens one ≡ geometry_tokens other → geometry_paths one ≡ geometry_paths other
geometry_one exact one other is_one is_other same = grind (arith, line_paths, same_Some)

line_one : (exact : Bool) (line : List Placed) (paths others : List Path) → IsLineOf exact line paths
    → IsLineOf exact line others → paths ≡ others
line_one exact [] paths others is too = is ∙ sym too
line_one exact (first ∷ more) paths others (one, is, same, are) (other, too, alike, were) = are
    ∙ geometry_one exact one other is too (sym same ∙ alike) ∙ sym were

-- a line that is read has no fault
pub line_apart : (exact : Bool) (line : List Placed) (end : ℕ) (paths : List Path) (fault : LayerFault)
    → IsLineOf exact line paths → IsLineFault exact line end fault → ⊥
line_apart exact [] end paths fault is refused = refused
line_apart exact (first ∷ more) end paths fault (one, is, same, are) refused = refused.first.refused (one, is, same)

lines_one : (exact : Bool) (at : ℕ) (lines : List (List ℕ)) (paths others : List Path) → AreLinesOf exact at lines paths
    → AreLinesOf exact at lines others → paths ≡ others
lines_one exact at [] paths others is too = is ∙ sym too
lines_one exact at (line ∷ lines) paths others (here, later, is, are, same) (there, behind, too, were, alike) =
    grind (arith, line_one, (lines_one exact (at + length line + 1) lines later behind are were))

lines_apart : (exact : Bool) (at : ℕ) (lines : List (List ℕ)) (paths : List Path) (fault : LayerFault)
    → AreLinesOf exact at lines paths → IsFirstLineFault exact at lines fault → ⊥
lines_apart exact at [] paths fault are refused = refused
lines_apart exact at (line ∷ lines) paths fault (here, later, is, are, same) (inl refused) =
    line_apart exact (tokens_of at line) (at + length line) here fault is refused
lines_apart exact at (line ∷ lines) paths fault (here, later, is, are, same) (inr (_, _, refused)) =
    lines_apart exact (at + length line + 1) lines later fault are refused

pub sheet_one : (exact : Bool) (bytes : List ℕ) (sheet other : Contents) → IsWktReadAs exact bytes sheet
    → IsWktReadAs exact bytes other → sheet ≡ other
sheet_one exact bytes sheet other (paths, are, same) (others, were, alike) = same
    ∙ ap sheet_of (lines_one exact 0 (geometry_lines bytes) paths others are were) ∙ sym alike

pub sheet_apart : (exact : Bool) (bytes : List ℕ) (sheet : Contents) (fault : LayerFault)
    → IsWktReadAs exact bytes sheet
    → IsWktRefusedBy exact bytes fault → ⊥
sheet_apart exact bytes sheet fault (paths, are, same) refused =
    lines_apart exact 0 (geometry_lines bytes) paths fault are refused
