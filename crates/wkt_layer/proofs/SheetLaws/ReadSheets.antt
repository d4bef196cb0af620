-- What is read of a text is a sheet, it has no more points than the text has bytes, and its edits are in order.
use Rattle.std.proofs.Common.{◌==◌, ℕ, zero, suc, ◌+◌, ◌≤◌, Bool, List, [], ◌∷◌, length}
use Rattle.std.proofs.Common.{refl, sym, ap, subst, arith}
use Rattle.std.specs.Prelude.{flat_map}
use Rattle.std.proofs.lemmas.Grind.{flat_map-append}
use Rattle.std.proofs.lemmas.List.{length-append, length-map}
use Rattle.sheet_base.specs.Sheets.{Contents}
use Rattle.sheet_base.specs.ReadSheets.{IsSheetOf}
use Rattle.sheet_base.specs.declared.paths.PathKind.{PathKind}
use Rattle.sheet_base.specs.declared.paths.PathKind.TheVariants.{Dot, Line, Loop}
use Rattle.wkt_layer.specs.declared.limits.TheConstants.{LINE_FEED}
use Rattle.wkt_layer.specs.Tokens.{Number, Token, opening, closing, comma, word, number, stray}
use Rattle.wkt_layer.specs.Tokens.{token_at, bytes_behind, tokens_behind, tokens_of}
use Rattle.wkt_layer.specs.Numbers.{Point}
use Rattle.wkt_layer.specs.Paths.{Path, points_before_last, kept_of, kept_points, sheet_of}
use Rattle.wkt_layer.specs.Lines.{IsLineOf}
use Rattle.wkt_layer.specs.Layers.{geometry_lines, AreLinesOf, IsWktReadAs}
use Rattle.wkt_layer.specs.InsidePasses.{point_numbers, path_numbers}
use Rattle.wkt_layer.proofs.SheetLaws.EditOrder.{numbers_of, line_numbers, width, lines_width, read_in_order}
use Rattle.wkt_layer.proofs.WrittenLayers.ReadingBack.{lines_whole}
use Rattle.wkt_layer.proofs.SheetLaws.Sheets.{tiled, heights_each, heights_reach}

-- ---- tokens and bytes
at_most_one : (at byte : ℕ) (bytes : List ℕ) → length (token_at at byte bytes) ≤ 1
at_most_one at byte bytes = grind (arith)

tokens_few : (passed at : ℕ) (bytes : List ℕ) → length (tokens_behind passed at bytes) ≤ length bytes
tokens_few passed at [] = omega arith
tokens_few (suc passed) at (byte ∷ bytes) = let few = tokens_few passed (at + 1) bytes in omega (arith, few)
tokens_few zero at (byte ∷ bytes) =
    grind (arith, at_most_one, length-append, (tokens_few (bytes_behind byte bytes) (at + 1) bytes))

numbers_few : (tokens : List Token) → length (numbers_of tokens) ≤ length tokens
numbers_few [] = omega arith
numbers_few (number n ∷ tokens) = let few = numbers_few tokens in omega (arith, few)
numbers_few (opening ∷ tokens) = let few = numbers_few tokens in omega (arith, few)
numbers_few (closing ∷ tokens) = let few = numbers_few tokens in omega (arith, few)
numbers_few (comma ∷ tokens) = let few = numbers_few tokens in omega (arith, few)
numbers_few (word w ∷ tokens) = let few = numbers_few tokens in omega (arith, few)
numbers_few (stray ∷ tokens) = let few = numbers_few tokens in omega (arith, few)

-- ---- points and numbers
points_long : (points : List Point) → length points ≤ length (flat_map point_numbers points)
points_long [] = omega arith
points_long (p ∷ points) = grind (arith, length-append, (points_long points))

before_few : (p : Point) (more : List Point) → length (points_before_last p more) ≤ suc (length more)
before_few p [] = omega arith
before_few p (next ∷ more) = let few = before_few next more in omega (arith, few)

kept_few : (kind : PathKind) (first : Point) (more : List Point) → length (kept_of kind first more) ≤ suc (length more)
kept_few Dot first more = omega arith
kept_few Line first more = omega arith
kept_few Loop first more = before_few first more

path_few : (path : Path) → length (kept_points path) ≤ length (path_numbers path)
path_few path = grind (arith, kept_few, length-map, points_long)

paths_few : (paths : List Path) → length (flat_map kept_points paths) ≤ length (flat_map path_numbers paths)
paths_few [] = omega arith
paths_few (path ∷ paths) = grind (arith, path_few, length-append, (paths_few paths))

-- ---- lines
line_few : (exact : Bool) (at : ℕ) (line : List ℕ) (paths : List Path) → IsLineOf exact (tokens_of at line) paths
    → length (flat_map path_numbers paths) ≤ length line
line_few exact at line paths is = grind (arith, line_numbers, numbers_few, length-map, tokens_few)

lines_few : (exact : Bool) (at : ℕ) (lines : List (List ℕ)) (paths : List Path) → AreLinesOf exact at lines paths
    → length (flat_map path_numbers paths) ≤ width lines
unfolding width
lines_few exact at [] paths are = let none = ap (λ (ps : List Path). length (flat_map path_numbers ps)) are in
    omega (arith, none)
lines_few exact at (line ∷ []) paths (here, others, is, none, same) =
    let one = line_few exact at line here is in
    let all = ap (λ (ps : List Path). length (flat_map path_numbers ps)) same in
    let split = ap (λ (ns : List Number). length ns) (flat_map-append path_numbers here others) in
    let both = length-append (flat_map path_numbers here) (flat_map path_numbers others) in
    let nothing = ap (λ (ps : List Path). length (flat_map path_numbers ps)) none in
    omega (arith, one, all, split, both, nothing)
lines_few exact at (line ∷ next ∷ more) paths (here, others, is, are, same) =
    let one = line_few exact at line here is in
    let later = lines_few exact (at + length line + 1) (next ∷ more) others are in
    let all = ap (λ (ps : List Path). length (flat_map path_numbers ps)) same in
    let split = ap (λ (ns : List Number). length ns) (flat_map-append path_numbers here others) in
    let both = length-append (flat_map path_numbers here) (flat_map path_numbers others) in
    omega (arith, one, later, all, split, both)

points_few : (exact : Bool) (bytes : List ℕ) (paths : List Path) → AreLinesOf exact 0 (geometry_lines bytes) paths
    → length (flat_map kept_points paths) ≤ length bytes
points_few exact bytes paths are =
    let kept = paths_few paths in
    let numbers = lines_few exact 0 (geometry_lines bytes) paths are in
    let wide = lines_width (λ byte. byte == LINE_FEED) bytes in
    omega (arith, kept, numbers, wide)

-- ---- a text that is read
pub read_is_sheet : (exact : Bool) (bytes : List ℕ) (sheet : Contents) → IsWktReadAs exact bytes sheet
    → IsSheetOf bytes sheet
read_is_sheet exact bytes sheet (paths, are, same) =
    subst (λ (s : Contents). IsSheetOf bytes s) (sym same) (record {
      tiled = tiled 0 (length (flat_map kept_points paths)) paths (lines_whole exact 0 (geometry_lines bytes) paths are)
          (omega arith);
      points = points_few exact bytes paths are;
      one_height_each = heights_each paths;
      heights_in_reach = heights_reach paths;
      edits = read_in_order exact bytes (sheet_of paths) (paths, are, refl);
    })
