-- The sheet of the paths of well-formed lines is one.
use Rattle.std.proofs.Common.{◌≡◌, ℕ, zero, suc, ◌+◌, ◌<◌, Bool, List, [], ◌∷◌, ◌++◌, length, refl, sym, ap, subst}
use Rattle.std.proofs.Common.{arith, length-append, ◌^◌, ◌-◌, ◌∙◌, true, false, ◌&&◌}
use Rattle.std.specs.Prelude.{flat_map, map}
use Rattle.std.specs.List.{AllByRecursion}
use Rattle.std.specs.Prelude.{Option, Some, None, All}
use Rattle.std.proofs.lemmas.List.Elements.{All-from_recursion}
use Rattle.plane_base.specs.declared.shapes.Pt.{Pt}
use Rattle.sheet_base.specs.PointHeights.{Height, height_in, IsHeightWithinReach}
use Rattle.sheet_base.specs.Rings.{is_same_height}
use Rattle.wkt_layer.specs.Geometries.{last_behind}
use Rattle.mm_decimal.proofs.MeasuredAnswers.{read_within}
use Rattle.sheet_base.specs.declared.paths.PathKind.{PathKind}
use Rattle.sheet_base.specs.declared.paths.PathKind.TheVariants.{Dot, Line, Loop}
use Rattle.sheet_base.specs.Sheets.{AreTiled, IsSheet}
use Rattle.wkt_layer.specs.Tokens.{Number, Placed}
use Rattle.std.proofs.lemmas.List.{length-map}
use Rattle.wkt_layer.specs.Numbers.{Point, place_of, height_in_third, height_of}
use Rattle.wkt_layer.specs.Geometries.{Member, dot, bare, Geometry, point, line_string, polygon, multi_point}
use Rattle.wkt_layer.specs.Geometries.{multi_line_string, multi_polygon, collection, Geometries, no_geometry, geometry}
use Rattle.wkt_layer.specs.Geometries.{IsDot, IsRing, IsMember, IsGeometry, AreGeometries}
use Rattle.wkt_layer.specs.Paths.{Path, path_of, member_path, geometry_paths, geometries_paths, kept_of, kept_points}
use Rattle.wkt_layer.specs.Paths.{kept_heights}
use Rattle.wkt_layer.specs.Paths.{rows_from, sheet_of}
use Rattle.wkt_layer.specs.Lines.{IsLineOf}
use Rattle.wkt_layer.specs.InsidePasses.{IsWhole, AreWhole}
use Rattle.wkt_layer.proofs.Grammar.Rings.{ring_has_four}
use Rattle.plain_laws.proofs.Lists.{all_append}

pub whole_append : (xs ys : List Path) → AreWhole xs → AreWhole ys → AreWhole (xs ++ ys)
whole_append [] ys are more = more
whole_append (x ∷ xs) ys are more = (are.0, whole_append xs ys are.1 more)

dot_whole : (exact raised : Bool) (points : List Point) → IsDot exact raised points → AreWhole (path_of Dot points)
dot_whole exact raised [] is = tt
dot_whole exact raised (one ∷ []) is = (refl, tt)
dot_whole exact raised (one ∷ next ∷ more) is = absurd (omega (arith, is.1))

line_whole : (points : List Point) → AreWhole (path_of Line points)
line_whole [] = tt
line_whole (one ∷ more) = (tt, tt)

ring_whole : (exact raised : Bool) (points : List Point) → IsRing exact raised points → AreWhole (path_of Loop points)
ring_whole exact raised [] is = tt
ring_whole exact raised (one ∷ []) is = let four = ring_has_four one [] is.1 in absurd (omega (arith, four))
ring_whole exact raised (one ∷ next ∷ more) is = (tt, tt)

rings_whole : (exact raised : Bool) (rings : List (List Point)) → AllByRecursion (IsRing exact raised) rings
    → AreWhole (flat_map (path_of Loop) rings)
rings_whole exact raised [] are = tt
rings_whole exact raised (ring ∷ rings) are = whole_append (path_of Loop ring) (flat_map (path_of Loop) rings)
    (ring_whole exact raised ring are.0) (rings_whole exact raised rings are.1)

lists_whole : (lists : List (List Point)) → AreWhole (flat_map (path_of Line) lists)
lists_whole [] = tt
lists_whole (list ∷ lists) = whole_append (path_of Line list) (flat_map (path_of Line) lists) (line_whole list)
    (lists_whole lists)

polygons_whole : (exact raised : Bool) (polygons : List (List (List Point)))
    → AllByRecursion (AllByRecursion (IsRing exact raised)) polygons
    → AreWhole (flat_map (flat_map (path_of Loop)) polygons)
polygons_whole exact raised [] are = tt
polygons_whole exact raised (rings ∷ polygons) are =
    grind (arith, whole_append, rings_whole, (polygons_whole exact raised polygons are.1))

member_whole : (exact raised : Bool) (member : Member) → IsMember exact raised member → AreWhole (member_path member)
member_whole exact raised (dot points) is = dot_whole exact raised points is
member_whole exact raised (bare p) is = (refl, tt)

members_whole : (exact raised : Bool) (members : List Member) → AllByRecursion (IsMember exact raised) members
    → AreWhole (flat_map member_path members)
members_whole exact raised [] are = tt
members_whole exact raised (member ∷ members) are =
    grind (arith, whole_append, member_whole, (members_whole exact raised members are.1))

mutual
  geometry_whole : (exact : Bool) (depth : ℕ) (one : Geometry) → IsGeometry exact depth one
      → AreWhole (geometry_paths one)
  geometry_whole exact depth (point raised points) is = dot_whole exact raised points is
  geometry_whole exact depth (line_string raised points) is = line_whole points
  geometry_whole exact depth (polygon raised rings) is = rings_whole exact raised rings is
  geometry_whole exact depth (multi_point raised members) is = members_whole exact raised members is
  geometry_whole exact depth (multi_line_string raised lists) is = lists_whole lists
  geometry_whole exact depth (multi_polygon raised polygons) is = polygons_whole exact raised polygons is
  geometry_whole exact zero (collection raised geometries) is = absurd is
  geometry_whole exact (suc depth) (collection raised geometries) is = geometries_whole exact depth geometries is

  geometries_whole : (exact : Bool) (depth : ℕ) (geometries : Geometries) → AreGeometries exact depth geometries
      → AreWhole (geometries_paths geometries)
  geometries_whole exact depth no_geometry are = tt
  geometries_whole exact depth (geometry first more) are =
      whole_append (geometry_paths first) (geometries_paths more) (geometry_whole exact depth first are.0)
      (geometries_whole exact depth more are.1)

pub line_paths_whole : (exact : Bool) (line : List Placed) (paths : List Path) → IsLineOf exact line paths
    → AreWhole paths
line_paths_whole exact [] paths is = subst AreWhole (sym is) tt
line_paths_whole exact (one ∷ more) paths (of, is, same, are) = subst AreWhole (sym are) (geometry_whole exact _ of is)

-- each path keeps some points, a dot just one
kept_some : (kind : PathKind) (one : Point) (more : List Point)
    → IsWhole (record { kind = kind; first = one; more = more }) → 0 < length (map place_of (kept_of kind one more))
kept_some Loop one [] is = absurd is
kept_some _ one more is = omega arith

kept_dot : (kind : PathKind) (one : Point) (more : List Point)
    → IsWhole (record { kind = kind; first = one; more = more }) → kind ≡ Dot
    → length (map place_of (kept_of kind one more)) ≡ 1
kept_dot Dot one more is e = ap (λ ps. length (map place_of (one ∷ ps))) is
kept_dot _ one more is e = cc

pub tiled : (first past : ℕ) (paths : List Path) → AreWhole paths → past ≡ first + length (flat_map kept_points paths)
    → AreTiled (rows_from first paths) first past
tiled first past [] are end = omega (arith, end)
tiled first past (path ∷ paths) are end =
    grind (arith, kept_some, length-append, kept_dot, (tiled (first + length (kept_points path)) past paths are.1))

-- ---- heights: one for each point, none out of reach
pub heights_each : (paths : List Path) → length (flat_map kept_heights paths) ≡ length (flat_map kept_points paths)
heights_each [] = refl
heights_each (path ∷ paths) = grind (arith, length-append, length-map, (heights_each paths))

third_reach : (third : Option Number) → IsHeightWithinReach (height_in_third third)
third_reach None = tt
third_reach (Some z) = grind (arith, read_within)

points_reach : (points : List Point) → AllByRecursion IsHeightWithinReach (map height_of points)
points_reach [] = tt
points_reach (p ∷ points) = (third_reach p.z, points_reach points)

paths_reach : (paths : List Path) → AllByRecursion IsHeightWithinReach (flat_map kept_heights paths)
paths_reach [] = tt
paths_reach (path ∷ paths) = all_append IsHeightWithinReach (kept_heights path) (flat_map kept_heights paths)
    (points_reach (kept_of path.kind path.first path.more)) (paths_reach paths)

pub heights_reach : (paths : List Path) → All IsHeightWithinReach (flat_map kept_heights paths)
heights_reach paths = All-from_recursion IsHeightWithinReach (flat_map kept_heights paths) (paths_reach paths)

pub is_sheet : (paths : List Path) → AreWhole paths → length (flat_map kept_points paths) < 2 ^ 32
    → IsSheet (sheet_of paths)
is_sheet paths are few = grind (arith, tiled, heights_each, heights_reach)

-- ---- the heights at the ends of the points that were read last
height_behind : (xs ys : List Height) (n : ℕ) → height_in (xs ++ ys) (length xs + n) ≡ height_in ys n
height_behind [] ys n = let e : 0 + n ≡ n = omega arith in ap (height_in ys) e
height_behind (x ∷ xs) ys n = grind (arith, (height_behind xs ys n))

last_height : (one : Point) (more : List Point)
    → height_in (map height_of (one ∷ more)) (length more) ≡ height_of (last_behind one more)
last_height one [] = refl
last_height one (next ∷ more) = last_height next more

pub ends_level : (heights : List Height) (points : List Pt) (first last : ℕ) (done : List Path) (one : Point)
    (more : List Point) → heights ≡ flat_map kept_heights done ++ map height_of (one ∷ more)
    → points ≡ flat_map kept_points done ++ map place_of (one ∷ more)
    → first ≡ length (flat_map kept_points done) → last ≡ length points - 1
    → is_same_height (height_in heights first) (height_in heights last)
    ≡ is_same_height (height_of one) (height_of (last_behind one more))
ends_level heights points first last done one more are places at_first at_last =
    let front = flat_map kept_heights done in
    let back = map height_of (one ∷ more) in
    let each = heights_each done in
    let size : length points ≡ length (flat_map kept_points done) + suc (length more) =
    ap length places ∙ length-append (flat_map kept_points done) (map place_of (one ∷ more))
    ∙ ap (λ n. length (flat_map kept_points done) + n) (length-map (one ∷ more) place_of) in
    let begin : first ≡ length front + 0 = omega (arith, at_first, each) in
    let end : last ≡ length front + length more = omega (arith, at_last, size, each) in
    let a : height_in heights first ≡ height_of one =
    ap (λ hs. height_in hs first) are ∙ ap (height_in (front ++ back)) begin ∙ height_behind front back 0 in
    let b : height_in heights last ≡ height_of (last_behind one more) =
    ap (λ hs. height_in hs last) are ∙ ap (height_in (front ++ back)) end ∙ height_behind front back (length more)
    ∙ last_height one more in
    rw (a, b) refl

pub both_hold : (closed level answer : Bool) → closed ≡ true → answer ≡ level → answer ≡ (closed && level)
both_hold closed level answer is same = rw is same

pub one_fails : (closed level : Bool) → closed ≡ false → false ≡ (closed && level)
one_fails closed level is = rw is refl
