-- What may follow each state of the pass, and the paths of what follows: by the grammar, and not by the pass.
use Rattle.std.proofs.Common.{◌≡◌, ℕ, ◌-◌, Bool, List, [], ◌∷◌, ◌++◌, length}
use Rattle.std.specs.Prelude.{flat_map, Option, Some}
use Rattle.std.specs.List.{AllByRecursion}
use Rattle.sheet_base.specs.declared.paths.PathKind.TheVariants.{Dot, Line, Loop}
use Rattle.wkt_layer.specs.Tokens.{Number, Token, number}
use Rattle.wkt_layer.specs.Numbers.{Point, IsNumber, IsThird, IsPoint}
use Rattle.wkt_layer.specs.Geometries.{Member, Geometry, Geometries, no_geometry, geometry, third_tokens, point_tokens}
use Rattle.wkt_layer.specs.Geometries.{mark, behind_item}
use Rattle.wkt_layer.specs.Geometries.{content_tokens, points_tokens, member_tokens, lists_tokens, geometry_tokens}
use Rattle.wkt_layer.specs.Geometries.{geometries_tokens, behind_geometry, IsClosed, ArePoints, IsDot, IsRing, IsMember}
use Rattle.wkt_layer.specs.Geometries.{IsGeometry, AreGeometries}
use Rattle.wkt_layer.specs.Paths.{Path, path_of, member_path, geometry_paths, geometries_paths}
use Rattle.wkt_layer.specs.InsideStates.{Spot, item, tagged, content, first, second, third, whole, bare_second}
use Rattle.wkt_layer.specs.InsideStates.{bare_third}
use Rattle.wkt_layer.specs.InsideStates.{bare_whole, behind, State}
use Rattle.wkt_layer.specs.InsideStates.{innermost, point_with, kind_of, content_of, is_raised}
use Rattle.wkt_layer.specs.declared.limits.TheConstants.{DEEPEST}
use Rattle.wkt_layer.specs.declared.places.Content.{Content}
use Rattle.wkt_layer.specs.declared.places.Content.TheVariants.{Points, Items}
use Rattle.wkt_layer.specs.declared.places.Listing.{Listing}
use Rattle.wkt_layer.specs.declared.places.Listing.TheVariants as listings
use Rattle.wkt_layer.specs.declared.places.ItemGroup.{ItemGroup}
use Rattle.wkt_layer.specs.declared.places.ItemGroup.TheVariants as groups

-- how many collections may still nest inside this many lists
abbrev pub room : List ItemGroup → ℕ
room stack = DEEPEST - length stack

-- The items of a list, and one of them.
abbrev pub ItemOf : ItemGroup → Type 0
ItemOf (groups.Rings raised) = List Point
ItemOf (groups.Dots raised) = Member
ItemOf (groups.Lists raised) = List Point
ItemOf (groups.Polygons raised) = List (List Point)
ItemOf groups.Geometries = Geometry

abbrev pub ItemsOf : ItemGroup → Type 0
ItemsOf (groups.Rings raised) = List (List Point)
ItemsOf (groups.Dots raised) = List Member
ItemsOf (groups.Lists raised) = List (List Point)
ItemsOf (groups.Polygons raised) = List (List (List Point))
ItemsOf groups.Geometries = Geometries

abbrev pub item_tokens : (group : ItemGroup) → ItemOf group → List Token
item_tokens (groups.Rings raised) one = points_tokens one
item_tokens (groups.Dots raised) one = member_tokens one
item_tokens (groups.Lists raised) one = points_tokens one
item_tokens (groups.Polygons raised) one = lists_tokens one
item_tokens groups.Geometries one = geometry_tokens one

-- the tokens of what comes after an item
abbrev pub more_tokens : (group : ItemGroup) → ItemsOf group → List Token
more_tokens (groups.Rings raised) more = behind_item points_tokens more
more_tokens (groups.Dots raised) more = behind_item member_tokens more
more_tokens (groups.Lists raised) more = behind_item points_tokens more
more_tokens (groups.Polygons raised) more = behind_item lists_tokens more
more_tokens groups.Geometries more = behind_geometry more

abbrev pub items_tokens : (group : ItemGroup) → ItemsOf group → List Token
items_tokens (groups.Rings raised) items = lists_tokens items
items_tokens (groups.Dots raised) items = content_tokens member_tokens items
items_tokens (groups.Lists raised) items = lists_tokens items
items_tokens (groups.Polygons raised) items = content_tokens lists_tokens items
items_tokens groups.Geometries items = geometries_tokens items

abbrev pub IsItem : Bool → ℕ → (group : ItemGroup) → ItemOf group → Type 0
IsItem exact depth (groups.Rings raised) one = IsRing exact raised one
IsItem exact depth (groups.Dots raised) one = IsMember exact raised one
IsItem exact depth (groups.Lists raised) one = ArePoints exact raised one
IsItem exact depth (groups.Polygons raised) one = AllByRecursion (IsRing exact raised) one
IsItem exact depth groups.Geometries one = IsGeometry exact depth one

abbrev pub AreItems : Bool → ℕ → (group : ItemGroup) → ItemsOf group → Type 0
AreItems exact depth (groups.Rings raised) items = AllByRecursion (IsRing exact raised) items
AreItems exact depth (groups.Dots raised) items = AllByRecursion (IsMember exact raised) items
AreItems exact depth (groups.Lists raised) items = AllByRecursion (ArePoints exact raised) items
AreItems exact depth (groups.Polygons raised) items = AllByRecursion (AllByRecursion (IsRing exact raised)) items
AreItems exact depth groups.Geometries items = AreGeometries exact depth items

abbrev pub item_paths : (group : ItemGroup) → ItemOf group → List Path
item_paths (groups.Rings raised) one = path_of Loop one
item_paths (groups.Dots raised) one = member_path one
item_paths (groups.Lists raised) one = path_of Line one
item_paths (groups.Polygons raised) one = flat_map (path_of Loop) one
item_paths groups.Geometries one = geometry_paths one

abbrev pub items_paths : (group : ItemGroup) → ItemsOf group → List Path
items_paths (groups.Rings raised) items = flat_map (path_of Loop) items
items_paths (groups.Dots raised) items = flat_map member_path items
items_paths (groups.Lists raised) items = flat_map (path_of Line) items
items_paths (groups.Polygons raised) items = flat_map (flat_map (path_of Loop)) items
items_paths groups.Geometries items = geometries_paths items

abbrev pub no_items : (group : ItemGroup) → ItemsOf group
no_items (groups.Rings raised) = []
no_items (groups.Dots raised) = []
no_items (groups.Lists raised) = []
no_items (groups.Polygons raised) = []
no_items groups.Geometries = no_geometry

abbrev pub one_more : (group : ItemGroup) → ItemOf group → ItemsOf group → ItemsOf group
one_more (groups.Rings raised) one more = one ∷ more
one_more (groups.Dots raised) one more = one ∷ more
one_more (groups.Lists raised) one more = one ∷ more
one_more (groups.Polygons raised) one more = one ∷ more
one_more groups.Geometries one more = geometry one more

-- The points of a path, where some were read, continue that way.
abbrev pub GoOn : Listing → List Point → List Point → Type 0
GoOn (listings.Dot raised) read more = more ≡ []
GoOn (listings.List raised) read more = Unit {0}
GoOn (listings.Ring raised) read more = IsClosed (read ++ more)

-- the tokens are those of the items after one, and then of what comes after the list; and so for each list that is
-- open
abbrev pub Closes : Bool → List ItemGroup → List Token → List Path → Type 0
Closes exact [] tokens paths = (tokens ≡ []) × (paths ≡ [])
Closes exact (group ∷ outer) tokens paths =
    (more : ItemsOf group) × (rest : List Token) × (later : List Path)
    × AreItems exact (room (group ∷ outer)) group more × (tokens ≡ more_tokens group more ++ rest)
    × Closes exact outer rest later
    × (paths ≡ items_paths group more ++ later)

-- more points of a path
abbrev pub ClosesPoints : Bool → Listing → List Point → List ItemGroup → List Token → List Path → Type 0
ClosesPoints exact listing read stack tokens paths =
    (more : List Point) × (rest : List Token) × (later : List Path)
    × ArePoints exact (is_raised listing) more × GoOn listing read more
    × (tokens ≡ behind_item point_tokens more ++ rest)
    × Closes exact stack rest later
    × (paths ≡ path_of (kind_of listing) (read ++ more) ++ later)

-- a content of points
abbrev pub IsContentOfPoints : Bool → Listing → List Point → Type 0
IsContentOfPoints exact (listings.Dot raised) points = IsDot exact raised points
IsContentOfPoints exact (listings.List raised) points = ArePoints exact raised points
IsContentOfPoints exact (listings.Ring raised) points = IsRing exact raised points

abbrev pub Enters : Bool → Content → List ItemGroup → List Token → List Path → Type 0
Enters exact (Points listing) stack tokens paths =
    (points : List Point) × (rest : List Token) × (later : List Path)
    × IsContentOfPoints exact listing points × (tokens ≡ points_tokens points ++ rest) × Closes exact stack rest later
    × (paths ≡ path_of (kind_of listing) points ++ later)
Enters exact (Items group) stack tokens paths =
    (items : ItemsOf group) × (rest : List Token) × (later : List Path)
    × AreItems exact (room (group ∷ stack)) group items × (tokens ≡ items_tokens group items ++ rest)
    × Closes exact stack rest later
    × (paths ≡ items_paths group items ++ later)

-- what may follow: the tokens, and the paths that they have together with the points that were read
abbrev pub Rests : Bool → Spot → List ItemGroup → List Token → List Path → Type 0
Rests exact item stack tokens paths =
    (one : ItemOf (innermost stack)) × (rest : List Token) × (later : List Path)
    × IsItem exact (room stack) (innermost stack) one × (tokens ≡ item_tokens (innermost stack) one ++ rest)
    × Closes exact stack rest later
    × (paths ≡ item_paths (innermost stack) one ++ later)
Rests exact (tagged kind) stack tokens paths =
    (raised : Bool) × (rest : List Token) × (tokens ≡ mark raised ++ rest)
    × Enters exact (content_of kind raised) stack rest paths
Rests exact (content inner) stack tokens paths = Enters exact inner stack tokens paths
Rests exact (first listing read) stack tokens paths =
    (p : Point) × (rest : List Token) × IsPoint exact (is_raised listing) p × (tokens ≡ point_tokens p ++ rest)
    × ClosesPoints exact listing (read ++ p ∷ []) stack rest paths
Rests exact (second listing read x) stack tokens paths =
    (y : Number) × (z : Option Number) × (rest : List Token) × IsNumber exact y × IsThird exact (is_raised listing) z
    × (tokens ≡ number y ∷ (third_tokens z ++ rest))
    × ClosesPoints exact listing (read ++ point_with x y z ∷ []) stack rest paths
Rests exact (third listing read x y) stack tokens paths =
    (z : Number) × (rest : List Token) × IsNumber exact z × (tokens ≡ number z ∷ rest)
    × ClosesPoints exact listing (read ++ point_with x y (Some z) ∷ []) stack rest paths
Rests exact (whole listing read) stack tokens paths = ClosesPoints exact listing read stack tokens paths
Rests exact (bare_second raised x) stack tokens paths =
    (y : Number) × (z : Option Number) × (rest : List Token) × (later : List Path) × IsNumber exact y
    × IsThird exact raised z × (tokens ≡ number y ∷ (third_tokens z ++ rest)) × Closes exact stack rest later
    × (paths ≡ path_of Dot (point_with x y z ∷ []) ++ later)
Rests exact (bare_third x y) stack tokens paths =
    (z : Number) × (rest : List Token) × (later : List Path) × IsNumber exact z × (tokens ≡ number z ∷ rest)
    × Closes exact stack rest later
    × (paths ≡ path_of Dot (point_with x y (Some z) ∷ []) ++ later)
Rests exact bare_whole stack tokens paths = Closes exact stack tokens paths
Rests exact behind stack tokens paths = Closes exact stack tokens paths

-- all paths of a line that continues that way from a state
abbrev pub Follows : Bool → State → List Token → List Path → Type 0
Follows exact s tokens all = (later : List Path) × Rests exact s.spot s.stack tokens later × (all ≡ s.paths ++ later)
