-- The grammar of well-known text (OGC 06-103r4, section 7.2.2), in this project's profile: seven kinds, in the plane or
-- with Z, and in a multipoint points without brackets.
use Rattle.std.specs.Prelude.{◌≡◌, ℕ, zero, suc, ◌≤◌, Bool, true, false, List, [], ◌∷◌, ◌++◌, length, map, Option}
use Rattle.std.specs.Prelude.{Some, None}
use Rattle.std.specs.List.{AllByRecursion}
use Rattle.sheet_base.specs.Rings.{is_closed, is_same_height}
use Rattle.wkt_layer.specs.Tokens.{Number, Token, opening, closing, comma, word, number}
use Rattle.wkt_layer.specs.Numbers.{Point, IsPoint, place_of, height_of}
use Rattle.wkt_layer.specs.declared.words.GeometryKind.TheVariants as kinds
use Rattle.wkt_layer.specs.declared.words.LineWord.TheVariants.{Tag, Empty, Z}

-- a member of a multipoint: a dot, or a point without brackets
pub data Member : Type 0 where
  dot : List Point → Member
  bare : Point → Member

-- A geometry, by its kind, whether it has Z, and the items of its content. A content without items is EMPTY.
mutual
  pub data Geometry : Type 0 where
    point : Bool → List Point → Geometry
    line_string : Bool → List Point → Geometry
    polygon : Bool → List (List Point) → Geometry
    multi_point : Bool → List Member → Geometry
    multi_line_string : Bool → List (List Point) → Geometry
    multi_polygon : Bool → List (List (List Point)) → Geometry
    collection : Bool → Geometries → Geometry

  pub data Geometries : Type 0 where
    no_geometry : Geometries
    geometry : Geometry → Geometries → Geometries

abbrev pub third_tokens : Option Number → List Token
third_tokens None = []
third_tokens (Some z) = number z ∷ []

-- point = number number, or with Z number number number
abbrev pub point_tokens : Point → List Token
point_tokens p = number p.x ∷ number p.y ∷ third_tokens p.z

-- what comes after an item: a comma and the next one, or the closing bracket
abbrev pub behind_item : {A : Type 0} → (A → List Token) → List A → List Token
behind_item tokens [] = closing ∷ []
behind_item tokens (next ∷ more) = comma ∷ (tokens next ++ behind_item tokens more)

-- EMPTY, or items in brackets with commas between them
abbrev pub content_tokens : {A : Type 0} → (A → List Token) → List A → List Token
content_tokens tokens [] = word Empty ∷ []
content_tokens tokens (first ∷ more) = opening ∷ (tokens first ++ behind_item tokens more)

-- dot, list and ring: EMPTY, or points
abbrev pub points_tokens : List Point → List Token
points_tokens points = content_tokens point_tokens points

-- member = dot | point
abbrev pub member_tokens : Member → List Token
member_tokens (dot points) = points_tokens points
member_tokens (bare p) = point_tokens p

-- rings and lists: EMPTY, or contents of points
abbrev pub lists_tokens : List (List Point) → List Token
lists_tokens lists = content_tokens points_tokens lists

-- Z after the tag of a geometry with heights
abbrev pub mark : Bool → List Token
mark false = []
mark true = word Z ∷ []

-- geometry = POINT dot | LINESTRING list | POLYGON rings | MULTIPOINT dots | MULTILINESTRING lists | MULTIPOLYGON
-- polygons | GEOMETRYCOLLECTION geometries, each with Z after its tag or without
abbrev mutual
  pub geometry_tokens : Geometry → List Token
  geometry_tokens (point raised points) = word (Tag kinds.Point) ∷ (mark raised ++ points_tokens points)
  geometry_tokens (line_string raised points) = word (Tag kinds.LineString) ∷ (mark raised ++ points_tokens points)
  geometry_tokens (polygon raised rings) = word (Tag kinds.Polygon) ∷ (mark raised ++ lists_tokens rings)
  geometry_tokens (multi_point raised members) =
      word (Tag kinds.MultiPoint) ∷ (mark raised ++ content_tokens member_tokens members)
  geometry_tokens (multi_line_string raised lists) =
      word (Tag kinds.MultiLineString) ∷ (mark raised ++ lists_tokens lists)
  geometry_tokens (multi_polygon raised polygons) =
      word (Tag kinds.MultiPolygon) ∷ (mark raised ++ content_tokens lists_tokens polygons)
  geometry_tokens (collection raised geometries) =
      word (Tag kinds.Collection) ∷ (mark raised ++ geometries_tokens geometries)

  pub geometries_tokens : Geometries → List Token
  geometries_tokens no_geometry = word Empty ∷ []
  geometries_tokens (geometry first more) = opening ∷ (geometry_tokens first ++ behind_geometry more)

  pub behind_geometry : Geometries → List Token
  behind_geometry no_geometry = closing ∷ []
  behind_geometry (geometry next more) = comma ∷ (geometry_tokens next ++ behind_geometry more)

-- the last of the points after this one, or this one
abbrev pub last_behind : Point → List Point → Point
last_behind p [] = p
last_behind p (next ∷ more) = last_behind next more

-- a ring is closed, to the millimetre and in height, unless it has no point
abbrev pub IsClosed : List Point → Type 0
IsClosed [] = Unit {0}
IsClosed (first ∷ more) = (is_closed (map place_of (first ∷ more)) ≡ true)
    × (is_same_height (height_of first) (height_of (last_behind first more)) ≡ true)

-- the points have heights, or none has one
abbrev pub ArePoints : Bool → Bool → List Point → Type 0
ArePoints exact raised points = AllByRecursion (IsPoint exact raised) points

-- a dot has one point at most
abbrev pub IsDot : Bool → Bool → List Point → Type 0
IsDot exact raised points = ArePoints exact raised points × (length points ≤ 1)

abbrev pub IsRing : Bool → Bool → List Point → Type 0
IsRing exact raised points = ArePoints exact raised points × IsClosed points

abbrev pub IsMember : Bool → Bool → Member → Type 0
IsMember exact raised (dot points) = IsDot exact raised points
IsMember exact raised (bare p) = IsPoint exact raised p

-- the contents are what the kind wants of them, with heights where the geometry has Z and without where it has none; a
-- collection's Z says nothing of its members; and collections nest at most so deep
abbrev mutual
  pub IsGeometry : Bool → ℕ → Geometry → Type 0
  IsGeometry exact depth (point raised points) = IsDot exact raised points
  IsGeometry exact depth (line_string raised points) = ArePoints exact raised points
  IsGeometry exact depth (polygon raised rings) = AllByRecursion (IsRing exact raised) rings
  IsGeometry exact depth (multi_point raised members) = AllByRecursion (IsMember exact raised) members
  IsGeometry exact depth (multi_line_string raised lists) = AllByRecursion (ArePoints exact raised) lists
  IsGeometry exact depth (multi_polygon raised polygons) =
      AllByRecursion (AllByRecursion (IsRing exact raised)) polygons
  IsGeometry exact zero (collection raised geometries) = ⊥
  IsGeometry exact (suc depth) (collection raised geometries) = AreGeometries exact depth geometries

  pub AreGeometries : Bool → ℕ → Geometries → Type 0
  AreGeometries exact depth no_geometry = Unit {0}
  AreGeometries exact depth (geometry first more) = IsGeometry exact depth first × AreGeometries exact depth more
