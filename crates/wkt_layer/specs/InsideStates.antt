-- The states of a pass over the tokens of a line. Only private functions speak of them.
use Rattle.std.specs.Prelude.{◌≡◌, ℕ, ◌&&◌, Bool, true, false, not, nat_lt, if◌then◌else◌, List, [], ◌∷◌, ◌++◌, length}
use Rattle.std.specs.Prelude.{map, Option, Some, None, Result, Ok, Err}
use Rattle.mm_decimal.specs.AnswerValues.{millimetres_of}
use Rattle.mm_decimal.specs.declared.numerals.MmRead.{MmRead}
use Rattle.mm_decimal.specs.declared.numerals.NumFault.{NumFault}
use Rattle.sheet_base.specs.declared.faults.LayerFault.{LayerFault}
use Rattle.sheet_base.specs.declared.faults.LayerFault.TheVariants as faults
use Rattle.sheet_base.specs.Rings.{is_closed, is_same_height}
use Rattle.sheet_base.specs.declared.paths.PathKind.{PathKind}
use Rattle.sheet_base.specs.declared.paths.PathKind.TheVariants.{Dot, Line, Loop}
use Rattle.wkt_layer.specs.Tokens.{Number, Token, opening, closing, comma, word, number}
use Rattle.wkt_layer.specs.Numbers.{Point, does_fit, place_of, height_of}
use Rattle.wkt_layer.specs.Geometries.{last_behind}
use Rattle.wkt_layer.specs.Paths.{Path, path_of}
use Rattle.wkt_layer.specs.declared.limits.TheConstants.{DEEPEST}
use Rattle.wkt_layer.specs.declared.words.GeometryKind.{GeometryKind}
use Rattle.wkt_layer.specs.declared.words.GeometryKind.TheVariants as kinds
use Rattle.wkt_layer.specs.declared.words.LineWord.{LineWord}
use Rattle.wkt_layer.specs.declared.words.LineWord.TheVariants.{Tag, Empty, Z, Height}
use Rattle.wkt_layer.specs.declared.places.Content.{Content}
use Rattle.wkt_layer.specs.declared.places.Content.TheVariants.{Points, Items}
use Rattle.wkt_layer.specs.declared.places.Listing.{Listing}
use Rattle.wkt_layer.specs.declared.places.Listing.TheVariants as listings
use Rattle.wkt_layer.specs.declared.places.ItemGroup.{ItemGroup}
use Rattle.wkt_layer.specs.declared.places.ItemGroup.TheVariants as groups

-- What may come next. An item; Z or a content after a tag; a content. A point in brackets after others; its second
-- number; its third one; what comes after it. The second number of a point without brackets, with Z or without; its
-- third one; what comes after that point. What comes after another item.
pub data Spot : Type 0 where
  item : Spot
  tagged : GeometryKind → Spot
  content : Content → Spot
  first : Listing → List Point → Spot
  second : Listing → List Point → Number → Spot
  third : Listing → List Point → Number → Number → Spot
  whole : Listing → List Point → Spot
  bare_second : Bool → Number → Spot
  bare_third : Number → Number → Spot
  bare_whole : Spot
  behind : Spot

-- what may come next, the lists that are open, the innermost first, and the paths so far
pub record State : Type 0 where
  pub spot : Spot
  pub stack : List ItemGroup
  pub paths : List Path

abbrev pub state : Spot → List ItemGroup → List Path → State
state spot stack paths = record { spot = spot; stack = stack; paths = paths }

abbrev pub start : State
start = state item [] []

-- what comes after a kind's tag, with Z or without
abbrev pub content_of : GeometryKind → Bool → Content
content_of kinds.Point raised = Points (listings.Dot raised)
content_of kinds.LineString raised = Points (listings.List raised)
content_of kinds.Polygon raised = Items (groups.Rings raised)
content_of kinds.MultiPoint raised = Items (groups.Dots raised)
content_of kinds.MultiLineString raised = Items (groups.Lists raised)
content_of kinds.MultiPolygon raised = Items (groups.Polygons raised)
content_of kinds.Collection raised = Items groups.Geometries

-- whether the points have heights
abbrev pub is_raised : Listing → Bool
is_raised (listings.Dot raised) = raised
is_raised (listings.List raised) = raised
is_raised (listings.Ring raised) = raised

-- what the items of the innermost list are; the line is like an item of a collection
abbrev pub innermost : List ItemGroup → ItemGroup
innermost [] = groups.Geometries
innermost (group ∷ groups) = group

abbrev pub point_with : Number → Number → Option Number → Point
point_with x y z = record { x = x; y = y; z = z }

-- whether a geometry of this kind may be inside this many lists
abbrev pub may_nest : GeometryKind → List ItemGroup → Bool
may_nest kinds.Collection stack = nat_lt (length stack) DEEPEST
may_nest kind stack = true

abbrev pub tag_step : List ItemGroup → List Path → Token → Option State
tag_step stack paths (word (Tag kind)) = if may_nest kind stack then Some (state (tagged kind) stack paths) else None
tag_step stack paths token = None

abbrev pub enter_step : Content → List ItemGroup → List Path → Token → Option State
enter_step inner stack paths (word Empty) = Some (state behind stack paths)
enter_step (Points listing) stack paths opening = Some (state (first listing []) stack paths)
enter_step (Items group) stack paths opening = Some (state item (group ∷ stack) paths)
enter_step inner stack paths token = None

-- after a tag: Z, or the content of a geometry without heights
abbrev pub tagged_step : GeometryKind → List ItemGroup → List Path → Token → Option State
tagged_step kind stack paths (word Z) = Some (state (content (content_of kind true)) stack paths)
tagged_step kind stack paths token = enter_step (content_of kind false) stack paths token

-- a number that fits leads on
abbrev pub number_step : Bool → (Number → State) → Token → Option State
number_step exact next (number n) = if does_fit exact (millimetres_of n.text) then Some (next n) else None
number_step exact next token = None

abbrev pub item_step : Bool → ItemGroup → List ItemGroup → List Path → Token → Option State
item_step exact (groups.Rings raised) stack paths token = enter_step (Points (listings.Ring raised)) stack paths token
item_step exact (groups.Lists raised) stack paths token = enter_step (Points (listings.List raised)) stack paths token
item_step exact (groups.Polygons raised) stack paths token = enter_step (Items (groups.Rings raised)) stack paths token
item_step exact groups.Geometries stack paths token = tag_step stack paths token
item_step exact (groups.Dots raised) stack paths (number n) =
    number_step exact (λ x. state (bare_second raised x) stack paths) (number n)
item_step exact (groups.Dots raised) stack paths token = enter_step (Points (listings.Dot raised)) stack paths token

abbrev pub kind_of : Listing → PathKind
kind_of (listings.Dot raised) = Dot
kind_of (listings.List raised) = Line
kind_of (listings.Ring raised) = Loop

abbrev pub may_close : List Point → Bool
may_close [] = true
may_close (one ∷ more) =
    is_closed (map place_of (one ∷ more)) && is_same_height (height_of one) (height_of (last_behind one more))

abbrev pub may_end : Listing → List Point → Bool
may_end (listings.Dot raised) points = true
may_end (listings.List raised) points = true
may_end (listings.Ring raised) points = may_close points

abbrev pub whole_step : Listing → List Point → List ItemGroup → List Path → Token → Option State
whole_step (listings.Dot raised) points stack paths comma = None
whole_step listing points stack paths comma = Some (state (first listing points) stack paths)
whole_step listing points stack paths closing =
    if may_end listing points then Some (state behind stack (paths ++ path_of (kind_of listing) points)) else None
whole_step listing points stack paths token = None

abbrev pub behind_step : List ItemGroup → List Path → Token → Option State
behind_step (group ∷ outer) paths comma = Some (state item (group ∷ outer) paths)
behind_step (group ∷ outer) paths closing = Some (state behind outer paths)
behind_step stack paths token = None

-- after the second number of a point: the third one, or what comes after the point
abbrev pub second_leads : Bool → Listing → List Point → Number → Number → Spot
second_leads true listing points x y = third listing points x y
second_leads false listing points x y = whole listing (points ++ point_with x y None ∷ [])

-- a point without brackets was read
abbrev pub bare_leads : List ItemGroup → List Path → Point → State
bare_leads stack paths p = state bare_whole stack (paths ++ path_of Dot (p ∷ []))

abbrev pub bare_second_leads : Bool → List ItemGroup → List Path → Number → Number → State
bare_second_leads true stack paths x y = state (bare_third x y) stack paths
bare_second_leads false stack paths x y = bare_leads stack paths (point_with x y None)

abbrev pub step_at : Bool → Spot → List ItemGroup → List Path → Token → Option State
step_at exact item stack paths token = item_step exact (innermost stack) stack paths token
step_at exact (tagged kind) stack paths token = tagged_step kind stack paths token
step_at exact (content inner) stack paths token = enter_step inner stack paths token
step_at exact (first listing points) stack paths token =
    number_step exact (λ x. state (second listing points x) stack paths) token
step_at exact (second listing points x) stack paths token =
    number_step exact (λ y. state (second_leads (is_raised listing) listing points x y) stack paths) token
step_at exact (third listing points x y) stack paths token =
    number_step exact (λ z. state (whole listing (points ++ point_with x y (Some z) ∷ [])) stack paths) token
step_at exact (whole listing points) stack paths token = whole_step listing points stack paths token
step_at exact (bare_second raised x) stack paths token =
    number_step exact (λ y. bare_second_leads raised stack paths x y) token
step_at exact (bare_third x y) stack paths token =
    number_step exact (λ z. bare_leads stack paths (point_with x y (Some z))) token
step_at exact bare_whole stack paths token = behind_step stack paths token
step_at exact behind stack paths token = behind_step stack paths token

abbrev pub step : Bool → State → Token → Option State
step exact s token = step_at exact s.spot s.stack s.paths token

-- an item was read
abbrev pub IsLast : Spot → Type 0
IsLast bare_whole = Unit {0}
IsLast behind = Unit {0}
IsLast spot = ⊥

-- a line may end here
pub record IsEnd (s : State) : Type 0 where
  pub last : IsLast s.spot
  pub closed : s.stack ≡ []

abbrev pub is_geometries : ItemGroup → Bool
is_geometries groups.Geometries = true
is_geometries group = false

-- a geometry may be here
abbrev pub is_geometry_spot : Spot → List ItemGroup → Bool
is_geometry_spot item stack = is_geometries (innermost stack)
is_geometry_spot spot stack = false

-- the fault of a word that is no tag, at this place
abbrev pub other_fault : LineWord → Spot → ℕ → LayerFault
other_fault Height (tagged kind) at = faults.Height at
other_fault w spot at = faults.Bad at

abbrev pub word_fault : Spot → List ItemGroup → LineWord → ℕ → LayerFault
word_fault spot stack (Tag kind) at = if is_geometry_spot spot stack then faults.Deep at else faults.Bad at
word_fault spot stack w at = if is_geometry_spot spot stack then faults.Kind at else other_fault w spot at

-- the fault of a number that does not fit for itself, or that is not wanted
abbrev pub answer_fault : Bool → Result MmRead NumFault → ℕ → LayerFault
answer_fault exact (Err fault) at = faults.Number at fault
answer_fault exact (Ok read) at = if exact && not read.exact then faults.Inexact at else faults.Bad at

abbrev pub number_fault : Bool → Spot → Result MmRead NumFault → ℕ → LayerFault
number_fault exact (whole listing points) answer at = faults.Height at
number_fault exact bare_whole answer at = faults.Height at
number_fault exact spot answer at = answer_fault exact answer at

abbrev pub closing_fault : Spot → ℕ → ℕ → LayerFault
closing_fault (whole listing points) at opened = faults.Ring opened
closing_fault spot at opened = faults.Bad at

-- the fault of a token that the pass refuses, at this place; the last opening bracket is at another
abbrev pub fault_of : Bool → Spot → List ItemGroup → Token → ℕ → ℕ → LayerFault
fault_of exact spot stack (word w) at opened = word_fault spot stack w at
fault_of exact spot stack (number n) at opened = number_fault exact spot (millimetres_of n.text) at
fault_of exact spot stack closing at opened = closing_fault spot at opened
fault_of exact spot stack token at opened = faults.Bad at

-- where the last opening bracket is
abbrev pub opened_by : Token → ℕ → ℕ → ℕ
opened_by opening at before = at
opened_by token at before = before
