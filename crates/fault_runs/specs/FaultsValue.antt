-- The JSON value whose text is that of faults on the map.
use Rattle.std.specs.Prelude.{ℕ, ◌+◌, Bool, List, [], ◌∷◌, codes, false, if◌then◌else◌, Option, None, Some}
use Rattle.jtext.specs.Values.{Json, Elements, Members, null, no_element, element, no_member}
use Rattle.jtext.specs.Texts.{Whole}
use Rattle.change_places.specs.PlacesValue.{text_value, number_value, member_and, object_of, element_and, array_of}
use Rattle.change_places.specs.PlacesValue.{position_value, geometry_of, point_value, feature_of}
use Rattle.fault_runs.specs.declared.spots.TriangleSpot.{TriangleSpot}
use Rattle.fault_runs.specs.declared.spots.FaultSpot.{FaultSpot}
use Rattle.fault_runs.specs.Spots.{least_place}
use Rattle.fault_runs.specs.FaultsText.{kind_word, frame_word}

-- ---- geometries
-- the three corners
abbrev pub corners_value : TriangleSpot → Json
corners_value spot = array_of (element_and (position_value spot.at_a) (element_and (position_value spot.at_b)
    (element_and (position_value spot.at_c) no_element)))

-- the outline of a triangle, which ends where it begins
abbrev pub outline_value : TriangleSpot → Json
outline_value spot = array_of (element_and (position_value spot.at_a) (element_and (position_value spot.at_b)
    (element_and (position_value spot.at_c) (element_and (position_value spot.at_a) no_element))))

-- that of the other triangle of a pair
abbrev pub other_outline_elements : Option TriangleSpot → Elements
other_outline_elements None = no_element
other_outline_elements (Some spot) = element_and (outline_value spot) no_element

-- the outlines of the triangles
abbrev pub lines_value : FaultSpot → Json
lines_value fault = geometry_of (codes "MultiLineString")
    (array_of (element_and (outline_value fault.first) (other_outline_elements fault.second)))

-- the outlines where lines are wanted, and else the corner of the first triangle with the least number
abbrev pub geometry_value : Bool → FaultSpot → Json
geometry_value lines fault = if lines then lines_value fault else point_value (least_place fault.first)

-- ---- properties
-- the numbers of a triangle's corners
abbrev pub numbers_value : TriangleSpot → Json
numbers_value spot = array_of (element_and (number_value spot.a) (element_and (number_value spot.b)
    (element_and (number_value spot.c) no_element)))

-- the number of the fault, what it is and where, and the properties after that
unfoldable pub fault_members : ℕ → FaultSpot → Members → Members
fault_members number fault rest = member_and (codes "fault") (number_value number)
    (member_and (codes "kind") (text_value (kind_word fault.kind))
    (member_and (codes "frame") (text_value (frame_word fault.frame)) rest))

-- the properties of the first triangle, and those after them
unfoldable pub first_members : TriangleSpot → Members → Members
first_members spot rest = member_and (codes "first_triangle") (number_value spot.triangle)
    (member_and (codes "first_corners") (numbers_value spot) (member_and (codes "first_places") (corners_value spot) rest))

-- and of the second one
unfoldable pub second_members : TriangleSpot → Members
second_members spot = member_and (codes "second_triangle") (number_value spot.triangle)
    (member_and (codes "second_corners") (numbers_value spot)
    (member_and (codes "second_places") (corners_value spot) no_member))

-- which are null where there is none
abbrev pub other_members : Option TriangleSpot → Members
other_members None = member_and (codes "second_triangle") null (member_and (codes "second_corners") null
    (member_and (codes "second_places") null no_member))
other_members (Some spot) = second_members spot

unfoldable pub properties_value : ℕ → FaultSpot → Json
properties_value number fault =
    object_of (fault_members number fault (first_members fault.first (other_members fault.second)))

-- ---- features
abbrev pub feature_value : Bool → ℕ → FaultSpot → Json
feature_value lines number fault = feature_of (geometry_value lines fault) (properties_value number fault)

-- the features of faults, numbered from this number on, each after a line feed
abbrev pub feature_elements : Bool → ℕ → List FaultSpot → Elements
feature_elements lines number [] = no_element
feature_elements lines number (fault ∷ faults) =
    element (10 ∷ []) (feature_value lines number fault) [] (feature_elements lines (number + 1) faults)

-- all faults, numbered from 0
abbrev pub faults_value : Bool → List FaultSpot → Json
faults_value lines faults = object_of (member_and (codes "type") (text_value (codes "FeatureCollection"))
    (member_and (codes "crs") null (member_and (codes "features") (array_of (feature_elements lines 0 faults)) no_member)))

-- that value, with a line feed after it
abbrev pub faults_whole : Bool → List FaultSpot → Whole
faults_whole lines faults = record {
  marked = false;
  before = [];
  value = faults_value lines faults;
  after = 10 ∷ [];
}
