-- The text of faults on the map: GeoJSON (RFC 7946) with a feature for each fault, a line each.
use Rattle.std.specs.Prelude.{ℕ, ◌+◌, Bool, List, [], ◌∷◌, ◌++◌, codes, decimal, if◌then◌else◌, Option, None, Some}
use Rattle.std.specs.List.{concat}
use Rattle.tin_base.specs.declared.frames.Frame.{Frame}
use Rattle.tin_base.specs.declared.frames.Frame.TheVariants.{Source, Target}
use Rattle.change_places.specs.PlacesText.{position_text, point_text, separator_text}
use Rattle.fault_runs.specs.declared.spots.FaultKind.{FaultKind}
use Rattle.fault_runs.specs.declared.spots.FaultKind.TheVariants as kinds
use Rattle.fault_runs.specs.declared.spots.TriangleSpot.{TriangleSpot}
use Rattle.fault_runs.specs.declared.spots.FaultSpot.{FaultSpot}
use Rattle.fault_runs.specs.Spots.{least_place}

-- ---- geometries
-- the three corners
unfoldable pub corners_text : TriangleSpot → List ℕ
corners_text spot = concat (
    position_text spot.at_a ∷ codes "," ∷ position_text spot.at_b ∷ codes "," ∷ position_text spot.at_c ∷ [])

-- the outline of a triangle, which ends where it begins (RFC 7946, section 3.1.4)
unfoldable pub outline_text : TriangleSpot → List ℕ
outline_text spot = concat (codes "[" ∷ corners_text spot ∷ codes "," ∷ position_text spot.at_a ∷ codes "]" ∷ [])

-- that of the other triangle of a pair
unfoldable pub behind_text : TriangleSpot → List ℕ
behind_text spot = concat (codes "," ∷ outline_text spot ∷ [])

abbrev pub other_outline_text : Option TriangleSpot → List ℕ
other_outline_text None = []
other_outline_text (Some spot) = behind_text spot

-- the outlines of the triangles (RFC 7946, section 3.1.5)
unfoldable pub lines_text : FaultSpot → List ℕ
lines_text fault = concat (
    codes "{\"type\":\"MultiLineString\",\"coordinates\":[" ∷ outline_text fault.first
    ∷ other_outline_text fault.second ∷ codes "]}" ∷ [])

-- the outlines where lines are wanted, and else the corner of the first triangle with the least number
abbrev pub geometry_text : Bool → FaultSpot → List ℕ
geometry_text lines fault = if lines then lines_text fault else point_text (least_place fault.first)

-- ---- properties
abbrev pub kind_word : FaultKind → List ℕ
kind_word kinds.Flat = codes "flat"
kind_word kinds.TurnsOver = codes "turns over"
kind_word kinds.Overlap = codes "overlap"

abbrev pub frame_word : Frame → List ℕ
frame_word Source = codes "source"
frame_word Target = codes "target"

-- the number of the fault, what it is, and where
unfoldable pub fault_text : ℕ → FaultSpot → List ℕ
fault_text number fault = concat (
    codes "\"fault\":" ∷ decimal number ∷ codes ",\"kind\":\"" ∷ kind_word fault.kind ∷ codes "\",\"frame\":\""
    ∷ frame_word fault.frame ∷ codes "\"" ∷ [])

-- the numbers of a triangle's corners
unfoldable pub numbers_text : TriangleSpot → List ℕ
numbers_text spot = concat (codes "[" ∷ decimal spot.a ∷ codes "," ∷ decimal spot.b ∷ codes "," ∷ decimal spot.c
    ∷ codes "]" ∷ [])

-- the properties of the first triangle
unfoldable pub first_text : TriangleSpot → List ℕ
first_text spot = concat (
    codes ",\"first_triangle\":" ∷ decimal spot.triangle ∷ codes ",\"first_corners\":" ∷ numbers_text spot
    ∷ codes ",\"first_places\":[" ∷ corners_text spot ∷ codes "]" ∷ [])

-- and of the second one
unfoldable pub second_text : TriangleSpot → List ℕ
second_text spot = concat (
    codes ",\"second_triangle\":" ∷ decimal spot.triangle ∷ codes ",\"second_corners\":" ∷ numbers_text spot
    ∷ codes ",\"second_places\":[" ∷ corners_text spot ∷ codes "]" ∷ [])

-- which are null where there is none
abbrev pub other_text : Option TriangleSpot → List ℕ
other_text None = codes ",\"second_triangle\":null,\"second_corners\":null,\"second_places\":null"
other_text (Some spot) = second_text spot

-- ---- features
-- the fault of this number (RFC 7946, section 3.2)
unfoldable pub feature_text : Bool → ℕ → FaultSpot → List ℕ
feature_text lines number fault = concat (
    codes "{\"type\":\"Feature\",\"geometry\":" ∷ geometry_text lines fault ∷ codes ",\"properties\":{"
    ∷ fault_text number fault ∷ first_text fault.first ∷ other_text fault.second ∷ codes "}}" ∷ [])

-- the faults numbered from this number on, each after a line feed, and after a comma where it is not the first
abbrev pub features_text : Bool → ℕ → List FaultSpot → List ℕ
features_text lines number [] = []
features_text lines number (fault ∷ faults) =
    separator_text number ++ (feature_text lines number fault ++ features_text lines (number + 1) faults)

unfoldable pub opening_text : List ℕ
opening_text = codes "{\"type\":\"FeatureCollection\",\"crs\":null,\"features\":["

-- all faults, numbered from 0 (RFC 7946, section 3.3)
abbrev pub faults_text : Bool → List FaultSpot → List ℕ
faults_text lines faults = opening_text ++ (features_text lines 0 faults ++ codes "]}\n")
