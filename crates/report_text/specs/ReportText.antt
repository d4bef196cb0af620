-- The text of a report: its lines, each ended by a line feed. Numbers are in digits without leading zeros.
use Rattle.std.specs.Prelude.{ℕ, ◌+◌, Bool, true, false, List, [], ◌∷◌, ◌++◌, length, map, codes, decimal, Option, None, Some}
use Rattle.std.specs.List.{concat, flat_map}
use Rattle.text_fields.specs.Fields.{field}
use Rattle.tin_base.specs.declared.pieces.Change.{Change}
use Rattle.tin_base.specs.declared.pieces.Place.{Place}
use Rattle.tin_base.specs.declared.relations.Rel.{Rel}
use Rattle.tin_base.specs.declared.relations.Rel.TheVariants.{Apart, Touching, Crossing, Overlapping}
use Rattle.ring_side.specs.declared.kinds.Side.{Side}
use Rattle.ring_side.specs.declared.kinds.Side.TheVariants.{Inside, Border, Outside}
use Rattle.ring_side.specs.declared.kinds.Way.{Way}
use Rattle.ring_side.specs.declared.kinds.Way.TheVariants.{Positive, Negative, Zero}
use Rattle.ring_side.specs.declared.kinds.Spot.{Spot}
use Rattle.ring_side.specs.declared.kinds.SideChange.{SideChange}
use Rattle.ring_side.specs.declared.kinds.SideChange.TheVariants.{Turn, Point}
use Rattle.report_text.specs.declared.lines.TheConstants.{LINE_FEED}
use Rattle.report_text.specs.declared.rows.LayerRow.{LayerRow}
use Rattle.report_text.specs.Reports.{ReportContents}

-- whether sides of rings are stated
abbrev pub are_told : Option (List SideChange) → Bool
are_told None = false
are_told (Some sides) = true

-- the first line, by whether sides are stated
unfoldable pub title : Bool → List ℕ
title false = codes "tinmove report 1"
title true = codes "tinmove report 2"

-- how many corners and triangles the triangulation has, and how many of its numbers lost digits
abbrev pub tin_counts : ReportContents → List ℕ
tin_counts report = concat (
    field (codes "triangulation corners ") report.corners ∷ field (codes " triangles ") report.triangles
    ∷ field (codes " inexact ") report.inexact ∷ [])

-- the line of the triangulation
unfoldable pub tin_line : ReportContents → List ℕ
tin_line report = concat (tin_counts report ∷ codes " name " ∷ report.name ∷ [])

-- how many paths, segments and pieces a layer has
abbrev pub sizes : LayerRow → List ℕ
sizes row = concat (field (codes " paths ") row.paths ∷ field (codes " segments ") row.segments
    ∷ field (codes " pieces ") row.pieces ∷ [])

-- how many of its numbers lost digits, and how many of its entities are left out
abbrev pub losses : LayerRow → List ℕ
losses row = concat (field (codes " inexact ") row.inexact ∷ field (codes " dropped ") row.dropped ∷ [])

-- the line of the layer of this number
unfoldable pub layer_line : ℕ → LayerRow → List ℕ
layer_line number row = concat (field (codes "layer ") number ∷ sizes row ∷ losses row ∷ codes " name " ∷ row.name ∷ [])

-- the line after that of a drawing, whose stated extents are not changed
unfoldable pub extents_line : ℕ → List ℕ
extents_line number = field (codes "extents ") number ++ codes " as they were"

abbrev pub extents_lines : ℕ → Bool → List (List ℕ)
extents_lines number true = extents_line number ∷ []
extents_lines number false = []

-- the lines of layers, whose first one has this number
abbrev pub layer_lines : ℕ → List LayerRow → List (List ℕ)
layer_lines number [] = []
layer_lines number (row ∷ rows) = layer_line number row
    ∷ (extents_lines number row.drawing ++ layer_lines (number + 1) rows)

-- where a piece comes from: its layer, path, segment and piece
abbrev pub place_text : Place → List ℕ
place_text place = concat (
    decimal place.layer ∷ field (codes "/") place.path ∷ field (codes "/") place.segment ∷ field (codes "/") place.piece
    ∷ [])

abbrev pub relation_word : Rel → List ℕ
relation_word Apart = codes "apart"
relation_word Touching = codes "touching"
relation_word Crossing = codes "crossing"
relation_word Overlapping = codes "overlapping"

-- the line of a change: both places, the relation in the source and the one after rounding
unfoldable pub change_line : Change → List ℕ
change_line change = concat (
    codes "change " ∷ place_text change.first ∷ codes " " ∷ place_text change.second
    ∷ codes " " ∷ relation_word change.was ∷ codes " " ∷ relation_word change.now ∷ [])

-- the line of this many changes
unfoldable pub count_line : ℕ → List ℕ
count_line count = field (codes "changes ") count

-- the line of the number of changes, and those of the changes
abbrev pub change_lines : List Change → List (List ℕ)
change_lines changes = count_line (length changes) ∷ map change_line changes

-- ---- sides of rings
-- a ring: its layer and path
abbrev pub ring_text : ℕ → ℕ → List ℕ
ring_text layer path = concat (decimal layer ∷ field (codes "/") path ∷ [])

-- a point: its layer, path and vertex
abbrev pub spot_text : Spot → List ℕ
spot_text spot = concat (decimal spot.layer ∷ field (codes "/") spot.path ∷ field (codes "/") spot.vertex ∷ [])

abbrev pub way_word : Way → List ℕ
way_word Positive = codes "positive"
way_word Negative = codes "negative"
way_word Zero = codes "zero"

abbrev pub side_word : Side → List ℕ
side_word Inside = codes "inside"
side_word Border = codes "border"
side_word Outside = codes "outside"

-- the line of a ring that has another direction
unfoldable pub turn_line : ℕ → ℕ → Way → Way → List ℕ
turn_line layer path was now = concat (
    codes "turn " ∷ ring_text layer path ∷ codes " " ∷ way_word was ∷ codes " " ∷ way_word now ∷ [])

-- the line of a point that is on another side of a ring: the ring, the point, the side in the source and the one after
-- rounding
unfoldable pub point_line : ℕ → ℕ → Spot → Side → Side → List ℕ
point_line layer path at was now = concat (
    codes "side " ∷ ring_text layer path ∷ codes " " ∷ spot_text at ∷ codes " " ∷ side_word was ∷ codes " "
    ∷ side_word now ∷ [])

abbrev pub side_line : SideChange → List ℕ
side_line (Turn layer path was now) = turn_line layer path was now
side_line (Point layer path at was now) = point_line layer path at was now

-- the line of this many changes of sides
unfoldable pub side_count_line : ℕ → List ℕ
side_count_line count = field (codes "sides ") count

-- the line of the number of changes of sides, and those of the changes, where sides are stated
abbrev pub side_lines : Option (List SideChange) → List (List ℕ)
side_lines None = []
side_lines (Some sides) = side_count_line (length sides) ∷ map side_line sides

unfoldable pub end_line : List ℕ
end_line = codes "end"

-- all lines of a report
abbrev pub report_lines : ReportContents → List (List ℕ)
report_lines report = title (are_told report.sides) ∷ tin_line report
    ∷ (layer_lines 0 report.layers ++ (change_lines report.changes ++ (side_lines report.sides ++ (end_line ∷ []))))

-- lines, each with its line feed
abbrev pub text_of_lines : List (List ℕ) → List ℕ
text_of_lines lines = flat_map (λ line. line ++ LINE_FEED ∷ []) lines

abbrev pub report_text : ReportContents → List ℕ
report_text report = text_of_lines (report_lines report)
