-- The changes of directions and sides of some layers: of their sheets, and of the images of these.
use Rattle.std.specs.Prelude.{ℕ, zero, suc, ◌+◌, Bool, true, false, if◌then◌else◌, List, [], ◌∷◌, ◌++◌, take, drop, flat_map, slice_index_or}
use Rattle.plane_base.specs.declared.shapes.Pt.{Pt}
use Rattle.sheet_base.specs.declared.paths.PathKind.{PathKind}
use Rattle.sheet_base.specs.declared.paths.PathKind.TheVariants.{Dot, Line, Loop}
use Rattle.sheet_base.specs.declared.paths.PathRow.{PathRow}
use Rattle.sheet_base.specs.Sheets.{Contents}
use Rattle.sheet_base.specs.Segments.{points_in, point_at}
use Rattle.sheet_base.specs.ImageFits.{Runs, run_begin, row_images, no_path}
use Rattle.tin_base.specs.declared.frames.Frame.{Frame}
use Rattle.tin_base.specs.declared.frames.Frame.TheVariants.{Source, Target}
use Rattle.ring_side.specs.declared.kinds.Side.{Side}
use Rattle.ring_side.specs.declared.kinds.Side.TheVariants.{Inside, Border, Outside}
use Rattle.ring_side.specs.declared.kinds.Way.{Way}
use Rattle.ring_side.specs.declared.kinds.Way.TheVariants.{Positive, Negative, Zero}
use Rattle.ring_side.specs.declared.kinds.Spot.{Spot}
use Rattle.ring_side.specs.declared.kinds.SideChange.{SideChange}
use Rattle.ring_side.specs.declared.kinds.SideChange.TheVariants.{Turn, Point}
use Rattle.ring_side.specs.Sides.{side_of, way_of}

-- ---- layers by their numbers, from 0
-- the sheet and the images of a number that is no layer's
abbrev pub no_sheet : Contents
no_sheet = record { paths = []; points = []; heights = []; edits = []; inexact = 0; dropped = 0 }

abbrev pub no_images : Runs
no_images = record { points = []; heights = []; run = [] }

abbrev pub sheet_at : List Contents → ℕ → Contents
sheet_at sheets layer = slice_index_or sheets layer no_sheet

abbrev pub images_at : List Runs → ℕ → Runs
images_at images layer = slice_index_or images layer no_images

abbrev pub path_at : Contents → ℕ → PathRow
path_at sheet path = slice_index_or sheet.paths path no_path

-- ---- spots: the points of all sheets
-- this many vertices of a path, from one on
abbrev pub spots_run : ℕ → ℕ → ℕ → ℕ → List Spot
spots_run layer path vertex zero = []
spots_run layer path vertex (suc count) =
    record { layer = layer; path = path; vertex = vertex } ∷ spots_run layer path (vertex + 1) count

-- the vertices of some paths, whose first one has this number
abbrev pub spots_paths : ℕ → ℕ → List PathRow → List Spot
spots_paths layer path [] = []
spots_paths layer path (row ∷ rows) = spots_run layer path 0 (points_in row) ++ spots_paths layer (path + 1) rows

-- those of some layers, whose first one has this number
abbrev pub spots_layers : ℕ → List Contents → List Spot
spots_layers layer [] = []
spots_layers layer (sheet ∷ sheets) = spots_paths layer 0 sheet.paths ++ spots_layers (layer + 1) sheets

-- all spots, in order of layer, path and vertex
abbrev pub spots_of : List Contents → List Spot
spots_of sheets = spots_layers 0 sheets

-- the number of a spot among the points of its sheet
abbrev pub number_of : List Contents → Spot → ℕ
number_of sheets spot = (path_at (sheet_at sheets spot.layer) spot.path).first + spot.vertex

-- the point of a spot, or its image
abbrev pub place_of : List Contents → List Runs → Frame → Spot → Pt
place_of sheets images Source spot = point_at (sheet_at sheets spot.layer).points (number_of sheets spot)
place_of sheets images Target spot =
    point_at (images_at images spot.layer).points (run_begin (images_at images spot.layer) (number_of sheets spot))

-- ---- rings
-- the points of a path, or its written form: the images of its points and crossings
abbrev pub ring_of : List Contents → List Runs → Frame → ℕ → ℕ → List Pt
ring_of sheets images Source layer path =
    let sheet = sheet_at sheets layer in
    let row = path_at sheet path in take (points_in row) (drop row.first sheet.points)
ring_of sheets images Target layer path =
    row_images (images_at images layer) (path_at (sheet_at sheets layer) path)

-- ---- changes
abbrev pub is_same_way : Way → Way → Bool
is_same_way Positive Positive = true
is_same_way Negative Negative = true
is_same_way Zero Zero = true
is_same_way _ _ = false

abbrev pub is_same_side : Side → Side → Bool
is_same_side Inside Inside = true
is_same_side Border Border = true
is_same_side Outside Outside = true
is_same_side _ _ = false

-- that a ring has another direction, where it has
abbrev pub turn_from : ℕ → ℕ → Way → Way → List SideChange
turn_from layer path was now = if is_same_way was now then [] else Turn layer path was now ∷ []

-- that a point is on another side of a ring, where it is
abbrev pub point_from : ℕ → ℕ → Spot → Side → Side → List SideChange
point_from layer path at was now = if is_same_side was now then [] else Point layer path at was now ∷ []

abbrev pub turn_change : List Contents → List Runs → ℕ → ℕ → List SideChange
turn_change sheets images layer path =
    turn_from layer path (way_of (ring_of sheets images Source layer path)) (way_of (ring_of sheets images Target layer path))

abbrev pub point_change : List Contents → List Runs → ℕ → ℕ → Spot → List SideChange
point_change sheets images layer path spot =
    point_from layer path spot
    (side_of (ring_of sheets images Source layer path) (place_of sheets images Source spot))
    (side_of (ring_of sheets images Target layer path) (place_of sheets images Target spot))

-- the changes of a ring: its direction, then the points that are on another side of it
abbrev pub ring_changes : List Contents → List Runs → ℕ → ℕ → List SideChange
ring_changes sheets images layer path =
    turn_change sheets images layer path ++ flat_map (point_change sheets images layer path) (spots_of sheets)

-- those of a path, which are none where it is no loop
abbrev pub path_changes : List Contents → List Runs → ℕ → ℕ → PathKind → List SideChange
path_changes sheets images layer path Loop = ring_changes sheets images layer path
path_changes sheets images layer path Dot = []
path_changes sheets images layer path Line = []

-- those of some paths, whose first one has this number
abbrev pub paths_changes : List Contents → List Runs → ℕ → ℕ → List PathRow → List SideChange
paths_changes sheets images layer path [] = []
paths_changes sheets images layer path (row ∷ rows) =
    path_changes sheets images layer path row.kind ++ paths_changes sheets images layer (path + 1) rows

-- those of some layers, whose first one has this number
abbrev pub layers_changes : List Contents → List Runs → ℕ → List Contents → List SideChange
layers_changes sheets images layer [] = []
layers_changes sheets images layer (sheet ∷ more) =
    paths_changes sheets images layer 0 sheet.paths ++ layers_changes sheets images (layer + 1) more

-- the changes of all rings with all points, in order of the rings
abbrev pub side_changes_of : List Contents → List Runs → List SideChange
side_changes_of sheets images = layers_changes sheets images 0 sheets
