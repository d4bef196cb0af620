-- Groups of points, and their boxes. Only private functions speak of them.
use Rattle.std.specs.Prelude.{◌≡◌, ℕ, ◌-◌, ◌<◌, ◌≤◌, List, [], ◌∷◌, length, All, map, flat_map, slice_index_or}
use Rattle.plane_base.specs.declared.shapes.Pt.{Pt}
use Rattle.plane_base.specs.declared.shapes.Rect.{Rect}
use Rattle.plane_base.specs.Boxes.{HasBox}
use Rattle.sheet_base.specs.Sheets.{Contents}
use Rattle.sheet_base.specs.Segments.{points_in}
use Rattle.sheet_base.specs.ImageFits.{Runs, run_begin}
use Rattle.tin_base.specs.declared.frames.Frame.TheVariants.{Source, Target}
use Rattle.tin_base.specs.declared.frames.Frame.{Frame}
use Rattle.ring_side.specs.declared.kinds.Spot.{Spot}
use Rattle.ring_side.specs.declared.groups.Group.{Group}
use Rattle.ring_side.specs.InsideParts.{HasAll}
use Rattle.ring_side.specs.InsideTrees.{no_box}
use Rattle.ring_side.specs.SideChanges.{sheet_at, images_at, path_at, spots_run, spots_of, number_of, place_of}

-- there is such a path
pub record IsPath (sheets : List Contents) (layer path : ℕ) : Type 0 where
  pub in_layers : layer < length sheets
  pub in_paths : path < length (sheet_at sheets layer).paths

-- there is such a vertex
pub record IsSpot (sheets : List Contents) (spot : Spot) : Type 0 where
  pub path : IsPath sheets spot.layer spot.path
  pub vertex : spot.vertex < points_in (path_at (sheet_at sheets spot.layer) spot.path)

-- the spots of a group
abbrev pub spots_in : Group → List Spot
spots_in group = spots_run group.layer group.path group.first (group.past - group.first)

-- a group has vertices of a path, and at least one
pub record IsGroup (sheets : List Contents) (group : Group) : Type 0 where
  pub path : IsPath sheets group.layer group.path
  pub some : group.first < group.past
  pub within : group.past ≤ points_in (path_at (sheet_at sheets group.layer) group.path)

abbrev pub no_group : Group
no_group = record { layer = 0; path = 0; first = 0; past = 0 }

abbrev pub group_at : List Group → ℕ → Group
group_at groups number = slice_index_or groups number no_group

-- groups, and all spots in them in order
pub record AreGroupsOf (sheets : List Contents) (groups : List Group) : Type 0 where
  pub each : All (λ group. IsGroup sheets group) groups
  pub all : flat_map spots_in groups ≡ spots_of sheets

-- the least box with some points
pub record IsLeastBox (box : Rect) (ps : List Pt) : Type 0 where
  pub has : HasAll box ps
  pub least : (outer : Rect) → HasAll outer ps → HasBox outer box

-- the places of a group's points in a frame
abbrev pub places_in : List Contents → List Runs → Frame → Group → List Pt
places_in sheets images frame group = map (place_of sheets images frame) (spots_in group)

-- the place of a spot is one of its layer's
abbrev pub IsAmong : List Contents → List Runs → Frame → Spot → Type 0
IsAmong sheets images Source spot = number_of sheets spot < length (sheet_at sheets spot.layer).points
IsAmong sheets images Target spot =
    run_begin (images_at images spot.layer) (number_of sheets spot) < length (images_at images spot.layer).points

-- each of the spots has its place among its layer's
abbrev pub AreAmong : List Contents → List Runs → Frame → List Spot → Type 0
AreAmong sheets images frame [] = Unit {0}
AreAmong sheets images frame (spot ∷ spots) = IsAmong sheets images frame spot × AreAmong sheets images frame spots

-- the box of a number, from 0
abbrev pub box_at : List Rect → ℕ → Rect
box_at boxes number = slice_index_or boxes number no_box

-- a box for each group
pub record AreBoxesOf (sheets : List Contents) (images : List Runs) (frame : Frame) (groups : List Group) (boxes : List Rect)
    : Type 0 where
  pub same : length boxes ≡ length groups
  pub each : (k : ℕ) → k < length groups → IsLeastBox (box_at boxes k) (places_in sheets images frame (group_at groups k))
  pub among : (k : ℕ) → k < length groups → AreAmong sheets images frame (spots_in (group_at groups k))
