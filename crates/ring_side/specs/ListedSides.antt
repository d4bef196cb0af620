-- What the list of changes of sides has: which rings have another direction as written than in the source, and which
-- points are on another side of a ring.
use Rattle.std.specs.Prelude.{◌≡◌, ◌≢◌, ◌↔◌, ℕ, ◌<◌, List, [], length, Contains}
use Rattle.sheet_base.specs.declared.paths.PathKind.TheVariants.{Loop}
use Rattle.sheet_base.specs.ImageFits.{Runs}
use Rattle.sheet_base.specs.Segments.{points_in}
use Rattle.sheet_base.specs.Sheets.{Contents}
use Rattle.tin_base.specs.declared.frames.Frame.TheVariants.{Source, Target}
use Rattle.ring_side.specs.declared.kinds.SideChange.{SideChange}
use Rattle.ring_side.specs.declared.kinds.SideChange.TheVariants.{Turn, Point}
use Rattle.ring_side.specs.declared.kinds.Spot.{Spot}
use Rattle.ring_side.specs.SideChanges.{sheet_at, path_at, ring_of, place_of, side_changes_of}
use Rattle.ring_side.specs.Sides.{side_of, way_of}

-- there is such a path, and it is a ring
pub record IsRingAt (sheets : List Contents) (layer path : ℕ) : Type 0 where
  pub in_layers : layer < length sheets
  pub in_paths : path < length (sheet_at sheets layer).paths
  pub loops : (path_at (sheet_at sheets layer) path).kind ≡ Loop

-- there is such a point
pub record IsPointAt (sheets : List Contents) (at : Spot) : Type 0 where
  pub in_layers : at.layer < length sheets
  pub in_paths : at.path < length (sheet_at sheets at.layer).paths
  pub in_points : at.vertex < points_in (path_at (sheet_at sheets at.layer) at.path)

-- The ring had the one direction and has another as written, or the point was on the one side of the ring and its image
-- is on another of the ring's written form.
abbrev pub IsSideChange : List Contents → List Runs → SideChange → Type 0
IsSideChange sheets images (Turn layer path was now) =
    IsRingAt sheets layer path × (was ≡ way_of (ring_of sheets images Source layer path))
    × (now ≡ way_of (ring_of sheets images Target layer path)) × (was ≢ now)
IsSideChange sheets images (Point layer path at was now) =
    IsRingAt sheets layer path × IsPointAt sheets at
    × (was ≡ side_of (ring_of sheets images Source layer path) (place_of sheets images Source at))
    × (now ≡ side_of (ring_of sheets images Target layer path) (place_of sheets images Target at)) × (was ≢ now)

-- these are all such changes, and no others
abbrev pub AreAllSideChanges : List Contents → List Runs → List SideChange → Type 0
AreAllSideChanges sheets images sides = (change : SideChange) → Contains sides change ↔ IsSideChange sheets images change

-- every ring keeps its direction in the written frame, and every point its side of every ring
pub record KeepSides (sheets : List Contents) (images : List Runs) : Type 0 where
  pub ways : (layer path : ℕ) → IsRingAt sheets layer path
      → way_of (ring_of sheets images Source layer path) ≡ way_of (ring_of sheets images Target layer path)
  pub sides : (layer path : ℕ) (at : Spot) → IsRingAt sheets layer path → IsPointAt sheets at
      → side_of (ring_of sheets images Source layer path) (place_of sheets images Source at)
      ≡ side_of (ring_of sheets images Target layer path) (place_of sheets images Target at)

-- a law: the list of changes of sides has all such changes, and no others
abbrev pub ListsAreAllSideChanges : Type 0
ListsAreAllSideChanges = (sheets : List Contents) (images : List Runs)
    → AreAllSideChanges sheets images (side_changes_of sheets images)

-- a law: where it is empty all sides and directions are kept
abbrev pub EmptyListsKeepSides : Type 0
EmptyListsKeepSides = (sheets : List Contents) (images : List Runs) → side_changes_of sheets images ≡ []
    → KeepSides sheets images
