-- The places of the changes of sides: where each is on the map, and where its ring and its point are written.
use Rattle.std.specs.Prelude.{◌≡◌, ◌==◌, ℕ, Bool, true, false, not, if◌then◌else◌, List, [], map, Option, None, Some}
use Rattle.std.specs.List.{filter}
use Rattle.sheet_base.specs.ImageFits.{Runs}
use Rattle.sheet_base.specs.Sheets.{Contents}
use Rattle.tin_base.specs.declared.frames.Frame.TheVariants.{Target}
use Rattle.ring_side.specs.declared.kinds.SideChange.{SideChange}
use Rattle.ring_side.specs.declared.kinds.SideChange.TheVariants.{Turn, Point}
use Rattle.ring_side.specs.SideChanges.{place_of}
use Rattle.change_places.specs.PlacesText.{no_path}
use Rattle.change_places.specs.Words.{PathText, RingText}
use Rattle.migrate_mode.specs.LayerRuns.{Setting}
use Rattle.migrate_mode.specs.SideLists.{AreKept, AreSideChanges}
use Rattle.place_runs.specs.WrittenPaths.{words_at}

-- ---- one change
-- The change of a side is at the written point, and says where the paths of the ring and of the point are written. The
-- change of a direction is at the written first vertex of the ring, and has no point.
abbrev pub ring_text_of : List Contents → List Runs → List (List PathText) → SideChange → RingText
ring_text_of sheets images places (Turn layer path was now) = record {
  change = Turn layer path was now;
  ring = words_at places layer path;
  point = no_path;
  place = place_of sheets images Target (record { layer = layer; path = path; vertex = 0 });
}
ring_text_of sheets images places (Point layer path at was now) = record {
  change = Point layer path at was now;
  ring = words_at places layer path;
  point = words_at places at.layer at.path;
  place = place_of sheets images Target at;
}

-- ---- which of them are printed
-- the ring and the point are of two layers; a change of direction is of one layer alone
abbrev pub is_side_of_two : SideChange → Bool
is_side_of_two (Turn layer path was now) = false
is_side_of_two (Point layer path at was now) = not (layer == at.layer)

-- those across layers, or all
abbrev pub printed_sides : Bool → List SideChange → List SideChange
printed_sides across sides = if across then filter is_side_of_two sides else sides

-- ---- all of them
-- `sides` are the changes of sides of these sheets and images that are printed, and `rings` are they with their places
pub record AreRingsOf (across : Bool) (sheets : List Contents) (images : List Runs) (places : List (List PathText))
    (sides : List SideChange) (rings : List RingText) : Type 0 where
  pub all : List SideChange
  pub changes : AreSideChanges sheets images all
  pub sides_are : sides ≡ printed_sides across all
  pub rings_are : rings ≡ map (ring_text_of sheets images places) sides

-- they are so of the sheets and images of the layers of these names
pub record HaveRings (across : Bool) (setting : Setting) (names : List (List ℕ)) (places : List (List PathText))
    (sides : List SideChange) (rings : List RingText) : Type 0 where
  pub sheets : List Contents
  pub images : List Runs
  pub kept : AreKept setting names sheets images
  pub are_rings : AreRingsOf across sheets images places sides rings

-- they are, where sides are asked for; else there is no list, and nothing is printed
abbrev pub HaveAskedRings : Bool → Bool → Setting → List (List ℕ) → List (List PathText) → Option (List SideChange)
    → List RingText → Type 0
HaveAskedRings false across setting names places None rings = rings ≡ []
HaveAskedRings false across setting names places (Some sides) rings = ⊥
HaveAskedRings true across setting names places None rings = ⊥
HaveAskedRings true across setting names places (Some sides) rings =
    HaveRings across setting names places sides rings
