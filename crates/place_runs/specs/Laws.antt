-- A run has an outcome, and just one, and the places in its text are known.
use Rattle.std.specs.Prelude.{◌≡◌, ℕ, List, [], ◌∷◌}
use Rattle.shelf_io.specs.Files.{Files}
use Rattle.runs.specs.declared.status.Status.{Status}
use Rattle.migrate_mode.specs.declared.migrations.Migration.{Migration}
use Rattle.ring_side.specs.declared.kinds.SideChange.{SideChange}
use Rattle.ring_side.specs.declared.kinds.SideChange.TheVariants.{Turn, Point}
use Rattle.change_places.specs.Words.{PathText, SideText, ChangeText, RingText}
use Rattle.change_places.specs.PathPlaces.{IsKnown}
use Rattle.place_runs.specs.declared.views.View.{View}
use Rattle.place_runs.specs.Places.{IsPlacesDone}
use Rattle.place_runs.specs.Outcome.{HasOutcome}

-- two outcomes of the same words and files have the same status and the same text; where files have the same name, the
-- first of them is meant
abbrev pub OutcomeIsOne : Type 0
OutcomeIsOne =
    (words : List (List ℕ)) (files : Files) (status other : Status) (made others : Files)
    → HasOutcome words files status made → HasOutcome words files other others
    → (status ≡ other) × (made ≡ others)

-- words and files have an outcome
abbrev pub OutcomeExists : Type 0
OutcomeExists = (words : List (List ℕ)) (files : Files) → (status : Status) × (made : Files)
    × HasOutcome words files status made

-- the side says where its path begins
abbrev pub IsKnownSide : SideText → Type 0
IsKnownSide side = IsKnown side.path.at

-- both sides of each change say where their paths begin
abbrev pub AreSpotsKnown : List ChangeText → Type 0
AreSpotsKnown [] = Unit {0}
AreSpotsKnown (spot ∷ spots) = (IsKnownSide spot.first × IsKnownSide spot.second) × AreSpotsKnown spots

-- the change of sides says where the path of its point begins, unless the ring turned: then there is no point
abbrev pub IsPointKnown : SideChange → PathText → Type 0
IsPointKnown (Turn layer path was now) point = Unit {0}
IsPointKnown (Point layer path at was now) point = IsKnown point.at

-- it says where the path of its ring begins, too
abbrev pub IsRingKnown : RingText → Type 0
IsRingKnown one = IsKnown one.ring.at × IsPointKnown one.change one.point

-- each change of sides does
abbrev pub AreRingsKnown : List RingText → Type 0
AreRingsKnown [] = Unit {0}
AreRingsKnown (ring ∷ rings) = IsRingKnown ring × AreRingsKnown rings

-- the changes that are printed do, and so do those of sides
abbrev pub AllPlacesAreKnown : Type 0
AllPlacesAreKnown =
    (view : View) (files : Files) (migration : Migration) (status : Status) (made : Files)
    → (is : IsPlacesDone view files migration status made) → AreSpotsKnown is.are.spots × AreRingsKnown is.are.rings
