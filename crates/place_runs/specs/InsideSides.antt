-- The changes of sides of what a run keeps of its layers. Only private functions speak of them.
use Rattle.std.specs.Prelude.{◌≡◌, ◌||◌, Bool, true, false, not, List, [], ◌∷◌, Option, None, Some}
use Rattle.sheet_base.specs.ImageFits.{Runs}
use Rattle.sheet_base.specs.Sheets.{Contents}
use Rattle.ring_side.specs.declared.kinds.SideChange.{SideChange}
use Rattle.change_places.specs.Words.{PathText, RingText}
use Rattle.place_runs.specs.SidePlaces.{AreRingsOf, is_side_of_two}

-- where sides are asked for, these are the changes of sides of sheets and images that are printed, with their places;
-- else there is no list, and nothing is printed
abbrev pub AreAskedRingsOf : Bool → Bool → List Contents → List Runs → List (List PathText) → Option (List SideChange)
    → List RingText → Type 0
AreAskedRingsOf false across sheets images places None rings = rings ≡ []
AreAskedRingsOf false across sheets images places (Some sides) rings = ⊥
AreAskedRingsOf true across sheets images places None rings = ⊥
AreAskedRingsOf true across sheets images places (Some sides) rings =
    AreRingsOf across sheets images places sides rings

-- some list is of these with their places
abbrev pub AreSomeRingsOf : Bool → Bool → List Contents → List Runs → List (List PathText) → List RingText → Type 0
AreSomeRingsOf asked across sheets images places rings =
    (sides : Option (List SideChange)) × AreAskedRingsOf asked across sheets images places sides rings

-- there is one of these
abbrev pub is_some_feature : {A B : Type 0} → List A → List B → Bool
is_some_feature [] [] = false
is_some_feature [] (ring ∷ rings) = true
is_some_feature (change ∷ changes) rings = true

-- the change of a side is printed
abbrev pub is_side_printed : Bool → SideChange → Bool
is_side_printed across side = not across || is_side_of_two side
