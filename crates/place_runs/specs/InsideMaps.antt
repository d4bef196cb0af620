-- The text of the changes on a map, and the room for its parts. Only private functions speak of it.
use Rattle.std.specs.Prelude.{◌≡◌, ℕ, ◌+◌, ◌≤◌, Bool, List, [], ◌∷◌, ◌++◌, length, map, Option}
use Rattle.std.specs.List.{AllByRecursion}
use Rattle.shelf_io.specs.Files.{Files}
use Rattle.shelf_io.specs.Made.{Appends}
use Rattle.tin_base.specs.declared.pieces.Change.{Change}
use Rattle.tin_base.specs.declared.pieces.Piece.{Piece}
use Rattle.tin_base.specs.declared.pieces.Place.{Place}
use Rattle.change_places.specs.declared.spots.RingSpot.{RingSpot}
use Rattle.tin_base.specs.Triangulation.{Triangulation}
use Rattle.ring_side.specs.declared.kinds.SideChange.{SideChange}
use Rattle.migrate_mode.specs.declared.layer_runs.CarriedLayers.{CarriedLayers}
use Rattle.migrate_mode.specs.RunChanges.{AreListed, is_some_listed}
use Rattle.change_places.specs.Words.{PathText, ChangeText, RingText, layer_words, ring_words}
use Rattle.change_places.specs.PlacesText.{places_text, opening_text, change_entry, ring_entry, end_text}
use Rattle.change_places.specs.Laws.{IsChangeHeld}
use Rattle.place_runs.specs.declared.change_maps.ChangeMap.{ChangeMap}
use Rattle.place_runs.specs.declared.rooms.TheConstants.{MOST_HELD}
use Rattle.place_runs.specs.declared.views.View.{View}
use Rattle.place_runs.specs.Places.{IsSpotOf, AreSpotsOf, printed_of, style_of}
use Rattle.place_runs.specs.InsidePieces.{HasPieces, IsPieceAt, AreAllNear}
use Rattle.place_runs.specs.InsideSides.{AreAskedRingsOf}

-- the words of the paths of all layers
abbrev pub words_on : ChangeMap → List (List PathText)
words_on map = layer_words map.texts.items map.places.items

-- the change with its two sides
abbrev pub IsSpotOn : ChangeMap → Change → ChangeText → Type 0
IsSpotOn map change spot = IsSpotOf map.pieces.items (words_on map) change spot

-- so it is of each of these changes, in order
abbrev pub AreSpotsOn : ChangeMap → List Change → List ChangeText → Type 0
AreSpotsOn map changes spots = AreSpotsOf map.pieces.items (words_on map) changes spots

-- the changes of sides in words
abbrev pub rings_on : ChangeMap → List RingText
rings_on on = map (ring_words on.texts.items) on.rings.items

-- the text has the changes of the map, of layers with these names
pub record IsMapText (names : List (List ℕ)) (map : ChangeMap) (said : List ℕ) : Type 0 where
  pub spots : List ChangeText
  pub are_spots : AreSpotsOn map map.changes.items spots
  pub said_is : said ≡ places_text map.style names spots (rings_on map)

-- a place is that of one piece
abbrev pub IsEachOne : List Piece → Type 0
IsEachOne pieces = (place : Place) (p q : Piece) → IsPieceAt pieces place p → IsPieceAt pieces place q → p ≡ q

-- each change of the map has one pair of sides, whose gap can be found
pub record HasSides (map : ChangeMap) : Type 0 where
  pub near : AreAllNear map.pieces.items
  pub one : IsEachOne map.pieces.items
  pub pieces : AllByRecursion (HasPieces map.pieces.items) map.changes.items

-- it is so of each element and its number; the first has this number
abbrev pub AreNumbered : {A : Type 0} → (ℕ → A → Type 0) → ℕ → List A → Type 0
AreNumbered Is number [] = Unit {0}
AreNumbered Is number (x ∷ xs) = Is number x × AreNumbered Is (number + 1) xs

-- the change of this number has its two sides, whose numbers fit their fields, and its feature has no more bytes
pub record IsChangeWithin (names : List (List ℕ)) (map : ChangeMap) (most number : ℕ) (change : Change) : Type 0 where
  pub spot : ChangeText
  pub is : IsSpotOn map change spot
  pub held : IsChangeHeld spot
  pub within : length (change_entry map.style names number spot) ≤ most

abbrev pub AreChangesWithin : List (List ℕ) → ChangeMap → ℕ → List Change → Type 0
AreChangesWithin names map most changes = AreNumbered (IsChangeWithin names map most) 0 changes

-- the feature of the change of sides of this number has no more bytes
abbrev pub IsRingWithin : List (List ℕ) → ChangeMap → ℕ → ℕ → RingSpot → Type 0
IsRingWithin names map most number ring =
    length (ring_entry map.style names (length map.changes.items) number (ring_words map.texts.items ring)) ≤ most

abbrev pub AreRingsWithin : List (List ℕ) → ChangeMap → ℕ → List RingSpot → Type 0
AreRingsWithin names map most rings = AreNumbered (IsRingWithin names map most) 0 rings

-- there is room for each part of the text after the most bytes that are held
pub record HasRoom (names : List (List ℕ)) (map : ChangeMap) (room : ℕ) : Type 0 where
  pub most : ℕ
  pub opening : length (opening_text names) ≤ most
  pub changes : AreChangesWithin names map most map.changes.items
  pub rings : AreRingsWithin names map most map.rings.items
  pub end : length end_text ≤ most
  pub all : MOST_HELD + most ≤ room

-- of what was held some first bytes were written at the end of the last file, and the others are held
abbrev pub Moves : Option Files → Option Files → List ℕ → List ℕ → Type 0
Moves before now held rest = (written : List ℕ) × Appends before now written × (held ≡ written ++ rest)

-- the map has the changes of the pieces of a run that are printed, as the view wants them, and where sides are asked for
-- those of sides; and whether there is one
pub record IsMapOf (view : View) (tin : Triangulation) (run : CarriedLayers) (words : List (List PathText)) (map : ChangeMap)
    (changed : Bool) : Type 0 where
  pub changes : List Change
  pub listed : AreListed tin run.pieces.items changes
  pub style_is : map.style ≡ style_of view
  pub pieces_are : map.pieces.items ≡ run.pieces.items
  pub words_are : words_on map ≡ words
  pub changes_are : map.changes.items ≡ printed_of view changes
  pub sides : Option (List SideChange)
  pub are_rings : AreAskedRingsOf run.sides view.across run.sheets.items run.images.items words sides (rings_on map)
  pub changed_is : changed ≡ is_some_listed (printed_of view changes) sides
