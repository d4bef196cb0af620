-- The text of changes on the map is a JSON text, and is read as the value of these changes and as no other.
use Rattle.std.specs.Prelude.{◌≡◌, ◌+◌, true, ℕ, ◌<◌, ◌^◌, List, length, map, IsUtf8, Option, None, Some, unsigned_abs}
use Rattle.std.specs.List.{AllByRecursion}
use Rattle.jtext.specs.Texts.{Whole, IsWhole}
use Rattle.jtext.specs.Values.{Json, spelling}
use Rattle.jtext.specs.declared.json_texts.TheConstants.{DEEPEST}
use Rattle.plane_base.specs.declared.shapes.Pt.{Pt}
use Rattle.ring_side.specs.declared.kinds.Spot.{Spot}
use Rattle.ring_side.specs.declared.kinds.SideChange.{SideChange}
use Rattle.ring_side.specs.declared.kinds.SideChange.TheVariants.{Turn, Point}
use Rattle.report_text.specs.Reports.{IsPrintable, IsPlaceHeld}
use Rattle.layer_features.specs.DrawingFeatures.{is_hexadecimal}
use Rattle.layer_features.specs.Laws.{IsValueText}
use Rattle.change_places.specs.declared.spots.Style.{Style}
use Rattle.change_places.specs.Words.{LabelWords, by_number, by_handle, PathWords, SideWords, ChangeWords, RingWords, change_map, ring_map}
use Rattle.change_places.specs.PlacesText.{places_text}
use Rattle.change_places.specs.PlacesValue.{places_value, places_whole}

-- a name is text without control characters
pub record IsPrintedName (name : List ℕ) : Type 0 where
  pub utf8 : IsUtf8 name
  pub printable : IsPrintable name

-- ---- numbers fit their fields
abbrev pub IsPointHeld : Pt → Type 0
IsPointHeld point = (unsigned_abs point.x < 2 ^ 64) × (unsigned_abs point.y < 2 ^ 64)

abbrev pub IsAtHeld : Option ℕ → Type 0
IsAtHeld None = Unit {0}
IsAtHeld (Some at) = at < 2 ^ 32

abbrev pub IsLabelHeld : Option LabelWords → Type 0
IsLabelHeld (Some (by_number one)) = one < 2 ^ 32
IsLabelHeld label = Unit {0}

pub record IsPathHeld {C : Type 0} (path : PathWords C) : Type 0 where
  pub at : IsAtHeld path.at
  pub feature : IsLabelHeld path.feature

pub record IsSideHeld {C : Type 0} (side : SideWords C) : Type 0 where
  pub from : IsPlaceHeld side.from
  pub path : IsPathHeld side.path
  pub a : IsPointHeld side.a
  pub b : IsPointHeld side.b

pub record IsChangeHeld {C : Type 0} (change : ChangeWords C) : Type 0 where
  pub first : IsSideHeld change.first
  pub second : IsSideHeld change.second
  pub gap : change.gap < 2 ^ 64
  pub place : IsPointHeld change.place

abbrev pub IsSpotHeld : Spot → Type 0
IsSpotHeld spot = (spot.layer < 2 ^ 32) × (spot.path < 2 ^ 32) × (spot.vertex < 2 ^ 32)

abbrev pub IsSideChangeHeld : SideChange → Type 0
IsSideChangeHeld (Turn layer path was now) = (layer < 2 ^ 32) × (path < 2 ^ 32)
IsSideChangeHeld (Point layer path at was now) = (layer < 2 ^ 32) × (path < 2 ^ 32) × IsSpotHeld at

pub record IsRingHeld {C : Type 0} (one : RingWords C) : Type 0 where
  pub change : IsSideChangeHeld one.change
  pub ring : IsPathHeld one.ring
  pub point : IsPathHeld one.point
  pub place : IsPointHeld one.place

-- ---- texts that are copied
-- a handle is one of hexadecimal digits
abbrev pub IsLabelCopied : Option LabelWords → Type 0
IsLabelCopied (Some (by_handle text)) = is_hexadecimal text ≡ true
IsLabelCopied label = Unit {0}

-- a text is that of a JSON value
abbrev pub IsTextCopied : Option (List ℕ) → Type 0
IsTextCopied None = Unit {0}
IsTextCopied (Some text) = IsValueText text

pub record IsPathCopied (path : PathWords (List ℕ)) : Type 0 where
  pub feature : IsLabelCopied path.feature
  pub id : IsTextCopied path.id
  pub name : IsTextCopied path.name

pub record IsChangeCopied (change : ChangeWords (List ℕ)) : Type 0 where
  pub first : IsPathCopied change.first.path
  pub second : IsPathCopied change.second.path

pub record IsRingCopied (one : RingWords (List ℕ)) : Type 0 where
  pub ring : IsPathCopied one.ring
  pub point : IsPathCopied one.point

-- ---- the law
-- how deep the text nests at most: four levels around the values that are copied
abbrev pub places_depth : ℕ
places_depth = 4 + DEEPEST

-- the text is that of the changes' value, in which values stand for the texts that are copied, and of no other
pub record IsPlacesJson (style : Style) (names : List (List ℕ)) (changes : List (ChangeWords (List ℕ)))
    (rings : List (RingWords (List ℕ))) : Type 0 where
  pub values : List (ChangeWords Json)
  pub ring_values : List (RingWords Json)
  pub spelled : changes ≡ map (change_map spelling) values
  pub rings_spelled : rings ≡ map (ring_map spelling) ring_values
  pub whole : IsWhole places_depth (places_whole style names values ring_values) (places_text style names changes rings)
  pub one : (depth : ℕ) (other : Whole) → IsWhole depth other (places_text style names changes rings)
      → other.value ≡ places_value style names values ring_values

-- the number of changes fits its field, and so do the numbers of each, and what is copied into each is a value
pub record AreChangesHeld (changes : List (ChangeWords (List ℕ))) : Type 0 where
  pub held : AllByRecursion IsChangeHeld changes
  pub copied : AllByRecursion IsChangeCopied changes
  pub few : length changes < 2 ^ 64

pub record AreRingsHeld (rings : List (RingWords (List ℕ))) : Type 0 where
  pub held : AllByRecursion IsRingHeld rings
  pub copied : AllByRecursion IsRingCopied rings
  pub few : length rings < 2 ^ 64

abbrev pub PlacesAreJson : Type 0
PlacesAreJson =
    (style : Style) (names : List (List ℕ)) (changes : List (ChangeWords (List ℕ))) (rings : List (RingWords (List ℕ)))
    → AllByRecursion IsPrintedName names → AreChangesHeld changes → AreRingsHeld rings
    → IsPlacesJson style names changes rings
