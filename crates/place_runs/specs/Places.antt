-- The places of the changes of a migration: their written segments, how far these are from each other, and where in
-- the layers their paths begin; and with them the places of the changes of sides.
use Rattle.std.specs.Prelude.{◌≡◌, ◌==◌, ℕ, Bool, true, false, not, if◌then◌else◌, List, [], ◌∷◌, codes, map, Contains, Option, None, Some, IfSome}
use Rattle.std.specs.List.{filter}
use Rattle.std.specs.Option.{option_map}
use Rattle.shelf_io.specs.Files.{Files, bytes_of}
use Rattle.sheet_base.specs.declared.flags.How.{How}
use Rattle.sheet_base.specs.Sheets.{Contents}
use Rattle.tin_base.specs.declared.pieces.Change.{Change}
use Rattle.tin_base.specs.declared.pieces.Piece.{Piece}
use Rattle.tin_base.specs.declared.pieces.Place.{Place}
use Rattle.tin_base.specs.Triangulation.{Triangulation}
use Rattle.seg_gap.specs.Gaps.{IsGap}
use Rattle.seg_gap.specs.Ends.{IsNearestEnd}
use Rattle.report_text.specs.declared.rows.LayerRow.{LayerRow}
use Rattle.job_words.specs.declared.formats.Format.{Format}
use Rattle.job_words.specs.declared.formats.Format.TheVariants.{Wkt, GeoJson, Drawing}
use Rattle.layer_features.specs.declared.features.Feature.{Feature}
use Rattle.layer_features.specs.Features.{feature_at}
use Rattle.layer_features.specs.JsonFeatures.{AreJsonFeatures}
use Rattle.layer_features.specs.DrawingFeatures.{AreDrawingFeatures}
use Rattle.layer_features.specs.Laws.{part_text}
use Rattle.job_words.specs.Formats.{format_by_name}
use Rattle.runs.specs.declared.status.Status.{Status}
use Rattle.migrate_mode.specs.declared.migrations.Migration.{Migration}
use Rattle.layer_formats.specs.LayerOutcomes.{IsLayerText}
use Rattle.migrate_mode.specs.LayerRuns.{setting_of, Done, AreCarried}
use Rattle.migrate_mode.specs.Migrations.{HasWayOver, row_of}
use Rattle.migrate_mode.specs.RunChanges.{AreListed, end_with}
use Rattle.change_places.specs.declared.spots.Style.{Style}
use Rattle.ring_side.specs.declared.kinds.SideChange.{SideChange}
use Rattle.change_places.specs.Words.{PathText, SideText, ChangeText, RingText, by_number, label_words}
use Rattle.change_places.specs.PathPlaces.{path_places, line_of}
use Rattle.change_places.specs.PlacesText.{places_text}
use Rattle.place_runs.specs.declared.views.View.{View}
use Rattle.place_runs.specs.WrittenPaths.{words_at}
use Rattle.place_runs.specs.SidePlaces.{HaveAskedRings}

-- ---- where the paths of layers begin
-- the feature that has the place at which a path begins
abbrev pub feature_there : List Feature → Option ℕ → Option Feature
feature_there features None = None
feature_there features (Some at) = feature_at features at

-- a path that begins at this place and belongs to this feature, if it belongs to one
abbrev pub words_in : List ℕ → Option ℕ → Option Feature → PathText
words_in bytes at None = record { at = at; feature = None; id = None; name = None }
words_in bytes at (Some feature) = record {
  at = at;
  feature = Some (label_words bytes feature.label);
  id = option_map (part_text bytes) feature.id;
  name = option_map (part_text bytes) feature.name;
}

abbrev pub words_there : List ℕ → List Feature → Option ℕ → PathText
words_there bytes features at = words_in bytes at (feature_there features at)

-- a path that begins at this byte, called by the line of the byte
abbrev pub words_by_line : List ℕ → Option ℕ → PathText
words_by_line bytes at = record {
  at = at;
  feature = option_map (λ start. by_number (line_of bytes start)) at;
  id = None;
  name = None;
}

-- The paths of a layer, in words. In GeoJSON a path belongs to the feature in whose text it begins, in a drawing to the
-- entity in whose lines it begins, and in WKT to the line at which it begins. A member of this name of the properties is
-- asked for, or none.
abbrev pub ArePathWords : Option (List ℕ) → Format → List ℕ → Contents → List PathText → Type 0
ArePathWords asked Wkt bytes sheet words = words ≡ map (words_by_line bytes) (path_places false bytes sheet)
ArePathWords asked GeoJson bytes sheet words = (features : List Feature) × AreJsonFeatures asked bytes features
    × (words ≡ map (words_there bytes features) (path_places false bytes sheet))
ArePathWords asked Drawing bytes sheet words = (features : List Feature) × AreDrawingFeatures bytes features
    × (words ≡ map (words_there bytes features) (path_places true bytes sheet))

-- the layer of this name is read, and its paths are written there
pub record HasPathPlaces (told : Option Files) (how : How) (asked : Option (List ℕ)) (name : List ℕ)
    (words : List PathText) : Type 0 where
  pub format : Format
  pub bytes : List ℕ
  pub sheet : Contents
  pub suffix : format_by_name name ≡ Some format
  pub found : IfSome told (λ files. bytes_of files name ≡ Some bytes)
  pub read : IsLayerText how format bytes sheet
  pub words_are : ArePathWords asked format bytes sheet words

-- so it is of the layers of these names, in order
abbrev pub HaveAllPlaces : Option Files → How → Option (List ℕ) → List (List ℕ) → List (List PathText)
    → Type 0
HaveAllPlaces told how asked [] [] = Unit {0}
HaveAllPlaces told how asked [] (words ∷ more) = ⊥
HaveAllPlaces told how asked (name ∷ names) [] = ⊥
HaveAllPlaces told how asked (name ∷ names) (words ∷ more) =
    HasPathPlaces told how asked name words × HaveAllPlaces told how asked names more

-- where the path of a piece is written, among the paths of all layers
abbrev pub words_among : List (List PathText) → Place → PathText
words_among places from = words_at places from.layer from.path

-- ---- one change
-- the side is that of some piece of this place: its written ends, and where its path begins
pub record IsSideOf (pieces : List Piece) (places : List (List PathText)) (from : Place) (side : SideText) : Type 0
  where
    pub piece : Piece
    pub is_some : Contains pieces piece
    pub place : piece.from ≡ from
    pub from_is : side.from ≡ from
    pub path_is : side.path ≡ words_among places from
    pub a_is : side.a ≡ piece.ia
    pub b_is : side.b ≡ piece.ib

-- the change with its two sides, its relations, the gap of the written segments and the end that is nearest to the
-- other segment
pub record IsSpotOf (pieces : List Piece) (places : List (List PathText)) (change : Change) (spot : ChangeText) : Type
    0 where
  pub first : IsSideOf pieces places change.first spot.first
  pub second : IsSideOf pieces places change.second spot.second
  pub was_is : spot.was ≡ change.was
  pub now_is : spot.now ≡ change.now
  pub gap_is : IsGap spot.first.a spot.first.b spot.second.a spot.second.b spot.gap
  pub place_is : IsNearestEnd spot.first.a spot.first.b spot.second.a spot.second.b spot.place

-- one for each change, in order
abbrev pub AreSpotsOf : List Piece → List (List PathText) → List Change → List ChangeText → Type 0
AreSpotsOf pieces places [] [] = Unit {0}
AreSpotsOf pieces places [] (spot ∷ spots) = ⊥
AreSpotsOf pieces places (change ∷ changes) [] = ⊥
AreSpotsOf pieces places (change ∷ changes) (spot ∷ spots) =
    IsSpotOf pieces places change spot × AreSpotsOf pieces places changes spots

-- ---- which of them are printed
-- the pieces of the change are of two layers
abbrev pub is_of_two : Change → Bool
is_of_two change = let first = change.first in let second = change.second in not (first.layer == second.layer)

-- those across layers, or all
abbrev pub printed_of : View → List Change → List Change
printed_of view changes = if view.across then filter is_of_two changes else changes

-- a member of properties is asked for
abbrev pub is_asked : Option (List ℕ) → Bool
is_asked None = false
is_asked (Some member) = true

-- how they are printed: with that member, if one is asked for
abbrev pub style_of : View → Style
style_of view = record { lines = view.lines; named = is_asked view.member }

-- ---- all of them
-- The layers are carried as a migration carries them. The text has a feature for each change of their pieces that is
-- printed, then one for each change of sides that is, and no other. The status says whether there is one.
pub record ArePlacesOf (view : View) (told : Option Files) (migration : Migration) (tin : Triangulation)
    (status : Status) (said : List ℕ) : Type 0 where
  pub pieces : List Piece
  pub done : List Done
  pub used : ℕ
  pub carried : AreCarried (setting_of told migration.how tin) 0 0 [] migration.layers pieces done used
  pub changes : List Change
  pub listed : AreListed tin pieces changes
  pub places : List (List PathText)
  pub have : HaveAllPlaces told migration.how view.member migration.layers places
  pub spots : List ChangeText
  pub are_spots : AreSpotsOf pieces places (printed_of view changes) spots
  pub sides : Option (List SideChange)
  pub rings : List RingText
  pub are_rings : HaveAskedRings migration.sides view.across (setting_of told migration.how tin) migration.layers places
      sides rings
  pub said_is : said ≡ places_text (style_of view) migration.layers spots rings
  pub status_is : status ≡ end_with (printed_of view changes) sides

-- What the shelf states gives this text alone, on standard output; where it states nothing some bytes do. Then it is not
-- said that the paths of a layer begin in the very bytes that are carried.
pub record IsPlacesDoneOver (view : View) (told : Option Files) (migration : Migration) (status : Status) (made : Files) :
    Type 0 where
  pub tin : Triangulation
  pub way : HasWayOver told migration tin
  pub said : List ℕ
  pub are : ArePlacesOf view told migration tin status said
  pub made_is : made ≡ (codes "-", said) ∷ []

abbrev pub IsPlacesDone : View → Files → Migration → Status → Files → Type 0
IsPlacesDone view files migration status made = IsPlacesDoneOver view (Some files) migration status made

-- what the report of the migration would say of each layer, of what the shelf states, or of some bytes where it states
-- nothing
pub record AreRowsOf (told : Option Files) (migration : Migration) (rows : List LayerRow) : Type 0 where
  pub tin : Triangulation
  pub way : HasWayOver told migration tin
  pub pieces : List Piece
  pub done : List Done
  pub used : ℕ
  pub carried : AreCarried (setting_of told migration.how tin) 0 0 [] migration.layers pieces done used
  pub rows_are : rows ≡ map row_of done
