-- Where the paths of one layer begin, or why it is not read. Only private functions speak of it.
use Rattle.std.specs.Prelude.{◌≡◌, ◌+◌, ℕ, Bool, true, List, [], ◌∷◌, map, get_or, Option, None, Some}
use Rattle.std.specs.Option.{option_map}
use Rattle.sheet_base.specs.declared.flags.How.{How}
use Rattle.sheet_base.specs.Sheets.{Contents}
use Rattle.tin_base.specs.Triangulation.{Triangulation}
use Rattle.job_words.specs.declared.formats.Format.{Format}
use Rattle.runs.specs.declared.refusal.Refusal.{Refusal}
use Rattle.layer_formats.specs.LayerOutcomes.{IsLayerText}
use Rattle.migrate_mode.specs.RunContents.{IsUncarried}
use Rattle.layer_features.specs.declared.features.Feature.{Feature}
use Rattle.layer_features.specs.declared.features.Label.TheVariants.{Number}
use Rattle.change_places.specs.declared.spots.PathSpot.{PathSpot}
use Rattle.change_places.specs.PathPlaces.{path_places}
use Rattle.change_places.specs.Words.{path_words}
use Rattle.place_runs.specs.Places.{feature_there, ArePathWords}

-- the bytes are read as some sheet, whose paths begin at these places and lines
abbrev pub HasPlacesAs : (Contents → Type 0) → Bool → List ℕ → List (Option ℕ) → List (Option ℕ) → Type 0
HasPlacesAs reads drawing bytes places lines = (sheet : Contents) × reads sheet
    × (places ≡ path_places drawing bytes sheet) × (lines ≡ path_places true bytes sheet)

-- a path that begins at this place and line
abbrev pub line_spot : Option ℕ → Option ℕ → PathSpot
line_spot at line = record { at = at; feature = option_map Number line; id = None; name = None }

-- paths that begin at these places, numbered from this number on among the lines
abbrev pub line_spots : ℕ → List (Option ℕ) → List (Option ℕ) → List PathSpot
line_spots number [] lines = []
line_spots number (at ∷ places) lines = line_spot at (get_or lines number None) ∷ line_spots (number + 1) places lines

-- a path that begins at this place and belongs to this feature, if it belongs to one
abbrev pub spot_in : Option ℕ → Option Feature → PathSpot
spot_in at None = record { at = at; feature = None; id = None; name = None }
spot_in at (Some feature) = record { at = at; feature = Some feature.label; id = feature.id; name = feature.name }

abbrev pub spot_there : List Feature → Option ℕ → PathSpot
spot_there features at = spot_in at (feature_there features at)

-- paths that begin at these places and lines, with these features, or with their lines where there are none
abbrev pub named_spots : Option (List Feature) → List (Option ℕ) → List (Option ℕ) → List PathSpot
named_spots None places lines = line_spots 0 places lines
named_spots (Some features) places lines = map (spot_there features) places

-- the bytes are read as some sheet of this format, whose paths are written there
abbrev pub HasPlaces : How → Option (List ℕ) → Format → List ℕ → List PathSpot → Type 0
HasPlaces how asked format bytes spots = (sheet : Contents) × IsLayerText how format bytes sheet
    × ArePathWords asked format bytes sheet (map (path_words bytes) spots)

-- the layer of this number is not read, so that no triangulation carries it, or memory ran out
abbrev pub LacksPlacesOf : How → Format → List ℕ → ℕ → Refusal → Type 0
LacksPlacesOf how format bytes number refusal = (tin : Triangulation) (before : ℕ)
    → IsUncarried how tin format bytes number before refusal
