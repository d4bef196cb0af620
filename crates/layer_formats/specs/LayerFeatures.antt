-- The features that name the paths of a layer.
use Rattle.std.specs.Prelude.{ℕ, List, Option, None, Some}
use Rattle.sheet_base.specs.declared.flags.How.{How}
use Rattle.sheet_base.specs.Sheets.{Contents}
use Rattle.job_words.specs.declared.formats.Format.{Format}
use Rattle.job_words.specs.declared.formats.Format.TheVariants.{Wkt, GeoJson, Drawing}
use Rattle.layer_features.specs.declared.features.Feature.{Feature}
use Rattle.layer_features.specs.JsonFeatures.{AreJsonFeatures}
use Rattle.layer_features.specs.DrawingFeatures.{AreDrawingFeatures}
use Rattle.layer_formats.specs.LayerOutcomes.{IsLayerText}

-- the text is a layer of this format, however it is read
abbrev pub IsSomeLayer : Format → List ℕ → Type 0
IsSomeLayer format text = (how : How) × (sheet : Contents) × IsLayerText how format text sheet

-- these features name the paths of a layer, with the member of this name of the properties of each, if one is asked for;
-- in well-known text none do
abbrev pub HasFeatures : Option (List ℕ) → Format → List ℕ → Option (List Feature) → Type 0
HasFeatures asked Wkt text None = Unit {0}
HasFeatures asked Wkt text (Some features) = ⊥
HasFeatures asked GeoJson text None = ⊥
HasFeatures asked GeoJson text (Some features) = AreJsonFeatures asked text features
HasFeatures asked Drawing text None = ⊥
HasFeatures asked Drawing text (Some features) = AreDrawingFeatures text features
