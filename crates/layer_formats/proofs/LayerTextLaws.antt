-- The laws of the formats hold of a text of any format.
use Rattle.sheet_base.specs.Outcomes.{OutcomeIsOne, OutcomeExists}
use Rattle.job_words.specs.declared.formats.Format.TheVariants.{Wkt, GeoJson, Drawing}
use Rattle.layer_formats.specs.LayerTexts.{reads_of, refuses_of}
use Rattle.layer_formats.specs.LayerOutcomes.{LayerTextsAreOne, LayerOutcomesExist}

pub texts_are_one : OutcomeIsOne (reads_of Wkt) (refuses_of Wkt) → OutcomeIsOne (reads_of GeoJson) (refuses_of GeoJson)
    → OutcomeIsOne (reads_of Drawing) (refuses_of Drawing) → LayerTextsAreOne
texts_are_one wkt geojson drawings how Wkt text = wkt how text
texts_are_one wkt geojson drawings how GeoJson text = geojson how text
texts_are_one wkt geojson drawings how Drawing text = drawings how text

pub outcomes_exist : OutcomeExists (reads_of Wkt) (refuses_of Wkt)
    → OutcomeExists (reads_of GeoJson) (refuses_of GeoJson) → OutcomeExists (reads_of Drawing) (refuses_of Drawing)
    → LayerOutcomesExist
outcomes_exist wkt geojson drawings how Wkt text = wkt how text
outcomes_exist wkt geojson drawings how GeoJson text = geojson how text
outcomes_exist wkt geojson drawings how Drawing text = drawings how text
