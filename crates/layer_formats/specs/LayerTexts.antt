-- What each format reads of a layer's text, and what it writes in the place of its points.
use Rattle.std.specs.Prelude.{◌≡◌, ℕ, Bool, true, false, List, Ok, Err}
use Rattle.sheet_base.specs.declared.edits.Edit.{Edit}
use Rattle.sheet_base.specs.declared.faults.LayerFault.{LayerFault}
use Rattle.sheet_base.specs.declared.flags.How.{How}
use Rattle.sheet_base.specs.ImageFits.{Runs}
use Rattle.sheet_base.specs.Sheets.{Contents}
use Rattle.dxf_layer.specs.Drawings.{drawing_sheet}
use Rattle.dxf_layer.specs.ReadBack.{DoesReadBack as DoesDrawingReadBack}
use Rattle.dxf_copies.specs.Rendering.{drawing_text}
use Rattle.gj_layer.specs.Layers.{IsGeoJsonReadAs, IsGeoJsonRefusedBy}
use Rattle.gj_layer.specs.Texts.{geojson_edit_text}
use Rattle.wkt_layer.specs.Layers.{IsWktReadAs, IsWktRefusedBy}
use Rattle.wkt_layer.specs.Texts.{wkt_edit_text}
use Rattle.job_words.specs.declared.formats.Format.{Format}
use Rattle.job_words.specs.declared.formats.Format.TheVariants.{Wkt, GeoJson, Drawing}

-- the text is a layer of this sheet
abbrev pub reads_of : Format → How → List ℕ → Contents → Type 0
reads_of Wkt how text sheet = IsWktReadAs how.exact text sheet
reads_of GeoJson how text sheet = IsGeoJsonReadAs how.exact text sheet
reads_of Drawing how text sheet = drawing_sheet how text ≡ Ok sheet

-- the text is no layer, and this is its first fault
abbrev pub refuses_of : Format → How → List ℕ → LayerFault → Type 0
refuses_of Wkt how text fault = IsWktRefusedBy how.exact text fault
refuses_of GeoJson how text fault = IsGeoJsonRefusedBy how.exact text fault
refuses_of Drawing how text fault = drawing_sheet how text ≡ Err fault

-- what takes the place of an edit's bytes, for the images of a sheet
abbrev pub text_of : Format → List ℕ → How → Contents → Runs → Edit → List ℕ
text_of Wkt text how sheet images edit = wkt_edit_text sheet images edit
text_of GeoJson text how sheet images edit = geojson_edit_text sheet images edit
text_of Drawing text how sheet images edit = drawing_text text sheet images edit

-- what is written of the text's sheet with these images is read back; drawings alone except some, where the next
-- handle after the last one given is too long to be read
abbrev pub reads_back_of : Format → How → List ℕ → Contents → Runs → Type 0
reads_back_of Wkt how text sheet images = Unit {0}
reads_back_of GeoJson how text sheet images = Unit {0}
reads_back_of Drawing how text sheet images = DoesDrawingReadBack how text sheet images

-- whether it is the format of drawings, whose extents a report names
abbrev pub is_drawing : Format → Bool
is_drawing Wkt = false
is_drawing GeoJson = false
is_drawing Drawing = true
