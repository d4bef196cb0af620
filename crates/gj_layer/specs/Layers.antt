-- The bytes of a layer are one JSON text, and its value is read.
use Rattle.std.specs.Prelude.{◌≡◌, ◌⊎◌, ℕ, Bool, List, Result, Ok, Err}
use Rattle.jtext.specs.Texts.{Whole, IsWhole, IsBad, IsDeep}
use Rattle.jtext.specs.Places.{whole_start}
use Rattle.jtext.specs.declared.json_texts.TheConstants.{DEEPEST}
use Rattle.sheet_base.specs.declared.faults.LayerFault.{LayerFault}
use Rattle.sheet_base.specs.declared.faults.LayerFault.TheVariants.{Bad, Deep}
use Rattle.sheet_base.specs.Sheets.{Contents}
use Rattle.gj_layer.specs.declared.forms.Holder.TheVariants as holders
use Rattle.gj_layer.specs.declared.forms.ValueForm.TheVariants as forms
use Rattle.gj_layer.specs.Paths.{Part, sheet_of}
use Rattle.gj_layer.specs.Documents.{reading}

-- what the value of a whole text is read as
abbrev pub layer_reading : Bool → Whole → Result Part LayerFault
layer_reading exact whole = reading exact (forms.Object holders.Layer) 0 (whole_start whole) whole.value

-- the bytes are a JSON text whose value is read so
abbrev pub Answers : Bool → List ℕ → Result Part LayerFault → Type 0
Answers exact bytes answer = (whole : Whole) × IsWhole DEEPEST whole bytes × (layer_reading exact whole ≡ answer)

-- the bytes are read as this sheet
abbrev pub IsGeoJsonReadAs : Bool → List ℕ → Contents → Type 0
IsGeoJsonReadAs exact bytes sheet = (part : Part) × Answers exact bytes (Ok part) × (sheet ≡ sheet_of part)

-- the bytes are no JSON text, and this is their first fault
abbrev pub IsTextFault : List ℕ → LayerFault → Type 0
IsTextFault bytes (Bad at) = IsBad bytes at
IsTextFault bytes (Deep at) = IsDeep bytes at
IsTextFault bytes fault = ⊥

-- the bytes are refused by this fault: as a text, or else as a layer
abbrev pub IsGeoJsonRefusedBy : Bool → List ℕ → LayerFault → Type 0
IsGeoJsonRefusedBy exact bytes fault = IsTextFault bytes fault ⊎ Answers exact bytes (Err fault)
