-- Each text is a layer, or has a fault.
use Rattle.std.proofs.Common.{◌≡◌, inl, inr, ℕ, Bool, List, refl}
use Rattle.std.specs.Prelude.{Result, Ok, Err}
use Rattle.jtext.specs.Texts.{Whole, IsWhole, HasOutcome as HasTextOutcome}
use Rattle.jtext.specs.declared.json_texts.TheConstants.{DEEPEST}
use Rattle.sheet_base.specs.declared.faults.LayerFault.{LayerFault}
use Rattle.sheet_base.specs.declared.faults.LayerFault.TheVariants.{Bad, Deep}
use Rattle.sheet_base.specs.Outcomes.{HasOutcome}
use Rattle.gj_layer.specs.Paths.{Part, sheet_of}
use Rattle.gj_layer.specs.Layers.{layer_reading, IsGeoJsonReadAs, IsGeoJsonRefusedBy}

-- what the value of a text is read as is a sheet or a fault
value_outcome : (exact : Bool) (bytes : List ℕ) (whole : Whole) → IsWhole DEEPEST whole bytes
    → (answer : Result Part LayerFault) → layer_reading exact whole ≡ answer
    → HasOutcome (IsGeoJsonReadAs exact bytes) (IsGeoJsonRefusedBy exact bytes)
value_outcome exact bytes whole text (Ok part) is = inl (sheet_of part, (part, (whole, text, is), refl))
value_outcome exact bytes whole text (Err fault) is = inr (fault, inr (whole, text, is))

text_outcome : (exact : Bool) (bytes : List ℕ) → HasTextOutcome bytes
    → HasOutcome (IsGeoJsonReadAs exact bytes) (IsGeoJsonRefusedBy exact bytes)
text_outcome exact bytes (inl (whole, text)) = value_outcome exact bytes whole text (layer_reading exact whole) refl
text_outcome exact bytes (inr (inl (at, bad))) = inr (Bad at, inl bad)
text_outcome exact bytes (inr (inr (at, deep))) = inr (Deep at, inl deep)

-- each text is a JSON text or has a fault as one
pub outcome_exists : ((bytes : List ℕ) → HasTextOutcome bytes) → (exact : Bool) (bytes : List ℕ)
    → HasOutcome (IsGeoJsonReadAs exact bytes) (IsGeoJsonRefusedBy exact bytes)
outcome_exists texts exact bytes = text_outcome exact bytes (texts bytes)
