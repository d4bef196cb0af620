-- A layer that is read once more, by the format of its name.
use Rattle.std.specs.Prelude.{ℕ, List, Option, Some, None}
use Rattle.sheet_base.specs.declared.flags.How.{How}
use Rattle.sheet_base.specs.Sheets.{Contents}
use Rattle.job_words.specs.declared.formats.Format.{Format}
use Rattle.layer_formats.specs.LayerOutcomes.{IsLayerText}

-- there is such a format, and in it the text is a layer of this sheet
abbrev pub IsLayerIn : Option Format → How → List ℕ → Contents → Type 0
IsLayerIn None how text sheet = ⊥
IsLayerIn (Some format) how text sheet = IsLayerText how format text sheet
