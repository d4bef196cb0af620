-- Which texts a format reads as which sheets, and the laws that the formats keep.
use Rattle.std.specs.Prelude.{ℕ, List}
use Rattle.sheet_base.specs.declared.faults.LayerFault.{LayerFault}
use Rattle.sheet_base.specs.declared.flags.How.{How}
use Rattle.sheet_base.specs.Sheets.{Contents}
use Rattle.sheet_base.specs.Outcomes.{HasOneOutcome, HasOutcome}
use Rattle.job_words.specs.declared.formats.Format.{Format}
use Rattle.layer_formats.specs.LayerTexts.{reads_of, refuses_of}

-- the text is read as a layer of this sheet
abbrev pub IsLayerText : How → Format → List ℕ → Contents → Type 0
IsLayerText how format text sheet = reads_of format how text sheet

-- the text is no layer, and this is its first fault
abbrev pub LacksLayerText : How → Format → List ℕ → LayerFault → Type 0
LacksLayerText how format text fault = refuses_of format how text fault

-- a law: in each format a text is a layer of one sheet, or has one first fault, and not both
abbrev pub LayerTextsAreOne : Type 0
LayerTextsAreOne = (how : How) (format : Format) (text : List ℕ)
    → HasOneOutcome (IsLayerText how format text) (LacksLayerText how format text)

-- a law: in each format any text is a layer of some sheet, or has a first fault
abbrev pub LayerOutcomesExist : Type 0
LayerOutcomesExist = (how : How) (format : Format) (text : List ℕ)
    → HasOutcome (IsLayerText how format text) (LacksLayerText how format text)
