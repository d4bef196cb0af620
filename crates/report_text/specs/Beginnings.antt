-- Which bytes are the text of a report, and where others stop being the beginning of one.
use Rattle.std.specs.Prelude.{◌≡◌, ◌≢◌, ℕ, ◌+◌, List, [], ◌∷◌, ◌++◌, length}
use Rattle.std.specs.List.{AllByRecursion}
use Rattle.text_places.specs.Places.{Begins}
use Rattle.report_text.specs.declared.lines.TheConstants.{LINE_FEED}
use Rattle.report_text.specs.declared.faults.ReportFault.{ReportFault}
use Rattle.report_text.specs.declared.faults.ReportFault.TheVariants.{Bad, NoMemory}
use Rattle.report_text.specs.Reports.{ReportContents, IsReport, IsHeld}
use Rattle.report_text.specs.ReportText.{report_text, text_of_lines}

-- the bytes are the text of this report
pub record IsReportText (bytes : List ℕ) (report : ReportContents) : Type 0 where
  pub kept : IsReport report
  pub held : IsHeld report
  pub spelled : bytes ≡ report_text report

-- the bytes are the text of some report
abbrev pub IsSomeText : List ℕ → Type 0
IsSomeText bytes = (report : ReportContents) × IsReportText bytes report

abbrev pub IsLine : List ℕ → Type 0
IsLine line = AllByRecursion (λ byte. byte ≢ LINE_FEED) line

-- The line of this number, counted from 1, is the first up to which no report's text begins with the bytes: some
-- report's text begins with the lines before it, and none with it too. Where the bytes end in it, they are no report's
-- text.
pub record IsBadAt (bytes : List ℕ) (number : ℕ) : Type 0 where
  pub before : List (List ℕ)
  pub rest : List ℕ
  pub whole : bytes ≡ text_of_lines before ++ rest
  pub are_lines : AllByRecursion IsLine before
  pub counted : number ≡ length before + 1
  pub begun : Begins IsSomeText (text_of_lines before)
  pub stops : (line more : List ℕ) → IsLine line → rest ≡ line ++ LINE_FEED ∷ more
      → Begins IsSomeText (text_of_lines before ++ (line ++ LINE_FEED ∷ [])) → ⊥
  pub no_text : IsSomeText bytes → ⊥

-- what a fault says of the bytes
abbrev pub IsFaultOf : List ℕ → ReportFault → Type 0
IsFaultOf bytes (Bad line) = IsBadAt bytes line
IsFaultOf bytes NoMemory = Unit {0}
