-- Laws of the texts of reports, and of what reading answers.
use Rattle.std.specs.Prelude.{◌≡◌, ◌⊎◌, ℕ, List, Result, Ok, Err}
use Rattle.report_text.specs.declared.faults.ReportFault.{ReportFault}
use Rattle.report_text.specs.declared.faults.ReportFault.TheVariants.{Bad, NoMemory}
use Rattle.report_text.specs.Beginnings.{IsReportText, IsBadAt, IsFaultOf}
use Rattle.report_text.specs.Reports.{ReportContents}
use Rattle.report_text.specs.ReportText.{report_text}

-- bytes are the text of one report
abbrev pub TextsAreOne : Type 0
TextsAreOne = (bytes : List ℕ) (report other : ReportContents) → IsReportText bytes report → IsReportText bytes other
    → report ≡ other

-- bytes are bad at one line
abbrev pub BadLinesAreOne : Type 0
BadLinesAreOne = (bytes : List ℕ) (line other : ℕ) → IsBadAt bytes line → IsBadAt bytes other → line ≡ other

-- any bytes are the text of some report, or bad at some line
abbrev pub OutcomeExists : Type 0
OutcomeExists = (bytes : List ℕ) → ((report : ReportContents) × IsReportText bytes report)
    ⊎ ((line : ℕ) × IsBadAt bytes line)

-- ---- writing and reading

-- what reading may answer to the bytes: a report whose text they are, or a fault of theirs
abbrev pub IsAnswerTo : List ℕ → Result ReportContents ReportFault → Type 0
IsAnswerTo bytes (Ok report) = IsReportText bytes report
IsAnswerTo bytes (Err fault) = IsFaultOf bytes fault

-- the answer is this report, unless memory runs out
abbrev pub GivesBack : ReportContents → Result ReportContents ReportFault → Type 0
GivesBack report (Ok read) = read ≡ report
GivesBack report (Err (Bad line)) = ⊥
GivesBack report (Err NoMemory) = Unit {0}

-- reading what was written of a report gives the report back
abbrev pub WrittenIsRead : Type 0
WrittenIsRead = (bytes : List ℕ) (report : ReportContents) (answer : Result ReportContents ReportFault)
    → IsReportText bytes report
    → IsAnswerTo bytes answer → GivesBack report answer

-- of what is read the same bytes are written
abbrev pub ReadIsWritten : Type 0
ReadIsWritten = (bytes : List ℕ) (report : ReportContents) → IsAnswerTo bytes (Ok report) → report_text report ≡ bytes
