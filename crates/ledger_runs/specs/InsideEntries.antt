-- Why single steps of reading the files of a script end early. Only private functions speak of it.
use Rattle.std.specs.Prelude.{◌≡◌, ◌⊎◌, ℕ, List}
use Rattle.shelf_io.specs.Files.{Files}
use Rattle.shelf_io.specs.Load.{IsLonger}
use Rattle.report_text.specs.Beginnings.{IsBadAt}
use Rattle.ledger_runs.specs.declared.commands.TheConstants.{MOST_LAYER}
use Rattle.ledger_runs.specs.declared.scripts.AskedLine.{AskedLine}
use Rattle.ledger_runs.specs.declared.refusals.LedgerRefusal.{LedgerRefusal}
use Rattle.ledger_runs.specs.declared.refusals.LedgerRefusal.TheVariants.{FileUnread, ReportBytes, BadReport, LayerBytes}
use Rattle.ledger_runs.specs.Entries.{IsLayerRefused, IsEntryRefused, IsLineRefused, IsRefusedAt}
use Rattle.ledger_runs.specs.InsideSteps.{IsEarly}

abbrev pub ReportFails : (List ℕ → Type 0) → Files → ℕ → ℕ → List ℕ → LedgerRefusal → Type 0
ReportFails unread files left line name refusal =
    IsEarly refusal ⊎ (((refusal ≡ FileUnread line) × unread name) ⊎ ((refusal ≡ ReportBytes) × IsLonger name left files))

abbrev pub TextFails : List ℕ → ℕ → LedgerRefusal → Type 0
TextFails bytes line refusal =
    IsEarly refusal ⊎ ((bad : ℕ) × (refusal ≡ BadReport line bad) × IsBadAt bytes bad)

abbrev pub DigestFails : (List ℕ → Type 0) → Files → ℕ → List ℕ → LedgerRefusal → Type 0
DigestFails unread files line name refusal =
    ((refusal ≡ FileUnread line) × unread name) ⊎ ((refusal ≡ LayerBytes) × IsLonger name MOST_LAYER files)

abbrev pub LayersFail : (List ℕ → Type 0) → Files → ℕ → List (List ℕ) → LedgerRefusal → Type 0
LayersFail unread files line layers refusal = IsLayerRefused unread files line layers refusal

abbrev pub EntryFails : (List ℕ → Type 0) → Files → ℕ → ℕ → List ℕ → List (List ℕ) → LedgerRefusal → Type 0
EntryFails unread files left line report layers refusal =
    IsEarly refusal ⊎ IsEntryRefused unread files left line report layers refusal

abbrev pub CommandFails : (List ℕ → Type 0) → Files → ℕ → AskedLine → LedgerRefusal → Type 0
CommandFails unread files left asked refusal =
    IsEarly refusal ⊎ IsLineRefused unread files left asked.line asked.asks refusal

abbrev pub CommandsFail : (List ℕ → Type 0) → Files → ℕ → List AskedLine → LedgerRefusal → Type 0
CommandsFail unread files left asked refusal = IsEarly refusal ⊎ IsRefusedAt unread files left asked refusal
