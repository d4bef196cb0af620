-- How a run ends that is refused, and the line that says why.
use Rattle.std.specs.Prelude.{ℕ, List, ◌++◌, codes, decimal}
use Rattle.ledger_runs.specs.declared.refusals.LedgerRefusal.{LedgerRefusal}
use Rattle.ledger_runs.specs.declared.refusals.LedgerRefusal.TheVariants as refusals
use Rattle.ledger_runs.specs.declared.status.LedgerStatus.{LedgerStatus}
use Rattle.ledger_runs.specs.declared.status.LedgerStatus.TheVariants.{Words, Script, Report, Read, Memory, Limit, Keeper}

abbrev pub status_of : LedgerRefusal → LedgerStatus
status_of refusals.Words = Words
status_of refusals.ScriptUnread = Read
status_of refusals.ScriptBytes = Limit
status_of refusals.ScriptLines = Limit
status_of (refusals.BadLine line) = Script
status_of (refusals.FileUnread line) = Read
status_of refusals.ReportBytes = Limit
status_of (refusals.BadReport line bad) = Report
status_of (refusals.LayerCount line) = Report
status_of refusals.LayerBytes = Limit
status_of (refusals.NoMemory done) = Memory
status_of (refusals.KeeperFailed done) = Keeper

-- the line, with its line feed
abbrev pub line_of : LedgerRefusal → List ℕ
line_of refusals.Words = codes "words: not understood\n"
line_of refusals.ScriptUnread = codes "read fault: script\n"
line_of refusals.ScriptBytes = codes "limit: bytes of script\n"
line_of refusals.ScriptLines = codes "limit: lines of script\n"
line_of (refusals.BadLine line) = codes "script: bad at line " ++ decimal line ++ codes "\n"
line_of (refusals.FileUnread line) = codes "read fault: line " ++ decimal line ++ codes "\n"
line_of refusals.ReportBytes = codes "limit: bytes of reports\n"
line_of (refusals.BadReport line bad) =
    codes "report of line " ++ decimal line ++ codes ": bad at line " ++ decimal bad ++ codes "\n"
line_of (refusals.LayerCount line) = codes "report of line " ++ decimal line ++ codes ": layers\n"
line_of refusals.LayerBytes = codes "limit: bytes of layers\n"
line_of (refusals.NoMemory done) = codes "stopped: no memory after " ++ decimal done ++ codes " commands\n"
line_of (refusals.KeeperFailed done) = codes "stopped: keeper fault after " ++ decimal done ++ codes " commands\n"

-- with what each line begins that says that a limit on bytes is passed, and with what only the line of the reports, and
-- only that of the layers
abbrev pub limit_front : List ℕ
limit_front = codes "limit: bytes of"

abbrev pub reports_front : List ℕ
reports_front = codes "limit: bytes of r"

abbrev pub layers_front : List ℕ
layers_front = codes "limit: bytes of l"
