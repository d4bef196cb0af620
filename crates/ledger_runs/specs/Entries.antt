-- The commands of a script's lines, whose files are read. A file is unread where it is missing, or where the shelf fails.
use Rattle.std.specs.Prelude.{◌≡◌, ◌≢◌, ◌⊎◌, ℕ, ◌-◌, ◌≤◌, List, [], ◌∷◌, ◌++◌, length, Some}
use Rattle.sha2.specs.Sha256.{sha256}
use Rattle.shelf_io.specs.Files.{Files, bytes_of}
use Rattle.shelf_io.specs.Load.{IsLonger}
use Rattle.file_digests.specs.Digests.{IsDigestOf}
use Rattle.report_text.specs.Reports.{ReportContents}
use Rattle.report_text.specs.Beginnings.{IsReportText, IsBadAt}
use Rattle.ledger_core.specs.declared.commands.Command.{Command}
use Rattle.ledger_core.specs.declared.commands.Command.TheVariants as commands
use Rattle.ledger_core.specs.declared.pairs.Seal.{Seal}
use Rattle.ledger_script.specs.declared.script_lines.ScriptLine.{ScriptLine}
use Rattle.ledger_script.specs.declared.script_lines.ScriptLine.TheVariants as asks
use Rattle.ledger_runs.specs.declared.commands.TheConstants.{MOST_LAYER}
use Rattle.ledger_runs.specs.declared.scripts.AskedLine.{AskedLine}
use Rattle.ledger_runs.specs.declared.refusals.LedgerRefusal.{LedgerRefusal}
use Rattle.ledger_runs.specs.declared.refusals.LedgerRefusal.TheVariants.{FileUnread, ReportBytes, BadReport, LayerCount, LayerBytes}

-- the digests of the layers, in order
abbrev pub AreDigests : Files → List (List ℕ) → List ℕ → Type 0
AreDigests files [] digests = digests ≡ []
AreDigests files (layer ∷ layers) digests =
    (first : List ℕ) × (more : List ℕ) × (digests ≡ first ++ more) × IsDigestOf layer MOST_LAYER first files × AreDigests files layers more

-- the digest of the digests of the report and of the layers
abbrev pub IsSealOf : Files → List ℕ → List (List ℕ) → Seal → Type 0
IsSealOf files report layers seal =
    (digests : List ℕ) × AreDigests files layers digests × (seal.bytes ≡ sha256 (sha256 report ++ digests))

-- the first layer that is not digested
abbrev pub IsLayerRefused : (List ℕ → Type 0) → Files → ℕ → List (List ℕ) → LedgerRefusal → Type 0
IsLayerRefused unread files line [] refusal = ⊥
IsLayerRefused unread files line (layer ∷ layers) refusal =
    ((refusal ≡ FileUnread line) × unread layer)
    ⊎ (((refusal ≡ LayerBytes) × IsLonger layer MOST_LAYER files)
    ⊎ ((digest : List ℕ) × IsDigestOf layer MOST_LAYER digest files × IsLayerRefused unread files line layers refusal))

-- a report of at most this many bytes, and its layers are as many as the line has
pub record IsReportRead (files : Files) (left : ℕ) (report : List ℕ) (bytes : List ℕ) (contents : ReportContents) : Type 0
  where
    pub there : bytes_of files report ≡ Some bytes
    pub few : length bytes ≤ left
    pub text : IsReportText bytes contents

-- a line that enters a run, where reports may have this many bytes: its command, and how many they may have after it
pub record IsEntry (files : Files) (left : ℕ) (report : List ℕ) (layers : List (List ℕ)) (command : Command) (behind : ℕ)
    : Type 0 where
  pub bytes : List ℕ
  pub contents : ReportContents
  pub seal : Seal
  pub read : IsReportRead files left report bytes contents
  pub layers_are : length contents.layers ≡ length layers
  pub sealed : IsSealOf files bytes layers seal
  pub is : command ≡ commands.Enter seal contents
  pub left_behind : behind ≡ left - length bytes

-- why it enters none, the first that applies
pub data IsEntryRefused (unread : List ℕ → Type 0) (files : Files) (left line : ℕ) (report : List ℕ)
    (layers : List (List ℕ)) (refusal : LedgerRefusal) : Type 0 where
  report_unread : refusal ≡ FileUnread line → unread report → IsEntryRefused unread files left line report layers refusal
  report_long : refusal ≡ ReportBytes → IsLonger report left files
      → IsEntryRefused unread files left line report layers refusal
  report_bad : (bytes : List ℕ) → (bad : ℕ) → bytes_of files report ≡ Some bytes → length bytes ≤ left
      → refusal ≡ BadReport line bad → IsBadAt bytes bad → IsEntryRefused unread files left line report layers refusal
  other_count : (bytes : List ℕ) → (contents : ReportContents) → IsReportRead files left report bytes contents
      → refusal ≡ LayerCount line → length contents.layers ≢ length layers
      → IsEntryRefused unread files left line report layers refusal
  layer_refused : (bytes : List ℕ) → (contents : ReportContents) → IsReportRead files left report bytes contents
      → length contents.layers ≡ length layers → IsLayerRefused unread files line layers refusal
      → IsEntryRefused unread files left line report layers refusal

-- the command of what a line asks for, and how many bytes reports may have after it
abbrev pub IsCommand : Files → ℕ → ScriptLine → Command → ℕ → Type 0
IsCommand files left (asks.Enter report layers) command behind = IsEntry files left report layers command behind
IsCommand files left (asks.Decide run place mark) command behind = (command ≡ commands.Decide run place mark) × (behind ≡ left)
IsCommand files left (asks.List run) command behind = (command ≡ commands.List run) × (behind ≡ left)
IsCommand files left (asks.Clear run) command behind = (command ≡ commands.Clear run) × (behind ≡ left)

abbrev pub IsLineRefused : (List ℕ → Type 0) → Files → ℕ → ℕ → ScriptLine → LedgerRefusal → Type 0
IsLineRefused unread files left line (asks.Enter report layers) refusal =
    IsEntryRefused unread files left line report layers refusal
IsLineRefused unread files left line (asks.Decide run place mark) refusal = ⊥
IsLineRefused unread files left line (asks.List run) refusal = ⊥
IsLineRefused unread files left line (asks.Clear run) refusal = ⊥

-- the commands of the lines, where reports may have this many bytes
abbrev pub AreCommands : Files → ℕ → List AskedLine → List Command → Type 0
AreCommands files left [] commands = commands ≡ []
AreCommands files left (asked ∷ more) commands =
    (command : Command) × (behind : ℕ) × (rest : List Command) × (commands ≡ command ∷ rest)
    × IsCommand files left asked.asks command behind × AreCommands files behind more rest

-- the first line that is refused
abbrev pub IsRefusedAt : (List ℕ → Type 0) → Files → ℕ → List AskedLine → LedgerRefusal → Type 0
IsRefusedAt unread files left [] refusal = ⊥
IsRefusedAt unread files left (asked ∷ more) refusal =
    IsLineRefused unread files left asked.line asked.asks refusal
    ⊎ ((command : Command) × (behind : ℕ) × IsCommand files left asked.asks command behind
    × IsRefusedAt unread files behind more refusal)
