-- What words and files ask for: commands, or a refusal.
use Rattle.std.specs.Prelude.{◌≡◌, ◌<◌, ◌≤◌, ℕ, List, length, Some}
use Rattle.shelf_io.specs.Files.{Files, bytes_of}
use Rattle.shelf_io.specs.Load.{IsLonger}
use Rattle.ledger_core.specs.declared.limits.TheConstants.{MOST_COMMANDS}
use Rattle.ledger_core.specs.declared.commands.Command.{Command}
use Rattle.ledger_runs.specs.declared.scripts.TheConstants.{MOST_BYTES}
use Rattle.ledger_runs.specs.declared.commands.TheConstants.{MOST_REPORTS}
use Rattle.ledger_runs.specs.declared.scripts.AskedLine.{AskedLine}
use Rattle.ledger_runs.specs.declared.refusals.LedgerRefusal.{LedgerRefusal}
use Rattle.ledger_runs.specs.declared.refusals.LedgerRefusal.TheVariants.{Words, ScriptUnread, ScriptBytes, ScriptLines, BadLine}
use Rattle.ledger_runs.specs.Words.{AreNames}
use Rattle.ledger_runs.specs.Lines.{lines_of, AreAsked, IsFirstBad}
use Rattle.ledger_runs.specs.Entries.{AreCommands, IsRefusedAt}

-- the words name a script of at most this many bytes
pub record IsScript (words : List (List ℕ)) (files : Files) (bytes : List ℕ) : Type 0 where
  pub name : List ℕ
  pub names : AreNames words name
  pub there : bytes_of files name ≡ Some bytes
  pub few : length bytes ≤ MOST_BYTES

-- its lines are fewer than the limit, and ask for this
pub record IsRead (bytes : List ℕ) (asked : List AskedLine) : Type 0 where
  pub few : length (lines_of bytes) < MOST_COMMANDS
  pub asks : AreAsked 1 (lines_of bytes) asked

-- the commands of the script, all of whose files are read
pub record IsPrepared (words : List (List ℕ)) (files : Files) (commands : List Command) : Type 0 where
  pub bytes : List ℕ
  pub asked : List AskedLine
  pub script : IsScript words files bytes
  pub read : IsRead bytes asked
  pub commands_are : AreCommands files MOST_REPORTS asked commands

-- The refusal, the first that applies: of the words, of the script's bytes and lines, and of the first line that enters a
-- run with files that are not as they should be.
pub data IsRefused (unread : List ℕ → Type 0) (words : List (List ℕ)) (files : Files) (refusal : LedgerRefusal) : Type 0
  where
    no_names : refusal ≡ Words → ((script : List ℕ) → AreNames words script → ⊥) → IsRefused unread words files refusal
    script_unread : (name : List ℕ) → AreNames words name → refusal ≡ ScriptUnread → unread name
        → IsRefused unread words files refusal
    script_long : (name : List ℕ) → AreNames words name → refusal ≡ ScriptBytes → IsLonger name MOST_BYTES files
        → IsRefused unread words files refusal
    many_lines : (bytes : List ℕ) → IsScript words files bytes → refusal ≡ ScriptLines
        → MOST_COMMANDS ≤ length (lines_of bytes) → IsRefused unread words files refusal
    bad_line : (bytes : List ℕ) → (line : ℕ) → IsScript words files bytes → length (lines_of bytes) < MOST_COMMANDS
        → refusal ≡ BadLine line → IsFirstBad 1 (lines_of bytes) line → IsRefused unread words files refusal
    bad_entry : (bytes : List ℕ) → (asked : List AskedLine) → IsScript words files bytes → IsRead bytes asked
        → IsRefusedAt unread files MOST_REPORTS asked refusal → IsRefused unread words files refusal
