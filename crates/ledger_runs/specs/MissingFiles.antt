-- Which file is missing where a run ends for reading: the script, or one of the files of the line that is named.
use Rattle.std.specs.Prelude.{◌≡◌, ℕ, List, [], ◌∷◌, codes, Contains, Option, None, Some, IfSome}
use Rattle.shelf_io.specs.Files.{Files, bytes_of}
use Rattle.ledger_script.specs.declared.script_lines.ScriptLine.{ScriptLine}
use Rattle.ledger_script.specs.declared.script_lines.ScriptLine.TheVariants as asks
use Rattle.ledger_runs.specs.declared.scripts.AskedLine.{AskedLine}
use Rattle.ledger_runs.specs.declared.refusals.LedgerRefusal.{LedgerRefusal}
use Rattle.ledger_runs.specs.declared.refusals.LedgerRefusal.TheVariants.{ScriptUnread, FileUnread}
use Rattle.ledger_runs.specs.Words.{AreNames}
use Rattle.ledger_runs.specs.Refusals.{line_of}
use Rattle.ledger_runs.specs.Outcome.{IsScript, IsRead}

-- the files that a line names
abbrev pub names_of : ScriptLine → List (List ℕ)
names_of (asks.Enter report layers) = report ∷ layers
names_of (asks.Decide run place mark) = []
names_of (asks.List run) = []
names_of (asks.Clear run) = []

-- one of these names is missing
abbrev pub LacksSome : List (List ℕ) → Files → Type 0
LacksSome names files = (name : List ℕ) × Contains names name × (bytes_of files name ≡ None)

-- one of the lines has this number, and a file is missing that it names
abbrev pub LacksFileAt : List AskedLine → Files → ℕ → Type 0
LacksFileAt asked files number =
    (line : AskedLine) × Contains asked line × (line.line ≡ number) × LacksSome (names_of line.asks) files

-- the script is missing
abbrev pub LacksScript : List (List ℕ) → Files → Type 0
LacksScript words files = (name : List ℕ) × AreNames words name × (bytes_of files name ≡ None)

-- the script is there, and a file is missing that its line of this number names
abbrev pub LacksFileOf : List (List ℕ) → Files → ℕ → Type 0
LacksFileOf words files number =
    (bytes : List ℕ) × (asked : List AskedLine) × IsScript words files bytes × IsRead bytes asked
    × LacksFileAt asked files number

-- The shelf states its files, and the one is missing that the refusal is about: the script, or a file of the line that it
-- names. No other refusal is about a missing file.
abbrev pub LacksNamed : List (List ℕ) → Option Files → LedgerRefusal → Type 0
LacksNamed words None refusal = ⊥
LacksNamed words (Some files) ScriptUnread = LacksScript words files
LacksNamed words (Some files) (FileUnread line) = LacksFileOf words files line
LacksNamed words (Some files) refusal = ⊥

-- such a refusal is printed: its line is all that is made
abbrev pub LacksPrinted : List (List ℕ) → Option Files → Option Files → Type 0
LacksPrinted words told made =
    (refusal : LedgerRefusal) × LacksNamed words told refusal
    × IfSome made (λ all. all ≡ (codes "-", line_of refusal) ∷ [])
