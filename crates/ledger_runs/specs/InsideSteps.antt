-- What single steps of a run answer. Only private functions speak of it.
use Rattle.std.specs.Prelude.{◌≡◌, ◌⊎◌, ◌<◌, ◌≤◌, ℕ, List, [], ◌∷◌, ◌++◌, length}
use Rattle.std.specs.List.{AllByRecursion}
use Rattle.shelf_io.specs.Files.{Files}
use Rattle.shelf_io.specs.Load.{IsLonger}
use Rattle.ledger_core.specs.declared.limits.TheConstants.{MOST_COMMANDS}
use Rattle.ledger_runs.specs.declared.scripts.TheConstants.{MOST_BYTES, LINE_FEED}
use Rattle.ledger_runs.specs.declared.refusals.LedgerRefusal.{LedgerRefusal}
use Rattle.ledger_runs.specs.declared.refusals.LedgerRefusal.TheVariants.{ScriptUnread, ScriptBytes, ScriptLines, BadLine, NoMemory}
use Rattle.ledger_runs.specs.Lines.{lines_of, HasNoForm, IsFirstBad}

-- no line feed is in it
abbrev pub IsLine : List ℕ → Type 0
IsLine line = AllByRecursion (λ byte. byte ≡ LINE_FEED → ⊥) line

-- the text is this line, ended by a line feed or by the end of the text, and what comes after it
pub record IsFirstLine (text line behind : List ℕ) : Type 0 where
  pub line_is : IsLine line
  pub whole : (text ≡ line ++ LINE_FEED ∷ behind) ⊎ ((text ≡ line) × (behind ≡ []))

-- memory ran out before the first command
abbrev pub IsEarly : LedgerRefusal → Type 0
IsEarly refusal = refusal ≡ NoMemory 0

abbrev pub ScriptFails : (List ℕ → Type 0) → Files → List ℕ → LedgerRefusal → Type 0
ScriptFails unread files name refusal =
    IsEarly refusal ⊎ (((refusal ≡ ScriptUnread) × unread name) ⊎ ((refusal ≡ ScriptBytes) × IsLonger name MOST_BYTES files))

abbrev pub LineFails : List ℕ → ℕ → LedgerRefusal → Type 0
LineFails line number refusal = IsEarly refusal ⊎ ((refusal ≡ BadLine number) × HasNoForm line)

abbrev pub ReadingFails : ℕ → List (List ℕ) → LedgerRefusal → Type 0
ReadingFails number lines refusal =
    IsEarly refusal ⊎ ((bad : ℕ) × (refusal ≡ BadLine bad) × IsFirstBad number lines bad)

abbrev pub ScriptReadingFails : List ℕ → LedgerRefusal → Type 0
ScriptReadingFails text refusal =
    ((refusal ≡ ScriptLines) × (MOST_COMMANDS ≤ length (lines_of text)))
    ⊎ ((length (lines_of text) < MOST_COMMANDS) × ReadingFails 1 (lines_of text) refusal)
