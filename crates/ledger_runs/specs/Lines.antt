-- The lines of a script, and what they ask for.
use Rattle.std.specs.Prelude.{◌≡◌, ◌⊎◌, ℕ, ◌+◌, ◌==◌, if◌then◌else◌, List, [], ◌∷◌}
use Rattle.ledger_script.specs.declared.script_lines.ScriptLine.{ScriptLine}
use Rattle.ledger_script.specs.ScriptText.{IsLineText}
use Rattle.ledger_runs.specs.declared.scripts.TheConstants.{LINE_FEED}
use Rattle.ledger_runs.specs.declared.scripts.AskedLine.{AskedLine}

-- the byte is in the first of these lines, or it is all of one
abbrev pub with_byte : ℕ → List (List ℕ) → List (List ℕ)
with_byte byte [] = (byte ∷ []) ∷ []
with_byte byte (line ∷ lines) = (byte ∷ line) ∷ lines

-- the lines of a text: each is ended by a line feed or by the end of the text, after which there is no further line
abbrev pub lines_of : List ℕ → List (List ℕ)
lines_of [] = []
lines_of (byte ∷ text) = if byte == LINE_FEED then [] ∷ lines_of text else with_byte byte (lines_of text)

-- what the lines ask for that are not empty, where the first line has this number
abbrev pub AreAsked : ℕ → List (List ℕ) → List AskedLine → Type 0
AreAsked number [] [] = Unit {0}
AreAsked number [] (asked ∷ more) = ⊥
AreAsked number ([] ∷ lines) all = AreAsked (number + 1) lines all
AreAsked number ((byte ∷ line) ∷ lines) [] = ⊥
AreAsked number ((byte ∷ line) ∷ lines) (asked ∷ more) =
    (asked.line ≡ number) × IsLineText (byte ∷ line) asked.asks × AreAsked (number + 1) lines more

-- the line has none of the forms
abbrev pub HasNoForm : List ℕ → Type 0
HasNoForm line = (asks : ScriptLine) → IsLineText line asks → ⊥

-- the line of this number is the first of no form, empty ones left out
abbrev pub IsFirstBad : ℕ → List (List ℕ) → ℕ → Type 0
IsFirstBad number [] bad = ⊥
IsFirstBad number ([] ∷ lines) bad = IsFirstBad (number + 1) lines bad
IsFirstBad number ((byte ∷ line) ∷ lines) bad =
    ((bad ≡ number) × HasNoForm (byte ∷ line))
    ⊎ ((asks : ScriptLine) × IsLineText (byte ∷ line) asks × IsFirstBad (number + 1) lines bad)
