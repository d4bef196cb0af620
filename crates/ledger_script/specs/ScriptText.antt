-- The text of a script's line. Numbers are in digits without leading zeros, and one space is between two fields.
use Rattle.std.specs.Prelude.{◌≡◌, ℕ, ◌<◌, ◌^◌, List, [], ◌∷◌, ◌++◌, length, codes, IsUtf8, IsTrue, Bool, nat_le, Result, Ok, Err}
use Rattle.std.specs.List.{AllByRecursion, list_all}
use Rattle.text_fields.specs.Fields.{field}
use Rattle.ledger_core.specs.declared.pairs.Mark.{Mark}
use Rattle.ledger_core.specs.declared.pairs.Mark.TheVariants.{Kept, Mended}
use Rattle.ledger_script.specs.declared.script_lines.ScriptLine.{ScriptLine}
use Rattle.ledger_script.specs.declared.script_lines.ScriptLine.TheVariants as asks
use Rattle.ledger_script.specs.declared.script_lines.LineFault.{LineFault}
use Rattle.ledger_script.specs.declared.script_lines.LineFault.TheVariants.{Bad, NoMemory}

abbrev pub mark_word : Mark → List ℕ
mark_word Kept = codes " kept"
mark_word Mended = codes " mended"

-- texts with one space between two
abbrev pub spaced_text : List (List ℕ) → List ℕ
spaced_text [] = []
spaced_text (text ∷ []) = text
spaced_text (text ∷ next ∷ texts) = text ++ 32 ∷ spaced_text (next ∷ texts)

-- the text of a line, without its end
abbrev pub line_text : ScriptLine → List ℕ
line_text (asks.Enter report layers) = codes "enter " ++ spaced_text (report ∷ layers)
line_text (asks.Decide run place mark) = field (codes "decide ") run ++ (field (codes " ") place ++ mark_word mark)
line_text (asks.List run) = field (codes "list ") run
line_text (asks.Clear run) = field (codes "clear ") run

-- no byte is below 33
abbrev pub are_visible : List ℕ → Bool
are_visible text = list_all (λ byte. nat_le 33 byte) text

-- text of at least one byte, none below 33
pub record IsScriptName (name : List ℕ) : Type 0 where
  pub some : 0 < length name
  pub visible : IsTrue (are_visible name)
  pub utf8 : IsUtf8 name

-- the numbers fit their fields, and the names are names of scripts
abbrev pub IsHeld : ScriptLine → Type 0
IsHeld (asks.Enter report layers) = AllByRecursion IsScriptName (report ∷ layers)
IsHeld (asks.Decide run place mark) = (run < 2 ^ 32) × (place < 2 ^ 32)
IsHeld (asks.List run) = run < 2 ^ 32
IsHeld (asks.Clear run) = run < 2 ^ 32

-- the bytes are the text of this line
abbrev pub IsLineText : List ℕ → ScriptLine → Type 0
IsLineText bytes line = IsHeld line × (bytes ≡ line_text line)

-- the bytes are the text of what was answered, or of nothing
abbrev pub Reads : List ℕ → Result ScriptLine LineFault → Type 0
Reads bytes (Ok line) = IsLineText bytes line
Reads bytes (Err Bad) = (line : ScriptLine) → IsLineText bytes line → ⊥
Reads bytes (Err NoMemory) = Unit {0}
