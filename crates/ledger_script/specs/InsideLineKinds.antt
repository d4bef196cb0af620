-- What each kind of line is read as. Only private functions speak of it.
use Rattle.std.specs.Prelude.{◌≡◌, ◌≢◌, ℕ, ◌<◌, ◌==◌, if◌then◌else◌, List, length, codes, Option, None, Some, Result, Ok, Err}
use Rattle.std.specs.List.{AllByRecursion}
use Rattle.std.specs.Str.{bytes_eq}
use Rattle.ledger_core.specs.declared.pairs.Mark.{Mark}
use Rattle.ledger_core.specs.declared.pairs.Mark.TheVariants.{Kept, Mended}
use Rattle.text_fields.specs.Fields.{◌>>=◌, short_field}
use Rattle.ledger_script.specs.declared.script_lines.LineFault.{LineFault}
use Rattle.ledger_script.specs.declared.script_lines.LineFault.TheVariants.{Bad, NoMemory}
use Rattle.ledger_script.specs.ScriptText.{IsScriptName, spaced_text}

-- the mark whose word is the rest of a line
abbrev pub mark_of : List ℕ → Option Mark
mark_of text =
    if bytes_eq text (codes " kept") then Some Kept else if bytes_eq text (codes " mended") then Some Mended else None

-- a decision, as its run, its place and its mark
unfoldable pub decision_of : List ℕ → Option (ℕ × ℕ × Mark)
decision_of line = do
  run ← short_field (codes "decide ") line
  place ← short_field (codes " ") run.1
  mark ← mark_of place.1
  Some (run.0, place.0, mark)

-- the run after a word, where nothing follows
unfoldable pub run_of : List ℕ → List ℕ → Option ℕ
run_of word line = do
  run ← short_field word line
  if length run.1 == 0 then Some run.0 else None

-- text without a space
abbrev pub IsField : List ℕ → Type 0
IsField text = AllByRecursion (λ byte. byte ≢ 32) text

-- the field is the name that was answered, or no name
abbrev pub NamesField : List ℕ → Result (List ℕ) LineFault → Type 0
NamesField field (Ok name) = IsScriptName field × (name ≡ field)
NamesField field (Err Bad) = IsScriptName field → ⊥
NamesField field (Err NoMemory) = Unit {0}

-- the text is these names, at least one
pub record Spells (text : List ℕ) (names : List (List ℕ)) : Type 0 where
  pub some : 0 < length names
  pub held : AllByRecursion IsScriptName names
  pub whole : text ≡ spaced_text names
