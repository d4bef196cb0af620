-- What private functions on words say of the values of the code: which use, form and finding each is.
use Rattle.std.specs.Prelude.{◌≡◌, true, false, List, ◌++◌, codes, map, MatchResult, Result, String}
use Rattle.std.specs.Prelude.{option_copied, string_bytes}
use denote.Ref.{Bor}
use Rattle.clap.specs.Walk.{Text}
use Rattle.remarks.specs.declared.flaw_lines.WordFlaw.{WordFlaw}
use Rattle.remarks.specs.declared.flaw_lines.WordFlaw.TheVariants.{Twice}
use Rattle.run_notes.specs.WordForms.{Form}
use Rattle.run_notes.specs.WordUses.{Use, words_in, begins_as_option, takes_value, is_flag, is_used, has_equals}
use Rattle.run_notes.specs.WordUses.{MayFollow}
use Rattle.run_notes.specs.WordUses.{Flag, InOneWord, InTwoWords, Plain, End}
use Rattle.run_notes.specs.WordFlaws.{IsUnknown, IsFlawHere}
use Rattle.run_notes.specs.declared.word_forms.WordForm.{WordForm as Table}
use Rattle.run_notes.specs.declared.word_uses.Use.{Use as CodeUse}
use Rattle.run_notes.specs.declared.word_uses.Use.TheVariants as code
use Rattle.run_notes.specs.declared.word_uses.WordKind.{WordKind}
use Rattle.run_notes.specs.declared.word_uses.WordKind.TheVariants as kind

-- the options of a table
abbrev pub options_in : List (Bor Text × Bor Text) → List (Text × Text)
options_in options = map (λ option. (option.0.now, option.1.now)) options

-- a form of the code
abbrev pub form_in : Table → Form
form_in table = record {
  valued = options_in table.valued.now;
  optional = map (λ option. option.now) table.optional.now;
  flags = map (λ flag. flag.now) table.flags.now;
  most = table.most_words;
  word = option_copied table.word;
}

-- a use of the code
abbrev pub use_in : CodeUse → Use
use_in (code.Flag name) = Flag name.now
use_in (code.InOneWord name value) = InOneWord name.now value.now
use_in (code.InTwoWords name value) = InTwoWords name.now value.now
use_in (code.Plain word) = Plain word.now
use_in code.End = End

-- the uses of a list of the code
abbrev pub uses_in : List CodeUse → List Use
uses_in uses = map use_in uses

-- a flaw and its word
abbrev pub flaw_in : WordFlaw × Bor Text → WordFlaw × Text
flaw_in flaw = (flaw.0, flaw.1.now)

-- a word is of this kind, where no `--` is before it
abbrev pub IsKind : Form → Text → WordKind → Type 0
IsKind form word kind.End = word ≡ codes "--"
IsKind form word kind.Flag = is_flag form word ≡ true
IsKind form word (kind.InOneWord name value) =
    (word ≡ name.now ++ codes "=" ++ value.now) × (has_equals name.now ≡ false) × (takes_value form name.now ≡ true)
IsKind form word kind.Valued = takes_value form word ≡ true
IsKind form word kind.Unknown = IsUnknown form word
IsKind form word kind.Plain = begins_as_option word ≡ false

-- after these uses the words go on with a use, after which come other words, or with a flaw
abbrev pub GoesOn : {Y : Type 0} → Form → List Use → List Text
    → Result (CodeUse × Bor (List (String Y))) (WordFlaw × Bor Text)
    → Type 0
GoesOn form before words next = MatchResult next
    (λ here. MayFollow form before (use_in here.0) × (words ≡ words_in (use_in here.0) ++ map string_bytes here.1.now))
    (λ flaw. IsFlawHere form before words flaw.0 flaw.1.now)

-- an option of this name is used so, where no use before it is of it
abbrev pub UsesOnce : {Y : Type 0} → List Use → Text → CodeUse → List (String Y)
    → Result (CodeUse × Bor (List (String Y))) (WordFlaw × Bor Text) → Type 0
UsesOnce before name one behind next = MatchResult next
    (λ here. (here.0 ≡ one) × (here.1.now ≡ behind) × (is_used name before ≡ false))
    (λ flaw. (flaw.0 ≡ Twice) × (flaw.1.now ≡ name) × (is_used name before ≡ true))
