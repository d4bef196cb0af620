-- What is said of words after a mode.
use Rattle.std.proofs.Common.{◌≡◌, Bool, true, List, ◌∷◌, sym, subst, Option, Some, None, Result, Ok, Err}
use Rattle.std.specs.Prelude.{IfOk, MatchOption}
use Rattle.std.specs.Option.{option_map}
use Rattle.clap.specs.Walk.{Text}
use Rattle.job_words.specs.declared.faults.WordsFault.{WordsFault}
use Rattle.job_words.specs.declared.modes.Mode.{Mode}
use Rattle.job_words.specs.Modes.{mode_of}
use Rattle.remarks.specs.declared.flaw_lines.WordFlaw.{WordFlaw}
use Rattle.remarks.specs.declared.flaw_lines.WordFlaw.TheVariants.{Mode as NotMode}
use Rattle.run_notes.specs.WordForms.{Form, form_for}
use Rattle.run_notes.specs.WordFlaws.{IsFound, IsFoundIn, IsFoundBehindMode}

-- what is said of words of the form of a mode
of-mode : (word : Text) (words : List Text) (form : Form) (fault : WordsFault) (found : Option (WordFlaw × Text))
    (mode : Option Mode) → Some form ≡ option_map form_for mode → IsFoundIn form words fault found
    → MatchOption mode (found ≡ Some (NotMode, word)) (λ m. IsFoundIn (form_for m) words fault found)
of-mode word words form fault found None e is = cc
of-mode word words form fault found (Some m) e is =
    let same : form ≡ form_for m = cc in subst (λ (f : Form). IsFoundIn f words fault found) same is

-- what is said of all words, the mode before them
pub behind-mode : {X E : Type 0} (has_modes : Bool) (all : List Text) (word : Text) (words : List Text) (form : Form)
    (fault : WordsFault) (told : X → WordFlaw × Text) (answer : Result (Option X) E) → has_modes ≡ true
    → all ≡ word ∷ words → Some form ≡ option_map form_for (mode_of word)
    → IfOk answer (λ found. IsFoundIn form words fault (option_map told found))
    → IfOk answer (λ found. IsFound has_modes all fault (option_map told found))
behind-mode has_modes all word words form fault told (Err e) modes is mode found = found
behind-mode has_modes all word words form fault told (Ok o) modes is mode found =
    subst (λ (b : Bool). IsFound b all fault (option_map told o)) (sym modes)
    (subst (λ (a : List Text). IsFoundBehindMode a fault (option_map told o)) (sym is)
    (of-mode word words form fault (option_map told o) (mode_of word) mode found))
