-- What an answer to words keeps.
use Rattle.std.proofs.Common.{◌≡◌, ◌≢◌, ◌⊎◌, List, [], ◌∷◌, inl, inr, Option, Some, None, Result, Ok, Err, IfOk, map}
use Rattle.std.proofs.Common.{refl, sym, ◌∙◌, ap, subst}
use Rattle.std.specs.Prelude.{slice_get}
use Rattle.std.specs.Option.{option_map_or}
use Rattle.clap.specs.Walk.{Row, Text}
use Rattle.job_words.specs.declared.jobs.Job.{Job}
use Rattle.job_words.specs.declared.modes.Mode.{Mode}
use Rattle.job_words.specs.declared.faults.WordsFault.{WordsFault}
use Rattle.job_words.specs.declared.faults.WordsFault.TheVariants.{NoMode, NoMemory, Parse}
use Rattle.job_words.specs.Modes.{mode_of}
use Rattle.job_words.specs.Readings.{reading_of}
use Rattle.job_words.specs.Faults.{IsAnswer}
use Rattle.job_words.specs.Jobs.{IsJobOf, IsWordsFault, answer_in, answer_of, job_in}

-- an answer that is a job is that of the words
pub answered-job : (words : List Text) (answer : Result Job WordsFault) → IsAnswer (answer_of words) answer
    → IfOk answer (IsJobOf words)
answered-job words (Err fault) is = tt
answered-job words (Ok wanted) is = elim is [
  | inl memory ↦ cc
  | inr own ↦ sym own
]

-- an answer that is a fault is that of the words, or memory ran out
pub answered-fault : (words : List Text) (answer : Result Job WordsFault) → IsAnswer (answer_of words) answer
    → (fault : WordsFault) → answer ≡ Err fault → fault ≢ NoMemory → IsWordsFault words fault
answered-fault words answer is fault refused other = elim is [
  | inl memory ↦ absurd (other (same-fault fault answer refused memory))
  | inr own ↦ sym own ∙ refused
]
  where
    same-fault : (given : WordsFault) (either : Result Job WordsFault) → either ≡ Err given → either ≡ Err NoMemory
        → given ≡ NoMemory
    same-fault given either is memory = cc

-- words of a mode that are read
pub read-answer : (words : List Text) (mode : Mode) (rows : List Row) (answer : Result Job WordsFault)
    → reading_of mode words ≡ Some rows → IsAnswer (job_in mode rows) answer → IsAnswer (answer_in words mode) answer
read-answer words mode rows answer read is =
    subst (λ (found : Option (List Row)). IsAnswer (option_map_or (job_in mode) found (Err Parse)) answer) (sym read) is

-- words of a mode that are not
pub unread-answer : (words : List Text) (mode : Mode) (fault : WordsFault)
    → (fault ≡ NoMemory) ⊎ ((fault ≡ Parse) × (reading_of mode words ≡ None))
    → IsAnswer (answer_in words mode) (Err fault)
unread-answer words mode fault is = elim is [
  | inl memory ↦ inl (ap (λ f. Err f) memory)
  | inr unread ↦ inr (ap (λ f. Err f) unread.0
      ∙ sym (ap (λ (found : Option (List Row)). option_map_or (job_in mode) found (Err Parse)) unread.1))
]

-- words whose first one asks for a mode
pub mode-answer : {X : Type 0} (bytes : X → Text) (words : List X) (word : X) (mode : Mode)
    (answer : Result Job WordsFault) → slice_get words 0 ≡ Some word → mode_of (bytes word) ≡ Some mode
    → IsAnswer (answer_in (map bytes words) mode) answer → IsAnswer (answer_of (map bytes words)) answer
mode-answer bytes [] word mode answer first is given = cc
mode-answer bytes (own ∷ rest) word mode answer first is given =
    let same : own ≡ word = cc in
    subst (λ (found : Option Mode). IsAnswer (option_map_or (answer_in (map bytes (own ∷ rest))) found (Err NoMode))
    answer) (sym (ap (λ w. mode_of (bytes w)) same ∙ is)) given

-- words whose first one asks for none
pub modeless : {X : Type 0} (bytes : X → Text) (words : List X) (word : X) → slice_get words 0 ≡ Some word
    → mode_of (bytes word) ≡ None → answer_of (map bytes words) ≡ Err NoMode
modeless bytes [] word first is = cc
modeless bytes (own ∷ rest) word first is =
    let same : own ≡ word = cc in
    ap (λ (found : Option Mode). option_map_or (answer_in (map bytes (own ∷ rest))) found (Err NoMode))
    (ap (λ w. mode_of (bytes w)) same ∙ is)

-- no words
pub wordless : {X : Type 0} (bytes : X → Text) (words : List X) → slice_get words 0 ≡ None
    → answer_of (map bytes words) ≡ Err NoMode
wordless bytes [] none = refl
wordless bytes (own ∷ rest) none = cc
