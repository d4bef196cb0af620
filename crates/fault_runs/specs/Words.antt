-- What the words of the command line ask for: all faults of a triangulation, and how they are drawn.
use Rattle.std.specs.Prelude.{◌≡◌, ℕ, Bool, List, ◌∷◌, ◌||◌, codes, not}
use Rattle.std.specs.List.{filter, list_any}
use Rattle.std.specs.Str.{bytes_eq}
use Rattle.job_words.specs.declared.jobs.Job.TheVariants.{Check}
use Rattle.job_words.specs.declared.faults.WordsFault.{WordsFault}
use Rattle.job_words.specs.Jobs.{IsJobOf, IsWordsFault}
use Rattle.fault_runs.specs.declared.words.Wanted.{Wanted}

-- ---- words that say what is printed, wherever they are
abbrev pub is_faults : List ℕ → Bool
is_faults word = bytes_eq word (codes "--faults")

abbrev pub is_lines : List ℕ → Bool
is_lines word = bytes_eq word (codes "--lines")

abbrev pub is_own : List ℕ → Bool
is_own word = is_faults word || is_lines word

-- the words ask for faults
abbrev pub asks_for_faults : List (List ℕ) → Bool
asks_for_faults words = list_any is_faults words

-- the outlines are drawn
abbrev pub wants_lines : List (List ℕ) → Bool
wants_lines words = list_any is_lines words

-- ---- the check of the triangulation
-- its words: its mode, and all words that say something of it
abbrev pub check_words : List (List ℕ) → List (List ℕ)
check_words words = codes "check" ∷ filter (λ word. not (is_own word)) words

-- the words ask for the faults of this triangulation, drawn so
pub record AsksFaults (words : List (List ℕ)) (wanted : Wanted) : Type 0 where
  pub job : IsJobOf (check_words words) (Check wanted.tin wanted.how)
  pub lines : wanted.lines ≡ wants_lines words

-- the words are not understood, and this is their first fault
abbrev pub LacksFaults : List (List ℕ) → WordsFault → Type 0
LacksFaults words fault = IsWordsFault (check_words words) fault

-- they have a fault
abbrev pub LacksCheck : List (List ℕ) → Type 0
LacksCheck words = (fault : WordsFault) × LacksFaults words fault
