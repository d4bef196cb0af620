-- The words that take the place of those of a command line where one of them is no text.
use Rattle.std.specs.Prelude.{◌≡◌, ◌⊎◌, List, [], ◌∷◌}
use Rattle.clap.specs.Walk.{Text}
use Rattle.job_words.specs.declared.jobs.Job.{Job}
use Rattle.job_words.specs.declared.faults.WordsFault.TheVariants.{NoMode, Parse}
use Rattle.job_words.specs.Jobs.{IsJobOf, IsWordsFault}
use Rattle.run_notes.specs.declared.command_words.TheConstants.{NO_WORD}

-- some first word, and after it one that no mode takes
abbrev pub AreSubstitutes : List Text → Type 0
AreSubstitutes words = (first : Text) × (words ≡ first ∷ NO_WORD.now ∷ [])

-- the words are an invalid command line: the first one is no mode, or they are not those of the mode
pub record GiveNoJob (words : List Text) : Type 0 where
  pub fault : IsWordsFault words NoMode ⊎ IsWordsFault words Parse
  pub no_job : (wanted : Job) → ¬ IsJobOf words wanted

-- a law: such words are an invalid command line, whatever the first one is
abbrev pub SubstitutesGiveNoJob : Type 0
SubstitutesGiveNoJob = (words : List Text) → AreSubstitutes words → GiveNoJob words
