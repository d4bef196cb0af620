-- The words that replace those that are no text are an invalid command line.
use Rattle.std.proofs.Common.{◌≡◌, ◌⊎◌, inl, inr, List, [], ◌∷◌, Option, Some, None, Ok, Err, refl, sym, ◌∙◌}
use Rattle.clap.proofs.OnLiterals.{clap_on_literals}
use Rattle.clap.specs.Walk.{Text}
use Rattle.job_words.specs.declared.jobs.Job.{Job}
use Rattle.job_words.specs.declared.modes.Mode.{Mode}
use Rattle.job_words.specs.declared.modes.Mode.TheVariants.{Migrate, Check, Make, Verify, Heights}
use Rattle.job_words.specs.declared.faults.WordsFault.{WordsFault}
use Rattle.job_words.specs.declared.faults.WordsFault.TheVariants.{NoMode, Parse}
use Rattle.job_words.specs.Jobs.{answer_in, answer_of}
use Rattle.job_words.specs.Modes.{mode_of}
use Rattle.run_notes.specs.declared.command_words.TheConstants.{NO_WORD}
use Rattle.run_notes.specs.Substitutes.{AreSubstitutes, GiveNoJob}

-- no mode takes the word after it
not-understood : (first : Text) (mode : Mode) → answer_in (first ∷ NO_WORD.now ∷ []) mode ≡ Err Parse
unfolding clap_on_literals
not-understood first Migrate = refl
not-understood first Check = refl
not-understood first Make = refl
not-understood first Verify = refl
not-understood first Heights = refl

-- words with this fault, which is one of two
with-fault : (words : List Text) (fault : WordsFault) → answer_of words ≡ Err fault
    → (fault ≡ NoMode) ⊎ (fault ≡ Parse) → GiveNoJob words
with-fault words fault is which = record {
  fault = elim which [ inl first ↦ inl (rw first at is) | inr behind ↦ inr (rw behind at is) ];
  no_job = λ (wanted : Job) gives. not-both wanted fault (sym gives ∙ is);
}
  where
    not-both : (wanted : Job) (fault : WordsFault) → Ok wanted ≡ Err fault → ⊥
    not-both wanted fault e = cc

two-words : (first : Text) → GiveNoJob (first ∷ NO_WORD.now ∷ [])
two-words first = of-mode (mode_of first) refl
  where
    of-mode : (mode : Option Mode) → mode_of first ≡ mode → GiveNoJob (first ∷ NO_WORD.now ∷ [])
    of-mode None is = with-fault (first ∷ NO_WORD.now ∷ []) NoMode (rw is refl) (inl refl)
    of-mode (Some mode) is = with-fault (first ∷ NO_WORD.now ∷ []) Parse (rw is (not-understood first mode)) (inr refl)

pub no-job : (words : List Text) → AreSubstitutes words → GiveNoJob words
no-job words two = rw two.1 (two-words two.0)
