-- Words of `tinplaces` have a job or a fault, and what the job keeps.
use Rattle.std.proofs.Common.{◌≡◌, ◌≢◌, ◌⊎◌, inl, inr, List, [], ◌∷◌, not, length, Option, Some, None, Result}
use Rattle.std.proofs.Common.{Ok, Err, IfOk, refl, sym, ap, codes, subst}
use Rattle.std.specs.Prelude.{position, nat_lt}
use Rattle.std.specs.Option.{option_map_or}
use Rattle.std.proofs.lemmas.Bool.{ltb-false}
use Rattle.clap.specs.Walk.{Row, Text}
use Rattle.clap.proofs.RemoveLemmas.{find-none}
use Rattle.job_words.specs.declared.limits.TheConstants.{MOST_LAYERS}
use Rattle.job_words.specs.declared.places.PlacesJob.{PlacesJob}
use Rattle.job_words.specs.declared.faults.Which.TheVariants.{Tin, Layer}
use Rattle.job_words.specs.declared.faults.WordsFault.{WordsFault}
use Rattle.job_words.specs.declared.faults.WordsFault.TheVariants.{NoMemory, Parse, Many, Name}
use Rattle.job_words.specs.Commands.{places_command}
use Rattle.job_words.specs.Readings.{reading_by, text_in, texts_in}
use Rattle.job_words.specs.Names.{is_name}
use Rattle.job_words.specs.Faults.{IsAnswer}
use Rattle.job_words.specs.Jobs.{layer_fault, many_fault, name_fault, suffix_fault, unless}
use Rattle.job_words.specs.JobFields.{IsName}
use Rattle.job_words.specs.PlacesJobs.{places_answer_in, places_answer_of, places_fault, places_in, IsPlacesFault}
use Rattle.job_words.specs.PlacesJobs.{IsPlacesJobOf, ArePlacesNames, IsPossiblePlacesJob}
use Rattle.job_words.proofs.Distinct.{nothing-made}
use Rattle.job_words.proofs.OneAnswer.{IsOwn, own-at, own-first, own-name, own-suffixes, own-then, own-unless}
use Rattle.job_words.proofs.JobLaws.{each-passes, have-format, named, no-fault-else, no-fault-then, none-first}

-- ---- a job or a fault
own-places : (tin : Text) (layers : List Text) → IsOwn (places_fault tin layers)
own-places tin layers = own-first (
    many_fault layers ∷ name_fault Tin tin ∷ layer_fault layers ∷ suffix_fault layers ∷ []) (
      own-then (nat_lt MOST_LAYERS (length layers)) Many (λ e. cc),
      (
        own-name Tin tin,
        (
          own-at (position (λ layer. not (is_name layer)) layers) (λ layer. Name (Layer layer)) (λ n e. cc),
          (own-suffixes layers, tt),
        ),
      ),
    )

own-answer : (words : List Text) → places_answer_of words ≢ Err NoMemory
own-answer words = go (reading_by places_command words)
  where
    go : (rows : Option (List Row)) → option_map_or places_answer_in rows (Err Parse) ≢ Err NoMemory
    go None = λ e. cc
    go (Some rows) = own-unless _ _ (own-places (text_in (codes "tin") rows) (texts_in (codes "layer") rows))

some-answer : (words : List Text) (answer : Result PlacesJob WordsFault) → places_answer_of words ≡ answer
    → answer ≢ Err NoMemory
    → ((wanted : PlacesJob) × IsPlacesJobOf words wanted)
    ⊎ ((fault : WordsFault) × IsPlacesFault words fault × (fault ≢ NoMemory))
some-answer words (Ok wanted) is own = inl (wanted, is)
some-answer words (Err fault) is own = inr (fault, is, λ memory. own (ap (λ f. Err f) memory))

pub have-answers : (words : List Text) → ((wanted : PlacesJob) × IsPlacesJobOf words wanted)
    ⊎ ((fault : WordsFault) × IsPlacesFault words fault × (fault ≢ NoMemory))
have-answers words = some-answer words (places_answer_of words) refl (own-answer words)

-- ---- what a job keeps
kept-names : (tin : Text) (layers : List Text) → places_fault tin layers ≡ None → ArePlacesNames tin layers
kept-names tin layers none =
    let few = none-first (many_fault layers ∷ name_fault Tin tin ∷ layer_fault layers ∷ suffix_fault layers ∷ [])
    none in
    let taken_tin = few.1 in
    let taken_layers = taken_tin.1 in
    let have_formats = taken_layers.1 in
    record {
      tin_named = named tin (no-fault-else (is_name tin) (Name Tin) taken_tin.0);
      few = ltb-false MOST_LAYERS (length layers) (no-fault-then (nat_lt MOST_LAYERS (length layers)) Many few.0);
      layers_named = each-passes is_name IsName named layers
          (find-none (λ layer. not (is_name layer)) layers (nothing-made _ _ taken_layers.0));
      formats = have-format layers have_formats.0;
    }

kept-unless : (fault : Option WordsFault) (wanted : PlacesJob) → (fault ≡ None → IsPossiblePlacesJob wanted)
    → IfOk (unless fault wanted) IsPossiblePlacesJob
kept-unless None wanted is = is refl
kept-unless (Some fault) wanted is = tt

kept-in : (rows : List Row) → IfOk (places_answer_in rows) IsPossiblePlacesJob
kept-in rows =
    kept-unless (places_fault (text_in (codes "tin") rows) (texts_in (codes "layer") rows)) (places_in rows)
    (kept-names (text_in (codes "tin") rows) (texts_in (codes "layer") rows))

pub kept-answer : (rows : List Row) (answer : Result PlacesJob WordsFault) → IsAnswer (places_answer_in rows) answer
    → IfOk answer IsPossiblePlacesJob
kept-answer rows answer is = elim is [
  | inl memory ↦ rw memory tt
  | inr wanted ↦ subst (λ (given : Result PlacesJob WordsFault). IfOk given IsPossiblePlacesJob) (sym wanted)
      (kept-in rows)
]

pub job-kept : (words : List Text) (wanted : PlacesJob) → IsPlacesJobOf words wanted → IsPossiblePlacesJob wanted
job-kept words wanted is =
    subst (λ (answer : Result PlacesJob WordsFault). IfOk answer IsPossiblePlacesJob) is
    (go (reading_by places_command words))
  where
    go : (rows : Option (List Row)) → IfOk (option_map_or places_answer_in rows (Err Parse)) IsPossiblePlacesJob
    go None = tt
    go (Some rows) = kept-in rows
