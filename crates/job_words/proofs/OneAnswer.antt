-- Words have one job or one fault.
use Rattle.std.proofs.Common.{◌≡◌, ◌≢◌, ◌⊎◌, inl, inr, ℕ, List, [], ◌∷◌, Bool, true, false, Option, Some, None, Result}
use Rattle.std.proofs.Common.{Ok, Err, refl, sym, ◌∙◌, codes, map, option_map, ap}
use Rattle.std.specs.Prelude.{if◌then◌else◌, position, not, is_some, length, nat_lt}
use Rattle.std.specs.List.{AllByRecursion}
use Rattle.std.specs.Option.{option_map_or}
use Rattle.clap.specs.Walk.{Row, Text}
use Rattle.job_words.specs.declared.jobs.Job.{Job}
use Rattle.job_words.specs.declared.modes.Mode.{Mode}
use Rattle.job_words.specs.declared.modes.Mode.TheVariants.{Migrate, Check, Make, Verify, Heights}
use Rattle.job_words.specs.declared.faults.WordsFault.{WordsFault}
use Rattle.job_words.specs.declared.faults.WordsFault.TheVariants.{NoMemory, NoMode, Parse, Size, Many, Name, Suffix}
use Rattle.job_words.specs.declared.faults.WordsFault.TheVariants.{SameName}
use Rattle.job_words.specs.Modes.{mode_of}
use Rattle.job_words.specs.Readings.{reading_of, text_in, texts_in}
use Rattle.job_words.specs.Faults.{first_fault}
use Rattle.job_words.specs.Sizes.{size_of}
use Rattle.job_words.specs.declared.jobs.Job.TheVariants as job
use Rattle.job_words.specs.declared.faults.Which.{Which}
use Rattle.job_words.specs.declared.faults.Which.TheVariants.{Tin, Out, Layer, Source, Written, Certificate}
use Rattle.job_words.specs.declared.limits.TheConstants.{MOST_LAYERS}
use Rattle.job_words.specs.Names.{first_again, is_name, part_behind_slashes}
use Rattle.job_words.specs.Formats.{format_by_name}
use Rattle.job_words.specs.Jobs.{IsJobOf, IsWordsFault, answer_in, answer_of, job_in, layer_fault, many_fault}
use Rattle.job_words.specs.Jobs.{heights_fault, migration_fault, name_fault, same_fault, suffix_fault, unless, verification_fault}
use Rattle.job_words.specs.Laws.{HasOneAnswer}

-- a fault of the words themselves, if any
abbrev pub IsOwn : Option WordsFault → Type 0
IsOwn fault = fault ≢ Some NoMemory

pub own-first : (faults : List (Option WordsFault)) → AllByRecursion IsOwn faults → IsOwn (first_fault faults)
own-first [] own = λ e. cc
own-first (Some fault ∷ rest) own = own.0
own-first (None ∷ rest) own = own-first rest own.1

-- where a test passes, and where it fails
own-else : (b : Bool) (fault : WordsFault) → IsOwn (Some fault) → IsOwn (if b then None else Some fault)
own-else true fault own = λ e. cc
own-else false fault own = own

pub own-then : (b : Bool) (fault : WordsFault) → IsOwn (Some fault) → IsOwn (if b then Some fault else None)
own-then true fault own = own
own-then false fault own = λ e. cc

-- at a number that may be missing
pub own-at : (number : Option ℕ) (make : ℕ → WordsFault) → ((n : ℕ) → IsOwn (Some (make n)))
    → IsOwn (option_map make number)
own-at None make own = λ e. cc
own-at (Some n) make own = own n

pub own-name : (which : Which) (name : Text) → IsOwn (name_fault which name)
own-name which name = own-else (is_name name) (Name which) (λ e. cc)

pub own-suffixes : (layers : List Text) → IsOwn (suffix_fault layers)
own-suffixes layers = own-at (position (λ layer. not (is_some (format_by_name layer))) layers) Suffix (λ n e. cc)

own-migration : (tin out : Text) (layers : List Text) → IsOwn (migration_fault tin out layers)
own-migration tin out layers = own-first (
    many_fault layers ∷ name_fault Tin tin ∷ name_fault Out out ∷ layer_fault layers ∷ suffix_fault layers
    ∷ same_fault layers ∷ []) (
      own-then (nat_lt MOST_LAYERS (length layers)) Many (λ e. cc),
      (
        own-name Tin tin,
        (
          own-name Out out,
          (
            own-at (position (λ layer. not (is_name layer)) layers) (λ layer. Name (Layer layer)) (λ n e. cc),
            (
              own-suffixes layers,
              (own-at (first_again (map part_behind_slashes layers)) SameName (λ n e. cc), tt),
            ),
          ),
        ),
      ),
    )

own-verification : (tin source written cert : Text) → IsOwn (verification_fault tin source written cert)
own-verification tin source written cert = own-first (
    name_fault Tin tin ∷ name_fault Source source ∷ name_fault Written written ∷ name_fault Certificate cert
    ∷ suffix_fault (source ∷ []) ∷ []) (
      own-name Tin tin,
      (
        own-name Source source,
        (
          own-name Written written,
          (own-name Certificate cert, (own-suffixes (source ∷ []), tt)),
        ),
      ),
    )

own-heights : (tin out points : Text) → IsOwn (heights_fault tin out points)
own-heights tin out points = own-first (
    name_fault Tin tin ∷ name_fault Out out ∷ name_fault (Layer 0) points ∷ []) (
      own-name Tin tin,
      (own-name Out out, (own-name (Layer 0) points, tt)),
    )

pub own-unless : {J : Type 0} (fault : Option WordsFault) (wanted : J) → IsOwn fault → unless fault wanted ≢ Err NoMemory
own-unless None wanted own = λ e. cc
own-unless {J} (Some fault) wanted own = λ e. own (same fault e)
  where
    same : (fault : WordsFault) → ◌≡◌ {A = Result J WordsFault} (Err fault) (Err NoMemory)
        → Some fault ≡ Some NoMemory
    same fault e = cc

own-job : (mode : Mode) (rows : List Row) → job_in mode rows ≢ Err NoMemory
own-job Migrate rows = own-unless _ _ (own-migration (text_in (codes "tin") rows) (text_in (codes "out") rows)
    (texts_in (codes "layer") rows))
own-job Check rows = own-unless _ _ (own-name Tin (text_in (codes "tin") rows))
own-job Verify rows = own-unless _ _ (own-verification (text_in (codes "tin") rows) (text_in (codes "source") rows)
    (text_in (codes "written") rows) (text_in (codes "cert") rows))
own-job Heights rows = own-unless _ _ (own-heights (text_in (codes "tin") rows) (text_in (codes "out") rows)
    (text_in (codes "points") rows))
own-job Make rows = go (size_of (text_in (codes "n") rows))
  where
    go : (size : Option ℕ) → option_map_or (λ n. Ok (job.Make n)) size (Err Size) ≢ Err NoMemory
    go None = λ e. cc
    go (Some n) = λ e. cc

own-answer : (words : List Text) → answer_of words ≢ Err NoMemory
own-answer [] = λ e. cc
own-answer (word ∷ rest) = of-mode (mode_of word)
  where
    read : (mode : Mode) (rows : Option (List Row)) → option_map_or (job_in mode) rows (Err Parse) ≢ Err NoMemory
    read mode None = λ e. cc
    read mode (Some rows) = own-job mode rows

    of-mode : (mode : Option Mode) → option_map_or (answer_in (word ∷ rest)) mode (Err NoMode) ≢ Err NoMemory
    of-mode None = λ e. cc
    of-mode (Some mode) = read mode (reading_of mode (word ∷ rest))

some-answer : (words : List Text) (answer : Result Job WordsFault) → answer_of words ≡ answer → answer ≢ Err NoMemory
    → ((wanted : Job) × IsJobOf words wanted) ⊎ ((fault : WordsFault) × IsWordsFault words fault × (fault ≢ NoMemory))
some-answer words (Ok wanted) is own = inl (wanted, is)
some-answer words (Err fault) is own = inr (fault, is, λ memory. own (ap (λ f. Err f) memory))

pub one-answer : (words : List Text) → HasOneAnswer words
one-answer words = record {
  some = some-answer words (answer_of words) refl (own-answer words);
  one_job = λ wanted other is also. same-job wanted other (sym is ∙ also);
  one_fault = λ fault other is also. same-fault fault other (sym is ∙ also);
  not_both = λ wanted fault is also. not-both wanted fault (sym is ∙ also);
}
  where
    same-job : (wanted other : Job) → ◌≡◌ {A = Result Job WordsFault} (Ok wanted) (Ok other) → wanted ≡ other
    same-job wanted other e = cc

    same-fault : (fault other : WordsFault) → ◌≡◌ {A = Result Job WordsFault} (Err fault) (Err other) → fault ≡ other
    same-fault fault other e = cc

    not-both : (wanted : Job) (fault : WordsFault) → Ok wanted ≡ Err fault → ⊥
    not-both wanted fault e = cc
