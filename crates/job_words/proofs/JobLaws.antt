-- What a job of words keeps.
use Rattle.std.proofs.Common.{◌≡◌, ◌≤◌, ◌&&◌, List, [], ◌∷◌, Bool, true, false, not, Option, Some, None, Result, Ok}
use Rattle.std.proofs.Common.{Err, IfOk, cond, length, map, refl, sym, codes, subst, true≢false, inl, inr}
use Rattle.std.specs.Prelude.{if◌then◌else◌, is_some, nat_le, nat_lt, find}
use Rattle.std.specs.List.{AllByRecursion, list_all}
use Rattle.std.specs.Option.{option_map_or}
use Rattle.std.proofs.lemmas.Bool.{ltb-false}
use Rattle.clap.specs.Walk.{Row, Text}
use Rattle.clap.proofs.RemoveLemmas.{find-none}
use Rattle.clap.proofs.WalkLemmas.{both}
use Rattle.job_words.specs.declared.jobs.Job.{Job}
use Rattle.job_words.specs.declared.jobs.Job.TheVariants as job
use Rattle.job_words.specs.declared.limits.TheConstants.{MOST_LAYERS, MOST_SIZE}
use Rattle.job_words.specs.declared.modes.Mode.{Mode}
use Rattle.job_words.specs.declared.modes.Mode.TheVariants.{Migrate, Check, Make, Verify, Heights}
use Rattle.job_words.specs.declared.faults.Which.TheVariants.{Tin, Out, Layer, Source, Written, Certificate}
use Rattle.job_words.specs.declared.faults.WordsFault.{WordsFault}
use Rattle.job_words.specs.declared.faults.WordsFault.TheVariants.{Many, Name, NoMode, Parse, Size}
use Rattle.job_words.specs.Modes.{mode_of}
use Rattle.job_words.specs.Readings.{reading_of, text_in, texts_in}
use Rattle.job_words.specs.Names.{is_name, part_behind_slashes}
use Rattle.job_words.specs.Formats.{format_by_name}
use Rattle.job_words.specs.Sizes.{is_plain, is_size, size_of}
use Rattle.job_words.specs.Faults.{IsAnswer, first_fault}
use Rattle.job_words.specs.Jobs.{IsJobOf, answer_in, answer_of, how_in, job_in, layer_fault, many_fault}
use Rattle.job_words.specs.Jobs.{heights_fault, heights_in, migration_fault, migration_in, name_fault}
use Rattle.job_words.specs.Jobs.{same_fault, suffix_fault, unless, verification_fault, verification_in}
use Rattle.job_words.specs.JobFields.{HasFormat, IsPossibleJob, AreMigrationNames, IsName, AreVerificationNames, AreHeightsNames}
use Rattle.job_words.proofs.Distinct.{distinct-texts, nothing-made}
use Rattle.job_words.proofs.TestValues.{no-more}
use Rattle.std.specs.Str.Parse.{digits_value}

all-printable : (name : Text) → list_all (nat_le 32) name ≡ true → AllByRecursion (λ byte. 32 ≤ byte) name
all-printable [] all = tt
all-printable (byte ∷ bytes) all =
    let parts = both (nat_le 32 byte) (list_all (nat_le 32) bytes) all in
    (no-more 32 byte parts.0, all-printable bytes parts.1)

pub named : (name : Text) → is_name name ≡ true → IsName name
named [] is = absurd (true≢false (sym is))
named (byte ∷ bytes) is = record {
  some = λ e. cc;
  printable = all-printable (byte ∷ bytes) (both _ (list_all (nat_le 32) (byte ∷ bytes)) is).1;
}

-- no fault of those that are there
pub none-first : (faults : List (Option WordsFault)) → first_fault faults ≡ None
    → AllByRecursion (λ fault. fault ≡ None) faults
none-first [] none = tt
none-first (Some fault ∷ rest) none = absurd (cc)
none-first (None ∷ rest) none = (refl, none-first rest none)

pub no-fault-else : (b : Bool) (fault : WordsFault) → (if b then None else Some fault) ≡ None → b ≡ true
no-fault-else true fault none = refl
no-fault-else false fault none = cc

pub no-fault-then : (b : Bool) (fault : WordsFault) → (if b then Some fault else None) ≡ None → b ≡ false
no-fault-then true fault none = cc
no-fault-then false fault none = refl

-- each element passes, where none is found that fails
pub each-passes : {X : Type 0} (test : X → Bool) (P : X → Type 0) → ((x : X) → test x ≡ true → P x) → (xs : List X)
    → find (λ x. not (test x)) xs ≡ None → AllByRecursion P xs
each-passes test P is [] none = tt
each-passes {X} test P is (x ∷ xs) none =
    let parts = go (test x) none in
    (is x parts.0, each-passes test P is xs parts.1)
  where
    go : (b : Bool) → cond (not b) (Some x) (find (λ y. not (test y)) xs) ≡ None
        → (b ≡ true) × (find (λ y. not (test y)) xs ≡ None)
    go true e = (refl, e)
    go false e = absurd (cc)

pub have-format : (layers : List Text) → suffix_fault layers ≡ None → AllByRecursion HasFormat layers
have-format layers none =
    each-passes (λ layer. is_some (format_by_name layer)) HasFormat (λ layer has. has) layers
    (find-none (λ layer. not (is_some (format_by_name layer))) layers (nothing-made _ _ none))

kept-migration : (tin out : Text) (layers : List Text) → migration_fault tin out layers ≡ None
    → AreMigrationNames tin out layers
kept-migration tin out layers none =
    let few = none-first (
    many_fault layers ∷ name_fault Tin tin ∷ name_fault Out out ∷ layer_fault layers ∷ suffix_fault layers
    ∷ same_fault layers ∷ []) none in
    let taken_tin = few.1 in
    let taken_out = taken_tin.1 in
    let taken_layers = taken_out.1 in
    let have_formats = taken_layers.1 in
    let differ = have_formats.1 in
    record {
      tin_named = named tin (no-fault-else (is_name tin) (Name Tin) taken_tin.0);
      out_named = named out (no-fault-else (is_name out) (Name Out) taken_out.0);
      few = ltb-false MOST_LAYERS (length layers) (no-fault-then (nat_lt MOST_LAYERS (length layers)) Many few.0);
      layers_named = each-passes is_name IsName named layers
          (find-none (λ layer. not (is_name layer)) layers (nothing-made _ _ taken_layers.0));
      formats = have-format layers have_formats.0;
      distinct = distinct-texts (map part_behind_slashes layers) (nothing-made _ _ differ.0);
    }

kept-verification : (tin source written cert : Text) → verification_fault tin source written cert ≡ None
    → AreVerificationNames tin source written cert
kept-verification tin source written cert none =
    let taken_tin = none-first (
    name_fault Tin tin ∷ name_fault Source source ∷ name_fault Written written ∷ name_fault Certificate cert
    ∷ suffix_fault (source ∷ []) ∷ []) none in
    let taken_source = taken_tin.1 in
    let taken_written = taken_source.1 in
    let taken_cert = taken_written.1 in
    let has_format = taken_cert.1 in
    record {
      tin_named = named tin (no-fault-else (is_name tin) (Name Tin) taken_tin.0);
      source_named = named source (no-fault-else (is_name source) (Name Source) taken_source.0);
      written_named = named written (no-fault-else (is_name written) (Name Written) taken_written.0);
      cert_named = named cert (no-fault-else (is_name cert) (Name Certificate) taken_cert.0);
      format = (have-format (source ∷ []) has_format.0).0;
    }

kept-heights : (tin out points : Text) → heights_fault tin out points ≡ None → AreHeightsNames tin out points
kept-heights tin out points none =
    let taken_tin = none-first (name_fault Tin tin ∷ name_fault Out out ∷ name_fault (Layer 0) points ∷ []) none in
    let taken_out = taken_tin.1 in
    let taken_points = taken_out.1 in
    record {
      tin_named = named tin (no-fault-else (is_name tin) (Name Tin) taken_tin.0);
      out_named = named out (no-fault-else (is_name out) (Name Out) taken_out.0);
      points_named = named points (no-fault-else (is_name points) (Name (Layer 0)) taken_points.0);
    }

kept-unless : (fault : Option WordsFault) (wanted : Job) → (fault ≡ None → IsPossibleJob wanted)
    → IfOk (unless fault wanted) IsPossibleJob
kept-unless None wanted is = is refl
kept-unless (Some fault) wanted is = tt

kept-make : (word : Text) → IfOk (option_map_or (λ size. Ok (job.Make size)) (size_of word) (Err Size)) IsPossibleJob
kept-make word = go (is_plain word) (is_size (digits_value 10 word)) refl
  where
    go : (a b : Bool) → is_size (digits_value 10 word) ≡ b
        → IfOk (option_map_or (λ size. Ok (job.Make size)) (if a && b then Some (digits_value 10 word) else None)
        (Err Size)) IsPossibleJob
    go true true is = let parts = both _ _ is in
        (no-more 1 (digits_value 10 word) parts.0, no-more (digits_value 10 word) MOST_SIZE parts.1)
    go a b is = tt

kept-in : (mode : Mode) (rows : List Row) → IfOk (job_in mode rows) IsPossibleJob
kept-in Migrate rows =
    kept-unless (migration_fault (text_in (codes "tin") rows) (text_in (codes "out") rows)
    (texts_in (codes "layer") rows)) (migration_in rows)
    (kept-migration (text_in (codes "tin") rows) (text_in (codes "out") rows) (texts_in (codes "layer") rows))
kept-in Check rows =
    let tin = text_in (codes "tin") rows in
    kept-unless (name_fault Tin tin) (job.Check tin (how_in rows))
    (λ none. named tin (no-fault-else (is_name tin) (Name Tin) none))
kept-in Verify rows =
    let tin = text_in (codes "tin") rows in
    let source = text_in (codes "source") rows in
    let written = text_in (codes "written") rows in
    let cert = text_in (codes "cert") rows in
    kept-unless (verification_fault tin source written cert) (verification_in rows)
    (kept-verification tin source written cert)
kept-in Heights rows =
    let tin = text_in (codes "tin") rows in
    let out = text_in (codes "out") rows in
    let points = text_in (codes "points") rows in
    kept-unless (heights_fault tin out points) (heights_in rows) (kept-heights tin out points)
kept-in Make rows = kept-make (text_in (codes "n") rows)

-- a job that is answered keeps what its mode's jobs keep
pub kept-answer : (mode : Mode) (rows : List Row) (answer : Result Job WordsFault) → IsAnswer (job_in mode rows) answer
    → IfOk answer IsPossibleJob
kept-answer mode rows answer is = elim is [
  | inl memory ↦ rw memory tt
  | inr wanted ↦ subst (λ (given : Result Job WordsFault). IfOk given IsPossibleJob) (sym wanted) (kept-in mode rows)
]

kept-words : (words : List Text) → IfOk (answer_of words) IsPossibleJob
kept-words [] = tt
kept-words (word ∷ rest) = by-mode (mode_of word)
  where
    by-rows : (mode : Mode) (rows : Option (List Row))
        → IfOk (option_map_or (job_in mode) rows (Err Parse)) IsPossibleJob
    by-rows mode None = tt
    by-rows mode (Some rows) = kept-in mode rows

    by-mode : (mode : Option Mode) → IfOk (option_map_or (answer_in (word ∷ rest)) mode (Err NoMode)) IsPossibleJob
    by-mode None = tt
    by-mode (Some mode) = by-rows mode (reading_of mode (word ∷ rest))

-- so does each job of words
pub job-kept : (words : List Text) (wanted : Job) → IsJobOf words wanted → IsPossibleJob wanted
job-kept words wanted is = subst (λ (answer : Result Job WordsFault). IfOk answer IsPossibleJob) is (kept-words words)
