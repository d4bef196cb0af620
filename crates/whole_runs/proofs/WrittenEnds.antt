-- A run that has written all has done its job.
use Rattle.std.proofs.Common.{ℕ, List, Option, None, Some, IfSome, subst}
use Rattle.shelf_io.specs.Files.{Files}
use Rattle.job_words.specs.declared.faults.WordsFault.{WordsFault}
use Rattle.job_words.specs.declared.faults.WordsFault.TheVariants.{NoMode, Parse, Size, Many, Name, Suffix, SameName}
use Rattle.job_words.specs.declared.faults.WordsFault.TheVariants.{NoMemory as WordsMemory}
use Rattle.job_words.specs.declared.jobs.Job.{Job}
use Rattle.job_words.specs.Jobs.{IsJobOf}
use Rattle.runs.specs.declared.status.Status.{Status}
use Rattle.runs.specs.declared.refusal.Refusal.{Refusal}
use Rattle.runs.specs.declared.refusal.Refusal.TheVariants.{Words, TinUnread, TinLong, Tin, Check, LayerUnread}
use Rattle.runs.specs.declared.refusal.Refusal.TheVariants.{LayersLong, Layer, Outside, TooManyPieces, TooManyChanges}
use Rattle.runs.specs.declared.refusal.Refusal.TheVariants.{TooManySides}
use Rattle.runs.specs.declared.refusal.Refusal.TheVariants.{NoMemory, WrittenUnread, WrittenLong, CertUnread, CertLong}
use Rattle.runs.specs.declared.refusal.Refusal.TheVariants.{Certificate}
use Rattle.cert_check.specs.declared.faults.CertFault.{CertFault}
use Rattle.cert_check.specs.declared.faults.CertFault.TheVariants as certs
use Rattle.runs.specs.Refusals.{status_of, status_of_words, status_of_cert, Refuses}
use Rattle.runs.proofs.Faults.{IsOfTin, refused_tin, limited_tin, tin_without_room, of_text, of_check, IsOfLayer}
use Rattle.runs.proofs.Faults.{unread_layer}
use Rattle.runs.proofs.Faults.{layer_without_room, of_layer}
use Rattle.whole_runs.specs.Outcome.{IsJobDone, HasOutcome, no_job, refused, done}
use Rattle.publication.specs.RunEnds.{Ends, made_whole, after_write_fault}
use Rattle.whole_runs.specs.Ends.{Makes, by_outcome, after_read_fault, out_of_memory, EndsTold}
use Rattle.whole_runs.specs.RunEnds.{HasWrittenAll}
use Rattle.whole_runs.proofs.OneOutcome.{job_one, job_or_fault}

-- ---- no refusal ends with all written
words_end : (fault : WordsFault) → HasWrittenAll (status_of_words fault) → ⊥
words_end NoMode = λ e. e
words_end Parse = λ e. e
words_end Size = λ e. e
words_end Many = λ e. e
words_end (Name which) = λ e. e
words_end (Suffix layer) = λ e. e
words_end (SameName layer) = λ e. e
words_end WordsMemory = λ e. e

tin_end : (status : Status) → IsOfTin status → HasWrittenAll status → ⊥
tin_end status (refused_tin is) = rw is (λ e. e)
tin_end status (limited_tin is) = rw is (λ e. e)
tin_end status (tin_without_room is) = rw is (λ e. e)

layer_end : (status : Status) → IsOfLayer status → HasWrittenAll status → ⊥
layer_end status (unread_layer is) = rw is (λ e. e)
layer_end status (layer_without_room is) = rw is (λ e. e)

cert_end : (fault : CertFault) → HasWrittenAll (status_of_cert fault) → ⊥
cert_end (certs.Layer fault) = layer_end _ (of_layer fault)
cert_end (certs.Form line) = λ e. e
cert_end (certs.Count segments lines) = λ e. e
cert_end (certs.Segment path segment) = λ e. e
cert_end (certs.Differs at) = λ e. e
cert_end certs.NoMemory = λ e. e

refusal_end : (refusal : Refusal) → HasWrittenAll (status_of refusal) → ⊥
refusal_end (Words fault) = words_end fault
refusal_end TinUnread = λ e. e
refusal_end TinLong = λ e. e
refusal_end (Tin fault) = tin_end _ (of_text fault)
refusal_end (Check fault) = tin_end _ (of_check fault)
refusal_end (LayerUnread layer) = λ e. e
refusal_end LayersLong = λ e. e
refusal_end (Layer layer fault) = layer_end _ (of_layer fault)
refusal_end (Outside layer path segment) = λ e. e
refusal_end TooManyPieces = λ e. e
refusal_end TooManyChanges = λ e. e
refusal_end TooManySides = λ e. e
refusal_end WrittenUnread = λ e. e
refusal_end WrittenLong = λ e. e
refusal_end CertUnread = λ e. e
refusal_end CertLong = λ e. e
refusal_end (Certificate fault) = cert_end fault
refusal_end NoMemory = λ e. e

refused_end : (refusal : Refusal) (status : Status) (made : Files) → Refuses refusal status made → HasWrittenAll status
    → ⊥
refused_end refusal status made is all = refusal_end refusal (subst HasWrittenAll is.status_is all)

-- ---- the end of a job
-- its outcome
outcome_done : (words : List (List ℕ)) (files : Files) (job : Job) (status : Status) (made : Files)
    → IsJobOf words job → HasWrittenAll status → HasOutcome words files status made → IsJobDone files job status made
outcome_done words files job status made given all (no_job fault lacks is) =
    absurd (job_or_fault words job fault given lacks)
outcome_done words files job status made given all (refused other also refusal why is) =
    absurd (refused_end refusal status made is all)
outcome_done words files job status made given all (done other also is) =
    subst (λ (j : Job). IsJobDone files j status made) (job_one words other job also given) is

end_done : (words : List (List ℕ)) (files : Files) (shelf_rose press_rose : Type 0) (job : Job) (status : Status)
    (made : Files) → IsJobOf words job → HasWrittenAll status → Ends (Makes words files shelf_rose) press_rose status made
    → IsJobDone files job status made
end_done words files shelf_rose press_rose job status made given all (made_whole (by_outcome is)) =
    outcome_done words files job status made given all is
end_done words files shelf_rose press_rose job status made given all
    (made_whole (after_read_fault rose other also refusal reached is)) =
    absurd (refused_end refusal status made is all)
end_done words files shelf_rose press_rose job status made given all (made_whole (out_of_memory is)) =
    absurd (refused_end NoMemory status made is all)
end_done words files shelf_rose press_rose job status made given all
    (after_write_fault is rose other others makes front) = absurd (subst HasWrittenAll is all)

-- of the files that a shelf states
pub run_done : (words : List (List ℕ)) (told : Option Files) (shelf_rose press_rose : Type 0) (status : Status)
    (made : Option Files) → IfSome told (λ files. EndsTold words files shelf_rose press_rose status made)
    → IfSome told (λ files. (job : Job) → IsJobOf words job → HasWrittenAll status
    → IfSome made (IsJobDone files job status))
run_done words None shelf_rose press_rose status made ends = tt
run_done words (Some files) shelf_rose press_rose status None ends = λ job given all. tt
run_done words (Some files) shelf_rose press_rose status (Some made) ends =
    λ job given all. end_done words files shelf_rose press_rose job status made given all ends
