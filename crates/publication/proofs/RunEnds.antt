-- How a run ends, what its status comes of and what it hands out, from what its last call wrote.
use Rattle.std.proofs.Common.{◌≡◌, ◌≢◌, ◌⊎◌, inl, inr, [], Bool, true, false, Option, None, Some, IfSome, sym, ◌∙◌}
use Rattle.std.proofs.Common.{subst}
use Rattle.shelf_io.specs.Files.{Files}
use Rattle.job_words.specs.declared.faults.WordsFault.{WordsFault}
use Rattle.job_words.specs.declared.faults.WordsFault.TheVariants.{NoMode, Parse, Size, Many, Name, Suffix, SameName}
use Rattle.job_words.specs.declared.faults.WordsFault.TheVariants.{NoMemory as WordsMemory}
use Rattle.runs.specs.declared.loads.TheConstants.{MOST_BYTES}
use Rattle.runs.specs.declared.status.Status.{Status}
use Rattle.runs.specs.declared.status.Status.TheVariants.{Words as WordsStatus, Read, Write, Memory}
use Rattle.runs.specs.declared.refusal.Refusal.{Refusal}
use Rattle.runs.specs.declared.refusal.Refusal.TheVariants.{Words}
use Rattle.runs.specs.Causes.{HasCauses}
use Rattle.runs.specs.Counts.{ShelfCounts, HasFailed, HasGivenMore}
use Rattle.runs.specs.Refusals.{status_of, status_of_words, line_file}
use Rattle.runs.specs.Status.{end_of}
use Rattle.runs.proofs.BytesPassed.{passed_bytes}
use Rattle.runs.proofs.RunEnds.{by_memory}
use Rattle.publication.specs.Fronts.{HasWritten}
use Rattle.publication.specs.RunEnds.{EndsSo, made_whole, after_write_fault, TellsBytes, HasStatusCauses, IsHandedOut}
use Rattle.publication.proofs.Fronts.{written_front}
use Rattle.publication.proofs.LimitFronts.{limit_told}

-- the run ends as was wanted, or after a write fault
pub ends_so : (makes : Status → Files → Type 0) (press_rose : Type 0) (whole : Files) (wanted result : Status)
    (made : Option Files) → wanted ≢ Write → makes wanted whole → HasWritten whole wanted result made
    → (result ≡ Write → press_rose) → EndsSo makes press_rose result made
ends_so makes press_rose whole wanted result None other is written rose =
    elim written.status [
      | inl same ↦ (whole, made_whole (subst (λ (s : Status). makes s whole) (sym same) is))
      | inr write ↦ ([], after_write_fault write (rose write) wanted whole is tt)
    ]
ends_so makes press_rose whole wanted result (Some made) other is written rose =
    elim written.status [
      | inl same ↦
          let all : made ≡ whole = written.all (λ write. other (sym same ∙ write)) in
          made_whole (subst (λ (s : Status). makes s made) (sym same)
          (subst (λ (m : Files). makes wanted m) (sym all) is))
      | inr write ↦ after_write_fault write (rose write) wanted whole is (written.front write)
    ]

-- what is handed out of a refusal
pub handed_out : (reason : Type 0) (whole : Files) (wanted result : Status) (made : Option Files) → wanted ≢ Write
    → HasWritten whole wanted result made → reason → IsHandedOut reason wanted whole result made
handed_out reason whole wanted result made other written is = record {
  cause = is;
  status_is = written.status;
  printed = written.all;
  front = written_front whole wanted result made other written;
}

-- ---- statuses
-- a status that the run was not to end with is not its status, unless it is `Write`
pub not_so : (status wanted result : Status) → wanted ≢ status → status ≢ Write → (result ≡ wanted) ⊎ (result ≡ Write)
    → result ≢ status
not_so status wanted result other not_write (inl is) e = other (sym is ∙ e)
not_so status wanted result other not_write (inr is) e = not_write (sym e ∙ is)

pub words_unread : (fault : WordsFault) → status_of_words fault ≢ Read
words_unread NoMode = λ e. cc
words_unread Parse = λ e. cc
words_unread Size = λ e. cc
words_unread Many = λ e. cc
words_unread (Name which) = λ e. cc
words_unread (Suffix layer) = λ e. cc
words_unread (SameName layer) = λ e. cc
words_unread WordsMemory = λ e. cc

pub end_understood : (changed : Bool) → end_of changed ≢ WordsStatus
end_understood true = λ e. cc
end_understood false = λ e. cc

pub end_unread : (changed : Bool) → end_of changed ≢ Read
end_unread true = λ e. cc
end_unread false = λ e. cc

-- where words are not understood, the run ends so, or because memory ran out, or after a write fault
no_job_end : (fault : WordsFault) (result : Status) → (result ≡ status_of_words fault) ⊎ (result ≡ Write)
    → (result ≡ WordsStatus) ⊎ ((result ≡ Memory) ⊎ (result ≡ Write))
no_job_end fault result (inr is) = inr (inr is)
no_job_end WordsMemory result (inl is) = inr (inl is)
no_job_end NoMode result (inl is) = inl is
no_job_end Parse result (inl is) = inl is
no_job_end Size result (inl is) = inl is
no_job_end Many result (inl is) = inl is
no_job_end (Name which) result (inl is) = inl is
no_job_end (Suffix layer) result (inl is) = inl is
no_job_end (SameName layer) result (inl is) = inl is

-- a status of words is that of a fault of words
words_lack : (lacks_job : Type 0) (fault : WordsFault) → (fault ≢ WordsMemory → lacks_job)
    → status_of_words fault ≡ WordsStatus → lacks_job
words_lack lacks_job fault lacks is =
    by_memory (λ (f : WordsFault). (f ≢ WordsMemory → lacks_job) → status_of_words f ≡ WordsStatus → lacks_job)
    (λ lacks is. cc) (λ f other lacks is. lacks other) fault lacks is

words_end : (lacks_job : Type 0) (fault : WordsFault) (result : Status) → (fault ≢ WordsMemory → lacks_job)
    → (result ≡ status_of_words fault) ⊎ (result ≡ Write) → result ≡ WordsStatus → lacks_job
words_end lacks_job fault result lacks (inl is) words_is = words_lack lacks_job fault lacks (sym is ∙ words_is)
words_end lacks_job fault result lacks (inr is) words_is = let e = sym is ∙ words_is in cc

-- ---- what the status of a run comes of
module _ (lacks_job lacks_file : Type 0) (counts : ShelfCounts) (result : Status) (made : Option Files) where
  -- an end that neither the words nor the shelf give
  pub plain_causes : (wanted : Status) → wanted ≢ WordsStatus → wanted ≢ Read → (lacks_job → ⊥)
      → (result ≡ wanted) ⊎ (result ≡ Write)
      → IfSome made (λ files. TellsBytes files → HasGivenMore MOST_BYTES counts)
      → HasStatusCauses lacks_job lacks_file counts result made
  plain_causes wanted understood unread none status limit = record {
    words_are = λ e. absurd (not_so WordsStatus wanted result understood (λ no. cc) status e);
    no_job = λ lacks. absurd (none lacks);
    read = λ e. absurd (not_so Read wanted result unread (λ no. cc) status e);
    limit = limit;
  }

  -- words that are not understood
  pub words_causes : (fault : WordsFault) → (fault ≢ WordsMemory → lacks_job)
      → HasWritten (line_file (Words fault)) (status_of (Words fault)) result made
      → HasStatusCauses lacks_job lacks_file counts result made
  words_causes fault lacks written = record {
    words_are = words_end lacks_job fault result lacks written.status;
    no_job = λ none. no_job_end fault result written.status;
    read = λ e. absurd
        (not_so Read (status_of_words fault) result (words_unread fault) (λ no. cc) written.status e);
    limit = limit_told (Words fault) result made (HasGivenMore MOST_BYTES counts) written (λ no. cc) (λ no. cc)
        (λ no. cc) (λ no. cc);
  }

  -- a refusal, whose own missing file is one that the words want
  read_of : (lacks : Type 0) → (lacks → lacks_file) → (wanted : Status)
      → (wanted ≡ Read → HasFailed counts ⊎ lacks) → (result ≡ wanted) ⊎ (result ≡ Write) → result ≡ Read
      → HasFailed counts ⊎ lacks_file
  read_of lacks more wanted why (inl same) e =
      elim (why (sym same ∙ e)) [
        | inl failed ↦ inl failed
        | inr is ↦ inr (more is)
      ]
  read_of lacks more wanted why (inr write) e = let no = sym write ∙ e in cc

  pub refusal_causes : (lacks : Type 0) (may_be : Status → Type 0) (refusal : Refusal) → (lacks_job → ⊥)
      → (lacks → lacks_file) → HasCauses lacks may_be counts refusal
      → HasWritten (line_file refusal) (status_of refusal) result made
      → HasStatusCauses lacks_job lacks_file counts result made
  refusal_causes lacks may_be refusal none more why written = record {
    words_are = λ e. absurd
        (not_so WordsStatus (status_of refusal) result why.understood (λ no. cc) written.status e);
    no_job = λ lacks. absurd (none lacks);
    read = read_of lacks more (status_of refusal) why.read written.status;
    limit = limit_told refusal result made (HasGivenMore MOST_BYTES counts) written why.tin_long why.layers_long
        (λ e. passed_bytes _ _ (why.written_long e)) (λ e. passed_bytes _ _ (why.cert_long e));
  }
