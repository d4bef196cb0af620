-- What is so of a run that has ended, whether or not its shelf and its press tell their files.
use Rattle.std.specs.Prelude.{◌≢◌, List, ℕ, Option, IfSome}
use Rattle.shelf_io.specs.Files.{Files}
use Rattle.job_words.specs.declared.jobs.Job.{Job}
use Rattle.job_words.specs.Jobs.{IsJobOf}
use Rattle.runs.specs.declared.loads.TheConstants.{MOST_VERIFIED}
use Rattle.runs.specs.declared.status.Status.{Status}
use Rattle.runs.specs.declared.status.Status.TheVariants.{Same, Changed, Read}
use Rattle.runs.specs.Counts.{ShelfCounts, HasGivenMore}
use Rattle.migrate_mode.specs.declared.migrations.Migration.{Migration}
use Rattle.migrate_mode.specs.KeptRelations.{KeepsRelations, KeepsMadeRelations}
use Rattle.whole_runs.specs.Jobs.{AsksMigration, AsksMaking, WantNoFile}
use Rattle.whole_runs.specs.Outcome.{IsJobDone}
use Rattle.whole_runs.specs.Ends.{EndsTold, HasMadeAfter, MayEnd, TellsVerifiedBytes}

-- all is written
abbrev pub HasWrittenAll : Status → Type 0
HasWrittenAll Same = Unit {0}
HasWrittenAll Changed = Unit {0}
HasWrittenAll status = ⊥

-- What a run makes.
pub record HasRunMade (words : List (List ℕ)) (told : Option Files) (shelf_rose press_rose : Type 0) (status : Status)
    (made : Option Files) : Type 0 where
  -- where the shelf states its files, a run ends in one of four ways: by its outcome, after a read fault, because
  -- memory ran out, or after a write fault
  pub ends : IfSome told (λ files. EndsTold words files shelf_rose press_rose status made)
  -- Where all is written the job is done, and these files are made of it: the layers' files and the report of a
  -- migration, the report alone of `make`, the line of a check or of a verification, and the list with its points
  -- moved, with its line, of `heights`.
  pub done : IfSome told (λ files. (job : Job) → IsJobOf words job → HasWrittenAll status
      → IfSome made (IsJobDone files job status))
  -- Where a migration ends with `Same`, each two segments of the written layers have the relation of their pieces in
  -- the source; where it ends with `Changed`, the report lists each two that have not, and no others. Where sides of
  -- rings are asked for, `Same` also says that each ring has its direction in the written frame and each point its
  -- side of each ring. After `Changed` the report lists those that have not, and no others. One kind of drawing is
  -- excepted from the relations: one whose next handle, after those that copies were given, has more than fifteen
  -- hexadecimal digits. It is written all the same.
  pub kept : IfSome told (λ files. (migration : Migration) → AsksMigration words migration
      → KeepsRelations files migration status made)
  -- where the words are not understood or ask for what is made, a run ends so over any files, whatever is stated
  pub untold : WantNoFile words → (files : Files) → EndsTold words files ⊥ press_rose status made
  -- and what is said of a migration holds of what is made, whose layer is not written
  pub kept_made : (n : ℕ) → AsksMaking words n → KeepsMadeRelations n status made
  -- what is made after each status, whatever is stated: all that the run was to make, or after `Write` a first part
  pub stands : IfSome made (HasMadeAfter words status)

-- What the job of the words says of the status of a run, beside the causes that `tinplaces` has, too.
pub record HasJobCauses (words : List (List ℕ)) (counts : ShelfCounts) (status : Status) (made : Option Files) : Type 0
  where
    -- where the words want no file, none is unread
    pub unread : WantNoFile words → status ≢ Read
    -- a line on a written layer, or on a certificate, with too many bytes is made only after more than that
    pub verified_limit : IfSome made (λ files. TellsVerifiedBytes files → HasGivenMore MOST_VERIFIED counts)
    -- the job may end so
    pub may_end : (job : Job) → IsJobOf words job → MayEnd job status
