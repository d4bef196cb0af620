-- What the end of a run says of the pieces of its layers.
use Rattle.std.proofs.Common.{◌≡◌, ℕ, Bool, List, [], Option, None, Some, IfSome, refl, ap, subst}
use Rattle.shelf_io.specs.Files.{Files}
use Rattle.sheet_base.specs.declared.flags.How.{How}
use Rattle.job_words.specs.declared.jobs.Job.{Job}
use Rattle.job_words.specs.declared.jobs.Job.TheVariants.{Migrate, Check as CheckJob, Make, Verify, Heights}
use Rattle.runs.specs.declared.status.Status.{Status}
use Rattle.runs.specs.declared.refusal.Refusal.TheVariants.{Words, NoMemory}
use Rattle.migrate_mode.specs.declared.migrations.Migration.{Migration}
use Rattle.migrate_mode.specs.Migrations.{IsMigrationDone}
use Rattle.migrate_mode.specs.Maker.{IsMakingDone}
use Rattle.migrate_mode.specs.KeptRelations.{KeepsRelations, KeepsMadeRelations}
use Rattle.migrate_mode.proofs.KeptMigrations.{refused_so, migrated_keeps, made_refused, making_keeps}
use Rattle.whole_runs.specs.Jobs.{migration_with, AsksMigration, AsksMaking}
use Rattle.whole_runs.specs.Outcome.{HasOutcome, no_job, refused, done}
use Rattle.publication.specs.RunEnds.{Ends, made_whole, after_write_fault}
use Rattle.whole_runs.specs.Ends.{Makes, by_outcome, after_read_fault, out_of_memory, EndsTold}
use Rattle.whole_runs.specs.Laws.{EndKeepsRelations, EndKeepsMadeRelations}
use Rattle.whole_runs.proofs.OneOutcome.{job_one}

abbrev migration_in : Job → Migration → Migration
migration_in (Migrate tin out how inverse cert sides layers) other = migration_with tin out how inverse cert sides layers
migration_in (CheckJob name how) other = other
migration_in (Make n) other = other
migration_in (Verify tin source written cert how inverse) other = other
migration_in (Heights tin out how points) other = other

same_migration : (tin out : List ℕ) (how : How) (inverse cert sides : Bool) (layers : List (List ℕ)) (migration : Migration)
    → Migrate tin out how inverse cert sides layers
    ≡ Migrate migration.tin migration.out migration.how migration.inverse migration.cert migration.sides migration.layers
    → migration_with tin out how inverse cert sides layers ≡ migration
same_migration tin out how inverse cert sides layers migration one = ap (λ (job : Job). migration_in job migration) one

outcome_keeps : (words : List (List ℕ)) (files : Files) (migration : Migration) (status : Status) (whole : Files)
    (made : Option Files) → AsksMigration words migration → IfSome made (λ files. files ≡ whole)
    → HasOutcome words files status whole → KeepsRelations files migration status made
outcome_keeps words files migration status whole made given same (no_job fault lacks is) =
    refused_so files migration (Words fault) status whole made made is
outcome_keeps words files migration status whole made given same (refused job also refusal why is) =
    refused_so files migration refusal status whole made made is
outcome_keeps words files migration status whole made given same
    (done (Migrate tin out how inverse cert sides layers) also is) =
    let one = job_one words (Migrate tin out how inverse cert sides layers)
    (Migrate migration.tin migration.out migration.how migration.inverse migration.cert migration.sides migration.layers) also
    given in
    migrated_keeps files migration status whole made same
    (subst (λ (c : Migration). IsMigrationDone files c status whole)
    (same_migration tin out how inverse cert sides layers migration one) is)
outcome_keeps words files migration status whole made given same (done (CheckJob name how) also is) =
    let one = job_one words (CheckJob name how)
    (Migrate migration.tin migration.out migration.how migration.inverse migration.cert migration.sides migration.layers) also
    given in cc
outcome_keeps words files migration status whole made given same (done (Make n) also is) =
    let one = job_one words (Make n) (Migrate migration.tin migration.out migration.how migration.inverse migration.cert
    migration.sides migration.layers) also given in cc
outcome_keeps words files migration status whole made given same
    (done (Verify tin source written cert how inverse) also is) =
    let one = job_one words (Verify tin source written cert how inverse)
    (Migrate migration.tin migration.out migration.how migration.inverse migration.cert migration.sides migration.layers) also
    given in cc
outcome_keeps words files migration status whole made given same (done (Heights tin out how points) also is) =
    let one = job_one words (Heights tin out how points)
    (Migrate migration.tin migration.out migration.how migration.inverse migration.cert migration.sides migration.layers) also
    given in cc

end_keeps : (words : List (List ℕ)) (files : Files) (shelf_rose press_rose : Type 0) (migration : Migration)
    (status : Status) (whole : Files) (made : Option Files) → AsksMigration words migration
    → IfSome made (λ files. files ≡ whole) → Ends (Makes words files shelf_rose) press_rose status whole
    → KeepsRelations files migration status made
end_keeps words files shelf_rose press_rose migration status whole made given same (made_whole (by_outcome is)) =
    outcome_keeps words files migration status whole made given same is
end_keeps words files shelf_rose press_rose migration status whole made given same
    (made_whole (after_read_fault rose job also refusal reached is)) =
    refused_so files migration refusal status whole made made is
end_keeps words files shelf_rose press_rose migration status whole made given same (made_whole (out_of_memory is)) =
    refused_so files migration NoMemory status whole made made is
end_keeps words files shelf_rose press_rose migration status whole made given same
    (after_write_fault is rose other others makes front) = rw is tt

ends_keep : (words : List (List ℕ)) (files : Files) (shelf_rose press_rose : Type 0) (migration : Migration)
    (status : Status) (made : Option Files) → AsksMigration words migration
    → EndsTold words files shelf_rose press_rose status made → KeepsRelations files migration status made
ends_keep words files shelf_rose press_rose migration status None given (whole, ends) =
    end_keeps words files shelf_rose press_rose migration status whole None given tt ends
ends_keep words files shelf_rose press_rose migration status (Some made) given ends =
    end_keeps words files shelf_rose press_rose migration status made (Some made) given refl ends

-- where the shelf states its files
pub run_keeps : (words : List (List ℕ)) (told : Option Files) (shelf_rose press_rose : Type 0) (status : Status)
    (made : Option Files)
    → IfSome told (λ files. EndsTold words files shelf_rose press_rose status made)
    → IfSome told (λ files. (migration : Migration) → AsksMigration words migration
    → KeepsRelations files migration status made)
run_keeps words None shelf_rose press_rose status made ends = tt
run_keeps words (Some files) shelf_rose press_rose status made ends =
    λ migration given. ends_keep words files shelf_rose press_rose migration status made given ends

made_outcome_keeps : (words : List (List ℕ)) (files : Files) (n : ℕ) (status : Status) (whole : Files)
    (made : Option Files) → AsksMaking words n → IfSome made (λ files. files ≡ whole)
    → HasOutcome words files status whole
    → KeepsMadeRelations n status made
made_outcome_keeps words files n status whole made given same (no_job fault lacks is) =
    made_refused n (Words fault) status whole made is
made_outcome_keeps words files n status whole made given same (refused job also refusal why is) =
    made_refused n refusal status whole made is
made_outcome_keeps words files n status whole made given same (done (Migrate tin out how inverse cert sides layers) also is) =
    let one = job_one words (Migrate tin out how inverse cert sides layers) (Make n) also given in cc
made_outcome_keeps words files n status whole made given same (done (CheckJob name how) also is) = let one =
    job_one words (CheckJob name how) (Make n) also given in cc
made_outcome_keeps words files n status whole made given same
    (done (Verify tin source written cert how inverse) also is) = let one =
    job_one words (Verify tin source written cert how inverse) (Make n) also given in cc
made_outcome_keeps words files n status whole made given same (done (Heights tin out how points) also is) = let one =
    job_one words (Heights tin out how points) (Make n) also given in cc
made_outcome_keeps words files n status whole made given same (done (Make m) also is) =
    let one = job_one words (Make m) (Make n) also given in
    let as_asked : m ≡ n = cc in
    making_keeps n status whole made same (subst (λ (k : ℕ). IsMakingDone k status whole) as_asked is)

made_end_keeps : (words : List (List ℕ)) (files : Files) (shelf_rose press_rose : Type 0) (n : ℕ) (status : Status)
    (whole : Files) (made : Option Files) → AsksMaking words n → IfSome made (λ files. files ≡ whole)
    → Ends (Makes words files shelf_rose) press_rose status whole → KeepsMadeRelations n status made
made_end_keeps words files shelf_rose press_rose n status whole made given same (made_whole (by_outcome is)) =
    made_outcome_keeps words files n status whole made given same is
made_end_keeps words files shelf_rose press_rose n status whole made given same
    (made_whole (after_read_fault rose job also refusal reached is)) = made_refused n refusal status whole made is
made_end_keeps words files shelf_rose press_rose n status whole made given same (made_whole (out_of_memory is)) =
    made_refused n NoMemory status whole made is
made_end_keeps words files shelf_rose press_rose n status whole made given same
    (after_write_fault is rose other others makes front) = rw is ([], tt)

-- over any files
pub made_keeps : (words : List (List ℕ)) (files : Files) (shelf_rose press_rose : Type 0) (n : ℕ) (status : Status)
    (made : Option Files) → AsksMaking words n → EndsTold words files shelf_rose press_rose status made
    → KeepsMadeRelations n status made
made_keeps words files shelf_rose press_rose n status None given (whole, ends) =
    made_end_keeps words files shelf_rose press_rose n status whole None given tt ends
made_keeps words files shelf_rose press_rose n status (Some made) given ends =
    made_end_keeps words files shelf_rose press_rose n status made (Some made) given refl ends

-- ---- the laws
pub end_keeps_relations : EndKeepsRelations
end_keeps_relations words files shelf_before shelf_now press_before press_now migration status made given ends =
    ends_keep words files _ _ migration status made given ends

pub end_keeps_made_relations : EndKeepsMadeRelations
end_keeps_made_relations words files press_before press_now n status made given ends =
    made_keeps words files _ _ n status made given ends
