-- What the words of the command line ask for.
use Rattle.std.specs.Prelude.{◌⊎◌, ℕ, Bool, List}
use Rattle.sheet_base.specs.declared.flags.How.{How}
use Rattle.job_words.specs.declared.jobs.Job.TheVariants.{Migrate, Make}
use Rattle.job_words.specs.declared.faults.WordsFault.{WordsFault}
use Rattle.job_words.specs.Jobs.{IsJobOf, IsWordsFault}
use Rattle.migrate_mode.specs.declared.migrations.Migration.{Migration}
use Rattle.height_mode.specs.declared.heights.HeightJob.{HeightJob}
use Rattle.verify_mode.specs.declared.verifications.Verification.{Verification}

-- the migration that the words of a job ask for
abbrev pub migration_with : List ℕ → List ℕ → How → Bool → Bool → Bool → List (List ℕ) → Migration
migration_with tin out how inverse cert sides layers =
    record { tin = tin; out = out; how = how; inverse = inverse; cert = cert; sides = sides; layers = layers }

-- the verification that the words of a job ask for
abbrev pub verification_with : List ℕ → List ℕ → List ℕ → List ℕ → How → Bool → Verification
verification_with tin source written cert how inverse =
    record { tin = tin; source = source; written = written; cert = cert; how = how; inverse = inverse }

-- the list of points that the words of a job ask to be moved
abbrev pub heights_with : List ℕ → List ℕ → How → List ℕ → HeightJob
heights_with tin out how points = record { tin = tin; out = out; how = how; points = points }

-- the words ask for this migration
abbrev pub AsksMigration : List (List ℕ) → Migration → Type 0
AsksMigration words migration = IsJobOf words
    (Migrate migration.tin migration.out migration.how migration.inverse migration.cert migration.sides migration.layers)

-- the words ask for what is made of n by n cells
abbrev pub AsksMaking : List (List ℕ) → ℕ → Type 0
AsksMaking words n = IsJobOf words (Make n)

-- the words are not understood, and this is their fault
abbrev pub LacksJob : List (List ℕ) → Type 0
LacksJob words = (fault : WordsFault) × IsWordsFault words fault

-- the words want no file of the shelf: they are not understood, or ask for what is made
abbrev pub WantNoFile : List (List ℕ) → Type 0
WantNoFile words = LacksJob words ⊎ ((n : ℕ) × AsksMaking words n)
