-- The file of a name is missing, too long, not read, not sound or gives a sound triangulation with offsets.
use Rattle.std.proofs.Common.{◌≡◌, ◌≢◌, ◌⊎◌, inl, inr, ⊎_elim, ℕ, List, length, Option, None, Some, Result, Ok, Err}
use Rattle.std.proofs.Common.{refl, ap, arith}
use Rattle.std.proofs.lemmas.Bool.{cases_lt}
use Rattle.shelf_io.specs.Files.{Files, bytes_of}
use Rattle.sheet_base.specs.declared.flags.How.{How}
use Rattle.tin_base.specs.Soundness.{IsSound}
use Rattle.tin_check.specs.declared.faults.CheckFault.{CheckFault}
use Rattle.tin_check.specs.Faults.{IsFirstFault, OutcomeExists as FaultExists}
use Rattle.tin_file.specs.Laws.{TallOutcomeExists}
use Rattle.tin_file.specs.TallFiles.{TallAnswers}
use Rattle.tin_file.specs.declared.tall_files.Tall.{Tall}
use Rattle.tin_file.specs.declared.faults.TinFault.{TinFault}
use Rattle.tin_file.specs.declared.faults.TinFault.TheVariants.{NoMemory as TinMemory}
use Rattle.runs.specs.declared.loads.TheConstants.{MOST_BYTES}
use Rattle.runs.specs.declared.refusal.Refusal.{Refusal}
use Rattle.runs.specs.declared.refusal.Refusal.TheVariants.{TinUnread, TinLong, Tin, Check}
use Rattle.runs.specs.Triangulations.{HasFile}
use Rattle.height_mode.specs.Talls.{IsTallRead}
use Rattle.height_mode.proofs.OneTall.{IsTallEnd}

abbrev HasEnd : Files → How → List ℕ → Type 0
HasEnd files how name = (end : Result Tall Refusal) × IsTallEnd files how name end

-- a text that is read is sound or has a first fault
of_tall : (files : Files) (how : How) (name text : List ℕ) (tall : Tall) → HasFile files name text
    → IsTallRead how text tall → IsSound tall.tin ⊎ ((fault : CheckFault) × IsFirstFault tall.tin fault)
    → HasEnd files how name
of_tall files how name text tall file read (inl sound) =
    (Ok tall, (text, file, record { read = read; sound = sound }))
of_tall files how name text tall file read (inr (fault, first)) =
    (Err (Check fault), (text, file, record { tall = tall; read = read; first = first }))

-- a text is read or has a fault
of_answer : FaultExists → (files : Files) (how : How) (name text : List ℕ) → HasFile files name text
    → (answer : Result Tall TinFault) → TallAnswers how text answer → answer ≢ Err TinMemory
    → HasEnd files how name
of_answer faults files how name text file (Ok tall) is other =
    of_tall files how name text tall file is (faults tall.tin)
of_answer faults files how name text file (Err fault) is other =
    (Err (Tin fault), (text, file, record { answers = is; of_text = λ e. other (ap Err e) }))

of_file : TallOutcomeExists → FaultExists → (files : Files) (how : How) (name : List ℕ) (found : Option (List ℕ))
    → bytes_of files name ≡ found → HasEnd files how name
of_file answers faults files how name None is = (Err TinUnread, is)
of_file answers faults files how name (Some text) is =
    ⊎_elim (λ more. (Err TinLong, (text, is, more)))
    (λ few. let (answer, answered, other) = answers how text in
    of_answer faults files how name text (record { found = is; within = omega (arith, few) }) answer answered other)
    (cases_lt MOST_BYTES (length text))

pub tall_end_exists : TallOutcomeExists → FaultExists → (files : Files) (how : How) (name : List ℕ)
    → HasEnd files how name
tall_end_exists answers faults files how name = of_file answers faults files how name (bytes_of files name) refl
