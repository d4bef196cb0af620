-- The file of a name is missing, too long, not read, not sound or gives a sound triangulation.
use Rattle.std.proofs.Common.{◌≡◌, ◌≢◌, ◌⊎◌, inl, inr, ⊎_elim, ℕ, List, length, Option, None, Some, Result, Ok, Err}
use Rattle.std.proofs.Common.{refl, ap, arith}
use Rattle.std.proofs.lemmas.Bool.{cases_lt}
use Rattle.shelf_io.specs.Files.{Files, bytes_of}
use Rattle.sheet_base.specs.declared.flags.How.{How}
use Rattle.tin_base.specs.Triangulation.{Triangulation}
use Rattle.tin_base.specs.Soundness.{IsSound}
use Rattle.tin_check.specs.declared.faults.CheckFault.{CheckFault}
use Rattle.tin_check.specs.Faults.{IsFirstFault, OutcomeExists as FaultExists}
use Rattle.tin_file.specs.Laws.{OutcomeExists as AnswerExists}
use Rattle.tin_file.specs.TinFiles.{Answers}
use Rattle.tin_file.specs.declared.faults.TinFault.{TinFault}
use Rattle.tin_file.specs.declared.faults.TinFault.TheVariants.{NoMemory as TinMemory}
use Rattle.runs.specs.declared.loads.TheConstants.{MOST_BYTES}
use Rattle.runs.specs.declared.refusal.Refusal.{Refusal}
use Rattle.runs.specs.declared.refusal.Refusal.TheVariants.{TinUnread, TinLong, Tin, Check}
use Rattle.runs.specs.Triangulations.{IsRead, HasFile}
use Rattle.runs.specs.Laws.{IsTinEnd, TinEndExists}

abbrev HasEnd : Files → How → List ℕ → Type 0
HasEnd files how name = (end : Result Triangulation Refusal) × IsTinEnd files how name end

-- a text that is read is sound or has a first fault
of_tin : (files : Files) (how : How) (name text : List ℕ) (tin : Triangulation) → HasFile files name text
    → IsRead how text tin → IsSound tin ⊎ ((fault : CheckFault) × IsFirstFault tin fault) → HasEnd files how name
of_tin files how name text tin file read (inl sound) =
    (Ok tin, (text, file, record { read = read; sound = sound }))
of_tin files how name text tin file read (inr (fault, first)) =
    (Err (Check fault), (text, file, record { tin = tin; read = read; first = first }))

-- a text is read or has a fault
of_answer : FaultExists → (files : Files) (how : How) (name text : List ℕ) → HasFile files name text
    → (answer : Result Triangulation TinFault) → Answers how text answer → answer ≢ Err TinMemory
    → HasEnd files how name
of_answer faults files how name text file (Ok tin) is other = of_tin files how name text tin file is (faults tin)
of_answer faults files how name text file (Err fault) is other =
    (Err (Tin fault), (text, file, record { answers = is; of_text = λ e. other (ap Err e) }))

of_file : AnswerExists → FaultExists → (files : Files) (how : How) (name : List ℕ) (found : Option (List ℕ))
    → bytes_of files name ≡ found → HasEnd files how name
of_file answers faults files how name None is = (Err TinUnread, is)
of_file answers faults files how name (Some text) is =
    ⊎_elim (λ more. (Err TinLong, (text, is, more)))
    (λ few. let (answer, answered, other) = answers how text in
    of_answer faults files how name text (record { found = is; within = omega (arith, few) }) answer answered other)
    (cases_lt MOST_BYTES (length text))

pub tin_end_exists : AnswerExists → FaultExists → TinEndExists
tin_end_exists answers faults files how name = of_file answers faults files how name (bytes_of files name) refl
