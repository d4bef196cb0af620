-- Laws of triangulation files.
use Rattle.std.specs.Prelude.{◌≡◌, ◌≢◌, ℕ, List, length, Result, Ok, Err}
use Rattle.sheet_base.specs.declared.flags.How.{How}
use Rattle.tin_base.specs.Triangulation.{Triangulation}
use Rattle.tin_file.specs.TinFiles.{Answers}
use Rattle.tin_file.specs.TallFiles.{TallAnswers}
use Rattle.tin_file.specs.declared.tall_files.Tall.{Tall}
use Rattle.tin_file.specs.declared.faults.TinFault.{TinFault}
use Rattle.tin_file.specs.declared.faults.TinFault.TheVariants.{NoVertical, Offset, NoMemory}

-- two answers to the same bytes are the same, unless one is that memory ran out
abbrev pub AnswerIsOne : Type 0
AnswerIsOne =
    (how : How) (bytes : List ℕ) (answer other : Result Triangulation TinFault) → Answers how bytes answer
    → answer ≢ Err NoMemory → Answers how bytes other → other ≢ Err NoMemory
    → answer ≡ other

-- any bytes have an answer other than out of memory
abbrev pub OutcomeExists : Type 0
OutcomeExists =
    (how : How) (bytes : List ℕ) → (answer : Result Triangulation TinFault) × Answers how bytes answer
    × (answer ≢ Err NoMemory)

-- two such answers of a reading with the vertical component are the same
abbrev pub TallAnswerIsOne : Type 0
TallAnswerIsOne =
    (how : How) (bytes : List ℕ) (answer other : Result Tall TinFault) → TallAnswers how bytes answer
    → answer ≢ Err NoMemory → TallAnswers how bytes other → other ≢ Err NoMemory
    → answer ≡ other

abbrev pub TallOutcomeExists : Type 0
TallOutcomeExists =
    (how : How) (bytes : List ℕ) → (answer : Result Tall TinFault) × TallAnswers how bytes answer
    × (answer ≢ Err NoMemory)

-- a reading with the vertical component has one offset for each corner
abbrev pub OffsetsAreOfCorners : Type 0
OffsetsAreOfCorners = (how : How) (bytes : List ℕ) (tall : Tall) → TallAnswers how bytes (Ok tall)
    → length tall.offsets ≡ length tall.tin.corners

-- the two faults of a vertical component are none of a reading without it
pub record HasNoHeightFault (how : How) (bytes : List ℕ) : Type 0 where
  pub vertical : Answers how bytes (Err NoVertical) → ⊥
  pub offset : (row : ℕ) → Answers how bytes (Err (Offset row)) → ⊥

abbrev pub HasNoHeightFaults : Type 0
HasNoHeightFaults = (how : How) (bytes : List ℕ) → HasNoHeightFault how bytes
