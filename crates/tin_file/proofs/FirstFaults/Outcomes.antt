-- Any bytes say a triangulation or have a fault, and without a vertical component none of its faults.
use Rattle.std.proofs.Common.{◌≢◌, ℕ, inl, inr, List, Bool, true, false, Result, Err, subst, arith}
use Rattle.jtext.specs.Values.{Json}
use Rattle.jtext.specs.Texts.{HasOutcome}
use Rattle.jtext.proofs.CallerLemmas.Outcomes as texts
use Rattle.tin_file.specs.Laws.{OutcomeExists, TallOutcomeExists, HasNoHeightFaults}
use Rattle.tin_file.specs.TinFiles.{reading, IsReading, AnswersBy}
use Rattle.tin_file.specs.TallFiles.{tall_reading}
use Rattle.tin_file.specs.InsideNodes.{Equals}
use Rattle.tin_file.specs.declared.faults.TinFault.{TinFault}
use Rattle.tin_file.specs.declared.faults.TinFault.TheVariants as faults
use Rattle.tin_file.proofs.FirstFaults.ValueFaults.{IsGood, good_reading, answer_by}
use Rattle.tin_file.proofs.FirstFaults.TallFaults.{good_tall_reading}

-- a reading of values
module _ {A : Type 0} (tall : Bool) (of_value : Json → Result A TinFault)
    (good : (value : Json) → IsGood tall (of_value value)) where
  equal : (r : Result A TinFault) → Equals r r
  equal r = grind arith

  not_memory : (r : Result A TinFault) → IsGood tall r → r ≢ Err faults.NoMemory
  not_memory r is same = (subst (IsGood tall) same is).is

  abbrev Outcome : List ℕ → Type 0
  Outcome bytes = (answer : Result A TinFault) × AnswersBy of_value bytes answer × (answer ≢ Err faults.NoMemory)

  some_outcome : (bytes : List ℕ) → Outcome bytes
  some_outcome bytes = by (texts.outcome bytes)
    where
      by : HasOutcome bytes → Outcome bytes
      by (inl (whole, is)) =
          let wanted = of_value whole.value in (
            wanted,
            answer_by tall of_value bytes wanted wanted (good whole.value) (equal wanted)
                (λ answer read. (whole, is, read)),
            not_memory
                wanted (good whole.value),
          )
      by (inr (inl (at, is))) = (Err (faults.Json at), is, λ same. cc)
      by (inr (inr (at, is))) = (Err (faults.Deep at), is, λ same. cc)

pub outcome : OutcomeExists
outcome how bytes = some_outcome false (reading how) (good_reading false how) bytes

pub tall_outcome : TallOutcomeExists
tall_outcome how bytes = some_outcome true (tall_reading how) (good_tall_reading how) bytes

pub no_height_faults : HasNoHeightFaults
no_height_faults how bytes =
    record { vertical = λ answer. no_vertical answer; offset = λ row answer. no_offset row answer }
  where
    no_vertical : IsReading how bytes (Err faults.NoVertical) → ⊥
    no_vertical (whole, is, read) = cc (subst (IsGood false) read (good_reading false how whole.value)).is

    no_offset : (row : ℕ) → IsReading how bytes (Err (faults.Offset row)) → ⊥
    no_offset row (whole, is, read) = cc (subst (IsGood false) read (good_reading false how whole.value)).is
