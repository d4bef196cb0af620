-- A run whose shelf and press never fail ends by its outcome, or because memory ran out.
use Rattle.std.proofs.Common.{◌≡◌, inl, inr, ℕ, List, Option, None, Some, IfSome, arith, sym, ◌∙◌, subst}
use Rattle.shelf_io.specs.Count.{Rose}
use Rattle.shelf_io.specs.Files.{Files}
use Rattle.shelf_io.specs.FileStore.{FileStore}
use Rattle.job_words.specs.declared.jobs.Job.{Job}
use Rattle.job_words.specs.Jobs.{IsJobOf}
use Rattle.runs.specs.declared.status.Status.{Status}
use Rattle.runs.specs.declared.status.Status.TheVariants.{Read}
use Rattle.runs.specs.declared.refusal.Refusal.{Refusal}
use Rattle.runs.specs.Refusals.{status_of}
use Rattle.runs.specs.Counts.{ShelfCounts, HasFailed}
use Rattle.publication.specs.Rooms.{IsStatedWhereItFits as IsStatedIn}
use Rattle.publication.specs.RunEnds.{made_whole}
use Rattle.whole_runs.specs.Ends.{Makes, by_outcome, after_read_fault, out_of_memory, EndsTold, LacksWantedOf}
use Rattle.whole_runs.specs.HandedOut.{IsRefusalOfJob}
use Rattle.whole_runs.specs.SureRuns.{IsStatedWhereItFits}

-- the count of faults of such a shelf is always 0, so it never rises
pub never_rises : Rose 0 0 → ⊥
never_rises rose = omega (arith, rose)

-- what is made where no read fails
pub sure_makes : (words : List (List ℕ)) (files : Files) (shelf_rose : Type 0) (status : Status) (made : Files)
    → (shelf_rose → ⊥) → Makes words files shelf_rose status made → Makes words files ⊥ status made
sure_makes words files shelf_rose status made never (by_outcome is) = by_outcome is
sure_makes words files shelf_rose status made never (after_read_fault rose job given refusal reached is) =
    absurd (never rose)
sure_makes words files shelf_rose status made never (out_of_memory is) = out_of_memory is

-- how such a run ends
pub sure_ends : (words : List (List ℕ)) (files : Files) (status result : Status) (whole : Files) (made : Option Files)
    → result ≡ status → Makes words files ⊥ status whole → IfSome made (λ m. m ≡ whole)
    → EndsTold words files ⊥ ⊥ result made
sure_ends words files status result whole None same makes is =
    (whole, made_whole (subst (λ s. Makes words files ⊥ s whole) (sym same) makes))
sure_ends words files status result whole (Some made) same makes is =
    made_whole (subst (λ s. Makes words files ⊥ s made) (sym same)
    (subst (λ (m : Files). Makes words files ⊥ status m) (sym is) makes))

-- what the press states
pub sure_stated : (words : List (List ℕ)) (files : Files) (status result : Status) (whole : Files)
    (store : Option FileStore) (made : Option Files) → result ≡ status → Makes words files ⊥ status whole
    → IsStatedIn whole store made → IfSome store (IsStatedWhereItFits words files result made)
sure_stated words files status result whole None made same makes is = tt
sure_stated words files status result whole (Some room) made same makes is = record {
  made = whole;
  makes = subst (λ s. Makes words files ⊥ s whole) (sym same) makes;
  is_stated = is;
}

-- a read fault is that of a missing file
pub sure_missing : (words : List (List ℕ)) (files : Files) (counts : ShelfCounts) (job : Job) (refusal : Refusal)
    (result : Status) → (HasFailed counts → ⊥) → IsJobOf words job → IsRefusalOfJob (Some files) counts job refusal
    → result ≡ status_of refusal → result ≡ Read → LacksWantedOf words (Some files)
sure_missing words files counts job refusal result never given is same read =
    elim (is.counted.read (sym same ∙ read)) [
      | inl failed ↦ absurd (never failed)
      | inr lacks ↦ (job, given, lacks)
    ]
