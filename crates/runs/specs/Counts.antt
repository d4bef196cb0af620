-- What a call, or a run, leaves of the counts of the shelf and of the press.
use Rattle.std.specs.Prelude.{◌≡◌, ◌≢◌, ◌≤◌, ◌+◌, ℕ, Bool, true, false, Result, OnOk, IfErr}
use Rattle.shelf_io.specs.Count.{Rose, count_after}
use Rattle.runs.specs.declared.status.Status.{Status}
use Rattle.runs.specs.declared.status.Status.TheVariants.{Read, Write}
use Rattle.runs.specs.declared.refusal.Refusal.{Refusal}
use Rattle.runs.specs.Refusals.{status_of}

-- how often calls of a shelf failed, and how many bytes it handed out, before and now
pub record ShelfCounts : Type 0 where
  pub faults : ℕ
  pub faults_now : ℕ
  pub given : ℕ
  pub given_now : ℕ

abbrev pub shelf_counts : ℕ → ℕ → ℕ → ℕ → ShelfCounts
shelf_counts faults faults_now given given_now =
    record { faults = faults; faults_now = faults_now; given = given; given_now = given_now }

-- a call failed since
abbrev pub HasFailed : ShelfCounts → Type 0
HasFailed counts = Rose counts.faults counts.faults_now

-- more than `most` bytes were handed out since
abbrev pub HasGivenMore : ℕ → ShelfCounts → Type 0
HasGivenMore most counts = count_after counts.given (most + 1) ≤ counts.given_now

-- ---- the shelf
-- the count never falls, rises by one at most, and is as it was unless the answer is a refusal of the status `Read`
pub record LeavesFaults {T : Type 0} (before now : ℕ) (answer : Result T Refusal) : Type 0 where
  pub later : before ≤ now
  pub most : now ≤ before + 1
  pub same : OnOk answer (now ≡ before)
  pub same_err : IfErr answer (λ refusal. status_of refusal ≢ Read → now ≡ before)

-- What a run leaves of the count of the shelf's faults.
pub record LeavesShelf (before now : ℕ) (status : Status) : Type 0 where
  -- the shelf fails once at most
  pub once : now ≤ before + 1
  -- every other status leaves the count
  pub same : status ≢ Write → status ≢ Read → now ≡ before

-- ---- the press
-- What a run leaves of the press: the count of its faults before and now, whether its last call failed, and whether a
-- file is at hand.
pub record LeavesPress (before now : ℕ) (broken held : Bool) (status : Status) : Type 0 where
  -- after a write fault the count rose
  pub rose : status ≡ Write → Rose before now
  -- every other status leaves the count
  pub same : status ≢ Write → now ≡ before
  -- the press fails once at most
  pub once : now ≤ before + 1
  -- after a call that failed none is made
  pub last : status ≡ Write → broken ≡ true
  -- every other status leaves no file at hand: each that was begun is ended, standard output, too
  pub at_hand : status ≢ Write → held ≡ false
