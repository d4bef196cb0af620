-- How many bytes a shelf gave over several steps.
use Rattle.std.proofs.Common.{ℕ, ◌-◌, ◌≤◌, arith}
use Rattle.shelf_io.specs.Count.{count_after}
use Rattle.ledger_runs.specs.declared.refusals.LedgerRefusal.{LedgerRefusal}
use Rattle.ledger_runs.specs.Causes.{HasPassed}

-- a step that gives more is followed by a refusal
pub passed-behind : (left before between now : ℕ) (refusal : LedgerRefusal) → before ≤ between
    → HasPassed left between now refusal → HasPassed left before now refusal
passed-behind left before between now refusal later passed = record {
  script = λ is. omega (arith, later, passed.script is);
  reports = λ is. omega (arith, later, passed.reports is);
  layers = λ is. omega (arith, later, passed.layers is);
}

-- reports took some of the room before the refusal
pub passed-behind-reports : (room left before between now : ℕ) (refusal : LedgerRefusal) → left ≤ room
    → count_after before (room - left) ≤ between → before ≤ between → HasPassed left between now refusal
    → HasPassed room before now refusal
passed-behind-reports room left before between now refusal within given later passed = record {
  script = λ is. omega (arith, later, passed.script is);
  reports = λ is. omega (arith, within, given, passed.reports is);
  layers = λ is. omega (arith, later, passed.layers is);
}

-- one report more took some of the room
pub given-more : (room left behind before between now : ℕ) → left ≤ room → behind ≤ left
    → count_after before (room - left) ≤ between → count_after between (left - behind) ≤ now
    → count_after before (room - behind) ≤ now
given-more room left behind before between now within fewer given more = omega (arith, within, fewer, given, more)
