-- When a keeper, and what uses it, may say that it failed.
use Rattle.std.specs.Prelude.{◌≡◌, ℕ, ◌+◌, ◌≤◌, Result, Ok, Err, OnOk, IsErrOf}
use Rattle.shelf_io.specs.Count.{Rose}
use Rattle.ledger_core.specs.declared.faults.KeepFault.{KeepFault}
use Rattle.ledger_core.specs.declared.faults.Stop.{Stop}
use Rattle.ledger_core.specs.declared.faults.KeepFault.TheVariants.{Failed, NoMemory}

-- it failed only where the count rose, by one at most; an answer and want of memory leave the count as it was
pub record HasCause {T : Type 0} (before now : ℕ) (result : Result T KeepFault) : Type 0 where
  pub later : before ≤ now
  pub most : now ≤ before + 1
  pub same : OnOk result (now ≡ before)
  pub memory : IsErrOf result NoMemory → now ≡ before
  pub failed : IsErrOf result Failed → Rose before now

-- a list of commands: it stops with a fault only where the count rose
abbrev pub HasStopCause : ℕ → ℕ → Result (Unit {0}) Stop → Type 0
HasStopCause before now (Ok done) = now ≡ before
HasStopCause before now (Err stop) = HasCause {T = Unit {0}} before now (Err stop.fault)
