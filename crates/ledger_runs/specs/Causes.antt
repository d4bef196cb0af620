-- What the steps of a run do to the counts of the shelf and of the keeper.
use Rattle.std.specs.Prelude.{◌≡◌, ◌≢◌, ◌⊎◌, ℕ, ◌+◌, ◌≤◌, Option, None, Result, OnOk, IfErr}
use Rattle.shelf_io.specs.Count.{Rose, count_after}
use Rattle.shelf_io.specs.Files.{Files}
use Rattle.ledger_core.specs.declared.faults.KeepFault.{KeepFault}
use Rattle.ledger_core.specs.declared.faults.KeepFault.TheVariants.{Failed, NoMemory as KeepNoMemory}
use Rattle.ledger_runs.specs.declared.refusals.LedgerRefusal.{LedgerRefusal}
use Rattle.ledger_runs.specs.declared.commands.TheConstants.{MOST_LAYER}
use Rattle.ledger_runs.specs.declared.scripts.TheConstants.{MOST_BYTES}
use Rattle.ledger_runs.specs.declared.refusals.LedgerRefusal.TheVariants.{KeeperFailed, NoMemory, ScriptBytes, ReportBytes, LayerBytes}
use Rattle.ledger_runs.specs.declared.status.LedgerStatus.TheVariants.{Read, Memory, Keeper}
use Rattle.ledger_runs.specs.Refusals.{status_of}

-- Before the first command. Where the shelf states no files a refusal for reading comes only where its count rose; where
-- it does, the clause `err` says which one is missing. All else leaves the count as it was, and the keeper is no cause.
pub record LeavesShelf {T : Type 0} (files : Option Files) (before now : ℕ) (result : Result T LedgerRefusal) : Type 0 where
  pub later : before ≤ now
  pub same : OnOk result (now ≡ before)
  pub other : IfErr result (λ refusal. status_of refusal ≢ Read → now ≡ before)
  pub read : IfErr result (λ refusal. status_of refusal ≡ Read → files ≡ None → Rose before now)
  pub no_keeper : IfErr result (λ refusal. status_of refusal ≢ Keeper)

-- a refusal that has nothing to do with the outside
pub record IsInner (refusal : LedgerRefusal) : Type 0 where
  pub no_read : status_of refusal ≢ Read
  pub no_keeper : status_of refusal ≢ Keeper
  pub no_script : refusal ≢ ScriptBytes
  pub no_reports : refusal ≢ ReportBytes
  pub no_layers : refusal ≢ LayerBytes

-- where reports may have this many more bytes: a refusal for bytes comes only where the shelf gave more than the limit,
-- or has given as many as it can count
pub record HasPassed (left before now : ℕ) (refusal : LedgerRefusal) : Type 0 where
  pub script : refusal ≡ ScriptBytes → count_after before (MOST_BYTES + 1) ≤ now
  pub reports : refusal ≡ ReportBytes → count_after before (left + 1) ≤ now
  pub layers : refusal ≡ LayerBytes → count_after before (MOST_LAYER + 1) ≤ now

-- why a run stops after this many commands
abbrev pub refusal_by : ℕ → KeepFault → LedgerRefusal
refusal_by done Failed = KeeperFailed done
refusal_by done KeepNoMemory = NoMemory done

-- the commands: a refusal for the keeper comes only where its count rose, and all else leaves the count as it was
pub record LeavesKeeper {T : Type 0} (before now : ℕ) (result : Result T LedgerRefusal) : Type 0 where
  pub later : before ≤ now
  pub same : OnOk result (now ≡ before)
  pub other : IfErr result (λ refusal. status_of refusal ≢ Keeper → now ≡ before)
  pub failed : IfErr result (λ refusal. status_of refusal ≡ Keeper → Rose before now)
  pub kind : IfErr result (λ refusal. (status_of refusal ≡ Keeper) ⊎ (status_of refusal ≡ Memory))
