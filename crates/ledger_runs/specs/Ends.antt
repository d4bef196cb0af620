-- How a run ends, and which history the keeper then stands for.
use Rattle.std.specs.Prelude.{◌≡◌, ◌⊎◌, ◌≤◌, ℕ, ◌+◌, List, [], ◌∷◌, ◌++◌, length, take, codes, Option, None, IfSome}
use Rattle.shelf_io.specs.Count.{count_after}
use Rattle.shelf_io.specs.Files.{Files, bytes_of}
use Rattle.ledger_core.specs.declared.commands.Command.{Command}
use Rattle.ledger_core.specs.Histories.{replies_after, followed_by_all}
use Rattle.ledger_core.specs.Kept.{Kept}
use Rattle.ledger_core.specs.Histories.{StandsFor}
use Rattle.ledger_runs.specs.declared.commands.TheConstants.{MOST_REPORTS, MOST_LAYER}
use Rattle.ledger_runs.specs.declared.scripts.TheConstants.{MOST_BYTES}
use Rattle.ledger_runs.specs.declared.refusals.LedgerRefusal.{LedgerRefusal}
use Rattle.ledger_runs.specs.declared.refusals.LedgerRefusal.TheVariants.{NoMemory, KeeperFailed}
use Rattle.ledger_runs.specs.declared.status.LedgerStatus.{LedgerStatus}
use Rattle.ledger_runs.specs.declared.status.LedgerStatus.TheVariants.{Done, Write}
use Rattle.ledger_runs.specs.Refusals.{status_of, line_of, limit_front, reports_front, layers_front}
use Rattle.ledger_runs.specs.ReplyText.{replies_text}
use Rattle.ledger_runs.specs.Outcome.{IsPrepared, IsRefused}

-- the shelf has no file of this name, or it failed
abbrev pub IsUnread : Files → Type 0 → List ℕ → Type 0
IsUnread files shelf_rose name = (bytes_of files name ≡ None) ⊎ shelf_rose

-- a run ends so, and says its line
pub record Refuses (refusal : LedgerRefusal) (status : LedgerStatus) (said : List ℕ) : Type 0 where
  pub status_is : status ≡ status_of refusal
  pub said_is : said ≡ line_of refusal

-- What a run says unless a write fails, with which status, and which history the keeper stands for afterwards: before,
-- it did so for a first one.
pub data Says (words : List (List ℕ)) (files : Files) (shelf_rose keeper_rose : Type 0) (history : List Command)
    (status : LedgerStatus) (said : List ℕ) (after : List Command) : Type 0 where
  done : (commands : List Command) → IsPrepared words files commands → status ≡ Done
      → said ≡ replies_text (replies_after history commands) → after ≡ followed_by_all history commands
      → Says words files shelf_rose keeper_rose history status said after
  refused : (refusal : LedgerRefusal) → IsRefused (IsUnread files shelf_rose) words files refusal
      → Refuses refusal status said → after ≡ history
      → Says words files shelf_rose keeper_rose history status said after
  keeper_failed : keeper_rose → (commands : List Command) → (count : ℕ) → IsPrepared words files commands
      → count ≤ length commands → Refuses (KeeperFailed count) status said
      → after ≡ followed_by_all history (take count commands)
      → Says words files shelf_rose keeper_rose history status said after
  no_memory : Refuses (NoMemory 0) status said → after ≡ history
      → Says words files shelf_rose keeper_rose history status said after
  no_memory_after : (commands : List Command) → (count : ℕ) → IsPrepared words files commands
      → count ≤ length commands → Refuses (NoMemory count) status said
      → after ≡ followed_by_all history (take count commands)
      → Says words files shelf_rose keeper_rose history status said after

-- no file is made, or standard output alone, with a first part of the text
abbrev pub IsFrontOf : Files → List ℕ → Type 0
IsFrontOf [] said = Unit {0}
IsFrontOf (file ∷ []) said = (count : ℕ) × (file ≡ (codes "-", take count said))
IsFrontOf (file ∷ more ∷ files) said = ⊥

-- the ways in which a run ends: what it says is made, or a write fails
pub data Ends (words : List (List ℕ)) (files : Files) (shelf_rose keeper_rose press_rose : Type 0)
    (history : List Command) (status : LedgerStatus) (made : Option Files) (kept : Option Kept) : Type 0 where
  made_whole : (said : List ℕ) → (after : List Command)
      → Says words files shelf_rose keeper_rose history status said after
      → IfSome made (λ all. all ≡ (codes "-", said) ∷ []) → StandsFor kept after
      → Ends words files shelf_rose keeper_rose press_rose history status made kept
  write_failed : status ≡ Write → press_rose → (wanted : LedgerStatus) → (said : List ℕ) → (after : List Command)
      → Says words files shelf_rose keeper_rose history wanted said after
      → IfSome made (λ all. IsFrontOf all said) → StandsFor kept after
      → Ends words files shelf_rose keeper_rose press_rose history status made kept

-- what is said alone begins so
abbrev pub Tells : List ℕ → Files → Type 0
Tells front made = (rest : List ℕ) × (made ≡ (codes "-", front ++ rest) ∷ [])

-- Where what is said is the line of a limit on bytes, or a first part of it that says so, the shelf gave more than
-- the limit in the run, or has given as many as it can count. For a first part that does not say which limit, it gave
-- more than the least.
pub record KeepsLimits (before now : ℕ) (made : Files) : Type 0 where
  pub bytes : Tells limit_front made → count_after before (MOST_BYTES + 1) ≤ now
  pub reports : Tells reports_front made → count_after before (MOST_REPORTS + 1) ≤ now
  pub layers : Tells layers_front made → count_after before (MOST_LAYER + 1) ≤ now
