-- What a run hands out beside its status: the refusal that came, or none; and what is then known of the run.
use Rattle.std.specs.Prelude.{◌≡◌, ◌≢◌, ◌⊎◌, ◌↔◌, ℕ, ◌≤◌, List, [], ◌∷◌, length, take, codes, Option, IfSome, IfNone}
use Rattle.shelf_io.specs.Count.{Rose}
use Rattle.shelf_io.specs.Files.{Files}
use Rattle.ledger_core.specs.Kept.{Kept}
use Rattle.ledger_core.specs.declared.commands.Command.{Command}
use Rattle.ledger_core.specs.declared.commands.Reply.{Reply}
use Rattle.ledger_core.specs.Histories.{StandsFor, replies_after, followed_by_all}
use Rattle.ledger_runs.specs.declared.commands.TheConstants.{MOST_REPORTS}
use Rattle.ledger_runs.specs.declared.refusals.LedgerRefusal.{LedgerRefusal}
use Rattle.ledger_runs.specs.declared.refusals.LedgerRefusal.TheVariants as refusals
use Rattle.ledger_runs.specs.declared.status.LedgerStatus.{LedgerStatus}
use Rattle.ledger_runs.specs.declared.status.LedgerStatus.TheVariants.{Done, Read, Write, Keeper}
use Rattle.ledger_runs.specs.Causes.{HasPassed}
use Rattle.ledger_runs.specs.Words.{AreNames}
use Rattle.ledger_runs.specs.Refusals.{status_of, line_of}
use Rattle.ledger_runs.specs.ReplyText.{replies_text}
use Rattle.ledger_runs.specs.Outcome.{IsPrepared, IsRefused}
use Rattle.ledger_runs.specs.MissingFiles.{LacksNamed}
use Rattle.ledger_runs.specs.Ends.{IsUnread, IsFrontOf}

-- how often calls of the shelf failed, how many bytes it gave, and how often calls of the keeper failed, before the run
-- and now
pub record RunCounts : Type 0 where
  pub shelf : ℕ
  pub shelf_now : ℕ
  pub given : ℕ
  pub given_now : ℕ
  pub keeper : ℕ
  pub keeper_now : ℕ

abbrev pub run_counts : ℕ → ℕ → ℕ → ℕ → ℕ → ℕ → RunCounts
run_counts shelf shelf_now given given_now keeper keeper_now = record {
  shelf = shelf;
  shelf_now = shelf_now;
  given = given;
  given_now = given_now;
  keeper = keeper;
  keeper_now = keeper_now;
}

abbrev pub HasShelfFailed : RunCounts → Type 0
HasShelfFailed counts = Rose counts.shelf counts.shelf_now

-- What is printed of a text, after which the run is to end so.
pub record HasPrinted (said : List ℕ) (wanted status : LedgerStatus) (made : Option Files) : Type 0 where
  -- the run ends so, or with a write fault
  pub status_is : (status ≡ wanted) ⊎ (status ≡ Write)
  -- unless a write failed exactly the text is made
  pub whole : status ≢ Write → IfSome made (λ all. all ≡ (codes "-", said) ∷ [])
  -- else a first part of it is, or nothing
  pub front : status ≡ Write → IfSome made (λ all. IsFrontOf all said)

-- ---- where something was refused

-- the words are no two names, which is refused so
abbrev pub NamesFail : List (List ℕ) → LedgerRefusal → Type 0
NamesFail words refusal = (refusal ≡ refusals.Words) × ((script : List ℕ) → AreNames words script → ⊥)

-- why no command is obeyed, over these files: memory ran out before the first, or words and files give the refusal
abbrev pub PreparingFails : (List ℕ → Type 0) → List (List ℕ) → Files → LedgerRefusal → Type 0
PreparingFails unread words files refusal = (refusal ≡ refusals.NoMemory 0) ⊎ IsRefused unread words files refusal

-- What is refused before the first command, whether or not the shelf states its files.
pub record IsRefusedBefore (words : List (List ℕ)) (told : Option Files) (counts : RunCounts) (before now : Option Kept)
    (refusal : LedgerRefusal) : Type 0 where
  -- words and files give the refusal, where the shelf states its files; or a read failed, or memory ran out
  pub refused : IfSome told (λ files. PreparingFails (IsUnread files (HasShelfFailed counts)) words files refusal)
  -- it is for the words exactly where they are no two names
  pub words_are : (refusal ≡ refusals.Words) ↔ ((script : List ℕ) → AreNames words script → ⊥)
  -- it is for reading only where a read failed, or the file is missing that it names
  pub read : status_of refusal ≡ Read → HasShelfFailed counts ⊎ LacksNamed words told refusal
  -- it is for too many bytes only where the shelf gave more than the limit, or as many as can be counted
  pub passed : HasPassed MOST_REPORTS counts.given counts.given_now refusal
  -- it is not for the keeper, and the keeper is as it was
  pub no_keeper : status_of refusal ≢ Keeper
  pub keeper_same : counts.keeper_now ≡ counts.keeper
  pub kept_same : now ≡ before

-- the words are two names, and these are the commands, where the shelf states its files those of the script
pub record AreGiven (words : List (List ℕ)) (told : Option Files) (commands : List Command) : Type 0 where
  pub script : List ℕ
  pub names : AreNames words script
  pub prepared : IfSome told (λ files. IsPrepared words files commands)

-- why at most this many commands were obeyed: the keeper failed since, or memory ran out and it did not
abbrev pub IsStop : ℕ → ℕ → ℕ → LedgerRefusal → Type 0
IsStop before now most (refusals.KeeperFailed done) = (done ≤ most) × Rose before now
IsStop before now most (refusals.NoMemory done) = (done ≤ most) × (now ≡ before)
IsStop before now most refusal = ⊥

-- the keeper stands for the history and those of this many commands that were accepted
abbrev pub StandsAfter : List Command → List Command → ℕ → Option Kept → Type 0
StandsAfter history commands count kept =
    (count ≤ length commands) × StandsFor kept (followed_by_all history (take count commands))

-- as many were obeyed as the refusal says
abbrev pub StopsAfter : List Command → List Command → Option Kept → LedgerRefusal → Type 0
StopsAfter history commands kept (refusals.KeeperFailed count) = StandsAfter history commands count kept
StopsAfter history commands kept (refusals.NoMemory count) = StandsAfter history commands count kept
StopsAfter history commands kept refusal = ⊥

-- What stops the commands before their replies are printed, whether or not the shelf states its files.
pub record IsStopped (words : List (List ℕ)) (told : Option Files) (counts : RunCounts) (before now : Option Kept)
    (refusal : LedgerRefusal) : Type 0 where
  pub commands : List Command
  pub given : AreGiven words told commands
  -- the keeper failed, or memory ran out
  pub stop : IsStop counts.keeper counts.keeper_now (length commands) refusal
  -- as many commands were obeyed as the refusal says, where the keeper stood for a history
  pub stands : (history : List Command) → StandsFor before history → StopsAfter history commands now refusal
  -- the shelf did not fail
  pub shelf_same : counts.shelf_now ≡ counts.shelf

-- ---- where nothing was refused

-- the text of some replies
abbrev pub AreReplies : List ℕ → Type 0
AreReplies text = (replies : List Reply) × (text ≡ replies_text replies)

-- What is known of a run that is not refused, whether or not the shelf states its files.
pub record IsObeyed (words : List (List ℕ)) (told : Option Files) (counts : RunCounts) (before now : Option Kept)
    (status : LedgerStatus) (made : Option Files) : Type 0 where
  pub commands : List Command
  pub given : AreGiven words told commands
  -- this text has replies: where the keeper stood for a history those to all commands, which were obeyed
  pub said : List ℕ
  pub replies : AreReplies said
  pub obeyed : (history : List Command) → StandsFor before history
      → (said ≡ replies_text (replies_after history commands)) × StandsFor now (followed_by_all history commands)
  -- the text is made, or after a write fault a first part of it
  pub printed : HasPrinted said Done status made
  -- neither the shelf nor the keeper failed
  pub shelf_same : counts.shelf_now ≡ counts.shelf
  pub keeper_same : counts.keeper_now ≡ counts.keeper

-- ---- what is handed out

-- why a run is refused: before the first command, or because these stop
abbrev pub IsRefusalOfRun : List (List ℕ) → Option Files → RunCounts → Option Kept → Option Kept → LedgerRefusal → Type 0
IsRefusalOfRun words told counts before now refusal =
    IsRefusedBefore words told counts before now refusal ⊎ IsStopped words told counts before now refusal

-- What is handed out: a refusal, or none.
pub record HandsOut (words : List (List ℕ)) (told : Option Files) (counts : RunCounts) (before now : Option Kept)
    (status : LedgerStatus) (made : Option Files) (handed : Option LedgerRefusal) : Type 0 where
  -- where there is one it came, also where its line could not be printed whole
  pub cause : IfSome handed (IsRefusalOfRun words told counts before now)
  -- the run ends as it asks and its line is made, or after a write fault a first part of it
  pub printed : IfSome handed (λ refusal. HasPrinted (line_of refusal) (status_of refusal) status made)
  -- where there is none nothing was refused, and what is made is of replies
  pub done : IfNone handed (IsObeyed words told counts before now status made)
