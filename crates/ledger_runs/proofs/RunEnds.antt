-- How a run ends, by what its parts answered.
use Rattle.std.proofs.Common.{◌≡◌, ◌≢◌, ◌⊎◌, inl, inr, ℕ, List, [], ◌∷◌, take, codes, Option, None, Some, IfSome, refl, sym, ap, ◌∙◌, subst}
use Rattle.shelf_io.specs.Count.{Rose}
use Rattle.shelf_io.specs.Files.{Files}
use Rattle.ledger_core.specs.Kept.{Kept}
use Rattle.ledger_core.specs.declared.commands.Command.{Command}
use Rattle.ledger_core.specs.Histories.{StandsFor, replies_after, followed_by_all}
use Rattle.ledger_runs.specs.declared.refusals.LedgerRefusal.{LedgerRefusal}
use Rattle.ledger_runs.specs.declared.refusals.LedgerRefusal.TheVariants as refusals
use Rattle.ledger_runs.specs.declared.status.LedgerStatus.{LedgerStatus}
use Rattle.ledger_runs.specs.declared.status.LedgerStatus.TheVariants.{Done, Words, Write, Keeper}
use Rattle.ledger_runs.specs.Refusals.{status_of, line_of}
use Rattle.ledger_runs.specs.ReplyText.{replies_text}
use Rattle.ledger_runs.specs.Outcome.{IsPrepared}
use Rattle.ledger_runs.specs.Ends.{IsUnread, IsFrontOf, Says, Ends, done, refused, keeper_failed, no_memory, no_memory_after, made_whole, write_failed}
use Rattle.ledger_runs.specs.HandedOut.{PreparingFails, StopsAfter}

-- a run that says something makes it, or a write fails
said-ends : (words : List (List ℕ)) (files : Files) (shelf_rose keeper_rose press_rose : Type 0)
    (history after : List Command) (wanted status : LedgerStatus) (said : List ℕ) (made : Option Files) (kept : Option Kept)
    → Says words files shelf_rose keeper_rose history wanted said after → StandsFor kept after → wanted ≢ Write
    → (status ≡ wanted) ⊎ (status ≡ Write)
    → (status ≢ Write → IfSome made (λ all. all ≡ (codes "-", said) ∷ []))
    → (status ≡ Write → IfSome made (λ all. IsFrontOf all said)) → (status ≡ Write → press_rose)
    → Ends words files shelf_rose keeper_rose press_rose history status made kept
said-ends words files shelf_rose keeper_rose press_rose history after wanted status said made kept says stands other
    (inl same) whole front rose =
    made_whole said after
    (subst (λ (s : LedgerStatus). Says words files shelf_rose keeper_rose history s said after) (sym same) says)
    (whole (λ write. other (sym same ∙ write))) stands
said-ends words files shelf_rose keeper_rose press_rose history after wanted status said made kept says stands other
    (inr write) whole front rose =
    write_failed write (rose write) wanted said after says (front write) stands

refusal-says : (words : List (List ℕ)) (files : Files) (shelf_rose keeper_rose : Type 0) (history : List Command)
    (refusal : LedgerRefusal) → PreparingFails (IsUnread files shelf_rose) words files refusal
    → Says words files shelf_rose keeper_rose history (status_of refusal) (line_of refusal) history
refusal-says words files shelf_rose keeper_rose history refusal (inl early) =
    no_memory (record { status_is = ap status_of early; said_is = ap line_of early }) refl
refusal-says words files shelf_rose keeper_rose history refusal (inr is) =
    refused refusal is (record { status_is = refl; said_is = refl }) refl

done-says : (words : List (List ℕ)) (files : Files) (shelf_rose keeper_rose : Type 0)
    (history commands : List Command) (text : List ℕ) → IsPrepared words files commands
    → text ≡ replies_text (replies_after history commands)
    → Says words files shelf_rose keeper_rose history Done text (followed_by_all history commands)
done-says words files shelf_rose keeper_rose history commands text prepared is =
    done commands prepared refl is refl

-- what a run says whose commands end early, and what the keeper stands for
pub record SaysStop (words : List (List ℕ)) (files : Files) (shelf_rose keeper_rose : Type 0) (history : List Command)
    (refusal : LedgerRefusal) (kept : Option Kept) : Type 0 where
  pub after : List Command
  pub says : Says words files shelf_rose keeper_rose history (status_of refusal) (line_of refusal) after
  pub stands : StandsFor kept after

stop-says : (words : List (List ℕ)) (files : Files) (shelf_rose keeper_rose : Type 0)
    (history commands : List Command) (refusal : LedgerRefusal) (kept : Option Kept) → IsPrepared words files commands
    → StopsAfter history commands kept refusal → (status_of refusal ≡ Keeper → keeper_rose)
    → SaysStop words files shelf_rose keeper_rose history refusal kept
stop-says words files shelf_rose keeper_rose history commands (refusals.KeeperFailed count) kept prepared stops rose =
    record {
      after = followed_by_all history (take count commands);
      says = keeper_failed (rose refl) commands count prepared stops.0 (record { status_is = refl; said_is = refl }) refl;
      stands = stops.1;
    }
stop-says words files shelf_rose keeper_rose history commands (refusals.NoMemory count) kept prepared stops rose =
    record {
      after = followed_by_all history (take count commands);
      says = no_memory_after commands count prepared stops.0 (record { status_is = refl; said_is = refl }) refl;
      stands = stops.1;
    }
stop-says words files shelf_rose keeper_rose history commands (refusals.BadLine line) kept prepared stops rose = absurd stops
stop-says words files shelf_rose keeper_rose history commands (refusals.FileUnread line) kept prepared stops rose = absurd stops
stop-says words files shelf_rose keeper_rose history commands (refusals.BadReport line bad) kept prepared stops rose = absurd stops
stop-says words files shelf_rose keeper_rose history commands (refusals.LayerCount line) kept prepared stops rose = absurd stops
stop-says words files shelf_rose keeper_rose history commands refusal kept prepared stops rose = absurd stops

-- no refusal has the status of a write fault
pub not-write : (refusal : LedgerRefusal) → status_of refusal ≢ Write
not-write refusals.Words is = cc
not-write (refusals.BadLine line) is = cc
not-write (refusals.FileUnread line) is = cc
not-write (refusals.BadReport line bad) is = cc
not-write (refusals.LayerCount line) is = cc
not-write refusal is = cc

-- the words alone are refused so
words-alone : (refusal : LedgerRefusal) → status_of refusal ≡ Words → refusal ≡ refusals.Words
words-alone refusals.Words is = refl
words-alone (refusals.BadLine line) is = cc
words-alone (refusals.FileUnread line) is = cc
words-alone (refusals.BadReport line bad) is = cc
words-alone (refusals.LayerCount line) is = cc
words-alone refusal is = cc

-- ---- the same where the shelf may not state its files

-- how a run ends, for each history that the keeper stood for
abbrev pub EndsFor : List (List ℕ) → Type 0 → Type 0 → Type 0 → Option Kept → LedgerStatus → Option Files → Option Kept
    → Files → Type 0
EndsFor words shelf_rose keeper_rose press_rose before status made kept files =
    (history : List Command) → StandsFor before history
    → Ends words files shelf_rose keeper_rose press_rose history status made kept

pub done-told : (files : Option Files) (words : List (List ℕ)) (shelf_rose keeper_rose press_rose : Type 0)
    (before kept : Option Kept) (commands : List Command) (text said : List ℕ) (status : LedgerStatus)
    (made : Option Files) → IfSome files (λ f. IsPrepared words f commands)
    → ((history : List Command) → StandsFor before history
    → (text ≡ replies_text (replies_after history commands)) × StandsFor kept (followed_by_all history commands))
    → said ≡ text → (status ≡ Done) ⊎ (status ≡ Write)
    → (status ≢ Write → IfSome made (λ all. all ≡ (codes "-", said) ∷ []))
    → (status ≡ Write → IfSome made (λ all. IsFrontOf all said)) → (status ≡ Write → press_rose)
    → IfSome files (EndsFor words shelf_rose keeper_rose press_rose before status made kept)
done-told None words shelf_rose keeper_rose press_rose before kept commands text said status made prepared obeyed same is
    whole front rose = tt
done-told (Some f) words shelf_rose keeper_rose press_rose before kept commands text said status made prepared obeyed same is
    whole front rose = λ history stands.
    let all = obeyed history stands in
    said-ends words f shelf_rose keeper_rose press_rose history (followed_by_all history commands) Done status said made kept
    (done-says words f shelf_rose keeper_rose history commands said prepared (same ∙ all.0)) all.1 (λ is. cc) is whole front
    rose

pub stop-told : (files : Option Files) (words : List (List ℕ)) (shelf_rose keeper_rose press_rose : Type 0)
    (before kept : Option Kept) (commands : List Command) (refusal : LedgerRefusal) (status : LedgerStatus)
    (made : Option Files) → IfSome files (λ f. IsPrepared words f commands)
    → ((history : List Command) → StandsFor before history → StopsAfter history commands kept refusal)
    → (status_of refusal ≡ Keeper → keeper_rose) → (status ≡ status_of refusal) ⊎ (status ≡ Write)
    → (status ≢ Write → IfSome made (λ all. all ≡ (codes "-", line_of refusal) ∷ []))
    → (status ≡ Write → IfSome made (λ all. IsFrontOf all (line_of refusal))) → (status ≡ Write → press_rose)
    → IfSome files (EndsFor words shelf_rose keeper_rose press_rose before status made kept)
stop-told None words shelf_rose keeper_rose press_rose before kept commands refusal status made prepared stops keeper is
    whole front rose = tt
stop-told (Some f) words shelf_rose keeper_rose press_rose before kept commands refusal status made prepared stops keeper is
    whole front rose = λ history stands.
    let says = stop-says words f shelf_rose keeper_rose history commands refusal kept prepared (stops history stands) keeper in
    said-ends words f shelf_rose keeper_rose press_rose history says.after (status_of refusal) status (line_of refusal) made
    kept says.says says.stands (not-write refusal) is whole front rose

pub refused-told : (files : Option Files) (words : List (List ℕ)) (faults now : ℕ) (keeper_rose press_rose : Type 0)
    (before : Option Kept) (refusal : LedgerRefusal) (status : LedgerStatus) (made : Option Files)
    → IfSome files (λ f. PreparingFails (IsUnread f (Rose faults now)) words f refusal)
    → (status ≡ status_of refusal) ⊎ (status ≡ Write)
    → (status ≢ Write → IfSome made (λ all. all ≡ (codes "-", line_of refusal) ∷ []))
    → (status ≡ Write → IfSome made (λ all. IsFrontOf all (line_of refusal))) → (status ≡ Write → press_rose)
    → IfSome files (EndsFor words (Rose faults now) keeper_rose press_rose before status made before)
refused-told None words faults now keeper_rose press_rose before refusal status made fails is whole front rose = tt
refused-told (Some f) words faults now keeper_rose press_rose before refusal status made fails is whole front rose =
    λ history stands.
    said-ends words f (Rose faults now) keeper_rose press_rose history history (status_of refusal) status (line_of refusal)
    made before (refusal-says words f (Rose faults now) keeper_rose history refusal fails) stands (not-write refusal) is whole
    front rose

-- a run that ends for its words was refused for them
pub words-refusal : (refusal : LedgerRefusal) (status : LedgerStatus) → (status ≡ status_of refusal) ⊎ (status ≡ Write)
    → status ≡ Words → refusal ≡ refusals.Words
words-refusal refusal status (inl same) is = words-alone refusal (sym same ∙ is)
words-refusal refusal status (inr write) is = cc
