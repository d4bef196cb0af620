-- What a run hands out, by what its parts answered.
use Rattle.std.proofs.Common.{◌≡◌, ◌≢◌, ◌⊎◌, ◌↔◌, inl, inr, ℕ, List, [], ◌∷◌, length, codes, Option, None, Some, IfSome}
use Rattle.std.proofs.Common.{◌∙◌}
use Rattle.shelf_io.specs.Files.{Files}
use Rattle.ledger_core.specs.Kept.{Kept}
use Rattle.ledger_core.specs.declared.commands.Command.{Command}
use Rattle.ledger_core.specs.Histories.{StandsFor, replies_after, followed_by_all}
use Rattle.ledger_runs.specs.declared.commands.TheConstants.{MOST_REPORTS}
use Rattle.ledger_runs.specs.declared.refusals.LedgerRefusal.{LedgerRefusal}
use Rattle.ledger_runs.specs.declared.refusals.LedgerRefusal.TheVariants as refusals
use Rattle.ledger_runs.specs.declared.status.LedgerStatus.{LedgerStatus}
use Rattle.ledger_runs.specs.declared.status.LedgerStatus.TheVariants.{Done, Read, Write, Keeper}
use Rattle.ledger_runs.specs.Causes.{HasPassed}
use Rattle.ledger_runs.specs.Words.{AreNames}
use Rattle.ledger_runs.specs.Refusals.{status_of, line_of}
use Rattle.ledger_runs.specs.ReplyText.{replies_text}
use Rattle.ledger_runs.specs.Ends.{IsUnread, IsFrontOf}
use Rattle.ledger_runs.specs.HandedOut.{RunCounts, HasShelfFailed, PreparingFails, AreGiven, IsStop, StopsAfter, AreReplies, HandsOut}
use Rattle.ledger_runs.proofs.MissingFiles.{named-told}

-- refused before the first command
pub hands-refused : (words : List (List ℕ)) (told : Option Files) (counts : RunCounts) (before now : Option Kept)
    (refusal : LedgerRefusal) (status : LedgerStatus) (made : Option Files)
    → IfSome told (λ files. PreparingFails (IsUnread files (HasShelfFailed counts)) words files refusal)
    → (status_of refusal ≡ Read → told ≡ None → HasShelfFailed counts)
    → (refusal ≡ refusals.Words) ↔ ((script : List ℕ) → AreNames words script → ⊥)
    → HasPassed MOST_REPORTS counts.given counts.given_now refusal → status_of refusal ≢ Keeper
    → counts.keeper_now ≡ counts.keeper → now ≡ before → (status ≡ status_of refusal) ⊎ (status ≡ Write)
    → (status ≢ Write → IfSome made (λ all. all ≡ (codes "-", line_of refusal) ∷ []))
    → (status ≡ Write → IfSome made (λ all. IsFrontOf all (line_of refusal)))
    → HandsOut words told counts before now status made (Some refusal)
hands-refused words told counts before now refusal status made fails untold words_are passed no_keeper keeper_same
    kept_same status_is whole front = record {
      cause = inl (record {
        refused = fails;
        words_are = words_are;
        read = named-told told (HasShelfFailed counts) words refusal fails untold;
        passed = passed;
        no_keeper = no_keeper;
        keeper_same = keeper_same;
        kept_same = kept_same;
      });
      printed = record { status_is = status_is; whole = whole; front = front };
      done = tt;
    }

-- stopped before the replies are printed
pub hands-stopped : (words : List (List ℕ)) (told : Option Files) (counts : RunCounts) (before now : Option Kept)
    (commands : List Command) (refusal : LedgerRefusal) (status : LedgerStatus) (made : Option Files)
    → AreGiven words told commands → IsStop counts.keeper counts.keeper_now (length commands) refusal
    → ((history : List Command) → StandsFor before history → StopsAfter history commands now refusal)
    → counts.shelf_now ≡ counts.shelf → (status ≡ status_of refusal) ⊎ (status ≡ Write)
    → (status ≢ Write → IfSome made (λ all. all ≡ (codes "-", line_of refusal) ∷ []))
    → (status ≡ Write → IfSome made (λ all. IsFrontOf all (line_of refusal)))
    → HandsOut words told counts before now status made (Some refusal)
hands-stopped words told counts before now commands refusal status made given stop stands shelf_same status_is whole
    front = record {
      cause = inr (record {
        commands = commands;
        given = given;
        stop = stop;
        stands = stands;
        shelf_same = shelf_same;
      });
      printed = record { status_is = status_is; whole = whole; front = front };
      done = tt;
    }

-- every command was obeyed
pub hands-none : (words : List (List ℕ)) (told : Option Files) (counts : RunCounts) (before now : Option Kept)
    (commands : List Command) (text said : List ℕ) (status : LedgerStatus) (made : Option Files)
    → AreGiven words told commands → AreReplies said
    → ((history : List Command) → StandsFor before history
    → (text ≡ replies_text (replies_after history commands)) × StandsFor now (followed_by_all history commands))
    → said ≡ text → counts.shelf_now ≡ counts.shelf → counts.keeper_now ≡ counts.keeper
    → (status ≡ Done) ⊎ (status ≡ Write) → (status ≢ Write → IfSome made (λ all. all ≡ (codes "-", said) ∷ []))
    → (status ≡ Write → IfSome made (λ all. IsFrontOf all said))
    → HandsOut words told counts before now status made None
hands-none words told counts before now commands text said status made given replies obeyed same shelf_same keeper_same
    status_is whole front = record {
      cause = tt;
      printed = tt;
      done = record {
        commands = commands;
        given = given;
        said = said;
        replies = replies;
        obeyed = λ history stands. (same ∙ (obeyed history stands).0, (obeyed history stands).1);
        printed = record { status_is = status_is; whole = whole; front = front };
        shelf_same = shelf_same;
        keeper_same = keeper_same;
      };
    }
