-- What depends on the accepted commands alone.
use Rattle.std.proofs.Common.{◌≡◌, Bool, true, false, cond, List, [], ◌∷◌, ◌++◌, refl, sym, ap, ◌∙◌}
use Rattle.std.proofs.lemmas.List.{append_assoc, append-nil}
use Rattle.ledger_core.specs.declared.commands.Command.{Command}
use Rattle.ledger_core.specs.Replies.{is_accepted}
use Rattle.ledger_core.specs.Histories.{reply_after, followed_by, followed_by_all, replies_after}
use Rattle.ledger_core.specs.Laws.{accepted_of, AcceptedAlone}

followed-is : (history commands : List Command)
    → followed_by_all history commands ≡ history ++ accepted_of history commands
followed-is history [] = sym (append-nil history)
followed-is history (command ∷ commands) =
    by-test (is_accepted (reply_after history command)) (followed-is (history ++ command ∷ []) commands)
    (followed-is history commands)
  where
    by-test : (t : Bool)
        → followed_by_all (history ++ command ∷ []) commands
        ≡ (history ++ command ∷ []) ++ accepted_of (history ++ command ∷ []) commands
        → followed_by_all history commands ≡ history ++ accepted_of history commands
        → followed_by_all (cond t (history ++ command ∷ []) history) commands
        ≡ history ++ cond t (command ∷ accepted_of (history ++ command ∷ []) commands) (accepted_of history commands)
    by-test true taken left =
        taken ∙ append_assoc history (command ∷ []) (accepted_of (history ++ command ∷ []) commands)
    by-test false taken left = left

alone-is : (history commands : List Command)
    → followed_by_all history (accepted_of history commands) ≡ followed_by_all history commands
alone-is history [] = refl
alone-is history (command ∷ commands) =
    by-test (is_accepted (reply_after history command)) refl (alone-is (history ++ command ∷ []) commands)
    (alone-is history commands)
  where
    by-test : (t : Bool) → is_accepted (reply_after history command) ≡ t
        → followed_by_all (history ++ command ∷ []) (accepted_of (history ++ command ∷ []) commands)
        ≡ followed_by_all (history ++ command ∷ []) commands
        → followed_by_all history (accepted_of history commands) ≡ followed_by_all history commands
        → followed_by_all history
        (cond t (command ∷ accepted_of (history ++ command ∷ []) commands) (accepted_of history commands))
        ≡ followed_by_all (cond t (history ++ command ∷ []) history) commands
    by-test true is taken left =
        let first : followed_by history command ≡ history ++ command ∷ [] = rw is refl in
        ap (λ (h : List Command). followed_by_all h (accepted_of (history ++ command ∷ []) commands)) first ∙ taken
    by-test false is taken left = left

later-is : (history commands more : List Command)
    → replies_after history (commands ++ more)
    ≡ replies_after history commands ++ replies_after (followed_by_all history commands) more
later-is history [] more = refl
later-is history (command ∷ commands) more =
    ap (λ replies. reply_after history command ∷ replies) (later-is (followed_by history command) commands more)

pub accepted-alone : AcceptedAlone
accepted-alone history commands more = record {
  followed = followed-is history commands;
  alone = alone-is history commands;
  later = later-is history commands more
      ∙ ap (λ (h : List Command). replies_after history commands ++ replies_after h more) (followed-is history commands);
}
