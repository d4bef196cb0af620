-- Replies to a list of commands and one more.
use Rattle.std.proofs.Common.{◌≡◌, ℕ, ◌+◌, ◌<◌, List, [], ◌∷◌, ◌++◌, Option, Ok, refl, sym, ap, subst}
use Rattle.std.proofs.Common.{length, take, get_or, ◌∙◌}
use Rattle.std.proofs.lemmas.List.{append_assoc, take_more}
use Rattle.ledger_core.specs.declared.commands.Command.{Command}
use Rattle.ledger_core.specs.declared.commands.Reply.{Reply}
use Rattle.ledger_core.specs.Kept.{Kept}
use Rattle.ledger_core.specs.Histories.{reply_after, followed_by, followed_by_all, replies_after, StandsFor, Obeys, ObeysFirst}

followed-more : (history commands : List Command) (command : Command)
    → followed_by_all history (commands ++ command ∷ []) ≡ followed_by (followed_by_all history commands) command
followed-more history [] command = refl
followed-more history (first ∷ commands) command = followed-more (followed_by history first) commands command

replies-more : (history commands : List Command) (command : Command)
    → replies_after history (commands ++ command ∷ [])
    ≡ replies_after history commands ++ reply_after (followed_by_all history commands) command ∷ []
replies-more history [] command = refl
replies-more history (first ∷ commands) command =
    ap (λ replies. reply_after history first ∷ replies) (replies-more (followed_by history first) commands command)

-- one more command was obeyed
pub obeyed-more : (history commands : List Command) (at : ℕ) (command : Command) (before now : Option Kept)
    (first so-far after : List Reply) (reply : Reply)
    → at < length commands → get_or commands at command ≡ command
    → ObeysFirst history commands at before first so-far
    → ((h : List Command) → StandsFor before h → Obeys h command now (Ok reply))
    → after ≡ so-far ++ reply ∷ []
    → ObeysFirst history commands (at + 1) now first after
obeyed-more history commands at command before now first so-far after reply within is obeyed obeys added =
    let front : take (at + 1) commands ≡ take at commands ++ command ∷ [] =
    take_more commands at command within ∙ ap (λ c. take at commands ++ c ∷ []) is in
    let done = followed_by_all history (take at commands) in
    let step = obeys done obeyed.1 in (
      added ∙ ap (λ r. so-far ++ r ∷ []) step.0 ∙ ap (λ r. r ++ reply_after done command ∷ []) obeyed.0
          ∙ append_assoc first (replies_after history (take at commands)) (reply_after done command ∷ [])
          ∙ ap (λ r. first ++ r) (sym (ap (replies_after history) front
          ∙ replies-more history (take at commands) command)),
      subst (λ (h : List Command). StandsFor now h)
          (sym (ap (followed_by_all history) front ∙ followed-more history (take at commands) command)) step.1,
    )
