-- What the obeying of commands answers. Only private functions speak of it.
use Rattle.std.specs.Prelude.{◌≡◌, ℕ, List, Option, Result, Ok, Err, Vec}
use Rattle.std.specs.Global.{Global}
use Rattle.ledger_core.specs.Kept.{Kept}
use Rattle.ledger_core.specs.declared.commands.Command.{Command}
use Rattle.ledger_core.specs.Histories.{StandsFor, replies_after, followed_by_all}
use Rattle.ledger_runs.specs.declared.refusals.LedgerRefusal.{LedgerRefusal}
use Rattle.ledger_runs.specs.ReplyText.{replies_text}
use Rattle.ledger_runs.specs.HandedOut.{StopsAfter}

-- the text of the replies to all commands
abbrev pub ObeysAll : List Command → List Command → Option Kept → Result (Vec ℕ Global) LedgerRefusal → Type 0
ObeysAll history commands kept (Ok text) =
    (text.items ≡ replies_text (replies_after history commands)) × StandsFor kept (followed_by_all history commands)
ObeysAll history commands kept (Err refusal) = StopsAfter history commands kept refusal
