-- The invariant of the loop of `obey_into` in src/command_lists.rt.
use Rattle.std.proofs.Common.{◌≡◌, ◌≤◌, ◌+◌, ℕ, List, Option, length, vec_len, vec_capacity}
use Rattle.ledger_core.specs.declared.commands.Command.{Command}
use Rattle.ledger_core.specs.declared.commands.Reply.{Reply}
use Rattle.ledger_core.specs.Kept.{Kept}
use Rattle.ledger_core.specs.Histories.{StandsFor, ObeysFirst}
use Rattle.ledger_core.proofs.command_lists.obey_into.Given as goal

-- this many commands were obeyed, and there is room for the replies to the others
pub record HaveObeyed (before now : Option Kept) (commands : List Command) (at : ℕ) (first replies : List Reply) : Type 0 where
  pub obeyed : (history : List Command) → StandsFor before history → ObeysFirst history commands at now first replies

pub record IsUnderWay (faults-before faults-now number at count used capacity : ℕ) : Type 0 where
  pub faults : faults-now ≡ faults-before
  pub counted : number ≡ at
  pub room : used + count ≤ capacity + at

abbrev pub invariant-loop-command : goal.invariant-loop-command
invariant-loop-command g l =
    HaveObeyed (g.K.Keeper.kept l.fn.keeper) (g.K.Keeper.kept l.keeper) l.commands l.command-index l.fn.replies.items
    l.replies.items
    × IsUnderWay (g.K.Keeper.faults l.fn.keeper) (g.K.Keeper.faults l.keeper) l.at l.command-index (length l.commands)
    (vec_len l.replies) (vec_capacity l.replies)
