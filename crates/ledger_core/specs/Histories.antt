-- Histories of a ledger: the commands that were accepted, and what a keeper keeps of them.
use Rattle.std.specs.Prelude.{◌≡◌, ℕ, ◌+◌, ◌&&◌, nat_eq, if◌then◌else◌, IsTrue}
use Rattle.std.specs.Prelude.{List, [], ◌∷◌, ◌++◌, length, take, Option, Some, Result, Ok, Err}
use Rattle.tin_base.specs.declared.pieces.Change.{Change}
use Rattle.ledger_core.specs.declared.faults.KeepFault.{KeepFault}
use Rattle.ledger_core.specs.declared.faults.Stop.{Stop}
use Rattle.ledger_core.specs.declared.pairs.Seal.{Seal}
use Rattle.ledger_core.specs.declared.pairs.Verdict.{Verdict}
use Rattle.ledger_core.specs.declared.pairs.Verdict.TheVariants.{Undecided}
use Rattle.ledger_core.specs.declared.pairs.PairRow.{PairRow}
use Rattle.ledger_core.specs.declared.commands.Command.{Command}
use Rattle.ledger_core.specs.declared.commands.Command.TheVariants as commands
use Rattle.ledger_core.specs.declared.commands.Reply.{Reply}
use Rattle.ledger_core.specs.Kept.{Kept, verdict_of}
use Rattle.ledger_core.specs.Replies.{reply_of, is_accepted}

-- run r is the r-th that was entered
abbrev pub runs_of : List Command → List (Seal × ℕ)
runs_of [] = []
runs_of (commands.Enter seal report ∷ history) = (seal, length report.changes) ∷ runs_of history
runs_of (commands.Decide run place mark ∷ history) = runs_of history
runs_of (commands.List run ∷ history) = runs_of history
runs_of (commands.Clear run ∷ history) = runs_of history

-- what was decided first on the pair of this run and place
abbrev pub verdict_in : List Command → ℕ → ℕ → Verdict
verdict_in [] run place = Undecided
verdict_in (commands.Decide r p mark ∷ history) run place =
    if nat_eq run r && nat_eq place p then verdict_of mark else verdict_in history run place
verdict_in (commands.Enter seal report ∷ history) run place = verdict_in history run place
verdict_in (commands.List r ∷ history) run place = verdict_in history run place
verdict_in (commands.Clear r ∷ history) run place = verdict_in history run place

-- the pairs of a run from a place on, with their verdicts
abbrev pub rows_in : (ℕ → ℕ → Verdict) → ℕ → ℕ → List Change → List PairRow
rows_in verdicts run place [] = []
rows_in verdicts run place (change ∷ changes) =
    record { run = run; place = place; change = change; verdict = verdicts run place }
    ∷ rows_in verdicts run (place + 1) changes

-- the pairs of the runs that were entered, whose first one has this number
abbrev pub pairs_in : (ℕ → ℕ → Verdict) → ℕ → List Command → List PairRow
pairs_in verdicts run [] = []
pairs_in verdicts run (commands.Enter seal report ∷ history) =
    rows_in verdicts run 0 report.changes ++ pairs_in verdicts (run + 1) history
pairs_in verdicts run (commands.Decide r place mark ∷ history) = pairs_in verdicts run history
pairs_in verdicts run (commands.List r ∷ history) = pairs_in verdicts run history
pairs_in verdicts run (commands.Clear r ∷ history) = pairs_in verdicts run history

-- what is kept of a history
abbrev pub ledger_of : List Command → Kept
ledger_of history = record { runs = runs_of history; pairs = pairs_in (verdict_in history) 1 history }

-- the answer to a command after a history
abbrev pub reply_after : List Command → Command → Reply
reply_after history command = reply_of (ledger_of history) command

-- each of the commands is accepted after those before it
abbrev pub AreAccepted : List Command → List Command → Type 0
AreAccepted before [] = Unit {0}
AreAccepted before (command ∷ commands) =
    IsTrue (is_accepted (reply_after before command)) × AreAccepted (before ++ command ∷ []) commands

-- a history is of commands that were accepted
abbrev pub IsHistory : List Command → Type 0
IsHistory history = AreAccepted [] history

-- the keeper states what it keeps, and that is what is kept of the history
abbrev pub StandsFor : Option Kept → List Command → Type 0
StandsFor kept history = IsHistory history × (kept ≡ Some (ledger_of history))

-- a history, and a command where it was accepted
abbrev pub followed_by : List Command → Command → List Command
followed_by history command =
    if is_accepted (reply_after history command) then history ++ command ∷ [] else history

-- the answer is the reply after the history, and the keeper stands for the history and the command where it was
-- accepted; after a fault it stands for the history
abbrev pub Obeys : List Command → Command → Option Kept → Result Reply KeepFault → Type 0
Obeys history command now (Ok reply) =
    (reply ≡ reply_after history command) × StandsFor now (followed_by history command)
Obeys history command now (Err fault) = StandsFor now history

-- ---- lists of commands

-- the replies to commands in turn
abbrev pub replies_after : List Command → List Command → List Reply
replies_after history [] = []
replies_after history (command ∷ commands) =
    reply_after history command ∷ replies_after (followed_by history command) commands

-- a history, and those of the commands that were accepted in turn
abbrev pub followed_by_all : List Command → List Command → List Command
followed_by_all history [] = history
followed_by_all history (command ∷ commands) = followed_by_all (followed_by history command) commands

-- how many commands were obeyed
abbrev pub obeyed_of : ℕ → Result (Unit {0}) Stop → ℕ
obeyed_of all (Ok done) = all
obeyed_of all (Err stop) = stop.at

-- the replies of this many commands were added, and the keeper stands for the history and those that were accepted
abbrev pub ObeysFirst : List Command → List Command → ℕ → Option Kept → List Reply → List Reply → Type 0
ObeysFirst history commands count now before after =
    (after ≡ before ++ replies_after history (take count commands))
    × StandsFor now (followed_by_all history (take count commands))
