-- What a ledger answers to a command, and what it keeps afterwards.
use Rattle.std.specs.Prelude.{◌≡◌, ℕ, ◌+◌, Bool, true, false, ◌&&◌, ◌||◌, nat_le, nat_lt, if◌then◌else◌}
use Rattle.std.specs.Prelude.{List, [], ◌∷◌, length, Option, None, Some, Result, Ok, Err}
use Rattle.tin_base.specs.declared.pieces.Change.{Change}
use Rattle.ledger_core.specs.declared.limits.TheConstants.{MOST_RUNS, MOST_PAIRS}
use Rattle.ledger_core.specs.declared.faults.KeepFault.{KeepFault}
use Rattle.ledger_core.specs.declared.pairs.Verdict.{Verdict}
use Rattle.ledger_core.specs.declared.pairs.Verdict.TheVariants as verdicts
use Rattle.ledger_core.specs.declared.pairs.PairRow.{PairRow}
use Rattle.ledger_core.specs.declared.pairs.Mark.{Mark}
use Rattle.ledger_core.specs.declared.commands.Command.{Command}
use Rattle.ledger_core.specs.declared.commands.Command.TheVariants as commands
use Rattle.ledger_core.specs.declared.commands.Reply.{Reply}
use Rattle.ledger_core.specs.declared.commands.Reply.TheVariants.{Entered, Known, Full, Decided, Settled, NoRun, NoPair, Listed, Waiting, Cleared}
use Rattle.ledger_core.specs.Kept.{Kept, run_of, pair_at, open_pairs, with_new_run, with_decision, verdict_of}

-- the run is one of those that were entered
abbrev pub has_run : Kept → ℕ → Bool
has_run all run = nat_lt 0 run && nat_le run (length all.runs)

-- beside this many runs and pairs there is no room for one more run with this many pairs
abbrev pub lacks_room : ℕ → ℕ → ℕ → Bool
lacks_room runs pairs more = nat_le MOST_RUNS runs || nat_lt MOST_PAIRS (pairs + more)

abbrev pub is_full : Kept → List Change → Bool
is_full all changes = lacks_room (length all.runs) (length all.pairs) (length changes)

abbrev pub entry_of : Kept → List Change → Option ℕ → Reply
entry_of all changes (Some run) = Known run
entry_of all changes None = if is_full all changes then Full else Entered (length all.runs + 1) (length changes)

-- nothing was decided before, or what was decided stays
abbrev pub decision_on : Verdict → Reply
decision_on verdicts.Undecided = Decided
decision_on verdicts.Kept = Settled verdicts.Kept
decision_on verdicts.Mended = Settled verdicts.Mended

abbrev pub after_decision : ℕ → ℕ → Verdict → Mark → Kept → Kept
after_decision run place verdicts.Undecided mark all = with_decision run place (verdict_of mark) all
after_decision run place verdicts.Kept mark all = all
after_decision run place verdicts.Mended mark all = all

abbrev pub decision_of : Option PairRow → Reply
decision_of None = NoPair
decision_of (Some row) = decision_on row.verdict

abbrev pub clearance_of : List PairRow → Reply
clearance_of [] = Cleared
clearance_of (row ∷ rows) = Waiting row.place

-- the answer to a command over what is kept
abbrev pub reply_of : Kept → Command → Reply
reply_of all (commands.Enter seal report) = entry_of all report.changes (run_of all.runs seal)
reply_of all (commands.Decide run place mark) =
    if has_run all run then decision_of (pair_at all.pairs run place) else NoRun
reply_of all (commands.List run) = if has_run all run then Listed (open_pairs all.pairs run 0) else NoRun
reply_of all (commands.Clear run) = if has_run all run then clearance_of (open_pairs all.pairs run 0) else NoRun

-- only these replies change what is kept
abbrev pub is_accepted : Reply → Bool
is_accepted (Entered run pairs) = true
is_accepted Decided = true
is_accepted (Known run) = false
is_accepted Full = false
is_accepted (Settled verdict) = false
is_accepted NoRun = false
is_accepted NoPair = false
is_accepted (Listed pairs) = false
is_accepted (Waiting place) = false
is_accepted Cleared = false

-- what a command that was accepted makes of what is kept
abbrev pub changed_by : Command → Kept → Kept
changed_by (commands.Enter seal report) all = with_new_run seal report.changes all
changed_by (commands.Decide run place mark) all = with_decision run place (verdict_of mark) all
changed_by (commands.List run) all = all
changed_by (commands.Clear run) all = all

-- what is kept after a command
abbrev pub kept_after : Kept → Command → Kept
kept_after all command = if is_accepted (reply_of all command) then changed_by command all else all

-- the answer is that reply, and what is kept is as after the command; a fault leaves it as it was
abbrev pub Answers : Kept → Reply → Kept → Option Kept → Result Reply KeepFault → Type 0
Answers all reply after now (Ok told) = (told ≡ reply) × (now ≡ Some after)
Answers all reply after now (Err fault) = now ≡ Some all
