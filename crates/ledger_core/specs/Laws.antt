-- Laws of what a ledger answers.
use Rattle.std.specs.Prelude.{◌≡◌, ◌≢◌, ◌↔◌, ℕ, ◌<◌, ◌≤◌, List, [], ◌∷◌, ◌++◌, length, Some, if◌then◌else◌}
use Rattle.std.specs.List.{AllByRecursion}
use Rattle.report_text.specs.Reports.{ReportContents}
use Rattle.ledger_core.specs.declared.pairs.Seal.{Seal}
use Rattle.ledger_core.specs.declared.pairs.Verdict.TheVariants.{Undecided}
use Rattle.ledger_core.specs.declared.commands.Command.{Command}
use Rattle.ledger_core.specs.declared.commands.Command.TheVariants as commands
use Rattle.ledger_core.specs.declared.commands.Reply.TheVariants.{Known, Cleared}
use Rattle.ledger_core.specs.Kept.{Kept, run_of}
use Rattle.ledger_core.specs.Replies.{reply_of, is_accepted}
use Rattle.ledger_core.specs.Histories.{verdict_in, runs_of, reply_after, followed_by, followed_by_all, replies_after}

-- the run is there, and no pair of it is undecided
pub record IsClear (all : Kept) (number : ℕ) : Type 0 where
  pub first : 0 < number
  pub last : number ≤ length all.runs
  pub decided : AllByRecursion (λ row. row.run ≡ number → row.verdict ≢ Undecided) all.pairs

abbrev pub ClearIsDecided : Type 0
ClearIsDecided = (all : Kept) (run : ℕ) → (reply_of all (commands.Clear run) ≡ Cleared) ↔ IsClear all run

abbrev pub DecisionsStand : Type 0
DecisionsStand = (history more : List Command) (run place : ℕ) → verdict_in history run place ≢ Undecided
    → verdict_in (history ++ more) run place ≡ verdict_in history run place

-- what is answered where a seal is entered that was entered before: the run that has it, and nothing changes
pub record IsKnownAlready (history : List Command) (seal : Seal) (command : Command) : Type 0 where
  pub number : ℕ
  pub first : run_of (runs_of history) seal ≡ Some number
  pub known : reply_after history command ≡ Known number
  pub same : followed_by history command ≡ history

-- a run that was entered is entered once, whatever is its report the second time
abbrev pub EnteredOnce : Type 0
EnteredOnce = (before after : List Command) (seal : Seal) (first second : ReportContents)
    → IsKnownAlready (before ++ commands.Enter seal first ∷ after) seal (commands.Enter seal second)

-- those of the commands that are accepted, in turn
abbrev pub accepted_of : List Command → List Command → List Command
accepted_of history [] = []
accepted_of history (command ∷ commands) =
    if is_accepted (reply_after history command) then command ∷ accepted_of (history ++ command ∷ []) commands
    else accepted_of history commands

-- what comes after commands is answered as after those that were accepted, alone
pub record DependsOnAccepted (history commands more : List Command) : Type 0 where
  pub followed : followed_by_all history commands ≡ history ++ accepted_of history commands
  pub alone : followed_by_all history (accepted_of history commands) ≡ followed_by_all history commands
  pub later : replies_after history (commands ++ more)
      ≡ replies_after history commands ++ replies_after (history ++ accepted_of history commands) more

abbrev pub AcceptedAlone : Type 0
AcceptedAlone = (history commands more : List Command) → DependsOnAccepted history commands more
