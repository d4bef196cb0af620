-- Histories and one more command that was accepted.
use Rattle.std.proofs.Common.{◌≡◌, ℕ, ◌+◌, ◌<◌, ◌≤◌, Bool, true, false, cond, List, [], ◌∷◌, ◌++◌, Option, None, Some}
use Rattle.std.proofs.Common.{refl, sym, ap, subst, arith, nat_eq, length, ◌∙◌, IfSome}
use Rattle.std.proofs.Common.{Result, Ok, Err}
use Rattle.std.proofs.lemmas.Bool.{and_parts, leb-true, ne_eqb}
use Rattle.std.proofs.lemmas.List.{append_assoc, append-nil, length-append}
use Rattle.ledger_core.specs.declared.faults.KeepFault.{KeepFault}
use Rattle.ledger_core.specs.declared.pairs.PairRow.{PairRow}
use Rattle.ledger_core.specs.declared.pairs.Mark.{Mark}
use Rattle.ledger_core.specs.declared.pairs.Verdict.{Verdict}
use Rattle.ledger_core.specs.declared.pairs.Verdict.TheVariants as verdicts
use Rattle.ledger_core.specs.declared.commands.Command.{Command}
use Rattle.ledger_core.specs.declared.commands.Command.TheVariants as commands
use Rattle.ledger_core.specs.declared.commands.Reply.{Reply}
use Rattle.ledger_core.specs.declared.commands.Reply.TheVariants.{NoRun, Listed}
use Rattle.ledger_core.specs.Kept.{Kept, AreInOrder, pair_at}
use Rattle.ledger_core.specs.Replies.{reply_of, kept_after, changed_by, is_accepted, has_run, decision_of, clearance_of, Answers}
use Rattle.ledger_core.specs.Histories.{verdict_in, runs_of, ledger_of, reply_after, AreAccepted, IsHistory, StandsFor, followed_by, Obeys}
use Rattle.ledger_core.proofs.Verdicts.{or-undecided, verdict-append, found-verdict}
use Rattle.ledger_core.proofs.Ledgers.{runs-append, entered-ledger, decided-ledger, in-order}

-- what a decision that was accepted says: the run is there, and nothing was decided on its pair
record IsOpenAt (all : Kept) (run place : ℕ) : Type 0 where
  entered : run ≤ length all.runs
  row : PairRow
  found : pair_at all.pairs run place ≡ Some row
  undecided : row.verdict ≡ verdicts.Undecided

accepted-decision : (all : Kept) (run place : ℕ) (mark : Mark)
    → is_accepted (reply_of all (commands.Decide run place mark)) ≡ true → IsOpenAt all run place
accepted-decision all run place mark is = by-run (has_run all run) refl is
  where
    by-verdict : (row : PairRow) (verdict : Verdict) → has_run all run ≡ true
        → pair_at all.pairs run place ≡ Some row → row.verdict ≡ verdict
        → is_accepted (decision_of (Some (record row { verdict = verdict }))) ≡ true → IsOpenAt all run place
    by-verdict row verdicts.Undecided there found is-verdict is = record {
      entered = leb-true _ _ (and_parts _ _ there).1;
      row = row;
      found = found;
      undecided = is-verdict;
    }
    by-verdict row verdict there found is-verdict is = cc

    by-row : (found : Option PairRow) → has_run all run ≡ true → pair_at all.pairs run place ≡ found
        → is_accepted (decision_of found) ≡ true → IsOpenAt all run place
    by-row None there found is = cc
    by-row (Some row) there found is = by-verdict row row.verdict there found refl is

    by-run : (t : Bool) → has_run all run ≡ t
        → is_accepted (cond t (decision_of (pair_at all.pairs run place)) NoRun) ≡ true → IsOpenAt all run place
    by-run true there is = by-row (pair_at all.pairs run place) there refl is
    by-run false there is = cc

-- a list of pairs is no command that is accepted, and neither is what is said of a run
listed-not : (t : Bool) (rows : List PairRow) → is_accepted (cond t (Listed rows) NoRun) ≡ true → ⊥
listed-not true rows is = cc
listed-not false rows is = cc

cleared-not : (t : Bool) (rows : List PairRow) → is_accepted (cond t (clearance_of rows) NoRun) ≡ true → ⊥
cleared-not true [] is = cc
cleared-not t rows is = cc

-- ---- runs that were not entered

-- on the pairs of runs that were not entered nothing was decided
abbrev AreUndecidedBeyond : List Command → Type 0
AreUndecidedBeyond history = (run place : ℕ) → length (runs_of history) < run
    → verdict_in history run place ≡ verdicts.Undecided

beyond-one : (history : List Command) (command : Command) → AreUndecidedBeyond history
    → is_accepted (reply_after history command) ≡ true → AreUndecidedBeyond (history ++ command ∷ [])
beyond-one history (commands.Enter seal report) beyond is = λ run place far.
    let longer = rw (runs-append history (commands.Enter seal report ∷ []), length-append) at far in
    verdict-append history (commands.Enter seal report ∷ []) run place ∙ or-undecided _
    ∙ beyond run place (omega (arith, longer))
beyond-one history (commands.List r) beyond is = absurd (listed-not _ _ is)
beyond-one history (commands.Clear r) beyond is = absurd (cleared-not _ _ is)
beyond-one history (commands.Decide r p mark) beyond is = λ run place far.
    let pair = accepted-decision (ledger_of history) r p mark is in
    let longer : length (runs_of history) < run =
    rw (runs-append history (commands.Decide r p mark ∷ []), append-nil) at far in
    let other : nat_eq run r ≡ false = ne_eqb _ _ (λ same. absurd (omega (arith, same, longer, pair.entered))) in
    verdict-append history (commands.Decide r p mark ∷ []) run place
    ∙ rw (other, beyond run place longer) refl

beyond-all : (before history : List Command) → AreUndecidedBeyond before → AreAccepted before history
    → AreUndecidedBeyond (before ++ history)
beyond-all before [] beyond accepted = subst AreUndecidedBeyond (sym (append-nil before)) beyond
beyond-all before (command ∷ history) beyond accepted =
    subst AreUndecidedBeyond (append_assoc before (command ∷ []) history)
    (beyond-all (before ++ command ∷ []) history (beyond-one before command beyond accepted.0) accepted.1)

-- ---- one more command

accepted-append : (before history : List Command) (command : Command) → AreAccepted before history
    → is_accepted (reply_after (before ++ history) command) ≡ true → AreAccepted before (history ++ command ∷ [])
accepted-append before [] command accepted is =
    (subst (λ (h : List Command). is_accepted (reply_after h command) ≡ true) (append-nil before) is, tt)
accepted-append before (first ∷ history) command accepted is = (
  accepted.0,
  accepted-append (before ++ first ∷ []) history command accepted.1
      (subst (λ (h : List Command). is_accepted (reply_after h command) ≡ true)
      (sym (append_assoc before (first ∷ []) history)) is),
)

changed-ledger : (history : List Command) (command : Command) → IsHistory history
    → is_accepted (reply_after history command) ≡ true
    → changed_by command (ledger_of history) ≡ ledger_of (history ++ command ∷ [])
changed-ledger history (commands.Enter seal report) accepted is =
    entered-ledger history seal report (λ place. beyond-all [] history (λ run place far. refl) accepted
    (length (runs_of history) + 1) place (omega arith))
changed-ledger history (commands.List r) accepted is = absurd (listed-not _ _ is)
changed-ledger history (commands.Clear r) accepted is = absurd (cleared-not _ _ is)
changed-ledger history (commands.Decide r p mark) accepted is =
    let pair = accepted-decision (ledger_of history) r p mark is in
    decided-ledger history r p mark
    (sym (found-verdict (verdict_in history) 1 history r p pair.row pair.found) ∙ pair.undecided)

-- the keeper stands for the history and the command where it was accepted
followed-ledger : (history : List Command) (command : Command) → IsHistory history
    → StandsFor (Some (kept_after (ledger_of history) command)) (followed_by history command)
followed-ledger history command accepted = by-test (is_accepted (reply_after history command)) refl
  where
    by-test : (t : Bool) → is_accepted (reply_after history command) ≡ t
        → StandsFor (Some (cond t (changed_by command (ledger_of history)) (ledger_of history)))
        (cond t (history ++ command ∷ []) history)
    by-test true is =
        (accepted-append [] history command accepted is, ap Some (changed-ledger history command accepted is))
    by-test false is = (accepted, refl)

pub obeys-by : (before now : Option Kept) (history : List Command) (command : Command) (result : Result Reply KeepFault)
    → IfSome before (λ all. AreInOrder all.pairs
    → Answers all (reply_of all command) (kept_after all command) now result)
    → StandsFor before history → Obeys history command now result
obeys-by before now history command result told stands =
    by-result result (rw stands.1 at told (in-order history))
  where
    by-result : (answer : Result Reply KeepFault)
        → Answers (ledger_of history) (reply_of (ledger_of history) command) (kept_after (ledger_of history) command)
        now answer → Obeys history command now answer
    by-result (Ok reply) told = (
      told.0,
      subst (λ (kept : Option Kept). StandsFor kept (followed_by history command)) (sym told.1)
          (followed-ledger history command stands.0),
    )
    by-result (Err fault) told = (stands.0, told)
