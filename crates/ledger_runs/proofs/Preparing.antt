-- Why a run ends before its first command, step by step.
use Rattle.std.proofs.Common.{◌≡◌, ◌≢◌, inl, inr, ℕ, ◌+◌, ◌≤◌, List, [], ◌∷◌, length, Option, None, Some, IfSome, refl, arith}
use Rattle.shelf_io.specs.Count.{Rose}
use Rattle.shelf_io.specs.Files.{Files, bytes_of}
use Rattle.report_text.specs.Beginnings.{IsReportText}
use Rattle.ledger_runs.specs.Ends.{IsUnread}
use Rattle.report_text.specs.Reports.{ReportContents}
use Rattle.ledger_runs.specs.declared.commands.TheConstants.{MOST_REPORTS}
use Rattle.ledger_runs.specs.declared.scripts.TheConstants.{MOST_BYTES}
use Rattle.ledger_runs.specs.declared.scripts.AskedLine.{AskedLine}
use Rattle.ledger_runs.specs.declared.refusals.LedgerRefusal.{LedgerRefusal}
use Rattle.ledger_runs.specs.declared.refusals.LedgerRefusal.TheVariants.{LayerCount}
use Rattle.ledger_runs.specs.Words.{AreNames}
use Rattle.ledger_runs.specs.Entries.{IsReportRead, report_bad, other_count, layer_refused}
use Rattle.ledger_runs.specs.Outcome.{IsScript, IsRead, script_unread, script_long, many_lines, bad_line, bad_entry}
use Rattle.ledger_runs.specs.InsideSteps.{ScriptFails, ReadingFails, ScriptReadingFails}
use Rattle.ledger_runs.specs.Lines.{lines_of, AreAsked}
use Rattle.ledger_runs.specs.InsideEntries.{TextFails, LayersFail, EntryFails, CommandsFail}
use Rattle.ledger_runs.specs.HandedOut.{PreparingFails}

script-fails : (unread : List ℕ → Type 0) (words : List (List ℕ)) (files : Files) (name : List ℕ)
    (refusal : LedgerRefusal) → AreNames words name → ScriptFails unread files name refusal
    → PreparingFails unread words files refusal
script-fails unread words files name refusal names (inl early) = inl early
script-fails unread words files name refusal names (inr (inl is)) = inr (script_unread name names is.0 is.1)
script-fails unread words files name refusal names (inr (inr is)) = inr (script_long name names is.0 is.1)

reading-fails : (unread : List ℕ → Type 0) (words : List (List ℕ)) (files : Files) (bytes : List ℕ)
    (refusal : LedgerRefusal) → IsScript words files bytes → ScriptReadingFails bytes refusal
    → PreparingFails unread words files refusal
reading-fails unread words files bytes refusal script (inl many) = inr (many_lines bytes script many.0 many.1)
reading-fails unread words files bytes refusal script (inr few) = by-line few.1
  where
    by-line : ReadingFails 1 (lines_of bytes) refusal → PreparingFails unread words files refusal
    by-line (inl early) = inl early
    by-line (inr bad) = inr (bad_line bytes bad.0 script few.0 bad.1 bad.2)

commands-fail : (unread : List ℕ → Type 0) (words : List (List ℕ)) (files : Files) (bytes : List ℕ)
    (asked : List AskedLine) (refusal : LedgerRefusal) → IsScript words files bytes → IsRead bytes asked
    → CommandsFail unread files MOST_REPORTS asked refusal → PreparingFails unread words files refusal
commands-fail unread words files bytes asked refusal script read (inl early) = inl early
commands-fail unread words files bytes asked refusal script read (inr is) = inr (bad_entry bytes asked script read is)

-- ---- a line that enters a run

text-fails : (unread : List ℕ → Type 0) (files : Files) (left line : ℕ) (report : List ℕ) (layers : List (List ℕ))
    (bytes : List ℕ) (refusal : LedgerRefusal) → bytes_of files report ≡ Some bytes → length bytes ≤ left
    → TextFails bytes line refusal → EntryFails unread files left line report layers refusal
text-fails unread files left line report layers bytes refusal there few (inl early) = inl early
text-fails unread files left line report layers bytes refusal there few (inr is) =
    inr (report_bad bytes is.0 there few is.1 is.2)

count-fails : (unread : List ℕ → Type 0) (files : Files) (left line : ℕ) (report : List ℕ) (layers : List (List ℕ))
    (bytes : List ℕ) (contents : ReportContents) (refusal : LedgerRefusal)
    → IsReportRead files left report bytes contents → refusal ≡ LayerCount line → length contents.layers ≢ length layers
    → EntryFails unread files left line report layers refusal
count-fails unread files left line report layers bytes contents refusal read is other =
    inr (other_count bytes contents read is other)

layers-fail : (unread : List ℕ → Type 0) (files : Files) (left line : ℕ) (report : List ℕ) (layers : List (List ℕ))
    (bytes : List ℕ) (contents : ReportContents) (refusal : LedgerRefusal)
    → IsReportRead files left report bytes contents → length contents.layers ≡ length layers
    → LayersFail unread files line layers refusal → EntryFails unread files left line report layers refusal
layers-fail unread files left line report layers bytes contents refusal read same fails =
    inr (layer_refused bytes contents read same fails)

-- ---- the same where the shelf may not state its files

pub text-fails-told : (files : Option Files) (before now left line : ℕ) (report : List ℕ) (layers : List (List ℕ))
    (bytes : List ℕ) (refusal : LedgerRefusal) → IfSome files (λ f. bytes_of f report ≡ Some bytes) → length bytes ≤ left
    → TextFails bytes line refusal
    → IfSome files (λ f. EntryFails (IsUnread f (Rose before now)) f left line report layers refusal)
text-fails-told None before now left line report layers bytes refusal there few fails = tt
text-fails-told (Some f) before now left line report layers bytes refusal there few fails =
    text-fails (IsUnread f (Rose before now)) f left line report layers bytes refusal there few fails

pub count-fails-told : (files : Option Files) (before now left line : ℕ) (report : List ℕ) (layers : List (List ℕ))
    (bytes : List ℕ) (contents : ReportContents) → IfSome files (λ f. bytes_of f report ≡ Some bytes)
    → length bytes ≤ left → IsReportText bytes contents → length contents.layers ≢ length layers
    → IfSome files (λ f. EntryFails (IsUnread f (Rose before now)) f left line report layers (LayerCount line))
count-fails-told None before now left line report layers bytes contents there few text other = tt
count-fails-told (Some f) before now left line report layers bytes contents there few text other =
    count-fails (IsUnread f (Rose before now)) f left line report layers bytes contents (LayerCount line)
    (record { there = there; few = few; text = text }) refl other

pub layers-fail-told : (files : Option Files) (before now left line : ℕ) (report : List ℕ) (layers : List (List ℕ))
    (bytes : List ℕ) (contents : ReportContents) (refusal : LedgerRefusal)
    → IfSome files (λ f. bytes_of f report ≡ Some bytes) → length bytes ≤ left → IsReportText bytes contents
    → length contents.layers ≡ length layers
    → IfSome files (λ f. LayersFail (IsUnread f (Rose before now)) f line layers refusal)
    → IfSome files (λ f. EntryFails (IsUnread f (Rose before now)) f left line report layers refusal)
layers-fail-told None before now left line report layers bytes contents refusal there few text same fails = tt
layers-fail-told (Some f) before now left line report layers bytes contents refusal there few text same fails =
    layers-fail (IsUnread f (Rose before now)) f left line report layers bytes contents refusal
    (record { there = there; few = few; text = text }) same fails

pub script-fails-told : (files : Option Files) (before now : ℕ) (words : List (List ℕ)) (name : List ℕ)
    (refusal : LedgerRefusal) → AreNames words name
    → IfSome files (λ f. ScriptFails (IsUnread f (Rose before now)) f name refusal)
    → IfSome files (λ f. PreparingFails (IsUnread f (Rose before now)) words f refusal)
script-fails-told None before now words name refusal names fails = tt
script-fails-told (Some f) before now words name refusal names fails =
    script-fails (IsUnread f (Rose before now)) words f name refusal names fails

pub reading-fails-told : (files : Option Files) (before now : ℕ) (words : List (List ℕ)) (name bytes : List ℕ)
    (refusal : LedgerRefusal) → AreNames words name → IfSome files (λ f. bytes_of f name ≡ Some bytes)
    → length bytes ≤ MOST_BYTES → ScriptReadingFails bytes refusal
    → IfSome files (λ f. PreparingFails (IsUnread f (Rose before now)) words f refusal)
reading-fails-told None before now words name bytes refusal names there few fails = tt
reading-fails-told (Some f) before now words name bytes refusal names there few fails =
    reading-fails (IsUnread f (Rose before now)) words f bytes refusal
    (record { name = name; names = names; there = there; few = few }) fails

pub commands-fail-told : (files : Option Files) (before now : ℕ) (words : List (List ℕ)) (name bytes : List ℕ)
    (asked : List AskedLine) (refusal : LedgerRefusal) → AreNames words name
    → IfSome files (λ f. bytes_of f name ≡ Some bytes) → length bytes ≤ MOST_BYTES → IsRead bytes asked
    → IfSome files (λ f. CommandsFail (IsUnread f (Rose before now)) f MOST_REPORTS asked refusal)
    → IfSome files (λ f. PreparingFails (IsUnread f (Rose before now)) words f refusal)
commands-fail-told None before now words name bytes asked refusal names there few read fails = tt
commands-fail-told (Some f) before now words name bytes asked refusal names there few read fails =
    commands-fail (IsUnread f (Rose before now)) words f bytes asked refusal
    (record { name = name; names = names; there = there; few = few }) read fails

-- there are no more commands than lines
pub asked-few : (number : ℕ) (lines : List (List ℕ)) (asked : List AskedLine) → AreAsked number lines asked
    → length asked ≤ length lines
asked-few number [] [] are = omega arith
asked-few number ([] ∷ lines) asked are = omega (arith, asked-few (number + 1) lines asked are)
asked-few number ((byte ∷ line) ∷ lines) (next ∷ asked) are = omega (arith, asked-few (number + 1) lines asked are.2)
asked-few _ lines asked are = absurd are
