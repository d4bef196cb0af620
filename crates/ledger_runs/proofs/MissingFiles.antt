-- Which file is missing where something is refused for reading.
use Rattle.std.proofs.Common.{◌≡◌, ◌≢◌, ◌⊎◌, inl, inr, ℕ, suc, List, [], ◌∷◌, codes, Contains, Option, None, Some, IfSome}
use Rattle.std.proofs.Common.{refl, sym, ap, ◌∙◌, subst, arith}
use Rattle.shelf_io.specs.Files.{Files}
use Rattle.ledger_script.specs.declared.script_lines.ScriptLine.{ScriptLine}
use Rattle.ledger_script.specs.declared.script_lines.ScriptLine.TheVariants as asks
use Rattle.ledger_runs.specs.declared.commands.TheConstants.{MOST_REPORTS}
use Rattle.ledger_runs.specs.declared.scripts.AskedLine.{AskedLine}
use Rattle.ledger_runs.specs.declared.refusals.LedgerRefusal.{LedgerRefusal}
use Rattle.ledger_runs.specs.declared.refusals.LedgerRefusal.TheVariants.{ScriptUnread, FileUnread}
use Rattle.ledger_runs.specs.declared.status.LedgerStatus.{LedgerStatus}
use Rattle.ledger_runs.specs.declared.status.LedgerStatus.TheVariants.{Read, Write}
use Rattle.ledger_runs.specs.Refusals.{status_of, line_of}
use Rattle.ledger_runs.specs.Words.{AreNames}
use Rattle.ledger_runs.specs.Entries.{IsLayerRefused, IsEntryRefused, IsLineRefused, IsRefusedAt}
use Rattle.ledger_runs.specs.Entries.{report_unread, report_long, report_bad, other_count, layer_refused}
use Rattle.ledger_runs.specs.Outcome.{IsScript, IsRead, IsRefused}
use Rattle.ledger_runs.specs.Outcome.{no_names, script_unread, script_long, many_lines, bad_line, bad_entry}
use Rattle.ledger_runs.specs.Ends.{IsUnread}
use Rattle.ledger_runs.specs.MissingFiles.{LacksSome, names_of, LacksFileAt, LacksNamed, LacksPrinted}
use Rattle.ledger_runs.specs.HandedOut.{PreparingFails}

contains-first : {X : Type 0} (x : X) (xs : List X) → Contains (x ∷ xs) x
contains-first x xs = (0, omega arith, refl)

contains-behind : {X : Type 0} (first x : X) (xs : List X) → Contains xs x → Contains (first ∷ xs) x
contains-behind first x xs at = (suc at.0, omega (arith, at.1), at.2)

-- ---- the files of a line

-- the shelf failed, or one of these names is missing and this line is refused for it
abbrev pub FailsOrLacks : Type 0 → Files → ℕ → List (List ℕ) → LedgerRefusal → Type 0
FailsOrLacks rose files line names refusal = rose ⊎ ((refusal ≡ FileUnread line) × LacksSome names files)

lacks-first : (rose : Type 0) (files : Files) (line : ℕ) (name : List ℕ) (names : List (List ℕ)) (refusal : LedgerRefusal)
    → refusal ≡ FileUnread line → IsUnread files rose name → FailsOrLacks rose files line (name ∷ names) refusal
lacks-first rose files line name names refusal same (inl missing) =
    inr (same, (name, contains-first name names, missing))
lacks-first rose files line name names refusal same (inr failed) = inl failed

lacks-behind : (rose : Type 0) (files : Files) (line : ℕ) (name : List ℕ) (names : List (List ℕ)) (refusal : LedgerRefusal)
    → FailsOrLacks rose files line names refusal → FailsOrLacks rose files line (name ∷ names) refusal
lacks-behind rose files line name names refusal (inl failed) = inl failed
lacks-behind rose files line name names refusal (inr (same, lacks)) =
    inr (same, (lacks.0, contains-behind name lacks.0 names lacks.1, lacks.2))

layers-lack : (rose : Type 0) (files : Files) (line : ℕ) (layers : List (List ℕ)) (refusal : LedgerRefusal)
    → IsLayerRefused (IsUnread files rose) files line layers refusal → status_of refusal ≡ Read
    → FailsOrLacks rose files line layers refusal
layers-lack rose files line [] refusal refused is = absurd refused
layers-lack rose files line (layer ∷ layers) refusal (inl unread) is =
    lacks-first rose files line layer layers refusal unread.0 unread.1
layers-lack rose files line (layer ∷ layers) refusal (inr (inl long)) is = absurd (cc (ap status_of long.0))
layers-lack rose files line (layer ∷ layers) refusal (inr (inr more)) is =
    lacks-behind rose files line layer layers refusal (layers-lack rose files line layers refusal more.2 is)

entry-lacks : (rose : Type 0) (files : Files) (left line : ℕ) (report : List ℕ) (layers : List (List ℕ))
    (refusal : LedgerRefusal) → IsEntryRefused (IsUnread files rose) files left line report layers refusal
    → status_of refusal ≡ Read → FailsOrLacks rose files line (report ∷ layers) refusal
entry-lacks rose files left line report layers refusal (report_unread same unread) is =
    lacks-first rose files line report layers refusal same unread
entry-lacks rose files left line report layers refusal (report_long same long) is = absurd (cc (ap status_of same))
entry-lacks rose files left line report layers refusal (report_bad bytes bad there few same at) is =
    absurd (cc (ap status_of same))
entry-lacks rose files left line report layers refusal (other_count bytes contents read same other) is =
    absurd (cc (ap status_of same))
entry-lacks rose files left line report layers refusal (layer_refused bytes contents read same refused) is =
    lacks-behind rose files line report layers refusal (layers-lack rose files line layers refusal refused is)

line-lacks : (rose : Type 0) (files : Files) (left line : ℕ) (wants : ScriptLine) (refusal : LedgerRefusal)
    → IsLineRefused (IsUnread files rose) files left line wants refusal → status_of refusal ≡ Read
    → FailsOrLacks rose files line (names_of wants) refusal
line-lacks rose files left line (asks.Enter report layers) refusal refused is =
    entry-lacks rose files left line report layers refusal refused is
line-lacks rose files left line (asks.Decide run place mark) refusal refused is = absurd refused
line-lacks rose files left line (asks.List run) refusal refused is = absurd refused
line-lacks rose files left line (asks.Clear run) refusal refused is = absurd refused

-- ---- the lines of a script

-- the shelf failed, or a file is missing of a line of these that the refusal names
abbrev pub FailsOrNames : Type 0 → Files → List AskedLine → LedgerRefusal → Type 0
FailsOrNames rose files asked refusal =
    rose ⊎ ((number : ℕ) × (refusal ≡ FileUnread number) × LacksFileAt asked files number)

names-first : (rose : Type 0) (files : Files) (line : AskedLine) (asked : List AskedLine) (refusal : LedgerRefusal)
    → FailsOrLacks rose files line.line (names_of line.asks) refusal → FailsOrNames rose files (line ∷ asked) refusal
names-first rose files line asked refusal (inl failed) = inl failed
names-first rose files line asked refusal (inr (same, lacks)) =
    inr (line.line, same, (line, contains-first line asked, refl, lacks))

names-behind : (rose : Type 0) (files : Files) (line : AskedLine) (asked : List AskedLine) (refusal : LedgerRefusal)
    → FailsOrNames rose files asked refusal → FailsOrNames rose files (line ∷ asked) refusal
names-behind rose files line asked refusal (inl failed) = inl failed
names-behind rose files line asked refusal (inr (number, same, lacks)) =
    inr (number, same, (lacks.0, contains-behind line lacks.0 asked lacks.1, lacks.2, lacks.3))

lines-lack : (rose : Type 0) (files : Files) (left : ℕ) (asked : List AskedLine) (refusal : LedgerRefusal)
    → IsRefusedAt (IsUnread files rose) files left asked refusal → status_of refusal ≡ Read
    → FailsOrNames rose files asked refusal
lines-lack rose files left [] refusal refused is = absurd refused
lines-lack rose files left (line ∷ asked) refusal (inl refused) is =
    names-first rose files line asked refusal (line-lacks rose files left line.line line.asks refusal refused is)
lines-lack rose files left (line ∷ asked) refusal (inr more) is =
    names-behind rose files line asked refusal (lines-lack rose files more.1 asked refusal more.3 is)

-- ---- the run

-- the shelf failed, or the file is missing that the refusal names
abbrev pub FailsOrNamed : Type 0 → List (List ℕ) → Option Files → LedgerRefusal → Type 0
FailsOrNamed rose words told refusal = rose ⊎ LacksNamed words told refusal

script-named : (rose : Type 0) (words : List (List ℕ)) (files : Files) (bytes : List ℕ) (asked : List AskedLine)
    (refusal : LedgerRefusal) → IsScript words files bytes → IsRead bytes asked → FailsOrNames rose files asked refusal
    → FailsOrNamed rose words (Some files) refusal
script-named rose words files bytes asked refusal script read (inl failed) = inl failed
script-named rose words files bytes asked refusal script read (inr (number, same, lacks)) =
    inr (subst (λ (r : LedgerRefusal). LacksNamed words (Some files) r) (sym same) (bytes, asked, script, read, lacks))

unread-named : (rose : Type 0) (words : List (List ℕ)) (files : Files) (name : List ℕ) (refusal : LedgerRefusal)
    → AreNames words name → refusal ≡ ScriptUnread → IsUnread files rose name
    → FailsOrNamed rose words (Some files) refusal
unread-named rose words files name refusal names same (inl missing) =
    inr (subst (λ (r : LedgerRefusal). LacksNamed words (Some files) r) (sym same) (name, names, missing))
unread-named rose words files name refusal names same (inr failed) = inl failed

refused-named : (rose : Type 0) (words : List (List ℕ)) (files : Files) (refusal : LedgerRefusal)
    → IsRefused (IsUnread files rose) words files refusal → status_of refusal ≡ Read
    → FailsOrNamed rose words (Some files) refusal
refused-named rose words files refusal (no_names same none) is = absurd (cc (ap status_of same))
refused-named rose words files refusal (script_unread name names same unread) is =
    unread-named rose words files name refusal names same unread
refused-named rose words files refusal (script_long name names same long) is = absurd (cc (ap status_of same))
refused-named rose words files refusal (many_lines bytes script same many) is = absurd (cc (ap status_of same))
refused-named rose words files refusal (bad_line bytes line script few same bad) is = absurd (cc (ap status_of same))
refused-named rose words files refusal (bad_entry bytes asked script read refused) is =
    script-named rose words files bytes asked refusal script read
    (lines-lack rose files MOST_REPORTS asked refusal refused is)

prepared-named : (rose : Type 0) (words : List (List ℕ)) (files : Files) (refusal : LedgerRefusal)
    → PreparingFails (IsUnread files rose) words files refusal → status_of refusal ≡ Read
    → FailsOrNamed rose words (Some files) refusal
prepared-named rose words files refusal (inl early) is = absurd (cc (ap status_of early))
prepared-named rose words files refusal (inr refused) is = refused-named rose words files refusal refused is

-- the same where the shelf may not state its files
pub named-told : (told : Option Files) (rose : Type 0) (words : List (List ℕ)) (refusal : LedgerRefusal)
    → IfSome told (λ files. PreparingFails (IsUnread files rose) words files refusal)
    → (status_of refusal ≡ Read → told ≡ None → rose) → status_of refusal ≡ Read
    → FailsOrNamed rose words told refusal
named-told None rose words refusal fails untold is = inl (untold is refl)
named-told (Some files) rose words refusal fails untold is = prepared-named rose words files refusal fails is

printed-named : (rose : Type 0) (words : List (List ℕ)) (told made : Option Files) (refusal : LedgerRefusal)
    → FailsOrNamed rose words told refusal → IfSome made (λ all. all ≡ (codes "-", line_of refusal) ∷ [])
    → rose ⊎ LacksPrinted words told made
printed-named rose words told made refusal (inl failed) printed = inl failed
printed-named rose words told made refusal (inr named) printed = inr (refusal, named, printed)

-- a run that ends for reading has printed the line of such a refusal
pub read-told : (told : Option Files) (rose : Type 0) (words : List (List ℕ)) (refusal : LedgerRefusal)
    (status : LedgerStatus) (made : Option Files)
    → IfSome told (λ files. PreparingFails (IsUnread files rose) words files refusal)
    → (status_of refusal ≡ Read → told ≡ None → rose) → (status ≡ status_of refusal) ⊎ (status ≡ Write)
    → (status ≢ Write → IfSome made (λ all. all ≡ (codes "-", line_of refusal) ∷ [])) → status ≡ Read
    → rose ⊎ LacksPrinted words told made
read-told told rose words refusal status made fails untold (inl same) whole is =
    printed-named rose words told made refusal (named-told told rose words refusal fails untold (sym same ∙ is))
    (whole (λ write. cc))
read-told told rose words refusal status made fails untold (inr write) whole is = cc
