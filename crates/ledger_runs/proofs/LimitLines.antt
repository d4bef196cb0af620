-- A line about bytes is that of a refusal for bytes, and no reply begins so.
use Rattle.std.proofs.Common.{◌≡◌, ◌≢◌, ◌⊎◌, inl, inr, ℕ, zero, suc, List, [], ◌∷◌, ◌++◌, length, take, codes}
use Rattle.std.proofs.Common.{Option, None, Some, IfSome, refl, sym, ◌∙◌, ap, subst, arith}
use Rattle.std.proofs.Math.Seq.{take-length}
use Rattle.plain_laws.proofs.Lists.{same_first, same_rest}
use Rattle.shelf_io.specs.Files.{Files}
use Rattle.ledger_core.specs.declared.commands.Reply.{Reply}
use Rattle.ledger_core.specs.declared.commands.Reply.TheVariants.{Settled, Listed}
use Rattle.ledger_core.specs.declared.pairs.Verdict.TheVariants as verdicts
use Rattle.ledger_runs.specs.declared.commands.TheConstants.{MOST_REPORTS}
use Rattle.ledger_runs.specs.declared.refusals.LedgerRefusal.{LedgerRefusal}
use Rattle.ledger_runs.specs.declared.refusals.LedgerRefusal.TheVariants as refusals
use Rattle.ledger_runs.specs.declared.status.LedgerStatus.{LedgerStatus}
use Rattle.ledger_runs.specs.declared.status.LedgerStatus.TheVariants.{Done, Write, Keeper, Memory}
use Rattle.ledger_runs.specs.Refusals.{status_of, line_of, limit_front, reports_front, layers_front}
use Rattle.ledger_runs.specs.ReplyText.{replies_text}
use Rattle.ledger_runs.specs.Causes.{HasPassed}
use Rattle.ledger_runs.specs.Ends.{IsFrontOf, Tells, KeepsLimits}
use Rattle.ledger_runs.specs.HandedOut.{AreReplies}
use Rattle.ledger_runs.proofs.RunEnds.{not-write}

-- at some place the text has another byte than this beginning, or it is shorter
abbrev pub Departs : List ℕ → List ℕ → Type 0
Departs [] text = ⊥
Departs (byte ∷ front) [] = Unit {0}
Departs (byte ∷ front) (other ∷ text) = (byte ≢ other) ⊎ Departs front text

-- then no first part of the text begins so
departs-none : (front text rest : List ℕ) (count : ℕ) → Departs front text → front ++ rest ≡ take count text → ⊥
departs-none [] text rest count departs same = departs
departs-none (byte ∷ front) text rest zero departs same = cc
departs-none (byte ∷ front) [] rest (suc count) departs same = cc
departs-none (byte ∷ front) (other ∷ text) rest (suc count) (inl apart) same =
    apart (same_first byte other (front ++ rest) (take count text) same)
departs-none (byte ∷ front) (other ∷ text) rest (suc count) (inr departs) same =
    departs-none front text rest count departs (same_rest byte other (front ++ rest) (take count text) same)

-- what is made of a text that departs from a beginning does not begin so
tells-none : (front said : List ℕ) (made : Files) → Departs front said → IsFrontOf made said → Tells front made → ⊥
tells-none front said made departs is (rest, same) =
    let (count, first) = rw same at is in
    departs-none front said rest count departs (ap (λ (file : List ℕ × List ℕ). file.1) first)

-- what is printed of a text is a first part of it
front-of : (said : List ℕ) (wanted result : LedgerStatus) (made : Files) → wanted ≢ Write
    → (result ≡ wanted) ⊎ (result ≡ Write) → (result ≢ Write → made ≡ (codes "-", said) ∷ [])
    → (result ≡ Write → IsFrontOf made said) → IsFrontOf made said
front-of said wanted result made other (inl is) whole front =
    let same : made ≡ (codes "-", said) ∷ [] = whole (λ write. other (sym is ∙ write)) in
    rw same (length said, ap (λ (text : List ℕ). (codes "-", text)) (sym (take-length said)))
front-of said wanted result made other (inr write) whole front = front write

-- ---- the lines of refusals

-- the line of a refusal is about bytes only where it is for bytes
pub data IsLimitLine (refusal : LedgerRefusal) : Type 0 where
  of_script : refusal ≡ refusals.ScriptBytes → IsLimitLine refusal
  of_reports : refusal ≡ refusals.ReportBytes → IsLimitLine refusal
  of_layers : refusal ≡ refusals.LayerBytes → IsLimitLine refusal
  of_none : Departs limit_front (line_of refusal) → IsLimitLine refusal

-- of the lines that are of none, one has another byte in its eighth place, and all others have another first byte
limit-line : (refusal : LedgerRefusal) → IsLimitLine refusal
limit-line refusals.ScriptBytes = of_script refl
limit-line refusals.ScriptLines = of_none (inr (inr (inr (inr (inr (inr (inr (inl (λ e. omega (arith, e))))))))))
limit-line (refusals.BadLine line) = of_none (inl (λ e. omega (arith, e)))
limit-line (refusals.FileUnread line) = of_none (inl (λ e. omega (arith, e)))
limit-line refusals.ReportBytes = of_reports refl
limit-line (refusals.BadReport line bad) = of_none (inl (λ e. omega (arith, e)))
limit-line (refusals.LayerCount line) = of_none (inl (λ e. omega (arith, e)))
limit-line refusals.LayerBytes = of_layers refl
limit-line (refusals.NoMemory done) = of_none (inl (λ e. omega (arith, e)))
limit-line (refusals.KeeperFailed done) = of_none (inl (λ e. omega (arith, e)))
limit-line refusal = of_none (inl (λ e. omega (arith, e)))

-- a text that departs from the beginning of all such lines departs from a longer one
longer : (front more text : List ℕ) → Departs front text → Departs (front ++ more) text
longer [] more text departs = absurd departs
longer (byte ∷ front) more [] departs = tt
longer (byte ∷ front) more (other ∷ text) (inl apart) = inl apart
longer (byte ∷ front) more (other ∷ text) (inr departs) = inr (longer front more text departs)

-- where a line has this many bytes as the beginning of all such lines, and departs after it
at-seventeenth : (front line : List ℕ) → Departs front line
    → Departs (codes "limit: bytes of " ++ front) (codes "limit: bytes of " ++ line)
at-seventeenth front line departs =
    inr (inr (inr (inr (inr (inr (inr (inr (inr (inr (inr (inr (inr (inr (inr (inr departs)))))))))))))))

passed-told : (refusal : LedgerRefusal) (before now : ℕ) (made : Files) → HasPassed MOST_REPORTS before now refusal
    → IsFrontOf made (line_of refusal) → IsLimitLine refusal → KeepsLimits before now made
passed-told refusal before now made passed front (of_script is) = record {
  bytes = λ tells. passed.script is;
  reports = λ tells. absurd (tells-none reports_front (line_of refusals.ScriptBytes) made
      (at-seventeenth (codes "r") (codes "script\n") (inl (λ e. omega (arith, e))))
      (subst (λ (r : LedgerRefusal). IsFrontOf made (line_of r)) is front) tells);
  layers = λ tells. absurd (tells-none layers_front (line_of refusals.ScriptBytes) made
      (at-seventeenth (codes "l") (codes "script\n") (inl (λ e. omega (arith, e))))
      (subst (λ (r : LedgerRefusal). IsFrontOf made (line_of r)) is front) tells);
}
passed-told refusal before now made passed front (of_reports is) = record {
  bytes = λ tells. omega (arith, passed.reports is);
  reports = λ tells. passed.reports is;
  layers = λ tells. absurd (tells-none layers_front (line_of refusals.ReportBytes) made
      (at-seventeenth (codes "l") (codes "reports\n") (inl (λ e. omega (arith, e))))
      (subst (λ (r : LedgerRefusal). IsFrontOf made (line_of r)) is front) tells);
}
passed-told refusal before now made passed front (of_layers is) = record {
  bytes = λ tells. omega (arith, passed.layers is);
  reports = λ tells. absurd (tells-none reports_front (line_of refusals.LayerBytes) made
      (at-seventeenth (codes "r") (codes "layers\n") (inl (λ e. omega (arith, e))))
      (subst (λ (r : LedgerRefusal). IsFrontOf made (line_of r)) is front) tells);
  layers = λ tells. passed.layers is;
}
passed-told refusal before now made passed front (of_none departs) = record {
  bytes = λ tells. absurd (tells-none limit_front (line_of refusal) made departs front tells);
  reports = λ tells. absurd (tells-none reports_front (line_of refusal) made
      (longer limit_front (codes " r") (line_of refusal) departs) front tells);
  layers = λ tells. absurd (tells-none layers_front (line_of refusal) made
      (longer limit_front (codes " l") (line_of refusal) departs) front tells);
}

-- what is said of a refusal keeps the limits
pub limit-told : (refusal : LedgerRefusal) (before now : ℕ) (result : LedgerStatus) (made : Option Files)
    → HasPassed MOST_REPORTS before now refusal → (result ≡ status_of refusal) ⊎ (result ≡ Write)
    → (result ≢ Write → IfSome made (λ all. all ≡ (codes "-", line_of refusal) ∷ []))
    → (result ≡ Write → IfSome made (λ all. IsFrontOf all (line_of refusal)))
    → IfSome made (KeepsLimits before now)
limit-told refusal before now result None passed status whole front = tt
limit-told refusal before now result (Some made) passed status whole front =
    passed-told refusal before now made passed
    (front-of (line_of refusal) (status_of refusal) result made (not-write refusal) status whole front) (limit-line refusal)

-- a refusal by the keeper, or for want of memory, is not one for bytes
pub stop-passed : (refusal : LedgerRefusal) (before now : ℕ) → (status_of refusal ≡ Keeper) ⊎ (status_of refusal ≡ Memory)
    → HasPassed MOST_REPORTS before now refusal
stop-passed refusal before now (inl keeper) = record {
  script = λ is. absurd (cc (ap status_of is));
  reports = λ is. absurd (cc (ap status_of is));
  layers = λ is. absurd (cc (ap status_of is));
}
stop-passed refusal before now (inr memory) = record {
  script = λ is. absurd (cc (ap status_of is));
  reports = λ is. absurd (cc (ap status_of is));
  layers = λ is. absurd (cc (ap status_of is));
}

-- ---- replies

-- no reply begins so: all but a list by the first byte, and a list by the third
replies-depart : (replies : List Reply) → Departs limit_front (replies_text replies)
replies-depart [] = tt
replies-depart (Settled verdicts.Undecided ∷ more) = inl (λ e. omega (arith, e))
replies-depart (Listed pairs ∷ more) = inr (inr (inl (λ e. omega (arith, e))))
replies-depart replies = inl (λ e. omega (arith, e))

-- what is said of replies keeps the limits
pub replies-told : (said : List ℕ) (before now : ℕ) (result : LedgerStatus) (made : Option Files) → AreReplies said
    → (result ≡ Done) ⊎ (result ≡ Write) → (result ≢ Write → IfSome made (λ all. all ≡ (codes "-", said) ∷ []))
    → (result ≡ Write → IfSome made (λ all. IsFrontOf all said)) → IfSome made (KeepsLimits before now)
replies-told said before now result None are status whole front = tt
replies-told said before now result (Some made) (replies, is) status whole front =
    let departs : Departs limit_front said =
    subst (λ (text : List ℕ). Departs limit_front text) (sym is) (replies-depart replies) in
    let first : IsFrontOf made said = front-of said Done result made (λ e. cc) status whole front in
    record {
      bytes = λ tells. absurd (tells-none limit_front said made departs first tells);
      reports = λ tells. absurd (tells-none reports_front said made (longer limit_front (codes " r") said departs) first tells);
      layers = λ tells. absurd (tells-none layers_front said made (longer limit_front (codes " l") said departs) first tells);
    }
