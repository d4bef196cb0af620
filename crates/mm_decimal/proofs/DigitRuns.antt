-- A run of digits is read as its digits are, one by one.
use Rattle.std.proofs.Common.{◌≡◌, ℕ, ◌+◌, ◌-◌, ◌*◌, ◌≤◌, List, [], ◌∷◌, ◌++◌, sym, arith}
use Rattle.std.specs.Prelude.{Some}
use Rattle.mm_decimal.specs.Numerals.{IsDigit}
use Rattle.mm_decimal.specs.InsidePhases.{phase_after, IsRun}
use Rattle.mm_decimal.specs.InsideLeadingDigits.{IsCut}
use Rattle.mm_decimal.specs.InsideScans.{Read, digit_read, run_read, IsView, HasRead}
use Rattle.mm_decimal.proofs.ByteKinds.{digit_kind}
use Rattle.mm_decimal.proofs.Passes.{taken}
use Rattle.mm_decimal.specs.declared.leading_digits.LeadingDigits.{LeadingDigits}
use Rattle.mm_decimal.specs.declared.phase.ByteKind.TheVariants as kinds
use Rattle.mm_decimal.specs.declared.phase.Phase.{Phase}
use Rattle.mm_decimal.specs.declared.phase.Phase.TheVariants as phases
use Rattle.mm_decimal.specs.declared.scan.Scan.{Scan}

stays : (phase : Phase) → IsRun phase → phase_after phase kinds.Digit ≡ Some phase
stays phase h = grind arith

-- the scan with a phase of its own
abbrev with_phase : Scan → Phase → Scan
with_phase scan phase = record scan { phase = phase }

run_view : (phase : Phase) → IsRun phase → (scan : Scan) (kept next : LeadingDigits) (count digit bytes : ℕ)
    (read : Read)
    → ((number : ℕ) → IsCut kept number → IsCut next (10 * number + digit)) → next.dropped ≤ kept.dropped + 1
    → IsView (run_read (with_phase scan phase) kept count) bytes read
    → IsView (run_read (with_phase scan phase) next (count + 1)) (bytes + 1) (digit_read phase digit read)
run_view phase h scan kept next count digit bytes read cut dropped view = grind arith

pub run_taken : (front : List ℕ) (byte : ℕ) (scan : Scan) (kept next : LeadingDigits) (count : ℕ) → IsRun scan.phase
    → IsDigit byte
    → ((number : ℕ) → IsCut kept number → IsCut next (10 * number + (byte - 48))) → next.dropped ≤ kept.dropped + 1
    → HasRead front (run_read scan kept count) → HasRead (front ++ byte ∷ []) (run_read scan next (count + 1))
run_taken front byte scan kept next count is_run digit cut dropped h =
    taken front byte (run_read scan kept count) (run_read scan next (count + 1)) kinds.Digit scan.phase h
    (sym (digit_kind byte digit)) (stays scan.phase is_run)
    (λ bytes read view. run_view scan.phase is_run scan kept next count (byte - 48) bytes read cut dropped view)
