-- The invariant and the measure of the loop of `Scan::with_digits` in src/scan.rt.
use Rattle.std.proofs.Common.{length, take, ◌-◌, ◌≤◌}
use Rattle.mm_decimal.specs.InsideScans.{HasRead, run_read}
use Rattle.mm_decimal.proofs.scan.Scan.with_digits.Given as goal

abbrev pub invariant-loop-end : goal.invariant-loop-end
invariant-loop-end l = (l.from ≤ l.end) × (l.end ≤ length l.text)
    × HasRead (take l.end l.text) (run_read l.self l.kept (l.end - l.from))

abbrev pub decreases-loop-end : goal.decreases-loop-end
decreases-loop-end l = length l.text - l.end
