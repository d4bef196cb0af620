-- The invariant and the measure of the loop of `read_points` in src/points.rt.
use Rattle.std.proofs.Common.{◌≡◌, ◌*◌, ◌+◌, ◌-◌, ◌≤◌, ℕ, List, length, map, All, unsigned_abs}
use Rattle.std.specs.Prelude.{sum_by}
use Rattle.mm_decimal.specs.declared.limits.TheConstants.{LIMIT}
use Rattle.tin_height.specs.Points.{reading}
use Rattle.tin_height.specs.PointTexts.{ArePlaced}
use Rattle.tin_height.specs.declared.points.LineRow.{LineRow}
use Rattle.tin_height.specs.declared.points.PointRow.{PointRow}
use Rattle.tin_height.proofs.PointLines.{IsReadTo}
use Rattle.tin_height.proofs.points.read_points.Given as goal

abbrev pub invariant-loop-from : goal.invariant-loop-from
invariant-loop-from l =
    (l.from ≤ length l.bytes + 1) × (l.inexact ≤ 3 * l.from)
    × ((lines : List LineRow) × IsReadTo l.how l.bytes l.from (reading l.how l.bytes) lines
    × (l.rows.items ≡ map (λ (line : LineRow). line.row) lines)
    × (l.inexact ≡ sum_by (λ (line : LineRow). line.inexact) lines))
    × ((past : ℕ) × (past ≤ l.from) × (past ≤ length l.bytes) × ArePlaced 0 past l.rows.items)
    × All (λ (row : PointRow). unsigned_abs row.z ≤ LIMIT) l.rows.items
    × (length l.rows.items ≤ l.from) × (length l.rows.items ≤ length l.bytes)

abbrev pub decreases-loop-from : goal.decreases-loop-from
decreases-loop-from l = length l.bytes - l.from
