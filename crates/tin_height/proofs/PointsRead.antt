-- What is read of a list of points, by the clause of `read_points`.
use Rattle.std.proofs.Common.{◌≡◌, ℕ, List, Result, Ok, Err, sym, ap₂}
use Rattle.sheet_base.specs.declared.flags.How.{How}
use Rattle.sheet_base.specs.declared.faults.LayerFault.{LayerFault}
use Rattle.sheet_base.specs.declared.faults.LayerFault.TheVariants as layers
use Rattle.tin_height.specs.Points.{reading, ArePointsOf, points_in, points_read}
use Rattle.tin_height.specs.declared.points.LineRow.{LineRow}
use Rattle.tin_height.specs.declared.points.PointRow.{PointRow}
use Rattle.tin_height.specs.declared.points.Points.{Points}

of_lines : (points : Points) (r : Result (List LineRow) LayerFault) → ArePointsOf (Ok points) r → points_in r ≡ Ok points
of_lines points (Ok lines) (rows, inexact) =
    ap₂ (λ (rs : List PointRow) (n : ℕ). Ok (record { rows = rs; inexact = n })) (sym rows) (sym inexact)
of_lines points (Err fault) h = absurd h

pub points_are_read : (how : How) (bytes : List ℕ) (points : Points) → ArePointsOf (Ok points) (reading how bytes)
    → points_read how bytes ≡ Ok points
points_are_read how bytes points h = of_lines points (reading how bytes) h
