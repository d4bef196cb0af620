-- The refusals of a list of points.
use Rattle.std.proofs.Common.{◌≡◌, ℕ, List, Result, Ok, Err, IsErrOf, refl}
use Rattle.sheet_base.specs.declared.flags.How.{How}
use Rattle.tin_file.specs.declared.tall_files.Tall.{Tall}
use Rattle.tin_height.specs.Points.{reading, ArePointsOf}
use Rattle.tin_height.specs.Raises.{IsFirstOutside}
use Rattle.tin_height.specs.declared.points.Points.{Points}
use Rattle.tin_height.specs.declared.raises.RaiseFault.{RaiseFault}
use Rattle.tin_height.specs.declared.raises.RaiseFault.TheVariants as raises
use Rattle.tin_height.proofs.PointsRead.{points_are_read}
use Rattle.height_mode.specs.Heights.{IsUnmoved}
use Rattle.height_mode.specs.InsideMoves.{refusal_of_raising}

pub raise_refused : {T : Type 0} (how : How) (tall : Tall) (bytes : List ℕ) (points : Points) (fault : RaiseFault)
    → ArePointsOf (Ok points) (reading how bytes)
    → ((point : ℕ) → IsErrOf {T = T} (Err fault) (raises.Outside point) → IsFirstOutside tall.tin points.rows point)
    → IsUnmoved how tall bytes (refusal_of_raising fault)
raise_refused how tall bytes points (raises.Outside point) read first =
    (refl, refl, record { points = points; read = points_are_read how bytes points read; first = first point refl })
raise_refused how tall bytes points raises.NoMemory read first = tt
