-- Where corners are, as they are printed.
use Rattle.std.proofs.Common.{◌≡◌, ℕ, ap}
use Rattle.plane_base.specs.declared.shapes.Pt.{Pt}
use Rattle.plane_base.specs.Plane.{Point, whole}
use Rattle.tin_base.specs.declared.frames.Frame.{Frame}
use Rattle.tin_base.specs.Triangulation.{Triangulation, place, corner_at}
use Rattle.fault_runs.specs.Spots.{pt_in}

pub pt_at : (tin : Triangulation) (frame : Frame) (number : ℕ) (p : Pt) → whole p ≡ place frame (corner_at tin number)
    → p ≡ pt_in tin frame number
pt_at tin frame number p e = ap (λ (r : Point). at r) e
  where
    at : Point → Pt
    at r = record { x = r.x; y = r.y }
