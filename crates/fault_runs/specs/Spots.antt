-- The faults of a triangulation as they are printed.
use Rattle.std.specs.Prelude.{ℕ, ◌&&◌, nat_le, if◌then◌else◌, List, map, slice_index_or, None, Some}
use Rattle.plane_base.specs.declared.shapes.Pt.{Pt}
use Rattle.tin_base.specs.declared.frames.Frame.{Frame}
use Rattle.tin_base.specs.Triangulation.{Triangulation, x_in, y_in, corner_at, numbers_of}
use Rattle.tin_faults.specs.declared.faults.Fault.{Fault}
use Rattle.tin_faults.specs.declared.faults.Fault.TheVariants.{Flat, TurnsOver, Overlap}
use Rattle.fault_runs.specs.declared.spots.FaultKind.TheVariants as kinds
use Rattle.fault_runs.specs.declared.spots.TriangleSpot.{TriangleSpot}
use Rattle.fault_runs.specs.declared.spots.FaultSpot.{FaultSpot}

-- where a corner is in a frame
abbrev pub pt_in : Triangulation → Frame → ℕ → Pt
pt_in tin frame number = record { x = x_in frame (corner_at tin number); y = y_in frame (corner_at tin number) }

-- the number of a triangle's corner
abbrev pub number_at : Triangulation → ℕ → ℕ → ℕ
number_at tin triangle k = slice_index_or (numbers_of tin triangle) k 0

-- a triangle with its corners in a frame
abbrev pub triangle_spot : Triangulation → Frame → ℕ → TriangleSpot
triangle_spot tin frame triangle = record {
  triangle = triangle;
  a = number_at tin triangle 0;
  b = number_at tin triangle 1;
  c = number_at tin triangle 2;
  at_a = pt_in tin frame (number_at tin triangle 0);
  at_b = pt_in tin frame (number_at tin triangle 1);
  at_c = pt_in tin frame (number_at tin triangle 2);
}

-- a fault with its triangles, each in the frame of the fault
abbrev pub spot_of : Triangulation → Fault → FaultSpot
spot_of tin (Flat frame triangle) = record {
  kind = kinds.Flat;
  frame = frame;
  first = triangle_spot tin frame triangle;
  second = None;
}
spot_of tin (TurnsOver frame triangle) = record {
  kind = kinds.TurnsOver;
  frame = frame;
  first = triangle_spot tin frame triangle;
  second = None;
}
spot_of tin (Overlap frame first second) = record {
  kind = kinds.Overlap;
  frame = frame;
  first = triangle_spot tin frame first;
  second = Some (triangle_spot tin frame second);
}

abbrev pub spots_of : Triangulation → List Fault → List FaultSpot
spots_of tin faults = map (spot_of tin) faults

-- where the corner with the least number is
abbrev pub least_place : TriangleSpot → Pt
least_place spot =
    if nat_le spot.a spot.b && nat_le spot.a spot.c then spot.at_a else if nat_le spot.b spot.c then spot.at_b
    else spot.at_c
