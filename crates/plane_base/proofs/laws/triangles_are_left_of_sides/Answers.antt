-- The proof of the law `triangles_are_left_of_sides` in src/laws.rt.
use Rattle.plane_base.proofs.MixLaws.Proportions.{triangles_are_left_of_sides}
use Rattle.plane_base.proofs.laws.triangles_are_left_of_sides.Goals as goal

pub returns : goal.returns
returns c = triangles_are_left_of_sides
