-- The proof of the law `triangles_are_convex` in src/laws.rt.
use Rattle.plane_base.proofs.MixLaws.Mixes.{triangles_are_convex}
use Rattle.plane_base.proofs.laws.triangles_are_convex.Goals as goal

pub returns : goal.returns
returns c = triangles_are_convex
