-- The proof of the law `points_inside_are_near` in src/laws.rt.
use Rattle.tin_base.proofs.TriangleLemmas.Closeness.{near_inside}
use Rattle.tin_base.proofs.laws.points_inside_are_near.Goals as goal

pub returns : goal.returns
returns c = λ tin limits p q h k. near_inside tin p q limits h k
