-- The proof of the law `one_triangle_is_sound` in src/laws.rt.
use Rattle.tin_base.proofs.TriangleLemmas.Empty.{one_sound}
use Rattle.tin_base.proofs.laws.one_triangle_is_sound.Goals as goal

pub returns : goal.returns
returns c = one_sound
