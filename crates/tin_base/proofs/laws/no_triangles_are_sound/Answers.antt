-- The proof of the law `no_triangles_are_sound` in src/laws.rt.
use Rattle.tin_base.proofs.TriangleLemmas.Empty.{empty_sound}
use Rattle.tin_base.proofs.laws.no_triangles_are_sound.Goals as goal

pub returns : goal.returns
returns c = empty_sound
