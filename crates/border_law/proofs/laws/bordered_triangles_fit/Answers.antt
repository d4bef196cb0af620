-- The proof of the law `bordered_triangles_fit` in src/laws.rt.
use Rattle.border_law.proofs.Fit.{bordered_triangles_fit}
use Rattle.border_law.proofs.laws.bordered_triangles_fit.Goals as goal

pub returns : goal.returns
returns c = bordered_triangles_fit
