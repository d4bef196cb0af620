-- The proof of the law `bordered_is_sound` in src/laws.rt.
use Rattle.border_law.proofs.Fit.{bordered_is_sound}
use Rattle.border_law.proofs.laws.bordered_is_sound.Goals as goal

pub returns : goal.returns
returns c = bordered_is_sound
