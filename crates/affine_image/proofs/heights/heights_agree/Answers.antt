-- Answers to the goals of `heights_agree` in src/heights.rt.
use Rattle.affine_image.proofs.HeightLemmas.{heights_agree}
use Rattle.affine_image.proofs.heights.heights_agree.Goals as goal

pub returns : goal.returns
returns c = heights_agree
