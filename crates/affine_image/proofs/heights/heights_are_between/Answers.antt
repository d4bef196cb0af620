-- Answers to the goals of `heights_are_between` in src/heights.rt.
use Rattle.affine_image.proofs.HeightLemmas.{heights_are_between}
use Rattle.affine_image.proofs.heights.heights_are_between.Goals as goal

pub returns : goal.returns
returns c = heights_are_between
