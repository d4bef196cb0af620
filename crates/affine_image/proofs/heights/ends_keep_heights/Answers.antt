-- Answers to the goals of `ends_keep_heights` in src/heights.rt.
use Rattle.affine_image.proofs.HeightLemmas.{ends_keep_heights}
use Rattle.affine_image.proofs.heights.ends_keep_heights.Goals as goal

pub returns : goal.returns
returns c = ends_keep_heights
