-- The proof of the law `offsets_are_of_corners` in src/laws.rt.
use Rattle.tin_file.proofs.VerticalComponent.TallOffsets.{offsets_are_of_corners}
use Rattle.tin_file.proofs.laws.offsets_are_of_corners.Goals as goal

pub returns : goal.returns
returns c = offsets_are_of_corners
