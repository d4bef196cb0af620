-- The proof of the law `heights_are_one` in src/laws.rt.
use Rattle.height_mode.proofs.OneHeights.{heights_are_one}
use Rattle.height_mode.proofs.laws.heights_are_one.Goals as goal

pub returns : goal.returns
returns c = heights_are_one c.raised_are_one.ensures c.offsets_are_of_corners.ensures
