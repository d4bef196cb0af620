-- The proof of the law `raised_are_one` in src/laws.rt.
use Rattle.tin_height.proofs.RaisedLaws.{raised_are_one}
use Rattle.tin_height.proofs.laws.raised_are_one.Goals as goal

pub returns : goal.returns
returns c = raised_are_one c.rounded_images_agree.ensures
