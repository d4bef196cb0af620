-- The proof of the law `raised_exist` in src/laws.rt.
use Rattle.tin_height.proofs.RaisedLaws.{raised_exist}
use Rattle.tin_height.proofs.laws.raised_exist.Goals as goal

pub returns : goal.returns
returns c = raised_exist
