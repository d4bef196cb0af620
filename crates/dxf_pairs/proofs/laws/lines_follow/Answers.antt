-- The proof of the law `lines_follow` in src/laws.rt.
use Rattle.dxf_pairs.proofs.LineLists.{follow}
use Rattle.dxf_pairs.proofs.laws.lines_follow.Goals as goal

pub returns : goal.returns
returns c = follow
