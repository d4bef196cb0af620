-- The proof of the law `pairs_are_in_lines` in src/laws.rt.
use Rattle.dxf_pairs.proofs.InLines.{in_lines, groups_follow}
use Rattle.dxf_pairs.proofs.laws.pairs_are_in_lines.Goals as goal

pub returns-clause-stand : goal.returns-clause-stand
returns-clause-stand c = in_lines

pub returns-clause-follow : goal.returns-clause-follow
returns-clause-follow c = groups_follow
