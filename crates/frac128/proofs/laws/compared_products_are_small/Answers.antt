-- The proof of the law `compared_products_are_small` in src/laws.rt.
use Rattle.frac128.proofs.Fracs.{compared_products_are_small}
use Rattle.frac128.proofs.laws.compared_products_are_small.Goals as goal

pub returns : goal.returns
returns c = compared_products_are_small
