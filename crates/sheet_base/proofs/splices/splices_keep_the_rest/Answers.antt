-- The proof of the law `splices_keep_the_rest` in src/splices.rt.
use Rattle.sheet_base.proofs.SpliceLaws.{splices_keep}
use Rattle.sheet_base.proofs.splices.splices_keep_the_rest.Goals as goal

pub returns : goal.returns
returns c = splices_keep
