-- Answers to the goals of `check_end_exists` in src/laws.rt.
use Rattle.check_mode.proofs.CheckEndExists.{check_end_exists}
use Rattle.check_mode.proofs.laws.check_end_exists.Goals as goal

pub returns : goal.returns
returns c = check_end_exists c.tin_end_exists.ensures
