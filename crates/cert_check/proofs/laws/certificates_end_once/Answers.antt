-- Answers to the goals of `certificates_end_once` in src/laws.rt.
use Rattle.cert_check.proofs.OneEnd.{ends_once}
use Rattle.cert_check.proofs.laws.certificates_end_once.Goals as goal

pub returns : goal.returns
returns g c = ends_once g.L.Layer.reads g.L.Layer.refuses g.L.Layer.text c.outcome_is_one.ensures
