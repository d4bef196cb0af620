-- Answers to the goals of `certificate_end_exists` in src/laws.rt.
use Rattle.cert_check.proofs.SomeEnd.{end_exists}
use Rattle.cert_check.proofs.laws.certificate_end_exists.Goals as goal

pub returns : goal.returns
returns g c =
    end_exists g.L.Layer.reads g.L.Layer.refuses g.L.Layer.text c.outcome_exists.ensures c.memory_is_no_fault.ensures
    c.sheets_are_of_bytes.ensures.sheets c.text_outcome_exists.ensures
