-- Answers to the goals of `refuse` in src/output.rt.
use Rattle.std.proofs.Common.{◌≡◌, codes, rules}
use Rattle.fault_runs.proofs.output.refuse.Goals as goal

pub returns-in-TooManyFaults-clause-written : goal.returns-in-TooManyFaults-clause-written
returns-in-TooManyFaults-clause-written g c =
    let said : c.as_slice.result.now ≡ codes "limit: faults\n" = search rules in
    rw c.in-TooManyFaults.is (rw said at c.say.ensures.written)
