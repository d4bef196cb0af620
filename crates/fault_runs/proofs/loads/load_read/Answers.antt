-- Answers to the goals of `load_read` in src/loads.rt.
use Rattle.std.proofs.Common.{sym, subst, ◌≤◌}
use Rattle.runs.specs.declared.loads.TheConstants.{MOST_BYTES}
use Rattle.runs.specs.Loads.{no_tin}
use Rattle.runs.proofs.PassedRefusals.{refused_more}
use Rattle.runs.proofs.TinRefusals.{has_file}
use Rattle.fault_runs.proofs.loads.load_read.Goals as goal

pub returns-clause-refused : goal.returns-clause-refused
returns-clause-refused g c =
    refused_more _ _ c.read_text.result
    (λ refusal why.
    no_tin c.deref.result.now
    (rw (sym c.deref.ensures.value)
    at (has_file (g.S.Shelf.files c.args.shelf.now) c.args.name.now c.in_ok-text.text.items c.in_ok-text.ensures.ok
    (subst (λ n. n ≤ MOST_BYTES) c.in_ok-text.text.ok.0 c.in_ok-text.ensures.within)))
    why)
    c.read_text.ensures.refused
