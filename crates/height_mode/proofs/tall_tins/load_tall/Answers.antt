-- Answers to the goals of `load_tall` in src/tall_tins.rt.
use Rattle.std.proofs.Common.{sym, subst, ◌≤◌}
use Rattle.runs.specs.declared.loads.TheConstants.{MOST_BYTES}
use Rattle.runs.proofs.PassedRefusals.{refused_more}
use Rattle.runs.proofs.TinRefusals.{has_file}
use Rattle.height_mode.specs.Talls.{no_tall}
use Rattle.height_mode.proofs.tall_tins.load_tall.Goals as goal

pub returns-clause-refused : goal.returns-clause-refused
returns-clause-refused g c =
    refused_more _ _ c.tall_index.result
    (λ refusal why.
    no_tall c.deref.result.now
    (rw (sym c.deref.ensures.value)
    at (has_file (g.S.Shelf.files c.args.shelf.now) c.args.name.now c.in_ok-text.text.items c.in_ok-text.ensures.ok
    (subst (λ n. n ≤ MOST_BYTES) c.in_ok-text.text.ok.0 c.in_ok-text.ensures.within)))
    why)
    c.tall_index.ensures.refused
