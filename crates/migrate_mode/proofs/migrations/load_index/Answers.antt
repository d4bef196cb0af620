-- Answers to the goals of `load_index` in src/migrations.rt.
use Rattle.std.proofs.Common.{refl, sym, subst}
use Rattle.tin_base.specs.Triangulation.{Triangulation}
use Rattle.runs.specs.Triangulations.{HasDirectedOver}
use Rattle.runs.specs.declared.refusal.Refusal.TheVariants.{NoMemory}
use Rattle.runs.specs.Loads.{not_loaded, no_memory}
use Rattle.runs.proofs.PassedRefusals.{handed_on}
use Rattle.migrate_mode.proofs.migrations.load_index.Goals as goal

pub returns-in_err-tin-clause-refused : goal.returns-in_err-tin-clause-refused
returns-in_err-tin-clause-refused g c =
    handed_on _ c.in_err-tin.field-0.0 c.from_residual.result c.from_residual.ensures.1 c.in_err-tin.ensures.refused

pub returns-in_err-index-clause-refused : goal.returns-in_err-index-clause-refused
returns-in_err-index-clause-refused g c =
    handed_on _ NoMemory c.from_residual-in_err-index.result c.from_residual-in_err-index.ensures.1
    (not_loaded (no_memory refl))

pub returns-clause-ok : goal.returns-clause-ok
returns-clause-ok g c =
    subst (λ (t : Triangulation). HasDirectedOver (g.S.Shelf.files c.args.shelf.now) c.args.how c.args.name.now
    c.args.inverse t) (sym c.in_ok-index.ensures) c.in_ok-tin.ensures.ok
