-- Answers to the goals of `sides_of` in src/sides.rt.
use Rattle.std.proofs.Common.{[], ◌∷◌, subst, arith}
use Rattle.tin_base.specs.Limits.{IsWithinLimits}
use Rattle.tin_base.specs.Triangulation.{Triangulation}
use Rattle.migrate_mode.proofs.RunSheets.{layers_sided}
use Rattle.run_tests.proofs.sides.sides_of.Goals as goal

pub side_changes-requires : goal.side_changes-requires
side_changes-requires c =
    let tin : Triangulation = c.in_ok-index.index in
    let limits : IsWithinLimits tin = subst (λ (t : Triangulation). IsWithinLimits t) c.tin.ensures
    c.show_soundness.ensures.limits in
    let kept = c.in-Ok.kept in
    record { layers = layers_sided tin (kept.sheet ∷ []) (kept.images ∷ []) limits (omega arith) (c.in-Ok.ensures.placed, tt) }
