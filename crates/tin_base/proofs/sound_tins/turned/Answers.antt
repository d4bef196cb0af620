-- Answers to the goals of `turned` in src/sound_tins.rt.
use Rattle.std.proofs.Common.{sym, subst}
use Rattle.tin_base.specs.Triangulation.{Triangulation}
use Rattle.tin_base.specs.Soundness.{IsSound}
use Rattle.tin_base.proofs.FrameImages.Converse.{turned_sound}
use Rattle.tin_base.proofs.sound_tins.turned.Goals as goal

pub invariant_of-result : goal.invariant_of-result
invariant_of-result c = subst (λ (tin : Triangulation). IsSound tin) (sym c.turned.ensures)
    (turned_sound c.tin.inside.tin c.tin.invariant)
