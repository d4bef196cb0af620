-- Answers to the goals of `Tin::turned` in src/tins.rt.
use Rattle.std.proofs.Common.{List, ap, subst, sym, length, ◌∙◌, ◌≡◌}
use Rattle.std.proofs.lemmas.List.{with_items_is}
use Rattle.tin_base.specs.declared.corners.Corner.{Corner}
use Rattle.tin_base.specs.Triangulation.{triangulation}
use Rattle.tin_base.specs.Limits.{IsWithinLimits}
use Rattle.tin_base.specs.TinFields.{view_of}
use Rattle.tin_base.proofs.FrameImages.FrameExchange.{within_by}
use Rattle.tin_base.proofs.tins.Tin.turned.Goals as goal

pub invariant_of-result : goal.invariant_of-result
invariant_of-result c =
    let tin = c.self.inside in
    let whole : length c.exchange_all.new.corners ≡ tin.corners.len = c.exchange_all.auto.corners
    ∙ ap (λ (cs : List Corner). length cs) c.deref_mut.ensures.value ∙ sym tin.corners.ok.0 in
    subst (λ (cs : List Corner). IsWithinLimits (triangulation cs tin.triangles.items tin.inexact))
    (sym (with_items_is tin.corners c.exchange_all.new.corners whole))
    (within_by (view_of tin) c.exchange_all.new.corners c.deref_mut.result.now c.deref_mut.ensures.value
    c.exchange_all.ensures c.self.invariant)
