-- Answers to the goals of `drawing_features` in src/drawings.rt.
use Rattle.std.proofs.Common.{List, sym, ◌∙◌, subst}
use Rattle.layer_features.specs.declared.features.Feature.{Feature}
use Rattle.layer_features.specs.Features.{AreInOrder}
use Rattle.layer_features.proofs.DrawingLines.{drawing_order}
use Rattle.layer_features.proofs.drawings.drawing_features.Goals as goal

pub returns-clause-order : goal.returns-clause-order
returns-clause-order c =
    subst (λ (fs : List Feature). AreInOrder 0 fs) (sym (c.of.ensures ∙ c.in_ok-pair_features.ensures))
    (drawing_order c.args.bytes.now c.deref.result.now c.requires (rw c.deref.ensures.value c.in_ok-pairs.ensures.tile))
