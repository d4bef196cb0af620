-- Answers to the goals of `json_features` in src/documents.rt.
use Rattle.std.proofs.Common.{List, sym, ◌∙◌, subst}
use Rattle.jtext.specs.Places.{whole_start}
use Rattle.layer_features.specs.declared.features.Feature.{Feature}
use Rattle.layer_features.specs.Features.{AreInOrder}
use Rattle.layer_features.specs.JsonFeatures.{asked_for}
use Rattle.layer_features.proofs.Elements.{value_order}
use Rattle.layer_features.proofs.documents.json_features.Goals as goal

pub returns-clause-order : goal.returns-clause-order
returns-clause-order c =
    let (whole, r) = c.in_ok-doc.ensures.ok in
    subst (λ (fs : List Feature). AreInOrder 0 fs) (sym (c.of.ensures ∙ c.in_ok-features_of.ensures whole r))
    (value_order (asked_for c.args.name) (whole_start whole) whole.value)
