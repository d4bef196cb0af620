-- Answers to the goals of `features_of` in src/documents.rt.
use Rattle.std.proofs.Common.{◌≡◌, ℕ, List, [], ◌∷◌, ◌++◌, codes, IfOk, sym, ap, ◌∙◌, subst}
use Rattle.jtext.specs.Places.{whole_start}
use Rattle.jtext.proofs.CallerLemmas.NodePlaces.{reading_stands}
use Rattle.layer_features.specs.declared.features.Feature.{Feature}
use Rattle.layer_features.specs.JsonFeatures.{asked_for, member_of, array_features}
use Rattle.layer_features.proofs.Found.{root_there, some_found, none_found}
use Rattle.layer_features.proofs.Elements.{collection_some, collection_none, single_feature, no_feature}
use Rattle.layer_features.proofs.documents.features_of.Goals.{then-says-2+in_ok-push, else-says-2}
use Rattle.layer_features.proofs.documents.features_of.Goals as goal

pub member_of-type_at-requires-clause-node : goal.member_of-type_at-requires-clause-node
member_of-type_at-requires-clause-node c = root_there c.args.doc.now c.args.bytes.now c.requires.read

pub member_of-requires-clause-node : goal.member_of-requires-clause-node
member_of-requires-clause-node c = root_there c.args.doc.now c.args.bytes.now c.requires.read

pub feature_of-requires-clause-node : goal.feature_of-requires-clause-node
feature_of-requires-clause-node c = root_there c.args.doc.now c.args.bytes.now c.requires.read

pub returns-in-Some : goal.returns-in-Some
returns-in-Some c whole r =
    let nodes = c.args.doc.now.nodes in let bytes = c.args.bytes.now in
    let start = whole_start whole in
    let h = reading_stands whole c.args.doc.now bytes r in
    let type_is = c.member_of-type_at.ensures.found start whole.value h in
    let says_is = c.says.ensures (member_of (codes "type") 0 start whole.value) type_is in
    let (one, found, number, there) = some_found nodes bytes c.in-Some.array
    (member_of (codes "features") 0 start whole.value) (c.in-Some.ensures.found start whole.value h) in
    subst (λ (fs : List Feature). IfOk c.array_features.result (λ features. features.items ≡ fs))
    (sym (collection_some (asked_for c.args.name) start whole.value one (sym says_is ∙ c.if-says.true) found))
    (subst (λ (n : ℕ). IfOk c.array_features.result (λ features. features.items
    ≡ array_features (asked_for c.args.name) n one.start one.value)) number
    (c.array_features.ensures one.start one.value there))

pub returns-in-None : goal.returns-in-None
returns-in-None c whole r =
    let nodes = c.args.doc.now.nodes in let bytes = c.args.bytes.now in
    let start = whole_start whole in
    let h = reading_stands whole c.args.doc.now bytes r in
    let type_is = c.member_of-type_at.ensures.found start whole.value h in
    let says_is = c.says.ensures (member_of (codes "type") 0 start whole.value) type_is in
    let found = none_found nodes bytes (member_of (codes "features") 0 start whole.value)
    (c.in-None.ensures.found start whole.value h) in
    c.new.ensures.items ∙ sym (collection_none (asked_for c.args.name) start whole.value (sym says_is ∙ c.if-says.true) found)

pub returns : goal.returns
returns c whole r =
    let bytes = c.args.bytes.now in
    let start = whole_start whole in
    let h = reading_stands whole c.args.doc.now bytes r in
    let type_is = c.member_of-type_at.ensures.found start whole.value h in
    let other = sym (c.says.ensures (member_of (codes "type") 0 start whole.value) type_is) ∙ c.if-says.false in
    let says_is = c.says-2.ensures (member_of (codes "type") 0 start whole.value) type_is in
    elim c.if-says-2.branch [
      | then-says-2+in_ok-push w ↦ rw w.features-is
          (w.in_ok-push.ensures.items
          ∙ ap (λ (fs : List Feature). fs ++ w.feature_of.result ∷ []) c.new-features.ensures.items
          ∙ ap (λ (f : Feature). f ∷ []) (w.feature_of.ensures start whole.value h)
          ∙ sym (single_feature (asked_for c.args.name) start whole.value other (sym says_is ∙ w.if-says-2.true)))
      | else-says-2 w ↦ rw w.features-is
          (c.new-features.ensures.items ∙ sym (no_feature (asked_for c.args.name) start whole.value other (sym says_is ∙ w.if-says-2.false)))
    ]
