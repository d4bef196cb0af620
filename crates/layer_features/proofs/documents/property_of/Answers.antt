-- Answers to the goals of `property_of` in src/documents.rt.
use Rattle.std.proofs.Common.{codes, sym, ◌∙◌, subst, ℕ}
use Rattle.layer_features.specs.JsonFeatures.{member_of}
use Rattle.layer_features.specs.InsideNodes.{IsFoundAs}
use Rattle.layer_features.proofs.Found.{some_found, none_found}
use Rattle.layer_features.proofs.Elements.{property_some, property_none, all_ascii}
use Rattle.layer_features.proofs.documents.property_of.Goals as goal

pub member_of-requires-in-Some-clause-ascii : goal.member_of-requires-in-Some-clause-ascii
member_of-requires-in-Some-clause-ascii c =
    all_ascii c.args.name.now (sym c.is_ascii.ensures ∙ c.if-not-is_ascii.false)

pub returns-in-Some : goal.returns-in-Some
returns-in-Some c start is h =
    let nodes = c.args.doc.now.nodes in let bytes = c.args.bytes.now in let name = c.args.name.now in
    let (one, found, number, there) = some_found nodes bytes c.in-Some.properties
    (member_of (codes "properties") c.args.value start is) (c.in-Some.ensures.found start is h) in
    c.part_at.ensures bytes (member_of name one.number one.start one.value)
    (subst (λ (n : ℕ). IsFoundAs nodes bytes c.member_of-in-Some.result (member_of name n one.start one.value)) number
    (c.member_of-in-Some.ensures.found one.start one.value there))
    ∙ sym (property_some name c.args.value start is one (sym c.is_ascii.ensures ∙ c.if-not-is_ascii.false) found)

pub returns-in-None : goal.returns-in-None
returns-in-None c start is h =
    sym (property_none c.args.name.now c.args.value start is
    (none_found c.args.doc.now.nodes c.args.bytes.now (member_of (codes "properties") c.args.value start is)
    (c.in-None.ensures.found start is h)))
