-- Answers to the goals of `says` in src/nodes.rt.
use Rattle.std.proofs.Common.{ℕ, Option, sym, ap, ◌∙◌, subst}
use Rattle.layer_features.specs.JsonFeatures.{says}
use Rattle.layer_features.specs.InsideNodes.{IsFoundAs}
use Rattle.layer_features.proofs.Found.{some_found, none_found, says_is}
use Rattle.layer_features.proofs.nodes.says.Goals as goal

pub returns-in-Some : goal.returns-in-Some
returns-in-Some c found are =
    let nodes = c.args.doc.now.nodes in let bytes = c.args.bytes.now in
    let (one, is, number, there) = some_found nodes bytes c.in-Some.value found
    (subst (λ (v : Option ℕ). IsFoundAs nodes bytes v found) c.in-Some.is are) in
    says_is c.args.text.now one.value c.same_text.result (c.same_text.ensures one.start one.value there)
    ∙ ap (says c.args.text.now) (sym is)

pub returns-in-None : goal.returns-in-None
returns-in-None c found are =
    let nodes = c.args.doc.now.nodes in let bytes = c.args.bytes.now in
    ap (says c.args.text.now) (sym (none_found nodes bytes found
    (subst (λ (v : Option ℕ). IsFoundAs nodes bytes v found) c.in-None.is are)))
