-- Answers to the goals of `type_in` in src/objects.rt.
use Rattle.std.proofs.Common.{sym, ap, ◌∙◌, arith}
use Rattle.std.specs.Prelude.{Err}
use Rattle.jtext.specs.declared.document.Node.{Node}
use Rattle.sheet_base.specs.declared.faults.LayerFault.TheVariants.{Shape}
use Rattle.gj_layer.specs.Objects.{type_in}
use Rattle.gj_layer.proofs.Members.There.{first_is}
use Rattle.gj_layer.proofs.Members.MemberFinds.{found_within, value_found, none_found}
use Rattle.gj_layer.proofs.objects.type_in.Goals as goal

pub type_of-requires-clause-value : goal.type_of-requires-clause-value
type_of-requires-clause-value c = grind (arith, found_within, c.in-Some.is)

pub returns-in-Some : goal.returns-in-Some
returns-in-Some c start past whole one there are =
    let (member, is, h) = value_found c.args.doc.now.nodes c.args.bytes.now c.args.object past c.args.told
    c.in-Some.value one c.in-Some.is are in
    c.type_of.ensures start member.start whole member.value there h ∙ ap (type_in c.args.holder start) (sym is)

pub returns-in-None : goal.returns-in-None
returns-in-None c start past whole one there are =
    ap Err c.shape_at.ensures ∙ ap (λ (n : Node). Err (Shape n.start))
    (first_is c.args.doc.now.nodes c.args.bytes.now c.args.object start whole c.node_at.result there
    c.node_at.ensures)
    ∙ ap (type_in c.args.holder start) (sym (none_found c.args.doc.now.nodes c.args.bytes.now c.args.object past
    c.args.told one c.in-None.is are))
