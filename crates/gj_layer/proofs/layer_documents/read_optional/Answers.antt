-- Answers to the goals of `read_optional` in src/layer_documents.rt.
use Rattle.std.proofs.Common.{length, ◌∙◌, arith}
use Rattle.jtext.specs.declared.document.Kind.TheVariants as kinds
use Rattle.gj_layer.specs.declared.forms.ValueForm.TheVariants as forms
use Rattle.gj_layer.specs.Paths.{nothing}
use Rattle.gj_layer.proofs.Members.There.{kind_there, kind_not_there}
use Rattle.sheet_base.proofs.HandedOn.{passed_on}
use Rattle.gj_layer.proofs.Coordinates.PathsSoFar.{held_nothing}
use Rattle.gj_layer.proofs.OpenObjects.OpenValues.{optional_read, null_read, takes_fault}
use Rattle.gj_layer.proofs.layer_documents.read_optional.Goals as goal

pub returns-then-is_kind-clause-takes : goal.returns-then-is_kind-clause-takes
returns-then-is_kind-clause-takes c exact start is part h held = (
  nothing,
  null_read exact (length part.paths) start is
      (kind_there c.args.doc.now.nodes c.args.bytes.now c.args.value start is c.node_at.result kinds.Null h
      c.node_at.ensures (c.is_kind.ensures.0 c.if-is_kind.true)),
  held_nothing c.args.pass.now part held,
)

pub returns-in_err-frame-clause-takes : goal.returns-in_err-frame-clause-takes
returns-in_err-frame-clause-takes c exact start is part h held =
    grind (arith, takes_fault, passed_on, optional_read, kind_not_there)

pub returns-clause-takes : goal.returns-clause-takes
returns-clause-takes c exact start is part h held =
    let nodes = c.args.doc.now.nodes in let bytes = c.args.bytes.now in
    let (level, frame, none, whole) = c.in_ok-frame.ensures.opens exact start is part h held in (
      (
        level,
        frame,
        none,
        optional_read exact (length part.paths) start is
            (kind_not_there nodes bytes c.args.value start is c.node_at.result kinds.Null h c.node_at.ensures
            (λ k. let no = c.if-is_kind.false in let yes = c.is_kind.ensures.1 k in cc))
            ∙ whole,
      ),
      held,
    )
