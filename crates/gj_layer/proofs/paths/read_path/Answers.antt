-- Answers to the goals of `read_path` in src/paths.rt.
use Rattle.std.proofs.Common.{◌≡◌, ◌<◌, ◌≤◌, length, sym, ap, ◌∙◌, subst, arith}
use Rattle.std.specs.Prelude.{Err}
use Rattle.jtext.specs.Nodes.{node_count}
use Rattle.jtext.specs.declared.document.Kind.TheVariants as kinds
use Rattle.jtext.specs.declared.document.Node.{Node}
use Rattle.sheet_base.specs.declared.faults.LayerFault.TheVariants.{Shape}
use Rattle.gj_layer.specs.declared.forms.Trace.TheVariants as traces
use Rattle.sheet_base.specs.Faults.{and_then}
use Rattle.gj_layer.specs.Paths.{nothing, paths_of_trace, part_of}
use Rattle.gj_layer.specs.InsideNodes.{Joins}
use Rattle.gj_layer.proofs.Members.There.{seen, first_is, kind_there, kind_not_there}
use Rattle.gj_layer.proofs.Coordinates.PathsSoFar.{held_nothing}
use Rattle.gj_layer.proofs.Coordinates.ReadPaths.{not_traced, point_some, point_none}
use Rattle.gj_layer.proofs.paths.read_path.Goals as goal

pub returns-then-not-is_kind-clause-path : goal.returns-then-not-is_kind-clause-path
returns-then-not-is_kind-clause-path c start is part h held memory =
    let nodes = c.args.doc.now.nodes in let bytes = c.args.bytes.now in let node = c.node_at-node.result in let got =
    c.node_at-node.ensures in
    not_traced c.args.exact (length part.paths) c.args.trace start is
    (kind_not_there nodes bytes c.args.value start is node kinds.Array h got
    (λ k. let no = c.if-not-is_kind.true in let yes = c.is_kind.ensures.1 k in cc))
    ∙ ap (λ (n : Node). Err (Shape n.start)) (sym (first_is nodes bytes c.args.value start is node h got))
    ∙ ap Err (sym c.shape_at.ensures)

pub overflow_add-value : goal.overflow_add-value
overflow_add-value c = grind (arith, seen, c.node_at-node.ensures)

pub returns-then-node-value-clause-path : goal.returns-then-node-value-clause-path
returns-then-node-value-clause-path c start is part h held =
    let next = ap (λ (n : Node). n.next) (first_is c.args.doc.now.nodes c.args.bytes.now c.args.value start is
    c.node_at-node.result h c.node_at-node.ensures) in
    let some : 1 < node_count is = omega (arith, next, c.if-node-value.true) in
    let same : paths_of_trace c.args.exact c.args.trace start is ≡ paths_of_trace c.args.exact traces.Position start is =
    ap (λ t. paths_of_trace c.args.exact t start is) c.in-Point.is ∙ point_some c.args.exact start is some in
    subst (λ r. Joins part c.read_dot.new.pass c.read_dot.result (and_then (part_of (length part.paths)) r)) (sym same)
    (c.read_dot.ensures.path start is part h held)

pub returns-else-node-value-clause-path : goal.returns-else-node-value-clause-path
returns-else-node-value-clause-path c start is part h held =
    let nodes = c.args.doc.now.nodes in let bytes = c.args.bytes.now in let node = c.node_at-node.result in let got =
    c.node_at-node.ensures in
    let next = ap (λ (n : Node). n.next) (first_is nodes bytes c.args.value start is node h got) in
    let none : node_count is ≤ 1 = omega (arith, next, c.if-node-value.false) in
    let kind = kind_there nodes bytes c.args.value start is node kinds.Array h got
    (c.is_kind.ensures.0 c.if-not-is_kind.false) in (
      nothing,
      ap (λ t. and_then (part_of (length part.paths)) (paths_of_trace c.args.exact t start is)) c.in-Point.is
          ∙ ap (and_then (part_of (length part.paths))) (point_none c.args.exact start is kind none),
      held_nothing c.args.pass.now part held,
    )
