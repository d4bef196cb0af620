-- Answers to the goals of `are_components` in src/headings.rt.
use Rattle.std.proofs.Common.{sym, ◌∙◌}
use Rattle.tin_file.specs.Headings.{is_component}
use Rattle.tin_file.proofs.DocumentValues.There.{node_within, node_at_place, there_at}
use Rattle.tin_file.proofs.DocumentValues.Loops.{all_on, all_off, all_done}
use Rattle.jtext.specs.Values.{null}
use Rattle.tin_file.proofs.headings.are_components.Goals as goal

pub tells_component-requires-clause-node : goal.tells_component-requires-clause-node
tells_component-requires-clause-node c =
    node_within c.args.doc.now.nodes c.args.bytes.now _
    (node_at_place c.args.doc.now.nodes c.args.bytes.now c.args.values.now c.loop-value.value-index 0 c.requires.nodes
    c.loop-value-test.true)

pub returns-then-not-tells_component : goal.returns-then-not-tells_component
returns-then-not-tells_component c all h =
    let nodes = c.args.doc.now.nodes in let bytes = c.args.bytes.now in let i = c.loop-value.value-index in
    sym (c.loop-value.invariant all h ∙ all_off nodes bytes c.args.values.now all h is_component i
    c.loop-value-test.true
    (sym (c.tells_component.ensures _ (there_at nodes bytes c.args.values.now all i 0 null h c.loop-value-test.true))
    ∙ c.if-not-tells_component.true))

pub loop-value-preserved : goal.loop-value-preserved
loop-value-preserved c all h =
    let nodes = c.args.doc.now.nodes in let bytes = c.args.bytes.now in let i = c.loop-value.value-index in
    c.loop-value.invariant all h ∙ all_on nodes bytes c.args.values.now all h is_component i c.loop-value-test.true
    (sym (c.tells_component.ensures _ (there_at nodes bytes c.args.values.now all i 0 null h c.loop-value-test.true))
    ∙ c.if-not-tells_component.false)

pub returns : goal.returns
returns c all h =
    sym (c.loop-value.invariant all h ∙ all_done c.args.doc.now.nodes c.args.bytes.now c.args.values.now all h
    is_component c.loop-value.value-index c.loop-value-test.false)
