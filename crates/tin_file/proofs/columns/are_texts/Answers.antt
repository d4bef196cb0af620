-- Answers to the goals of `are_texts` in src/columns.rt.
use Rattle.std.proofs.Common.{sym, ◌∙◌}
use Rattle.tin_file.specs.Keys.{is_text}
use Rattle.tin_file.proofs.DocumentValues.There.{node_within, node_at_place, there_at}
use Rattle.tin_file.proofs.DocumentValues.Loops.{all_on, all_off, all_done}
use Rattle.jtext.specs.Values.{null}
use Rattle.tin_file.proofs.columns.are_texts.Goals as goal

pub holds_text-requires : goal.holds_text-requires
holds_text-requires c =
    node_within c.args.doc.now.nodes c.args.bytes.now _
    (node_at_place c.args.doc.now.nodes c.args.bytes.now c.args.values.now c.loop-value.value-index 0 c.requires
    c.loop-value-test.true)

pub returns-then-not-holds_text : goal.returns-then-not-holds_text
returns-then-not-holds_text c all h =
    let nodes = c.args.doc.now.nodes in let bytes = c.args.bytes.now in let i = c.loop-value.value-index in
    sym (c.loop-value.invariant all h ∙ all_off nodes bytes c.args.values.now all h is_text i c.loop-value-test.true
    (sym (c.holds_text.ensures bytes _ (there_at nodes bytes c.args.values.now all i 0 null h c.loop-value-test.true))
    ∙ c.if-not-holds_text.true))

pub loop-value-preserved : goal.loop-value-preserved
loop-value-preserved c all h =
    let nodes = c.args.doc.now.nodes in let bytes = c.args.bytes.now in let i = c.loop-value.value-index in
    c.loop-value.invariant all h ∙ all_on nodes bytes c.args.values.now all h is_text i c.loop-value-test.true
    (sym (c.holds_text.ensures bytes _ (there_at nodes bytes c.args.values.now all i 0 null h c.loop-value-test.true))
    ∙ c.if-not-holds_text.false)

pub returns : goal.returns
returns c all h =
    sym (c.loop-value.invariant all h ∙ all_done c.args.doc.now.nodes c.args.bytes.now c.args.values.now all h is_text
    c.loop-value.value-index c.loop-value-test.false)
