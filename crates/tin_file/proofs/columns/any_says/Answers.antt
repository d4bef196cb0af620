-- Answers to the goals of `any_says` in src/columns.rt.
use Rattle.std.proofs.Common.{sym, ◌∙◌}
use Rattle.jtext.specs.Values.{Json, null}
use Rattle.tin_file.specs.Keys.{says}
use Rattle.tin_file.proofs.DocumentValues.There.{node_within, node_at_place, there_at}
use Rattle.tin_file.proofs.DocumentValues.Loops.{any_on, any_off, any_done}
use Rattle.tin_file.proofs.columns.any_says.Goals as goal

pub tells-requires : goal.tells-requires
tells-requires c = record {
  read = c.requires.read;
  node = node_within c.args.doc.now.nodes c.args.bytes.now _
      (node_at_place c.args.doc.now.nodes c.args.bytes.now c.args.values.now c.loop-value.value-index 0 c.requires.nodes
      c.loop-value-test.true);
  ascii = c.requires.ascii;
}

pub returns-then-tells : goal.returns-then-tells
returns-then-tells c all h =
    let nodes = c.args.doc.now.nodes in let bytes = c.args.bytes.now in let i = c.loop-value.value-index in
    sym (c.loop-value.invariant all h ∙ any_off nodes bytes c.args.values.now all h
    (λ (value : Json). says value c.args.text.now) i c.loop-value-test.true
    (sym (c.tells.ensures _ (there_at nodes bytes c.args.values.now all i 0 null h c.loop-value-test.true))
    ∙ c.if-tells.true))

pub loop-value-preserved : goal.loop-value-preserved
loop-value-preserved c all h =
    let nodes = c.args.doc.now.nodes in let bytes = c.args.bytes.now in let i = c.loop-value.value-index in
    c.loop-value.invariant all h ∙ any_on nodes bytes c.args.values.now all h
    (λ (value : Json). says value c.args.text.now) i c.loop-value-test.true
    (sym (c.tells.ensures _ (there_at nodes bytes c.args.values.now all i 0 null h c.loop-value-test.true))
    ∙ c.if-tells.false)

pub returns : goal.returns
returns c all h =
    sym (c.loop-value.invariant all h ∙ any_done c.args.doc.now.nodes c.args.bytes.now c.args.values.now all h
    (λ (value : Json). says value c.args.text.now)
    c.loop-value.value-index c.loop-value-test.false)
