-- Answers to the goals of `read_number` in src/steps.rt.
use Rattle.std.proofs.Common.{◌∙◌, sym, arith}
use Rattle.jtext.specs.declared.document.Kind.TheVariants.{Number}
use Rattle.jtext.proofs.CodeReads.Reaches.{number_reached, number_bad}
use Rattle.jtext.proofs.steps.read_number.Goals as goal

pub returns-then-not-is_last : goal.returns-then-not-is_last
returns-then-not-is_last c =
    rw c.bad.ensures (number_bad c.args.bytes.now Number c.args.first c.number_end-end.result.1 c.args.pass.now.stack
    c.args.pass.now.nodes.items c.args.at c.number_end-end.result.0 c.requires.takes
    c.number_end-end.ensures.within.0 c.number_end-end.ensures.within.1 c.number_end-end.ensures.passes
    (sym c.is_last.ensures ∙ c.if-not-is_last.true) c.number_end-end.ensures.stops)

pub returns : goal.returns
returns c =
    let there = number_reached c.args.bytes.now Number c.args.first c.number_end-end.result.1 c.args.pass.now.stack
    c.args.pass.now.nodes.items c.args.at c.number_end-end.result.0 c.requires.takes
    c.number_end-end.ensures.within.0 c.number_end-end.ensures.within.1 c.number_end-end.ensures.passes
    (sym c.is_last.ensures ∙ c.if-not-is_last.false) c.number_end-end.ensures.stops in
    (rw c.in_ok-add_node.ensures.ok there, omega (arith, c.number_end-end.ensures.within.0))
