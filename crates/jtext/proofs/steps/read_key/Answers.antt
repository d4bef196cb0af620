-- Answers to the goals of `read_key` in src/steps.rt.
use Rattle.std.proofs.Common.{arith}
use Rattle.jtext.specs.InsideStates.{Role}
use Rattle.jtext.specs.declared.document.Kind.TheVariants.{Text}
use Rattle.jtext.proofs.CodeReads.Reaches.{quoted_key_reached, text_bad}
use Rattle.jtext.proofs.steps.read_key.Goals as goal

pub returns-in_ok-add_node-in-Ok : goal.returns-in_ok-add_node-in-Ok
returns-in_ok-add_node-in-Ok c =
    let there = quoted_key_reached c.args.bytes.now Text c.args.pass.now.stack c.args.pass.now.nodes.items c.args.at
    c.in-Ok.end c.requires.takes c.in-Ok.ensures in
    (rw c.in_ok-add_node-in-Ok.ensures.ok there, omega (arith, c.in-Ok.ensures.0))

pub returns-in-Err : goal.returns-in-Err
returns-in-Err c =
    rw c.bad.ensures (text_bad c.args.bytes.now Role.key Text c.args.pass.now.stack c.args.pass.now.nodes.items
    c.args.at c.in-Err.wrong c.requires.takes c.in-Err.ensures)
