-- Answers to the goals of `read_word` in src/steps.rt.
use Rattle.std.proofs.Common.{◌+◌, arith}
use Rattle.std.specs.Prelude.{Ok, Err}
use Rattle.jtext.specs.InsideSigns.{word_kind, word_rest}
use Rattle.jtext.specs.InsideTokens.{WordEnds}
use Rattle.jtext.specs.InsideStates.{Role}
use Rattle.jtext.proofs.CodeReads.Reaches.{word_reached, word_bad}
use Rattle.jtext.proofs.steps.read_word.Goals as goal

pub returns-in_ok-add_node-in-Ok : goal.returns-in_ok-add_node-in-Ok
returns-in_ok-add_node-in-Ok c =
    let ends : WordEnds (word_rest c.args.word) c.args.bytes.now (c.args.at + 1) (Ok c.in-Ok.end) =
    rw c.rest.ensures at c.in-Ok.ensures in
    let there = word_reached c.args.bytes.now (word_kind c.args.word) (word_rest c.args.word) c.args.pass.now.stack
    c.args.pass.now.nodes.items c.args.at c.in-Ok.end c.requires.takes ends in
    (rw (c.in_ok-add_node-in-Ok.ensures.ok, c.kind.ensures) there, omega (arith, ends.0))

pub returns-in-Err : goal.returns-in-Err
returns-in-Err c =
    let ends : WordEnds (word_rest c.args.word) c.args.bytes.now (c.args.at + 1) (Err c.in-Err.wrong) =
    rw c.rest.ensures at c.in-Err.ensures in
    rw c.bad.ensures (word_bad c.args.bytes.now Role.value (word_kind c.args.word) c.args.pass.now.stack
    c.args.pass.now.nodes.items c.args.at (word_rest c.args.word) c.in-Err.wrong c.requires.takes ends)
