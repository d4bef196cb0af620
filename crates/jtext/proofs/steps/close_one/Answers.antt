-- Answers to the goals of `close_one` in src/steps.rt.
use Rattle.std.proofs.Common.{◌≡◌, ◌∙◌, sym, arith, length, vec_len}
use Rattle.jtext.proofs.CodeReads.Reaches.{close_none, close_other, close_reached}
use Rattle.jtext.proofs.steps.close_one.Goals as goal

pub returns-in_default : goal.returns-in_default
returns-in_default c = rw c.bad.ensures (close_none c.args.bytes.now c.args.bracket c.args.pass.now.stack
    c.args.pass.now.nodes.items c.args.at c.in_default.ensures.0 c.requires.takes)

pub returns-then-not-is_same : goal.returns-then-not-is_same
returns-then-not-is_same c =
    rw c.bad-then-not-is_same.ensures (close_other c.args.bytes.now c.args.bracket c.args.pass.now.stack
    c.args.pass.now.nodes.items c.args.at c.in-Some.one c.pop.new.self c.in-Some.ensures
    (sym c.is_same.ensures ∙ c.if-not-is_same.true) c.requires.takes)

pub returns : goal.returns
returns c =
    let there = close_reached c.args.bytes.now c.args.bracket c.args.pass.now.stack c.args.pass.now.nodes.items
    c.args.at c.in-Some.one c.pop.new.self c.in-Some.ensures
    (sym c.is_same.ensures ∙ c.if-not-is_same.false) c.requires.takes in
    let long : length c.args.pass.now.nodes.items ≡ vec_len c.args.pass.now.nodes = omega arith in
    (rw (c.kind.ensures, c.len-next.ensures, ← long) there, omega arith)
