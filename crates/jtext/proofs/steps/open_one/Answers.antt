-- Answers to the goals of `open_one` in src/steps.rt.
use Rattle.std.proofs.Common.{◌≡◌, arith, length, vec_len}
use Rattle.jtext.proofs.CodeReads.Reaches.{open_deep, open_reached}
use Rattle.jtext.proofs.steps.open_one.Goals as goal

pub returns-then-len-ge-DEEPEST : goal.returns-then-len-ge-DEEPEST
returns-then-len-ge-DEEPEST c =
    open_deep c.args.bytes.now c.args.bracket c.args.pass.now.stack c.args.pass.now.nodes.items c.args.at
    c.requires.takes (omega arith)

pub returns : goal.returns
returns c =
    let there = open_reached c.args.bytes.now c.args.bracket c.args.pass.now.stack c.args.pass.now.nodes.items c.args.at
    c.requires.takes (omega arith) in
    let long : length c.args.pass.now.nodes.items ≡ vec_len c.args.pass.now.nodes = omega arith in (
      rw (
        c.first_place.ensures,
        c.in_ok-push.ensures.ok,
        c.in_ok-push-2.ensures.items,
        c.kind.ensures,
        c.len-node.ensures,
        ← long,
      ) there,
      omega arith,
    )
