-- Answers to the goals of `separate` in src/steps.rt.
use Rattle.std.proofs.Common.{arith}
use Rattle.jtext.proofs.CodeReads.Reaches.{separate_reached, separate_none}
use Rattle.jtext.proofs.steps.separate.Goals as goal

pub returns-in-Some : goal.returns-in-Some
returns-in-Some c =
    let top = c.in-Some.ensures in (
      rw c.next_wanted.ensures (separate_reached c.args.bytes.now c.args.pass.now.stack c.args.pass.now.nodes.items
          c.args.at c.in-Some.one top.0 top.1 c.requires.takes),
      omega arith,
    )

pub returns-in-None : goal.returns-in-None
returns-in-None c = rw c.bad.ensures (separate_none c.args.bytes.now c.args.pass.now.stack c.args.pass.now.nodes.items
    c.args.at c.in-None.ensures c.requires.takes)
