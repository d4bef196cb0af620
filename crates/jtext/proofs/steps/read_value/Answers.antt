-- Answers to the goals of `read_value` in src/steps.rt.
use Rattle.jtext.specs.InsideStates.{value_step, anywhere}
use Rattle.jtext.proofs.CodeReads.Reaches.{takes_bad, value_none}
use Rattle.jtext.proofs.steps.read_value.Goals as goal

pub returns-in_default : goal.returns-in_default
returns-in_default c =
    rw c.bad.ensures (takes_bad c.args.bytes.now c.args.pass.now.stack c.args.pass.now.nodes.items c.args.at
    (λ room. value_step room c.args.pass.now.stack c.args.pass.now.nodes.items c.args.at c.args.sign)
    c.requires.takes
    (value_none c.args.sign c.in_default.not-Quote c.in_default.not-Opening c.in_default.not-Minus c.in_default.not-Zero
    c.in_default.not-Digit c.in_default.not-Letter anywhere
    c.args.pass.now.stack c.args.pass.now.nodes.items c.args.at))
