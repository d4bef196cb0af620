-- Answers to the goals of `tells` in src/elements.rt.
use Rattle.tin_file.proofs.DocumentValues.MemberFinds.{says_is}
use Rattle.tin_file.proofs.elements.tells.Goals as goal

pub returns : goal.returns
returns c is there = says_is is c.args.text.now c.same_text.result (c.same_text.ensures there.0 is there.1)
