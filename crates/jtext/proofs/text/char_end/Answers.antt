-- Answers to the goals of `char_end` in src/text.rt.
use Rattle.std.proofs.Common.{◌+◌, ◌∙◌, ap, sym}
use Rattle.jtext.specs.InsideTokens.{Inner, after_text_sign, needing, lead_needs}
use Rattle.jtext.proofs.CodeReads.Tokens.{goes_one, ends_on}
use Rattle.jtext.proofs.text.char_end.Goals as goal

pub returns-in-Backslash-clause-ends : goal.returns-in-Backslash-clause-ends
returns-in-Backslash-clause-ends c =
    ends_on Inner.plain Inner.escape Inner.plain c.args.bytes.now c.args.at (c.args.at + 1) c.escape_end.result
    (goes_one Inner.plain Inner.escape c.args.bytes.now c.args.at c.requires.within
    (ap after_text_sign (sym c.requires.sign ∙ c.in-Backslash.is)))
    c.escape_end.ensures

pub returns-in-Lead-clause-ends : goal.returns-in-Lead-clause-ends
returns-in-Lead-clause-ends c =
    ends_on Inner.plain (needing (lead_needs c.in-Lead.lead)) Inner.plain c.args.bytes.now c.args.at (c.args.at + 1)
    c.needs_end.result
    (goes_one Inner.plain (needing (lead_needs c.in-Lead.lead)) c.args.bytes.now c.args.at c.requires.within
    (ap after_text_sign (sym c.requires.sign ∙ c.in-Lead.is)))
    (rw c.needs_behind.ensures at c.needs_end.ensures)
