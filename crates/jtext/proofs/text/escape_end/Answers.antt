-- Answers to the goals of `escape_end` in src/text.rt.
use Rattle.std.proofs.Common.{◌+◌, ◌∙◌, ap, sym}
use Rattle.jtext.specs.InsideTokens.{Inner, after_escape_sign, needing, hexadecimal_needs}
use Rattle.jtext.proofs.CodeReads.Tokens.{goes_one, ends_on}
use Rattle.jtext.proofs.text.escape_end.Goals as goal

pub returns-in-Unicode : goal.returns-in-Unicode
returns-in-Unicode c =
    ends_on Inner.escape (needing hexadecimal_needs) Inner.plain c.args.bytes.now c.args.from (c.args.from + 1)
    c.needs_end.result
    (goes_one Inner.escape (needing hexadecimal_needs) c.args.bytes.now c.args.from c.if-from-bytes.false
    (ap after_escape_sign (sym c.of.ensures ∙ c.in-Unicode.is)))
    c.needs_end.ensures
