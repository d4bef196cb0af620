-- Answers to the goals of `number_of` in src/fields.rt.
use Rattle.std.proofs.Common.{◌∙◌, sym, subst}
use Rattle.std.specs.Str.Parse.{ParsesUnsigned}
use Rattle.text_fields.proofs.Numbers.{parsed}
use Rattle.text_fields.proofs.fields.number_of.Goals as goal
use Rattle.plain_laws.proofs.Digits.{digits_utf8}

pub returns-in_default : goal.returns-in_default
returns-in_default c = absurd (c.in_default.ensures.cases.0 (digits_utf8 c.args.digits.now c.requires))

pub returns : goal.returns
returns c =
    c.ok.ensures.value
    ∙ parsed c.args.digits.now c.parse.result c.requires (sym c.if-begins_with_zero.ensures)
    (subst (λ text. ParsesUnsigned 64 10 text c.parse.result) c.in-Ok.ensures.cases.0 c.parse.ensures.value.0)
