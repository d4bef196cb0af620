-- Answers to the goals of `number_of` in src/numbers.rt.
use Rattle.std.proofs.Common.{subst}
use Rattle.std.specs.Str.Parse.{ParsesUnsigned}
use Rattle.cert_check.proofs.Digits.{no_leading_zero, parsed_some, parsed_none}
use Rattle.cert_check.proofs.numbers.number_of.Goals as goal
use Rattle.plain_laws.proofs.Digits.{digits_utf8}

pub returns-then-has_leading_zero-clause-none : goal.returns-then-has_leading_zero-clause-none
returns-then-has_leading_zero-clause-none c =
    λ n small is. no_leading_zero n c.args.digits.now small is (c.has_leading_zero.ensures.0 c.if-has_leading_zero.true)

pub returns-in_default-clause-none : goal.returns-in_default-clause-none
returns-in_default-clause-none c = absurd (c.in_default.ensures.cases.0 (digits_utf8 c.args.digits.now c.requires))

pub returns-clause-some : goal.returns-clause-some
returns-clause-some c =
    parsed_some c.args.digits.now c.parse.result c.ok.result c.has_leading_zero.result c.requires
    c.has_leading_zero.ensures c.if-has_leading_zero.false
    (subst (λ text. ParsesUnsigned 32 10 text c.parse.result) c.in-Ok.ensures.cases.0 c.parse.ensures.value.0)
    c.ok.ensures.value

pub returns-clause-none : goal.returns-clause-none
returns-clause-none c =
    parsed_none c.args.digits.now c.parse.result c.ok.result
    (subst (λ text. ParsesUnsigned 32 10 text c.parse.result) c.in-Ok.ensures.cases.0 c.parse.ensures.value.0)
    c.ok.ensures.value
