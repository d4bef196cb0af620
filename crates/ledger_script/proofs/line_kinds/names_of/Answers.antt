-- Answers to the goals of `names_of` in src/line_kinds.rt.
use Rattle.std.proofs.Common.{rules}
use Rattle.std.proofs.lemmas.Result.{err_from_is_err_and}
use Rattle.ledger_script.proofs.FieldSplits.{have-more, have-all, bad-field, bad-last, refused-field}
use Rattle.ledger_script.proofs.line_kinds.names_of.Goals as goal

pub returns-in_err-name-clause-bad : goal.returns-in_err-name-clause-bad
returns-in_err-name-clause-bad c =
    let p = err_from_is_err_and c.from_residual.result c.from_residual.ensures.1 in
    rw (p.1, p.2) (λ of-bad names spells.
    bad-field c.args.text.now c.loop-field.rest.now c.in-Some.field.now c.in-Some.behind.now
    c.loop-field.names.items names c.loop-field.invariant c.in-Some.ensures.field c.in-Some.ensures.whole
    (refused-field c.in-Some.field.now c.in_err-name.field-0.0 c.in_err-name.ensures of-bad) spells)

pub loop-field-preserved : goal.loop-field-preserved
loop-field-preserved c =
    have-more c.args.text.now c.loop-field.rest.now c.in-Some.field.now c.in-Some.behind.now c.loop-field.names.items
    c.push.new.self.items c.loop-field.invariant c.in-Some.ensures.field c.in-Some.ensures.whole
    (search rules) (search rules)

pub returns-in_err-last-clause-bad : goal.returns-in_err-last-clause-bad
returns-in_err-last-clause-bad c =
    let p = err_from_is_err_and c.from_residual-in_err-last.result c.from_residual-in_err-last.ensures.1 in
    rw (p.1, p.2) (λ of-bad names spells.
    bad-last c.args.text.now c.loop-field.rest.now c.loop-field.names.items names c.loop-field.invariant
    c.in_default.ensures.none
    (refused-field c.loop-field.rest.now c.in_err-last.field-0.0 c.in_err-last.ensures of-bad) spells)

pub returns-clause-ok : goal.returns-clause-ok
returns-clause-ok c =
    have-all c.args.text.now c.loop-field.rest.now c.loop-field.names.items c.push-2.new.self.items
    c.loop-field.invariant (search rules) (search rules)
