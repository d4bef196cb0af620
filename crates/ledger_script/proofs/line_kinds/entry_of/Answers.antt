-- Answers to the goals of `entry_of` in src/line_kinds.rt.
use Rattle.std.proofs.lemmas.Result.{err_from_is_err_and}
use Rattle.ledger_script.proofs.LineReadings.{entry-fails}
use Rattle.ledger_script.proofs.line_kinds.entry_of.Goals as goal

pub returns-in_err-names : goal.returns-in_err-names
returns-in_err-names c =
    let p = err_from_is_err_and c.from_residual.result c.from_residual.ensures.1 in
    rw (p.1, p.2) (entry-fails c.args.text.now c.in_err-names.field-0.0 c.in_err-names.ensures.bad)
