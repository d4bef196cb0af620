-- Answers to the goals of `name_at` in src/fields.rt.
use Rattle.std.proofs.Common.{Some, None, cond, ◌∙◌, sym, ap}
use Rattle.report_text.proofs.Names.{name_fails, name_found}
use Rattle.report_text.proofs.fields.name_at.Goals as goal

pub returns-in_default : goal.returns-in_default
returns-in_default c = name_fails c.args.text.now c.in_ok-name.name.now c.in_ok-name.ensures
    c.in_default.ensures.cases.0

pub returns-then-is_printable : goal.returns-then-is_printable
returns-then-is_printable c =
    name_found c.args.text.now c.in_ok-name.name.now c.in_ok-name.ensures c.in-Ok.ensures.cases.1
    ∙ (ap (λ test. cond test (Some c.in_ok-name.name.now) None) (sym c.if-is_printable.ensures)
    ∙ ap Some (sym c.in-Ok.ensures.cases.0))

pub returns-else-is_printable : goal.returns-else-is_printable
returns-else-is_printable c =
    name_found c.args.text.now c.in_ok-name.name.now c.in_ok-name.ensures c.in-Ok.ensures.cases.1
    ∙ ap (λ test. cond test (Some c.in_ok-name.name.now) None) (sym c.if-is_printable.ensures)
