-- Answers to the goals of `read_report` in src/readers.rt.
use Rattle.std.proofs.Common.{◌<◌, ◌^◌, length, arith, rules, sym, ◌∙◌}
use Rattle.std.proofs.lemmas.Bool.{eqb-true}
use Rattle.std.proofs.lemmas.List.{nil_from_length}
use Rattle.std.proofs.lemmas.Result.{err_from_is_err_and}
use Rattle.report_text.specs.InsideSteps.{state_of}
use Rattle.report_text.proofs.ReadPrefixes.{one_more, stops_at, ends_here, number_fits, not_whole, whole_draft}
use Rattle.report_text.proofs.readers.read_report.Goals as goal

pub returns-in_err-draft-clause-err : goal.returns-in_err-draft-clause-err
returns-in_err-draft-clause-err c =
    let p = err_from_is_err_and c.from_residual.result c.from_residual.ensures.1 in
    rw (p.1, p.2)
    (stops_at c.args.bytes.now c.loop-line.rest.now c.in-Some.line.now c.in-Some.behind.now c.loop-line.number
    (state_of c.loop-line.draft) _ c.loop-line.invariant c.in-Some.ensures.line c.in-Some.ensures.whole
    c.in_err-draft.ensures)

pub overflow_add-number : goal.overflow_add-number
overflow_add-number c =
    let small : length c.args.bytes.now < 2 ^ 64 = search rules in
    let fits = number_fits c.args.bytes.now c.loop-line.rest.now c.loop-line.number (state_of c.loop-line.draft)
    c.loop-line.invariant small in
    omega (arith, fits)

pub loop-line-preserved : goal.loop-line-preserved
loop-line-preserved c =
    one_more c.args.bytes.now c.loop-line.rest.now c.in-Some.line.now c.in-Some.behind.now c.loop-line.number _ _
    c.loop-line.invariant c.in-Some.ensures.line c.in-Some.ensures.whole c.in_ok-draft.ensures

pub returns-then-not-is_empty-clause-err : goal.returns-then-not-is_empty-clause-err
returns-then-not-is_empty-clause-err c =
    ends_here c.args.bytes.now c.loop-line.rest.now c.loop-line.number (state_of c.loop-line.draft)
    c.loop-line.invariant
    c.in_default.ensures.none
    (λ ends nothing. let wrong = rw nothing at (sym c.is_empty.ensures ∙ c.if-not-is_empty.true) in cc)

pub of-requires-in-Whole-2 : goal.of-requires-in-Whole-2
of-requires-in-Whole-2 c =
    let nothing = nil_from_length c.loop-line.rest.now
    (eqb-true _ _ (sym c.is_empty.ensures ∙ c.if-not-is_empty.false)) in
    let text = whole_draft c.args.bytes.now c.loop-line.rest.now c.loop-line.number c.loop-line.draft c.in-Whole.tin
    c.in-Whole.rows c.in-Whole.changes c.in-Whole.sides c.loop-line.invariant nothing c.in-Whole.is in
    rw (c.of.ensures, c.of-in-Whole.ensures) text.kept

pub returns-in-Whole-clause-ok : goal.returns-in-Whole-clause-ok
returns-in-Whole-clause-ok c =
    let nothing = nil_from_length c.loop-line.rest.now
    (eqb-true _ _ (sym c.is_empty.ensures ∙ c.if-not-is_empty.false)) in
    rw (c.of-in-Whole-2.ensures, c.of.ensures, c.of-in-Whole.ensures)
    (whole_draft c.args.bytes.now c.loop-line.rest.now c.loop-line.number c.loop-line.draft c.in-Whole.tin
    c.in-Whole.rows c.in-Whole.changes c.in-Whole.sides c.loop-line.invariant nothing c.in-Whole.is)

pub returns : goal.returns
returns c = record {
  ok = tt;
  err = ends_here c.args.bytes.now c.loop-line.rest.now c.loop-line.number (state_of c.loop-line.draft)
      c.loop-line.invariant c.in_default.ensures.none
      (λ ends nothing. not_whole c.loop-line.draft ends c.in_default-draft.not-Whole);
}
