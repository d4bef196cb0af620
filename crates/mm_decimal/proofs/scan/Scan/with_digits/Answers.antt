-- Answers to the goals of `Scan::with_digits` in src/scan.rt.
use Rattle.std.proofs.Common.{◌≡◌, ◌+◌, ◌-◌, take, get_or, arith, subst, sym}
use Rattle.std.proofs.lemmas.List.{take_more}
use Rattle.mm_decimal.specs.Numerals.{IsDigit}
use Rattle.mm_decimal.specs.InsideScans.{HasRead, run_read}
use Rattle.mm_decimal.proofs.DigitRuns.{run_taken}
use Rattle.mm_decimal.proofs.scan.Scan.with_digits.Goals as goal

pub loop-end-preserved : goal.loop-end-preserved
loop-end-preserved c =
    let text = c.args.text.now in
    let end = c.loop-end.end in
    let byte = get_or text end 0 in
    let digit : IsDigit byte = c.if-is_ascii_digit.ensures.cases in
    let count : end + 1 - c.args.from ≡ (end - c.args.from) + 1 = omega (arith, c.loop-end.invariant.0) in (
      omega (arith, c.loop-end.invariant.0),
      omega arith,
      rw count (subst (λ front. HasRead front (run_read c.args.self c.with-kept.result ((end - c.args.from) + 1)))
          (sym (take_more text end 0 c.loop-end-test.true))
          (run_taken (take end text) byte c.args.self c.loop-end.kept c.with-kept.result (end - c.args.from)
          (c.is_digits.ensures.0 c.if-not-is_digits.false) digit c.with-kept.ensures.cut c.with-kept.ensures.dropped
          c.loop-end.invariant.2)),
    )
