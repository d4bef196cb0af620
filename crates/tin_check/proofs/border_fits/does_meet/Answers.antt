-- Answers to the goals of `does_meet` in src/border_fits.rt.
use Rattle.std.proofs.Common.{true, false}
use Rattle.tin_check.proofs.BorderLemmas.SideMeetings.{meets_first, meets_second, meets_none, read_has}
use Rattle.tin_check.proofs.border_fits.does_meet.Goals as goal

pub returns-in-true-false : goal.returns-in-true-false
returns-in-true-false c = λ yes differ.
    meets_first c.args.tin.now c.args.frame c.args.side.from c.args.side.to c.args.triangle
    (read_has c.args.tin.now c.triangles.result.now c.args.triangle c.args.side.from true c.triangles.ensures.triangles
    c.in-true-false.ensures)
    (read_has c.args.tin.now c.triangles.result.now c.args.triangle c.args.side.to false c.triangles.ensures.triangles
    c.in-true-false.ensures')
    (c.turns_away.ensures yes)

pub returns-in-false-true : goal.returns-in-false-true
returns-in-false-true c = λ yes differ.
    meets_second c.args.tin.now c.args.frame c.args.side.from c.args.side.to c.args.triangle
    (read_has c.args.tin.now c.triangles.result.now c.args.triangle c.args.side.from false c.triangles.ensures.triangles
    c.in-false-true.ensures)
    (read_has c.args.tin.now c.triangles.result.now c.args.triangle c.args.side.to true c.triangles.ensures.triangles
    c.in-false-true.ensures')
    (c.turns_away-in-false-true.ensures yes)

pub returns-in-false-false : goal.returns-in-false-false
returns-in-false-false c = λ yes differ.
    meets_none c.args.tin.now c.args.frame c.args.side.from c.args.side.to c.args.triangle
    (read_has c.args.tin.now c.triangles.result.now c.args.triangle c.args.side.from false c.triangles.ensures.triangles
    c.in-false-false.ensures)
    (read_has c.args.tin.now c.triangles.result.now c.args.triangle c.args.side.to false c.triangles.ensures.triangles
    c.in-false-false.ensures')
    (c.is_clear.ensures yes)
