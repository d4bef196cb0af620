-- Answers to the goals of `do_fit` in src/triangle_pairs.rt.
use Rattle.std.proofs.Common.{arith}
use Rattle.tin_base.specs.Triangulation.{numbers_of}
use Rattle.tin_faults.proofs.Numbers.{same_counted}
use Rattle.tin_faults.proofs.Pairs.{all_near, same_marked, answer}
use Rattle.tin_faults.proofs.triangle_pairs.do_fit.Goals as goal

pub fits-requires-clause-near : goal.fits-requires-clause-near
fits-requires-clause-near c =
    let t = c.left_turned-t.ensures.turned in
    let u = c.left_turned-u.ensures.turned in
    all_near c.args.tin.now c.args.frame c.args.first c.args.second c.left_turned-t.result.numbers
    c.left_turned-u.result.numbers c.left_turned-t.result.corners c.left_turned-u.result.corners
    c.left_turned-t.ensures.limits c.requires.first c.requires.second
    (same_counted (numbers_of c.args.tin.now c.args.first) c.left_turned-t.result.numbers t.counted)
    (same_counted (numbers_of c.args.tin.now c.args.second) c.left_turned-u.result.numbers u.counted) t.places_are
    u.places_are

pub fits-requires-clause-same : goal.fits-requires-clause-same
fits-requires-clause-same c = grind (arith, same_marked)

pub returns : goal.returns
returns c =
    let t = c.left_turned-t.ensures.turned in
    let u = c.left_turned-u.ensures.turned in
    answer c.args.tin.now c.args.frame c.args.first c.args.second c.left_turned-t.result.numbers
    c.left_turned-u.result.numbers c.left_turned-t.result.corners c.left_turned-u.result.corners c.marks.result
    c.fits.result (same_counted (numbers_of c.args.tin.now c.args.first) c.left_turned-t.result.numbers t.counted)
    (same_counted (numbers_of c.args.tin.now c.args.second) c.left_turned-u.result.numbers u.counted) c.marks.ensures
    t.places_are u.places_are c.fits.ensures
