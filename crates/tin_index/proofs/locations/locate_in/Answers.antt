-- Answers to the goals of `locate_in` in src/locations.rt.
use Rattle.std.proofs.Common.{ℕ, subst, sym, arith}
use Rattle.tin_index.proofs.Least.{IsLeastSoFar, least_start, least_more, least_of_all}
use Rattle.tin_index.proofs.locations.locate_in.Goals as goal

pub loop-level-init : goal.loop-level-init
loop-level-init c = subst (λ (n : ℕ). IsLeastSoFar c.args.tin.now c.args.grid.now c.args.p 0 n)
    (sym c.triangle_count-count.ensures) (least_start c.args.tin.now c.args.grid.now c.args.p)

pub loop-level-preserved : goal.loop-level-preserved
loop-level-preserved c =
    least_more c.args.tin.now c.args.grid.now c.args.p c.loop-level.level c.loop-level.least c.least_of-least.result
    c.cell.result.now c.requires c.loop-level.invariant c.cell.ensures.level c.least_of-least.ensures.to_found
    c.least_of-least.ensures.one c.least_of-least.ensures.least

pub returns-then-least-count-clause-outside : goal.returns-then-least-count-clause-outside
returns-then-least-count-clause-outside c =
    λ inside.
    let least = least_of_all c.args.tin.now c.args.grid.now c.args.p c.loop-level.level c.loop-level.least c.requires
    c.loop-level.invariant c.levels-level-end.ensures.each
    (omega (arith, c.loop-level-test.false, c.levels-level-end.ensures.count))
    inside.0 inside.1 inside.2 in
    absurd (omega (arith, least, inside.1))

pub returns-clause-least : goal.returns-clause-least
returns-clause-least c =
    λ other below has.
    let to = let far = c.loop-level.invariant in far.within in
    let least = least_of_all c.args.tin.now c.args.grid.now c.args.p c.loop-level.level c.loop-level.least c.requires
    c.loop-level.invariant c.levels-level-end.ensures.each
    (omega (arith, c.loop-level-test.false, c.levels-level-end.ensures.count))
    other (omega (arith, below, to)) has in
    absurd (omega (arith, least, below))
