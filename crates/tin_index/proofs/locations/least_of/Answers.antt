-- Answers to the goals of `least_of` in src/locations.rt.
use Rattle.std.proofs.Common.{ℕ, get_or, arith}
use borrow.Author.Count.{below_more}
use Rattle.plane_base.specs.Plane.{whole}
use Rattle.tin_base.specs.declared.frames.Frame.TheVariants.{Source}
use Rattle.tin_base.specs.Triangulation.{IsInTriangle}
use Rattle.tin_base.proofs.TriangleLemmas.TestAnswers.{denied}
use Rattle.tin_index.proofs.Least.{from_here, not_among}
use Rattle.tin_index.proofs.locations.least_of.Goals as goal

pub returns-then-number-found-clause-least : goal.returns-then-number-found-clause-least
returns-then-number-found-clause-least c =
    λ n has m. let low = from_here c.args.tin.now c.args.p c.args.numbers.now c.loop-place.place c.requires.ascending
    c.loop-place.invariant c.loop-place-test.true n has m in omega (arith, low)

pub returns-then-is_in-clause-least : goal.returns-then-is_in-clause-least
returns-then-is_in-clause-least c = from_here c.args.tin.now c.args.p c.args.numbers.now c.loop-place.place
    c.requires.ascending c.loop-place.invariant c.loop-place-test.true

pub loop-place-preserved : goal.loop-place-preserved
loop-place-preserved c =
    below_more (λ (k : ℕ). IsInTriangle c.args.tin.now Source (get_or c.args.numbers.now k 0) (whole c.args.p) → ⊥)
    c.loop-place.place c.loop-place.invariant (denied c.if-is_in.ensures)

pub returns-clause-least : goal.returns-clause-least
returns-clause-least c = λ n has m. absurd
    (not_among c.args.tin.now c.args.p c.args.numbers.now c.loop-place.place c.loop-place.invariant
    c.loop-place-test.false n has m)
