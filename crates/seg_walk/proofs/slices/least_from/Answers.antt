-- Answers to the goals of `least_from` in src/slices.rt.
use Rattle.std.proofs.Common.{◌≡◌, ℕ, ◌<◌, get_or, subst}
use borrow.Author.Count.{below_more}
use Rattle.seg_walk.specs.declared.steps.Step.{Step}
use Rattle.tin_base.specs.Slices.{spot_of}
use Rattle.seg_walk.specs.InsideStarts.{HasNoPartFrom, IsPartFrom}
use Rattle.seg_walk.proofs.NextTriangles.{known_before, known_all}
use Rattle.plain_laws.proofs.Options.{some_told, none_told}
use Rattle.seg_walk.proofs.slices.least_from.Goals as goal

pub returns-in-Some-clause-some : goal.returns-in-Some-clause-some
returns-in-Some-clause-some c =
    let is = some_told (λ (step : Step). step.tri ≡ get_or c.args.numbers.now c.loop-place.place 0) c.step_in.result
    c.in-Some.step c.in-Some.is c.step_in.ensures.triangle in
    record {
      from = some_told (λ (step : Step). IsPartFrom c.args.tin.now c.args.a c.args.b (spot_of c.args.at) step)
          c.step_in.result c.in-Some.step c.in-Some.is c.step_in.ensures.some;
      least = λ u below has.
          known_before (λ v. HasNoPartFrom c.args.tin.now c.args.a c.args.b (spot_of c.args.at) v) c.args.numbers.now
          c.loop-place.place u c.requires.ascending c.loop-place-test.true c.loop-place.invariant has
          (subst (λ (n : ℕ). u < n) is below);
    }

pub loop-place-preserved : goal.loop-place-preserved
loop-place-preserved c =
    below_more (λ k. HasNoPartFrom c.args.tin.now c.args.a c.args.b (spot_of c.args.at) (get_or c.args.numbers.now k 0))
    c.loop-place.place c.loop-place.invariant
    (none_told _ c.step_in.result c.in_default.is c.step_in.ensures.none)

pub returns-clause-none : goal.returns-clause-none
returns-clause-none c = λ u has. known_all (λ v. HasNoPartFrom c.args.tin.now c.args.a c.args.b (spot_of c.args.at) v)
    c.args.numbers.now c.loop-place.place u c.loop-place-test.false c.loop-place.invariant has
