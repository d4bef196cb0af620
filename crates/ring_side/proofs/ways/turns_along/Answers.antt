-- Answers to the goals of `turns_along` in src/ways.rt.
use Rattle.std.proofs.Common.{rules, arith, get_or}
use Rattle.std.specs.Prelude.{FitsSigned}
use Rattle.std.proofs.lemmas.Int.{to_z-of_z, ints}
use mir.Syntax.{w128}
use Rattle.ring_side.specs.Rings.{no_point}
use Rattle.ring_side.proofs.PointSides.Nearness.{near_back}
use Rattle.ring_side.proofs.PointSides.Sweeps.{turns_step}
use Rattle.ring_side.proofs.ways.turns_along.Goals as goal

pub loop-to-preserved : goal.loop-to-preserved
loop-to-preserved c =
    let more : FitsSigned w128 c.plus-sum.result = search rules in
    let turned : FitsSigned w128 c.turn.result = search rules in
    let value = simp to_z-of_z at c.plus-sum.ensures.value in
    let within = c.loop-to-test.true in (
      rw (to_z-of_z w128 c.plus-sum.result more)
          (turns_step c.args.first c.loop-to.from c.args.points.now c.loop-to.to-index no_point _ _ _ _ within c.loop-to.invariant.0 value
          c.turn.ensures.value),
      omega (arith, ints),
      c.loop-to.invariant.2,
      c.requires.near c.loop-to.to-index no_point within,
      near_back (get_or c.args.points.now c.loop-to.to-index no_point) c.args.first
          (c.loop-to.invariant.2 c.loop-to.to-index no_point within),
    )
