-- Answers to the goals of `do_all_meet` in src/border_fits.rt.
use Rattle.std.proofs.Common.{◌+◌, length, ap, refl, arith}
use Rattle.tin_base.specs.declared.frames.Frame.TheVariants.{Source, Target}
use Rattle.tin_check.specs.InsideSideTrees.{first_of, past_of}
use Rattle.tin_check.proofs.BorderLemmas.SideTrees.{some_more_meet, all_meet}
use Rattle.tin_check.proofs.border_fits.do_all_meet.Goals as goal

pub loop-first-preserved : goal.loop-first-preserved
loop-first-preserved c = (
  some_more_meet c.args.tin.now Source c.args.sides.now (first_of c.args.source.now) (past_of c.args.source.now) 0
      c.loop-first.first (c.loop-first.first + c.min.result) c.loop-first.invariant.0
      (c.if-not-do_some_meet.ensures refl),
  some_more_meet c.args.tin.now Target c.args.sides.now (first_of c.args.target.now) (past_of c.args.target.now) 0
      c.loop-first.first (c.loop-first.first + c.min.result) c.loop-first.invariant.1
      (c.if-not-do_some_meet-2.ensures refl),
)

pub returns-clause-source : goal.returns-clause-source
returns-clause-source c = λ yes.
    all_meet c.args.tin.now Source c.args.sides.now (first_of c.args.source.now) (past_of c.args.source.now)
    c.loop-first.first (omega (arith, c.loop-first-test.false, ap length c.triangles-triangles.ensures.triangles))
    c.loop-first.invariant.0

pub returns-clause-target : goal.returns-clause-target
returns-clause-target c = λ yes.
    all_meet c.args.tin.now Target c.args.sides.now (first_of c.args.target.now) (past_of c.args.target.now)
    c.loop-first.first (omega (arith, c.loop-first-test.false, ap length c.triangles-triangles.ensures.triangles))
    c.loop-first.invariant.1
