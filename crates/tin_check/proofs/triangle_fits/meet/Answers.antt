-- Answers to the goals of `meet` in src/triangle_fits.rt.
use Rattle.std.proofs.Common.{inl, inr, refl}
use Rattle.tin_base.proofs.TriangleLemmas.TestAnswers.{yes, denied}
use Rattle.tin_check.proofs.TriangleTests.Tests.{seen_meets, last_side}
use Rattle.tin_check.proofs.triangle_fits.meet.Goals as goal

pub returns-then-holds : goal.returns-then-holds
returns-then-holds c = yes (seen_meets c.args.t.now c.args.u.now (inl (c.if-holds.ensures.0 refl)))

pub returns-then-meets_side : goal.returns-then-meets_side
returns-then-meets_side c = yes (seen_meets c.args.t.now c.args.u.now (inr (inl (c.if-meets_side.ensures.0 refl))))

pub returns-then-meets_side-2 : goal.returns-then-meets_side-2
returns-then-meets_side-2 c = yes (seen_meets c.args.t.now c.args.u.now
    (inr (inr (inl (c.if-meets_side-2.ensures.0 refl)))))

pub returns : goal.returns
returns c =
    last_side c.args.t.now c.args.u.now c.meets_side-3.result c.requires.t_positive c.requires.u_positive
    (denied c.if-holds.ensures) (denied c.if-meets_side.ensures) (denied c.if-meets_side-2.ensures)
    c.meets_side-3.ensures
