-- Answers to the goals of `is_near` in src/within_limits.rt.
use Rattle.std.proofs.Common.{rules, FitsSigned}
use Rattle.std.proofs.lemmas.Int.{to_z-of_z}
use mir.Syntax.{w64}
use Rattle.tin_base.proofs.TriangleLemmas.TestAnswers.{denied, told, no}
use Rattle.tin_base.proofs.LimitLemmas.{near_both, far_on_x}
use Rattle.tin_base.proofs.within_limits.is_near.Goals as goal

pub returns-then-not-is_near_on : goal.returns-then-not-is_near_on
returns-then-not-is_near_on c =
    let px : FitsSigned w64 c.args.p.x = search rules in let qx : FitsSigned w64 c.args.q.x = search rules in
    no (far_on_x c.args.p c.args.q (simp to_z-of_z at (denied c.if-not-is_near_on.ensures)))

pub returns : goal.returns
returns c =
    let px : FitsSigned w64 c.args.p.x = search rules in let qx : FitsSigned w64 c.args.q.x = search rules in
    let py : FitsSigned w64 c.args.p.y = search rules in let qy : FitsSigned w64 c.args.q.y = search rules in
    near_both c.args.p c.args.q c.is_near_on-2.result (simp to_z-of_z at (told c.if-not-is_near_on.ensures))
    (simp to_z-of_z at c.is_near_on-2.ensures)
