-- Answers to the goals of `left_turned` in src/triangle_pairs.rt.
use Rattle.std.proofs.Common.{pos, ◌<ℤ◌, ℤ, ℕ, List, [], get_or, sym, ◌∙◌, ap, subst, arith}
use Rattle.tin_base.proofs.TriangleLemmas.TestAnswers.{told, denied}
use Rattle.tin_faults.proofs.Pairs.{left_as_read, left_turned_back}
use Rattle.tin_faults.proofs.triangle_pairs.left_turned.Goals as goal

pub returns-clause-turned : goal.returns-clause-turned
returns-clause-turned c =
    let turn = c.tri-corners.ensures.turn in
    left_turned_back c.args.tin.now c.args.frame c.args.triangle c.tri-corners.result
    (get_or c.triangles.result.now c.args.triangle []) c.tri-corners.ensures.limits c.requires.in_range
    (ap (λ (rows : List (List ℕ)). get_or rows c.args.triangle []) c.triangles.ensures.triangles)
    c.tri-corners.ensures.corners
    (λ h. denied c.if-turns_left.ensures (subst (λ (z : ℤ). pos 0 <ℤ z) turn h)) (λ e. c.requires.not_flat (sym turn ∙ e))

pub returns-then-turns_left-clause-turned : goal.returns-then-turns_left-clause-turned
returns-then-turns_left-clause-turned c = grind (arith, left_as_read, told)
