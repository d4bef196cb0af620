-- Answers to the goals of `is_near` in src/nearness.rt.
use Rattle.std.proofs.Common.{◌≡◌, ℤ, ◌-ℤ◌, to_z, of_z, ◌∙◌, ap₂, arith, rules}
use Rattle.std.proofs.lemmas.Int.{ints, to_z-of_z}
use mir.Syntax.{w64, w128}
use Rattle.cert_check.proofs.ListPasses.{short_near}
use Rattle.cert_check.proofs.nearness.is_near.Goals as goal

pub returns : goal.returns
returns c =
    let px : to_z w64 (of_z w64 c.args.p.x) ≡ c.args.p.x = first_of (omega (arith, ints), search rules) in
    let py : to_z w64 (of_z w64 c.args.p.y) ≡ c.args.p.y = first_of (omega (arith, ints), search rules) in
    let qx : to_z w64 (of_z w64 c.args.q.x) ≡ c.args.q.x = first_of (omega (arith, ints), search rules) in
    let qy : to_z w64 (of_z w64 c.args.q.y) ≡ c.args.q.y = first_of (omega (arith, ints), search rules) in
    let left : to_z w128 (of_z w128 c.gap.result) ≡ c.gap.result =
    first_of (omega (arith, ints), search rules, search (rules, to_z-of_z)) in
    let right : to_z w128 (of_z w128 c.gap-2.result) ≡ c.gap-2.result =
    first_of (omega (arith, ints), search rules, search (rules, to_z-of_z)) in
    let down : to_z w128 (of_z w128 c.gap-3.result) ≡ c.gap-3.result =
    first_of (omega (arith, ints), search rules, search (rules, to_z-of_z)) in
    let up : to_z w128 (of_z w128 c.gap-4.result) ≡ c.gap-4.result =
    first_of (omega (arith, ints), search rules, search (rules, to_z-of_z)) in
    short_near c.args.p c.args.q c.are_short.result (to_z w128 (of_z w128 c.gap.result))
    (to_z w128 (of_z w128 c.gap-2.result)) (to_z w128 (of_z w128 c.gap-3.result))
    (to_z w128 (of_z w128 c.gap-4.result))
    (left ∙ (c.gap.ensures ∙ ap₂ (λ (u v : ℤ). u -ℤ v) px qx))
    (right ∙ (c.gap-2.ensures ∙ ap₂ (λ (u v : ℤ). u -ℤ v) qx px))
    (down ∙ (c.gap-3.ensures ∙ ap₂ (λ (u v : ℤ). u -ℤ v) py qy))
    (up ∙ (c.gap-4.ensures ∙ ap₂ (λ (u v : ℤ). u -ℤ v) qy py)) c.are_short.ensures
