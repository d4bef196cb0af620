-- Answers to the goals of `rise_at` in src/heights.rt.
use Rattle.std.proofs.Common.{rules, ◌≡◌, ◌≤◌, ◌*◌, ◌∙◌, ap, sym, subst, ℤ, ◌*ℤ◌, unsigned_abs, SFits}
use Rattle.std.proofs.lemmas.Int.{to_z-of_z}
use mir.Syntax.{w64, w128}
use Rattle.frac128.specs.Rounding.{half_up_of}
use Rattle.mm_decimal.specs.declared.limits.TheConstants.{LIMIT}
use Rattle.affine_image.proofs.HeightLemmas.{rise_size, rise_fits}
use Rattle.affine_image.proofs.heights.rise_at.Goals as goal

pub overflow_cast-result : goal.overflow_cast-result
overflow_cast-result c =
    let n = c.args.s.num in let d = c.args.s.den in let z = c.args.rise in
    let u = c.share.result in let r = c.round_half_up.result in
    let fu : SFits w128 u = search rules in let fr : SFits w128 r = search rules in
    let fn : SFits w128 n = search rules in let fd : SFits w128 d = search rules in let fz = c.ranges.rise in
    let eu : u ≡ n *ℤ z = simp to_z-of_z at c.share.ensures.value in
    let er : r ≡ half_up_of u d = simp to_z-of_z at c.round_half_up.ensures in
    let is : r ≡ half_up_of (n *ℤ z) d = er ∙ ap (λ (y : ℤ). half_up_of y d) eu in
    let size : unsigned_abs r ≤ 2 * LIMIT = subst (λ (y : ℤ). unsigned_abs y ≤ 2 * LIMIT) (sym is)
    (rise_size n d z c.args.s.positive c.requires.between.1 c.requires.between.2 c.requires.rise) in
    simp to_z-of_z (rise_fits r size)

pub returns-clause-value : goal.returns-clause-value
returns-clause-value c =
    let n = c.args.s.num in let d = c.args.s.den in let z = c.args.rise in
    let u = c.share.result in let r = c.round_half_up.result in
    let fu : SFits w128 u = search rules in let fr : SFits w128 r = search rules in
    let fn : SFits w128 n = search rules in let fd : SFits w128 d = search rules in let fz = c.ranges.rise in
    let eu : u ≡ n *ℤ z = simp to_z-of_z at c.share.ensures.value in
    let er : r ≡ half_up_of u d = simp to_z-of_z at c.round_half_up.ensures in
    let is : r ≡ half_up_of (n *ℤ z) d = er ∙ ap (λ (y : ℤ). half_up_of y d) eu in
    let size : unsigned_abs r ≤ 2 * LIMIT = subst (λ (y : ℤ). unsigned_abs y ≤ 2 * LIMIT) (sym is)
    (rise_size n d z c.args.s.positive c.requires.between.1 c.requires.between.2 c.requires.rise) in
    let fits : SFits w64 r = rise_fits r size in
    simp to_z-of_z is

pub returns-clause-size : goal.returns-clause-size
returns-clause-size c =
    let n = c.args.s.num in let d = c.args.s.den in let z = c.args.rise in
    subst (λ (y : ℤ). unsigned_abs y ≤ 2 * LIMIT) (sym (returns-clause-value c))
    (rise_size n d z c.args.s.positive c.requires.between.1 c.requires.between.2 c.requires.rise)
