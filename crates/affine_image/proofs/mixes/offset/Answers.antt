-- Answers to the goals of `offset` in src/mixes.rt.
use Rattle.std.proofs.Common.{rules, ◌≡◌, sym, subst, ℤ, ◌+ℤ◌, ◌*ℤ◌, ◌≤ℤ◌, SFits}
use Rattle.std.proofs.lemmas.Int.{to_z-of_z}
use mir.Syntax.{w64, w128}
use Rattle.frac128.specs.Rounding.{half_up_of}
use Rattle.affine_image.proofs.HalfUp.{mix_not_below, mix_not_above}
use Rattle.affine_image.proofs.Sizes.{offset_fits}
use Rattle.affine_image.proofs.mixes.offset.Goals as goal

pub overflow_cast-result : goal.overflow_cast-result
overflow_cast-result c =
    let w = c.args.w in let s = c.args.to_second in let t = c.args.to_third in let r = c.mixed_ways.result in
    let f2 : SFits w128 w.second = search rules in let f3 : SFits w128 w.third = search rules in
    let fw : SFits w128 w.whole = search rules in let fr : SFits w128 r = search rules in
    let fs : SFits w64 s = search rules in let ft : SFits w64 t = search rules in
    let is : r ≡ half_up_of (w.second *ℤ s +ℤ w.third *ℤ t) w.whole = simp to_z-of_z at c.mixed_ways.ensures in
    simp to_z-of_z (offset_fits w.second w.third w.whole s t r w.positive w.second_kept w.third_kept w.rest_kept
    c.requires.second c.requires.third is)

pub returns-clause-value : goal.returns-clause-value
returns-clause-value c =
    let w = c.args.w in let s = c.args.to_second in let t = c.args.to_third in let r = c.mixed_ways.result in
    let f2 : SFits w128 w.second = search rules in let f3 : SFits w128 w.third = search rules in
    let fw : SFits w128 w.whole = search rules in let fr : SFits w128 r = search rules in
    let fs : SFits w64 s = search rules in let ft : SFits w64 t = search rules in
    let is : r ≡ half_up_of (w.second *ℤ s +ℤ w.third *ℤ t) w.whole = simp to_z-of_z at c.mixed_ways.ensures in
    let fo : SFits w64 r =
    offset_fits w.second w.third w.whole s t r w.positive w.second_kept w.third_kept w.rest_kept
    c.requires.second c.requires.third is in
    simp to_z-of_z is

pub returns-clause-low : goal.returns-clause-low
returns-clause-low c = λ least l0 ls lt.
    let w = c.args.w in
    subst (λ (z : ℤ). least ≤ℤ z) (sym (returns-clause-value c))
    (mix_not_below w.second w.third w.whole c.args.to_second c.args.to_third least w.positive w.second_kept
    w.third_kept w.rest_kept l0 ls lt)

pub returns-clause-high : goal.returns-clause-high
returns-clause-high c = λ most m0 sm tm.
    let w = c.args.w in
    subst (λ (z : ℤ). z ≤ℤ most) (sym (returns-clause-value c))
    (mix_not_above w.second w.third w.whole c.args.to_second c.args.to_third most w.positive w.second_kept
    w.third_kept w.rest_kept m0 sm tm)
