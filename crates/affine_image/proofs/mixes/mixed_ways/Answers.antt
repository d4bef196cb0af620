-- Answers to the goals of `mixed_ways` in src/mixes.rt.
use Rattle.std.proofs.Common.{rules, ◌≡◌, ◌∙◌, ap₂, ℤ, ◌+ℤ◌, ◌*ℤ◌, SFits}
use Rattle.std.proofs.lemmas.Int.{to_z-of_z}
use mir.Syntax.{w64, w128}
use Rattle.frac128.specs.Rounding.{half_up_of}
use Rattle.affine_image.proofs.Sizes.{sum_fits, sum_small}
use Rattle.affine_image.proofs.mixes.mixed_ways.Goals as goal

pub overflow_add-part : goal.overflow_add-part
overflow_add-part c =
    let u = c.part.result in let v = c.part-2.result in
    let f : SFits w128 u = search rules in let g : SFits w128 v = search rules in
    simp to_z-of_z (sum_fits u v c.part.ensures.size c.part-2.ensures.size)

pub round_half_up-requires-clause-num_small : goal.round_half_up-requires-clause-num_small
round_half_up-requires-clause-num_small c =
    let u = c.part.result in let v = c.part-2.result in
    let f : SFits w128 u = search rules in let g : SFits w128 v = search rules in
    let h = sum_fits u v c.part.ensures.size c.part-2.ensures.size in
    simp to_z-of_z (sum_small u v c.part.ensures.size c.part-2.ensures.size)

pub returns : goal.returns
returns c =
    let w = c.args.w in let s = c.args.to_second in let t = c.args.to_third in
    let u = c.part.result in let v = c.part-2.result in
    let f : SFits w128 u = search rules in let g : SFits w128 v = search rules in
    let f2 : SFits w128 w.second = search rules in let f3 : SFits w128 w.third =
    search rules in let fw : SFits w128 w.whole = search rules in
    let fs : SFits w64 s = search rules in let ft : SFits w64 t = search rules in
    let fr : SFits w128 c.round_half_up.result = search rules in
    let h = sum_fits u v c.part.ensures.size c.part-2.ensures.size in
    let e : c.round_half_up.result ≡ half_up_of (u +ℤ v) w.whole = simp to_z-of_z at c.round_half_up.ensures in
    let eu : u ≡ w.second *ℤ s = simp to_z-of_z at c.part.ensures.value in
    let ev : v ≡ w.third *ℤ t = simp to_z-of_z at c.part-2.ensures.value in
    let is : c.round_half_up.result ≡ half_up_of (w.second *ℤ s +ℤ w.third *ℤ t) w.whole = e
    ∙ ap₂ (λ (a b : ℤ). half_up_of (a +ℤ b) w.whole) eu ev in
    simp to_z-of_z is
