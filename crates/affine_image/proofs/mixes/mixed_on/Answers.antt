-- Answers to the goals of `mixed_on` in src/mixes.rt.
use Rattle.std.proofs.Common.{rules, ◌≡◌, ◌∙◌, ap, ℤ, ◌+ℤ◌, ◌-ℤ◌, ◌*ℤ◌, SFits}
use Rattle.std.proofs.lemmas.Int.{to_z-of_z}
use mir.Syntax.{w64}
use Rattle.frac128.specs.Rounding.{half_up_of}
use Rattle.affine_image.proofs.HalfUp.{rounded_from_first}
use Rattle.affine_image.proofs.Sizes.{short_fits, place_fits}
use Rattle.affine_image.proofs.mixes.mixed_on.Goals as goal

pub overflow_add-result : goal.overflow_add-result
overflow_add-result c =
    let a = c.args.a in let b = c.args.b in let d = c.args.c in let r = c.offset.result in
    let fa = c.ranges.a in let fb = c.ranges.b in let fd = c.ranges.c in
    let f : SFits w64 r = search rules in
    let g : SFits w64 (b -ℤ a) = short_fits (b -ℤ a) c.requires.second in let h : SFits w64 (d -ℤ a) =
    short_fits (d -ℤ a) c.requires.third in
    simp to_z-of_z (place_fits a b d r fa fb fd (simp to_z-of_z at c.offset.ensures.low)
    (simp to_z-of_z at c.offset.ensures.high))

pub returns : goal.returns
returns c =
    let w = c.args.w in let a = c.args.a in let b = c.args.b in let d = c.args.c in let r = c.offset.result in
    let fa = c.ranges.a in let fb = c.ranges.b in let fd = c.ranges.c in
    let f : SFits w64 r = search rules in
    let g : SFits w64 (b -ℤ a) = short_fits (b -ℤ a) c.requires.second in let h : SFits w64 (d -ℤ a) =
    short_fits (d -ℤ a) c.requires.third in
    let fits : SFits w64 (a +ℤ r) = place_fits a b d r fa fb fd (simp to_z-of_z at c.offset.ensures.low)
    (simp to_z-of_z at c.offset.ensures.high) in
    let is : r ≡ half_up_of (w.second *ℤ (b -ℤ a) +ℤ w.third *ℤ (d -ℤ a)) w.whole =
    simp to_z-of_z at c.offset.ensures.value in
    simp to_z-of_z (ap (λ (z : ℤ). a +ℤ z) is ∙ rounded_from_first w.second w.third w.whole a b d w.positive)
