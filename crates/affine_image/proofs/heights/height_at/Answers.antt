-- Answers to the goals of `height_at` in src/heights.rt.
use Rattle.std.proofs.Common.{rules, ◌≡◌, ◌∙◌, ap, ℤ, ◌+ℤ◌, ◌-ℤ◌, ◌*ℤ◌, SFits}
use Rattle.std.proofs.lemmas.Int.{to_z-of_z}
use mir.Syntax.{w64, w128}
use Rattle.frac128.specs.Rounding.{half_up_of}
use Rattle.affine_image.proofs.HeightLemmas.{way_fits, height_fits, rise_is_mix}
use Rattle.affine_image.proofs.heights.height_at.Goals as goal

pub returns-clause-rise : goal.returns-clause-rise
returns-clause-rise c =
    let n = c.args.s.num in let d = c.args.s.den in let a = c.args.za in let b = c.args.zb in
    let r = c.rise_at.result in
    let fa = c.ranges.za in let fb = c.ranges.zb in let fr : SFits w64 r = search rules in
    let fn : SFits w128 n = search rules in let fd : SFits w128 d = search rules in
    let way : SFits w64 (b -ℤ a) = way_fits a b c.requires.first c.requires.second in
    let is : r ≡ half_up_of (n *ℤ (b -ℤ a)) d = simp to_z-of_z at c.rise_at.ensures.value in
    let sum : SFits w64 (a +ℤ r) = height_fits a r c.requires.first c.rise_at.ensures.size in
    simp to_z-of_z (ap (λ (z : ℤ). a +ℤ z) is)

pub returns-clause-mix : goal.returns-clause-mix
returns-clause-mix c =
    returns-clause-rise c ∙ rise_is_mix c.args.s.num c.args.s.den c.args.za c.args.zb c.args.s.positive
