-- Answers to the goals of `mix_offsets` in src/offsets.rt.
use Rattle.std.proofs.Common.{rules, ◌≡◌, ◌∙◌, ap, ap₂, ℤ, ◌+ℤ◌, ◌*ℤ◌, SFits}
use Rattle.std.proofs.lemmas.Int.{to_z-of_z}
use mir.Syntax.{w128}
use Rattle.tin_height.specs.InsideOffsets.{mixed_by_turns}
use Rattle.affine_image.proofs.Near.{near_corners, turned}
use Rattle.tin_height.proofs.offsets.mix_offsets.Goals as goal

pub turn-requires : goal.turn-requires
turn-requires c =
    let n = near_corners c.args.t.now c.args.p c.requires.near c.requires.inside in
    record { near = (c.requires.near.2, n.1, n.2) }

pub turn-requires-2 : goal.turn-requires-2
turn-requires-2 c =
    let t = c.args.t.now in let n = near_corners t c.args.p c.requires.near c.requires.inside in
    record { near = (turned t.a t.c c.requires.near.1, n.2, n.0) }

pub turn-requires-3 : goal.turn-requires-3
turn-requires-3 c =
    let n = near_corners c.args.t.now c.args.p c.requires.near c.requires.inside in
    record { near = (c.requires.near.0, n.0, n.1) }

pub returns-clause-value : goal.returns-clause-value
returns-clause-value c =
    let t = c.args.t.now in let p = c.args.p in
    let f = c.ranges.first in let g = c.ranges.second in let h = c.ranges.third in
    let a = c.share.result in let b = c.share-2.result in let d = c.share-3.result in
    let fa : SFits w128 a = search rules in let fb : SFits w128 b = search rules in let fd : SFits w128 d =
    search rules in
    let fu : SFits w128 c.turn.result = search rules in let fv : SFits w128 c.turn-2.result = search rules in
    let fw : SFits w128 c.turn-3.result = search rules in let fr : SFits w128 c.together.result = search rules in
    let all : c.together.result ≡ a +ℤ b +ℤ d = simp to_z-of_z at c.together.ensures.value in
    let of_a : a ≡ c.turn.result *ℤ c.args.first = simp to_z-of_z at c.share.ensures.value in
    let of_b : b ≡ c.turn-2.result *ℤ c.args.second = simp to_z-of_z at c.share-2.ensures.value in
    let of_d : d ≡ c.turn-3.result *ℤ c.args.third = simp to_z-of_z at c.share-3.ensures.value in
    let is : c.together.result ≡ mixed_by_turns t p c.args.first c.args.second c.args.third =
    all ∙ ap₂ (λ (x y : ℤ). x +ℤ y) (ap₂ (λ (x y : ℤ). x +ℤ y)
    (of_a ∙ ap (λ (z : ℤ). z *ℤ c.args.first) c.turn.ensures.value)
    (of_b ∙ ap (λ (z : ℤ). z *ℤ c.args.second) c.turn-2.ensures.value))
    (of_d ∙ ap (λ (z : ℤ). z *ℤ c.args.third) c.turn-3.ensures.value) in
    simp to_z-of_z is
