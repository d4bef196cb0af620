-- Answers to the goals of `mixed_offset` in src/offsets.rt.
use Rattle.std.proofs.Common.{rules, SFits}
use Rattle.std.proofs.lemmas.Int.{to_z-of_z}
use mir.Syntax.{w128}
use Rattle.tin_height.proofs.MixedOffsets.{rounded}
use Rattle.tin_height.proofs.offsets.mixed_offset.Goals as goal

pub overflow_cast-result : goal.overflow_cast-result
overflow_cast-result c =
    let f = c.ranges.first in let g = c.ranges.second in let h = c.ranges.third in
    let fr : SFits w128 c.half_up.result = search rules in let fm : SFits w128 c.mix_offsets.result = search rules in
    let ft : SFits w128 c.turn.result = search rules in
    let it = rounded c.args.t.now c.args.p c.args.first c.args.second c.args.third c.half_up.result
    c.mix_offsets.result c.turn.result c.requires.positive c.requires.inside c.requires.first c.requires.second
    c.requires.third (simp to_z-of_z at c.mix_offsets.ensures.value) c.turn.ensures.value
    (simp to_z-of_z at c.half_up.ensures) in
    let short = it.fits in
    simp to_z-of_z short

pub returns : goal.returns
returns c =
    let f = c.ranges.first in let g = c.ranges.second in let h = c.ranges.third in
    let fr : SFits w128 c.half_up.result = search rules in let fm : SFits w128 c.mix_offsets.result = search rules in
    let ft : SFits w128 c.turn.result = search rules in
    let it = rounded c.args.t.now c.args.p c.args.first c.args.second c.args.third c.half_up.result
    c.mix_offsets.result c.turn.result c.requires.positive c.requires.inside c.requires.first c.requires.second
    c.requires.third (simp to_z-of_z at c.mix_offsets.ensures.value) c.turn.ensures.value
    (simp to_z-of_z at c.half_up.ensures) in
    let short = it.fits in
    record { value = simp to_z-of_z it.value; size = simp to_z-of_z it.size }
