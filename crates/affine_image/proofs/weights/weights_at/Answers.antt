-- Answers to the goals of `weights_at` in src/weights.rt.
use Rattle.std.proofs.Common.{rules, SFits}
use Rattle.std.proofs.lemmas.Int.{to_z-of_z}
use mir.Syntax.{w128}
use Rattle.affine_image.proofs.Near.{near_corners, turned}
use Rattle.affine_image.proofs.WeightedImages.{not_negative, within_whole, positive_by}
use Rattle.affine_image.proofs.weights.weights_at.Goals as goal

pub turn-requires : goal.turn-requires
turn-requires c =
    let t = c.args.t.now in let n = near_corners t c.args.p c.requires.near c.requires.inside in
    record { near = (turned t.a t.c c.requires.near.1, n.2, n.0) }

pub turn-requires-2 : goal.turn-requires-2
turn-requires-2 c =
    let n = near_corners c.args.t.now c.args.p c.requires.near c.requires.inside in
    record { near = (c.requires.near.0, n.0, n.1) }

pub invariant_of-result : goal.invariant_of-result
invariant_of-result c =
    let t = c.args.t.now in let p = c.args.p in
    let u = c.turn.result in let v = c.turn-2.result in let d = c.turn-3.result in
    let f : SFits w128 u = search rules in let g : SFits w128 v = search rules in let h : SFits w128 d = search rules in
    let kept = not_negative t p u v c.requires.positive c.requires.inside c.turn.ensures.value c.turn-2.ensures.value in
    simp to_z-of_z (record {
      second_kept = kept.0;
      third_kept = kept.1;
      rest_kept = within_whole t p u v d c.requires.positive c.requires.inside c.turn.ensures.value
          c.turn-2.ensures.value c.turn-3.ensures.value;
      positive = positive_by t d c.requires.positive c.turn-3.ensures.value;
      small = c.turn-3.ensures.size;
    })
