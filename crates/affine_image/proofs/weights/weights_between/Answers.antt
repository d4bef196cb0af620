-- Answers to the goals of `weights_between` in src/weights.rt.
use Rattle.std.proofs.Common.{rules, ◌≡◌, to_z, of_z, SFits}
use Rattle.std.proofs.lemmas.Int.{to_z-of_z}
use mir.Syntax.{w128}
use Rattle.affine_image.proofs.Sizes.{no_more}
use Rattle.affine_image.proofs.weights.weights_between.Goals as goal

pub invariant_of-result-clause-second_kept : goal.invariant_of-result-clause-second_kept
invariant_of-result-clause-second_kept c =
    let s = c.args.s in
    let f : SFits w128 s.num = search rules in
    simp to_z-of_z c.requires.1

pub invariant_of-result-clause-rest_kept : goal.invariant_of-result-clause-rest_kept
invariant_of-result-clause-rest_kept c =
    let s = c.args.s in
    let f : SFits w128 s.num = search rules in let g : SFits w128 s.den = search rules in
    let n : to_z w128 (of_z w128 s.num) ≡ s.num = simp to_z-of_z in let d : to_z w128 (of_z w128 s.den) ≡ s.den =
    simp to_z-of_z in
    no_more s.num s.den (to_z w128 (of_z w128 s.num)) (to_z w128 (of_z w128 s.den)) n d c.requires.2
