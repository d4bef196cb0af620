-- Answers to the goals of `course_of` in src/courses.rt.
use Rattle.std.proofs.Common.{rules, SFits}
use Rattle.std.proofs.lemmas.Int.{to_z-of_z}
use mir.Syntax.{w128}
use Rattle.plane_base.proofs.CommonParts.Slices.{apart_size}
use Rattle.plane_base.proofs.courses.course_of.Goals as goal

pub invariant_of-result : goal.invariant_of-result
invariant_of-result c =
    let u : SFits w128 c.turn.result = search rules in let v : SFits w128 c.turn-2.result = search rules in
    simp to_z-of_z (record {
      start_small = c.turn.ensures.size;
      fall_small = apart_size c.args.p c.args.q c.args.a c.args.b c.turn.result c.turn-2.result c.requires.near_a.0
          c.requires.near_ab c.turn.ensures.value c.turn-2.ensures.value;
    })
