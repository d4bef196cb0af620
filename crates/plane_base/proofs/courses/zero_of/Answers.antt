-- Answers to the goals of `zero_of` in src/courses.rt.
use Rattle.std.proofs.Common.{rules, SFits, pos, ◌-ℤ◌, refl}
use Rattle.std.proofs.lemmas.Int.{to_z-of_z}
use mir.Syntax.{w128}
use Rattle.plane_base.proofs.CommonParts.Parts.{zero_falls, zero_rises, once_falls, once_rises}
use Rattle.plane_base.proofs.Bounds.Sizes.{small_back, small_fits, small_minus}
use Rattle.plane_base.proofs.courses.zero_of.Goals as goal

pub returns-then-course-clause-zero : goal.returns-then-course-clause-zero
returns-then-course-clause-zero c =
    let u = c.args.course.start in let v = c.args.course.end in
    let f = small_fits u c.args.course.start_small in let g : SFits w128 v = search rules in
    let x = small_fits (u -ℤ v) c.args.course.fall_small in
    simp to_z-of_z (zero_falls u v u (u -ℤ v) refl refl)

pub returns-then-course-clause-once : goal.returns-then-course-clause-once
returns-then-course-clause-once c =
    let u = c.args.course.start in let v = c.args.course.end in
    let f = small_fits u c.args.course.start_small in let g : SFits w128 v = search rules in
    let x = small_fits (u -ℤ v) c.args.course.fall_small in
    simp to_z-of_z (λ n d e. once_falls u v u (u -ℤ v) n d refl refl e)

pub returns-clause-zero : goal.returns-clause-zero
returns-clause-zero c =
    let u = c.args.course.start in let v = c.args.course.end in
    let f = small_fits u c.args.course.start_small in let g : SFits w128 v = search rules in
    let x = small_fits (v -ℤ u) (small_back u v c.args.course.fall_small) in
    let y = small_fits (pos 0 -ℤ u) (small_minus u c.args.course.start_small) in
    simp to_z-of_z (zero_rises u v (pos 0 -ℤ u) (v -ℤ u) refl refl)

pub returns-clause-once : goal.returns-clause-once
returns-clause-once c =
    let u = c.args.course.start in let v = c.args.course.end in
    let f = small_fits u c.args.course.start_small in let g : SFits w128 v = search rules in
    let x = small_fits (v -ℤ u) (small_back u v c.args.course.fall_small) in
    let y = small_fits (pos 0 -ℤ u) (small_minus u c.args.course.start_small) in
    simp to_z-of_z (λ n d e. once_rises u v (pos 0 -ℤ u) (v -ℤ u) n d refl refl e)
