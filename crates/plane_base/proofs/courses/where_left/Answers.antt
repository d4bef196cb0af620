-- Answers to the goals of `where_left` in src/courses.rt.
use Rattle.std.proofs.Common.{rules, arith, SFits, pos, ◌≡◌, ◌<ℤ◌, ◌≤ℤ◌}
use Rattle.std.proofs.lemmas.Int.{ints}
use mir.Syntax.{w128}
use Rattle.plane_base.proofs.CommonParts.Parts.{left_rises, left_falls, left_never, left_always}
use Rattle.plane_base.proofs.courses.where_left.Goals as goal

pub returns-then-course-clause-within : goal.returns-then-course-clause-within
returns-then-course-clause-within c =
    let u = c.args.course.start in let v = c.args.course.end in
    let f : SFits w128 u = search rules in let g : SFits w128 v = search rules in
    let h : u <ℤ v = omega (arith, ints) in
    λ n d p. left_rises u v c.zero_of.result c.at_end.result n d h c.zero_of.ensures.zero c.at_end.ensures p

pub returns-then-course-2-clause-within : goal.returns-then-course-2-clause-within
returns-then-course-2-clause-within c =
    let u = c.args.course.start in let v = c.args.course.end in
    let f : SFits w128 u = search rules in let g : SFits w128 v = search rules in
    let h : v <ℤ u = omega (arith, ints) in
    λ n d p. left_falls u v c.at_start.result c.zero_of-then-course-2.result n d h c.zero_of-then-course-2.ensures.zero
    c.at_start.ensures p

pub returns-then-course-lt0-clause-within : goal.returns-then-course-lt0-clause-within
returns-then-course-lt0-clause-within c =
    let u = c.args.course.start in let v = c.args.course.end in
    let f : SFits w128 u = search rules in let g : SFits w128 v = search rules in
    let e : u ≡ v = omega (arith, ints) in let h : u <ℤ pos 0 = omega (arith, ints) in
    λ n d p. left_never u v c.at_end-then-course-lt0.result c.at_start-then-course-lt0.result n d e h
    c.at_end-then-course-lt0.ensures c.at_start-then-course-lt0.ensures p

pub returns-else-course-lt0-clause-within : goal.returns-else-course-lt0-clause-within
returns-else-course-lt0-clause-within c =
    let u = c.args.course.start in let v = c.args.course.end in
    let f : SFits w128 u = search rules in let g : SFits w128 v = search rules in
    let e : u ≡ v = omega (arith, ints) in let h : pos 0 ≤ℤ u = omega (arith, ints) in
    λ n d p. left_always u v c.at_start-else-course-lt0.result c.at_end-else-course-lt0.result n d e h
    c.at_start-else-course-lt0.ensures c.at_end-else-course-lt0.ensures p
