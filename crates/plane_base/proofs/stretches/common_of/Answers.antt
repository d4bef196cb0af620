-- Answers to the goals of `common_of` in src/stretches.rt.
use Rattle.std.proofs.Common.{refl}
use Rattle.plane_base.specs.Slices.{IsParam}
use Rattle.plane_base.proofs.CommonParts.Slices.{all_of}
use Rattle.plane_base.proofs.CommonParts.Parts.{left_between}
use Rattle.plane_base.proofs.stretches.common_of.Goals as goal

pub returns-then-are_left-clause-within : goal.returns-then-are_left-clause-within
returns-then-are_left-clause-within c = λ n d positive.
    let s = c.args.courses in let left = c.if-are_left.ensures refl in
    let whole = c.whole_way.ensures.within n d positive in (
      λ within.
          let p : IsParam n d = (positive, (whole.0 within).0, (whole.0 within).1) in (
            p,
            left_between s.ab.start s.ab.end n d left.0.0 left.0.1 p,
            left_between s.bc.start s.bc.end n d left.1.0 left.1.1 p,
            left_between s.ca.start s.ca.end n d left.2.0 left.2.1 p,
          ),
      λ all. whole.1 (all.0.1, all.0.2),
    )

pub returns-clause-within : goal.returns-clause-within
returns-clause-within c =
    all_of c.args.courses
    c.whole_way-2.result c.where_left.result c.where_left-2.result c.where_left-3.result c.both.result
    c.both-left_of_all.result c.both-2.result
    c.whole_way-2.ensures.within c.where_left.ensures.within c.where_left-2.ensures.within c.where_left-3.ensures.within
    c.both.ensures.within c.both-left_of_all.ensures.within c.both-2.ensures.within
