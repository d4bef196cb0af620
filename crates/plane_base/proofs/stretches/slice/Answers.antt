-- Answers to the goals of `slice` in src/stretches.rt.
use Rattle.std.proofs.Common.{◌≡◌, pos, IsTrue, refl}
use Rattle.frac128.specs.Fractions.{IsAtMost}
use Rattle.frac128.proofs.Fracs.{at_most_of_not_below}
use Rattle.plane_base.proofs.CommonParts.Slices.{in_iff, both_ways, none_common, some_common, at_lo, at_hi}
use Rattle.plane_base.proofs.CommonParts.PartEnds.{zero_of_one, lies_at, whole_way}
use Rattle.plane_base.proofs.stretches.slice.Goals as goal

pub returns-then-is_below : goal.returns-then-is_below
returns-then-is_below c =
    let a = c.args.a in let b = c.args.b in let t = c.args.t.now in
    let s = c.courses_of-courses.result in let r = c.common_of-common.result in
    record {
      common = none_common a b t r.lo r.hi
          (λ n d k. both_ways (in_iff a b t s n d c.requires.positive c.courses_of-courses.ensures)
          (c.common_of-common.ensures.within n d k))
          (c.if-is_below.ensures.0 refl);
      ends = tt;
      point = λ _. tt;
    }

pub end_at-requires : goal.end_at-requires
end_at-requires c =
    let s = c.courses_of-courses.result in let r = c.common_of-common.result in
    let le : IsAtMost r.lo r.hi = at_most_of_not_below r.hi r.lo (λ k. let e = c.if-is_below.ensures.1 k in cc) in
    zero_of_one (r.lo.num ≡ pos 0) (IsTrue c.is_first.result) s r.lo c.is_first.ensures.1
    ((c.common_of-common.ensures.within r.lo.num r.lo.den r.lo.positive).0 (at_lo r.lo r.hi le))
    c.common_of-common.ensures.lo

pub end_at-requires-2 : goal.end_at-requires-2
end_at-requires-2 c =
    let s = c.courses_of-courses.result in let r = c.common_of-common.result in
    let le : IsAtMost r.lo r.hi = at_most_of_not_below r.hi r.lo (λ k. let e = c.if-is_below.ensures.1 k in cc) in
    zero_of_one (r.hi.num ≡ r.hi.den) (IsTrue c.is_last.result) s r.hi c.is_last.ensures.1
    ((c.common_of-common.ensures.within r.hi.num r.hi.den r.hi.positive).0 (at_hi r.lo r.hi le))
    c.common_of-common.ensures.hi

pub returns-clause-common : goal.returns-clause-common
returns-clause-common c =
    let a = c.args.a in let b = c.args.b in let t = c.args.t.now in
    let s = c.courses_of-courses.result in let r = c.common_of-common.result in
    some_common a b t r.lo r.hi
    (λ n d k. both_ways (in_iff a b t s n d c.requires.positive c.courses_of-courses.ensures)
    (c.common_of-common.ensures.within n d k))
    (at_most_of_not_below r.hi r.lo (λ k. let e = c.if-is_below.ensures.1 k in cc))

pub returns-clause-ends : goal.returns-clause-ends
returns-clause-ends c =
    let a = c.args.a in let b = c.args.b in let t = c.args.t.now in
    let s = c.courses_of-courses.result in let r = c.common_of-common.result in
    let le : IsAtMost r.lo r.hi = at_most_of_not_below r.hi r.lo (λ k. let e = c.if-is_below.ensures.1 k in cc) in
    record {
      enter = lies_at a b t s (IsTrue c.is_first.result) (r.lo.num ≡ pos 0) r.lo c.end_at.result c.requires.positive
          c.courses_of-courses.ensures
          ((c.common_of-common.ensures.within r.lo.num r.lo.den r.lo.positive).0 (at_lo r.lo r.hi le))
          c.is_first.ensures c.end_at.ensures;
      leave = lies_at a b t s (IsTrue c.is_last.result) (r.hi.num ≡ r.hi.den) r.hi c.end_at-2.result c.requires.positive
          c.courses_of-courses.ensures
          ((c.common_of-common.ensures.within r.hi.num r.hi.den r.hi.positive).0 (at_hi r.lo r.hi le)) c.is_last.ensures
          c.end_at-2.ensures;
    }

pub returns-clause-point : goal.returns-clause-point
returns-clause-point c = λ e.
    let r = c.common_of-common.result in
    whole_way c.args.a c.args.b c.args.t.now (record {
      lo = r.lo;
      hi = r.hi;
      enter = c.end_at.result;
      leave =
          c.end_at-2.result;
    }) e (returns-clause-common c) (returns-clause-ends c)
