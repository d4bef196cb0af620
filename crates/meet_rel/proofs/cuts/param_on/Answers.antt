-- Answers to the goals of `param_on` in src/cuts.rt.
use Rattle.std.proofs.Common.{◌<ℤ◌, rules, arith, SFits}
use Rattle.std.proofs.lemmas.Int.{ints, to_z-of_z}
use mir.Syntax.{w64}
use Rattle.meet_rel.proofs.LinePoints.{first_up, second_up, upright_of, stands_first, stands_second}
use Rattle.meet_rel.proofs.cuts.param_on.Goals as goal

pub share_of-requires-clause-between : goal.share_of-requires-clause-between
share_of-requires-clause-between c =
    let u = c.args.u in let v = c.args.v in let p = c.args.p in
    let fu : SFits w64 u.x = search rules in let fv : SFits w64 v.x = search rules in let fp : SFits w64 p.x =
    search rules in
    simp to_z-of_z (first_up u p c.requires.from, first_up p v c.requires.to)

pub share_of-requires-else-u-v-clause-order : goal.share_of-requires-else-u-v-clause-order
share_of-requires-else-u-v-clause-order c =
    let u = c.args.u in let v = c.args.v in let p = c.args.p in
    let fu : SFits w64 u.y = search rules in let fv : SFits w64 v.y = search rules in
    let k = upright_of u v p c.requires.before (λ (h : u.x <ℤ v.x). absurd (omega (arith, ints))) c.requires.from
    c.requires.to in
    simp to_z-of_z k.1

pub share_of-requires-else-u-v-clause-between : goal.share_of-requires-else-u-v-clause-between
share_of-requires-else-u-v-clause-between c =
    let u = c.args.u in let v = c.args.v in let p = c.args.p in
    let fu : SFits w64 u.y = search rules in let fv : SFits w64 v.y = search rules in let fp : SFits w64 p.y =
    search rules in
    let k = upright_of u v p c.requires.before (λ (h : u.x <ℤ v.x). absurd (omega (arith, ints))) c.requires.from
    c.requires.to in
    simp to_z-of_z (second_up u p c.requires.from k.2, second_up p v c.requires.to k.3)

pub returns-then-u-v : goal.returns-then-u-v
returns-then-u-v c =
    let u = c.args.u in let v = c.args.v in let p = c.args.p in
    let fu : SFits w64 u.x = search rules in let fv : SFits w64 v.x = search rules in let fp : SFits w64 p.x =
    search rules in
    let h : u.x <ℤ v.x = omega (arith, ints) in
    stands_first u v p c.share_of.result h c.requires.from c.requires.to c.requires.on
    (simp to_z-of_z at c.share_of.ensures.num) (simp to_z-of_z at c.share_of.ensures.den)

pub returns-else-u-v : goal.returns-else-u-v
returns-else-u-v c =
    let u = c.args.u in let v = c.args.v in let p = c.args.p in
    let fu : SFits w64 u.y = search rules in let fv : SFits w64 v.y = search rules in let fp : SFits w64 p.y =
    search rules in
    stands_second u v p c.share_of-else-u-v.result c.requires.before (λ (h : u.x <ℤ v.x). absurd (omega (arith, ints)))
    c.requires.from c.requires.to
    (simp to_z-of_z at c.share_of-else-u-v.ensures.num) (simp to_z-of_z at c.share_of-else-u-v.ensures.den)
