-- Answers to the goals of `spread_pair` in src/members.rt.
use Rattle.std.proofs.Common.{◌<◌, length, get_or, arith, Contains}
use Rattle.std.proofs.lemmas.List.{get_or_default}
use Rattle.topo_check.proofs.Sorts.{across_more, across_all}
use Rattle.topo_check.proofs.members.spread_pair.Goals as goal

pub collect_with-requires-clause-number : goal.collect_with-requires-clause-number
collect_with-requires-clause-number c =
    let numbers = c.args.numbers.now in let number = get_or numbers c.loop-place.place 0 in
    let here : c.loop-place.place < length numbers =
    c.loop-place-test.true in c.requires.numbers number
    (c.loop-place.place, here, get_or_default numbers c.loop-place.place number 0 here)

pub collect_with-requires-clause-different : goal.collect_with-requires-clause-different
collect_with-requires-clause-different c = λ other h e.
    let numbers = c.args.numbers.now in let number = get_or numbers c.loop-place.place 0 in
    let here : c.loop-place.place < length numbers =
    c.loop-place-test.true in c.requires.different number other
    (c.loop-place.place, here, get_or_default numbers c.loop-place.place number 0 here) h e

pub loop-place-preserved : goal.loop-place-preserved
loop-place-preserved c =
    let here : c.loop-place.place < length c.args.numbers.now = c.loop-place-test.true in (
      omega (arith, here),
      across_more c.args.tin.now c.args.pieces.now c.args.most c.args.numbers.now c.args.others.now c.loop-place.place
          c.args.pairs.now.items c.loop-place.pairs.items c.collect_with.new.pairs.items c.requires.numbers_once here
          c.requires.different c.loop-place.invariant.1 c.in_ok-collect_with.ensures,
    )

pub returns-else-len-most : goal.returns-else-len-most
returns-else-len-most c =
    across_all c.args.tin.now c.args.pieces.now c.args.most c.args.numbers.now (Contains c.args.others.now)
    c.loop-place.place c.args.pairs.now.items c.loop-place.pairs.items c.loop-place.invariant.0
    (λ few. absurd (omega (arith, few, c.len.ensures, c.if-len-most.false, c.loop-place.pairs.ok.0)))
    c.loop-place.invariant.1

pub returns-after-loop-place : goal.returns-after-loop-place
returns-after-loop-place c =
    across_all c.args.tin.now c.args.pieces.now c.args.most c.args.numbers.now (Contains c.args.others.now)
    c.loop-place.place c.args.pairs.now.items c.loop-place.pairs.items c.loop-place.invariant.0
    (λ few. c.loop-place-test.false) c.loop-place.invariant.1
