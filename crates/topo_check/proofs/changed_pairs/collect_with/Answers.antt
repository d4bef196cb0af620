-- Answers to the goals of `collect_with` in src/changed_pairs.rt.
use Rattle.std.proofs.Common.{◌<◌, length, get_or, refl, arith}
use Rattle.std.proofs.lemmas.List.{get_or_default}
use Rattle.topo_check.proofs.Passes.{with_more, with_all}
use Rattle.topo_check.proofs.changed_pairs.collect_with.Goals as goal

pub compare-requires-clause-second : goal.compare-requires-clause-second
compare-requires-clause-second c =
    let other = get_or c.args.others.now c.loop-place.place 0 in
    let here : c.loop-place.place < length c.args.others.now = c.loop-place-test.true in
    let within = c.requires.within other (
      c.loop-place.place,
      here,
      get_or_default c.args.others.now c.loop-place.place
          other 0 here,
    ) in
    omega (arith, c.max.ensures, c.requires.number, within)

pub loop-place-preserved : goal.loop-place-preserved
loop-place-preserved c =
    let here : c.loop-place.place < length c.args.others.now = c.loop-place-test.true in (
      omega (arith, here),
      with_more c.args.tin.now c.args.pieces.now c.args.most c.args.frame c.args.number c.args.others.now
          c.loop-place.place (get_or c.args.others.now c.loop-place.place 0) c.min.result c.max.result
          c.args.pairs.now.items
          c.loop-place.pairs.items c.compare.new.pairs.items c.requires.once here refl c.min.ensures c.max.ensures
          c.loop-place.invariant.1 c.in_ok-compare.ensures,
    )

pub returns-after-loop-place : goal.returns-after-loop-place
returns-after-loop-place c =
    with_all c.args.tin.now c.args.pieces.now c.args.most c.args.frame c.args.number c.args.others.now
    c.loop-place.place c.args.pairs.now.items c.loop-place.pairs.items c.loop-place.invariant.0
    (λ few. c.loop-place-test.false)
    c.loop-place.invariant.1
