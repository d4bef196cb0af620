-- Answers to the goals of `add_near` in src/changes.rt.
use Rattle.std.proofs.Common.{◌≡◌, ◌+◌, ◌-◌, ◌<◌, length, arith}
use Rattle.ring_side.proofs.PointGroups.Sifted.{number_in, number_as, sifted_quiet, sifted_pushed}
use Rattle.ring_side.proofs.changes.add_near.Goals as goal

pub is_quiet-requires-clause-groups : goal.is_quiet-requires-clause-groups
is_quiet-requires-clause-groups c = grind (arith, number_in)

pub is_quiet-requires-clause-source : goal.is_quiet-requires-clause-source
is_quiet-requires-clause-source c = grind (arith, number_in)

pub is_quiet-requires-clause-target : goal.is_quiet-requires-clause-target
is_quiet-requires-clause-target c = grind (arith, number_in)

pub loop-place-preserved : goal.loop-place-preserved
loop-place-preserved c =
    let low = c.loop-place.invariant.1 in
    let end = c.requires.within in
    let more = c.loop-place-test.true in
    let inside : c.loop-place.place - 1 < length c.args.places.now.order.items = omega arith in
    let next : c.loop-place.place ≡ c.loop-place.place - 1 + 1 = omega arith in (
      omega arith,
      omega arith,
      sifted_quiet c.args.ring.now c.args.places.now c.loop-place.numbers.items (c.loop-place.place - 1) c.loop-place.place
          c.index-number.result.now next
          (number_as c.args.places.now.order.items (c.loop-place.place - 1) c.index-number.result.now inside c.index-number.ensures)
          (c.is_quiet.ensures c.if-not-is_quiet.false)
          c.loop-place.invariant.2,
    )

pub loop-place-preserved-in-Continue-1 : goal.loop-place-preserved-in-Continue-1
loop-place-preserved-in-Continue-1 c = grind (arith, sifted_pushed, number_as)
