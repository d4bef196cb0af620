-- Answers to the goals of `add_ring` in src/changes.rt.
use Rattle.std.proofs.Common.{◌<◌, ◌≤◌, length, arith}
use Rattle.tin_base.specs.declared.frames.Frame.TheVariants.{Source, Target}
use Rattle.ring_side.proofs.ChangeLists.RingFacts.{near_ring, near_form}
use Rattle.ring_side.proofs.ChangeLists.LooksNear.{forms_of, corners_near}
use Rattle.ring_side.proofs.PointGroups.OrderLemmas.{numbers_of}
use Rattle.ring_side.proofs.ChangeLists.RingChanges.{IsLook, near_below, group_as, ring_begun, ring_step, ring_end}
use Rattle.ring_side.proofs.PointGroups.Sifted.{number_as}
use Rattle.ring_side.proofs.changes.add_ring.Goals as goal
use Rattle.ring_side.proofs.changes.add_ring.Goals.{then-loop-place-test+else-len-most, else-loop-place-test}

pub add_turn-requires-clause-was : goal.add_turn-requires-clause-was
add_turn-requires-clause-was c =
    let ring = c.requires.ring in
    near_form c.args.ring.now.source.points.now _ ring.source.same
    (near_ring c.args.sheets.now c.args.images.now Source c.args.ring.now.layer c.args.ring.now.path c.requires.layers ring.is_path)

pub add_turn-requires-clause-now : goal.add_turn-requires-clause-now
add_turn-requires-clause-now c =
    let ring = c.requires.ring in
    near_form c.args.ring.now.target.points.now _ ring.target.same
    (near_ring c.args.sheets.now c.args.images.now Target c.args.ring.now.layer c.args.ring.now.path c.requires.layers ring.is_path)

pub near_groups-requires-clause-forms : goal.near_groups-requires-clause-forms
near_groups-requires-clause-forms c =
    forms_of c.args.sheets.now c.args.images.now c.args.ring.now c.requires.layers c.requires.ring

pub near_groups-requires-clause-near : goal.near_groups-requires-clause-near
near_groups-requires-clause-near c =
    corners_near c.args.sheets.now c.args.images.now c.args.places.now c.args.ring.now c.requires.layers c.requires.places c.requires.ring

pub near_groups-requires-clause-source : goal.near_groups-requires-clause-source
near_groups-requires-clause-source c = grind (arith, numbers_of)

pub near_groups-requires-clause-target : goal.near_groups-requires-clause-target
near_groups-requires-clause-target c = grind (arith, numbers_of)

pub near_groups-requires-clause-groups : goal.near_groups-requires-clause-groups
near_groups-requires-clause-groups c = c.requires.places.source.same

pub loop-place-init : goal.loop-place-init
loop-place-init c = (
  omega arith,
  ring_begun c.args.sheets.now c.args.images.now c.args.places.now c.args.ring.now c.args.most c.add_turn.new.changes.items
      c.requires.places,
)

pub index-group-requires : goal.index-group-requires
index-group-requires c = grind (arith, IsLook, number_as, near_below)

pub add_group-requires-clause-group : goal.add_group-requires-clause-group
add_group-requires-clause-group c = grind (arith, IsLook, number_as, near_below)

pub loop-place-preserved : goal.loop-place-preserved
loop-place-preserved c =
    let look : IsLook c.args.sheets.now c.args.images.now c.args.places.now c.args.ring.now c.in_ok-near.near.items =
    record { places_are = c.requires.places; ring_is = c.requires.ring; candidates = c.in_ok-near.ensures } in
    let test = c.loop-place-test.true in
    let len = c.len.ensures in
    let long = c.in_ok-near.near.ok.0 in
    let within : c.loop-place.place < length c.in_ok-near.near.items = omega (arith, test, len, long) in
    let number = number_as c.in_ok-near.near.items c.loop-place.place c.index.result.now within c.index.ensures in
    let below = near_below c.args.sheets.now c.args.images.now c.args.places.now c.args.ring.now c.in_ok-near.near.items
    c.loop-place.place look within in
    let count = c.len-in-loop-place.ensures in
    let fits = c.if-len-most.true in
    let all = c.loop-place.changes.ok.0 in
    let few : length c.loop-place.changes.items ≤ c.args.most = omega (arith, count, fits, all) in (
      omega (arith, within),
      ring_step c.args.sheets.now c.args.images.now c.args.places.now c.args.ring.now c.in_ok-near.near.items c.loop-place.place
          c.args.most c.loop-place.changes.items c.add_group.new.changes.items _ c.index.result.now c.index-group.result.now look
          within few number
          (group_as c.args.places.now.groups.items c.index.result.now c.index-group.result.now (omega (arith, number, below))
          c.index-group.ensures)
          c.loop-place.invariant.1 c.in_ok-add_group.ensures,
    )

pub returns : goal.returns
returns c =
    let look : IsLook c.args.sheets.now c.args.images.now c.args.places.now c.args.ring.now c.in_ok-near.near.items =
    record { places_are = c.requires.places; ring_is = c.requires.ring; candidates = c.in_ok-near.ensures } in
    let len = c.len.ensures in
    let long = c.in_ok-near.near.ok.0 in
    let all = c.loop-place.changes.ok.0 in
    let exit : length c.loop-place.changes.items ≤ c.args.most → length c.in_ok-near.near.items ≤ c.loop-place.place =
    elim c.loop-place-test.branch [
      | then-loop-place-test+else-len-most w ↦
          λ (few : length c.loop-place.changes.items ≤ c.args.most).
          let over = w.if-len-most.false in let count = w.len-in-loop-place.ensures in
          absurd (omega (arith, over, count, all, few))
      | else-loop-place-test w ↦
          λ (few : length c.loop-place.changes.items ≤ c.args.most).
          let past = w.loop-place-test.false in omega (arith, past, len, long)
    ] in
    ring_end c.args.sheets.now c.args.images.now c.args.places.now c.args.ring.now c.in_ok-near.near.items c.loop-place.place
    c.args.most c.args.changes.now.items c.add_turn.new.changes.items c.loop-place.changes.items look c.in_ok-add_turn.ensures
    c.loop-place.invariant.0 exit c.loop-place.invariant.1
