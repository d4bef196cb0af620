-- Answers to the goals of `make_room_for_rings` in src/rooms.rt.
use Rattle.std.proofs.Common.{◌<◌, ◌≤◌, ◌^◌, length, vec_capacity, rules, arith}
use Rattle.std.proofs.Math.Nat.{le_trans}
use Rattle.place_runs.proofs.PrintedMaps.MapParts.{one_more_ring}
use Rattle.place_runs.proofs.rooms.make_room_for_rings.Goals as goal

pub loop-ring-preserved : goal.loop-ring-preserved
loop-ring-preserved c =
    let on = c.args.map.now in
    let number = c.loop-ring.ring-index in
    let room = vec_capacity c.reserve.new.self in
    let before = length on.changes.items in
    let within : number < length on.rings.items = rw c.deref-ring-items.ensures.value at c.loop-ring-test.true in
    let all : length on.rings.items < 2 ^ 64 = search rules in
    let small : number < 2 ^ 64 = omega (arith, within, all) in
    let order : vec_capacity c.loop-ring.room ≤ room = c.in_ok-reserve.ensures.capacity in
    let fits : c.most_ring_bytes.result ≤ room = omega (arith, c.in_ok-reserve.ensures.ok) in
    record {
      capacity = omega (arith, c.loop-ring.invariant.capacity, order);
      within = λ names. one_more_ring names on (vec_capacity c.loop-ring.room) room number _ order within
          (c.loop-ring.invariant.within names)
          (le_trans (rw (c.deref.ensures.value, c.deref-ring-items.ensures.value) at
          c.most_ring_bytes.ensures.most on.style names before number small) fits);
    }
