-- Answers to the goals of `make_room_for_changes` in src/rooms.rt.
use Rattle.std.proofs.Common.{ℕ, ◌<◌, ◌≤◌, ◌^◌, List, length, vec_capacity, rules, arith}
use Rattle.change_places.specs.Words.{change_words}
use Rattle.change_places.specs.PlacesText.{change_entry}
use Rattle.place_runs.specs.InsidePieces.{HasPieces}
use Rattle.place_runs.proofs.PrintedMaps.MapParts.{one_more_change, each_at}
use Rattle.place_runs.proofs.rooms.make_room_for_changes.Goals as goal

pub spot-requires-clause-pieces : goal.spot-requires-clause-pieces
spot-requires-clause-pieces c =
    rw c.deref-change-items.ensures.value
    (each_at (HasPieces c.args.map.now.pieces.items) c.args.map.now.changes.items c.loop-change.change-index _
    (rw c.deref-change-items.ensures.value at c.loop-change-test.true) c.requires.pieces)

pub loop-change-preserved : goal.loop-change-preserved
loop-change-preserved c =
    let on = c.args.map.now in
    let number = c.loop-change.change-index in
    let room = vec_capacity c.reserve.new.self in
    let text = change_words on.texts.items c.spot.result in
    let within : number < length on.changes.items = rw c.deref-change-items.ensures.value at c.loop-change-test.true in
    let all : length on.changes.items < 2 ^ 64 = search rules in
    let small : number < 2 ^ 64 = omega (arith, within, all) in
    let order : vec_capacity c.loop-change.room ≤ room = c.in_ok-reserve.ensures.capacity in
    let fits : (names : List (List ℕ)) → length (change_entry on.style names number text) ≤ room = λ names.
    let most = rw c.deref.ensures.value at c.most_bytes.ensures.most on.style names number small in
    omega (arith, most, c.in_ok-reserve.ensures.ok) in
    record {
      capacity = omega (arith, c.loop-change.invariant.capacity, order);
      within = λ names. one_more_change names on (vec_capacity c.loop-change.room) room number _ text order within
          (c.loop-change.invariant.within names) (rw c.deref-change-items.ensures.value at c.spot.ensures.spot)
          c.spot.ensures.held (fits names);
    }
