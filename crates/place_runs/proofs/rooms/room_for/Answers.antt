-- Answers to the goals of `room_for` in src/rooms.rt.
use Rattle.std.proofs.Common.{◌≡◌, ◌≤◌, length, vec_capacity, rules, ap, arith}
use Rattle.change_places.specs.PlacesText.{opening_text, end_text}
use Rattle.place_runs.proofs.PrintedMaps.MapParts.{changes_wider, rings_wider}
use Rattle.place_runs.proofs.rooms.room_for.Goals as goal

pub returns-clause-room : goal.returns-clause-room
returns-clause-room c =
    let names = c.args.names.now in
    let on = c.args.map.now in
    let most = vec_capacity c.clear-2.new.self in
    let opening = c.put_opening.new.out in
    let ending = c.put_end.new.out in
    let last : vec_capacity ending ≤ most = omega (arith, c.clear-2.ensures.capacity) in
    let later : vec_capacity c.make_room_for_rings.new.room ≤ most = omega (
      arith,
      last,
      c.clear.ensures.capacity,
      c.in_ok-put_end.ensures.capacity,
    ) in
    let between : vec_capacity c.make_room_for_changes.new.room ≤ most = omega (
      arith,
      later,
      c.in_ok-make_room_for_rings.ensures.capacity,
    ) in
    let first : vec_capacity opening ≤ most = omega (arith, between, c.in_ok-make_room_for_changes.ensures.capacity) in
    let opening_fits : length opening.items ≤ vec_capacity opening = search rules in
    let ending_fits : length ending.items ≤ vec_capacity ending = search rules in
    let opening_is : length opening.items ≡ length (opening_text names) =
    ap length (rw c.new-room.ensures.items at c.in_ok-put_opening.ensures.text) in
    let ending_is : length ending.items ≡ length end_text =
    ap length (rw c.clear.ensures.items at c.in_ok-put_end.ensures.text) in
    record {
      most = most;
      opening = omega (arith, first, opening_fits, opening_is);
      changes = changes_wider names on (vec_capacity c.make_room_for_changes.new.room) most on.changes.items between
          (c.in_ok-make_room_for_changes.ensures.within names);
      rings = rings_wider names on (vec_capacity c.make_room_for_rings.new.room) most on.rings.items later
          (c.in_ok-make_room_for_rings.ensures.within names);
      end = omega (arith, last, ending_fits, ending_is);
      all = omega (arith, c.in_ok-reserve.ensures.ok, c.capacity-most.ensures);
    }
