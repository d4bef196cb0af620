-- The invariant of the loop of `make_room_for_rings` in src/rooms.rt.
use Rattle.std.proofs.Common.{ℕ, ◌≤◌, List, take, vec_capacity}
use Rattle.place_runs.specs.InsideMaps.{AreRingsWithin}
use Rattle.place_runs.proofs.rooms.make_room_for_rings.Given as goal

abbrev pub invariant-loop-ring : goal.invariant-loop-ring
invariant-loop-ring l = record {
  capacity : vec_capacity l.initial.room ≤ vec_capacity l.room;
  within : (names : List (List ℕ))
      → AreRingsWithin names l.map (vec_capacity l.room) (take l.ring-index l.map.rings.items);
}
