-- The invariant of the loop of `make_room_for_changes` in src/rooms.rt.
use Rattle.std.proofs.Common.{ℕ, ◌≤◌, List, take, vec_capacity}
use Rattle.place_runs.specs.InsideMaps.{AreChangesWithin}
use Rattle.place_runs.proofs.rooms.make_room_for_changes.Given as goal

abbrev pub invariant-loop-change : goal.invariant-loop-change
invariant-loop-change l = record {
  capacity : vec_capacity l.initial.room ≤ vec_capacity l.room;
  within : (names : List (List ℕ))
      → AreChangesWithin names l.map (vec_capacity l.room) (take l.change-index l.map.changes.items);
}
