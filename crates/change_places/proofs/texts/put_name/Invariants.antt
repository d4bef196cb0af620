-- The invariant of the loop of `put_name` in src/texts.rt.
use Rattle.std.proofs.Common.{◌≡◌, ◌++◌, ◌≤◌, take, vec_capacity}
use Rattle.change_places.specs.PlacesText.{name_text}
use Rattle.change_places.proofs.texts.put_name.Given as goal

abbrev pub invariant-loop-byte : goal.invariant-loop-byte
invariant-loop-byte l = record {
  text : l.out.items ≡ l.initial.out.items ++ name_text (take l.byte-index l.name);
  capacity : vec_capacity l.initial.out ≤ vec_capacity l.out;
}
