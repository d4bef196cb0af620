-- The invariant of the loop of `put_names` in src/texts.rt.
use Rattle.std.proofs.Common.{◌≡◌, ◌++◌, ◌≤◌, take, vec_capacity}
use Rattle.change_places.specs.PlacesText.{names_text}
use Rattle.change_places.proofs.texts.put_names.Given as goal

abbrev pub invariant-loop-number : goal.invariant-loop-number
invariant-loop-number l = record {
  text : l.out.items ≡ l.initial.out.items ++ names_text 0 (take l.number l.names);
  capacity : vec_capacity l.initial.out ≤ vec_capacity l.out;
}
