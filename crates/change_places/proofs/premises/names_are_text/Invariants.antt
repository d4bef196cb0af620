-- The invariant of the loop of `names_are_text` in src/premises.rt.
use Rattle.std.proofs.Common.{take, IsUtf8}
use Rattle.std.specs.List.{AllByRecursion}
use Rattle.change_places.proofs.premises.names_are_text.Given as goal

abbrev pub invariant-loop-name : goal.invariant-loop-name
invariant-loop-name l = AllByRecursion IsUtf8 (take l.name-index l.names)
