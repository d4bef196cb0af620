-- The invariants of `repeat_of` in src/extrusions.rt.
use Rattle.std.proofs.Common.{◌≡◌, [], take, drop}
use Rattle.dxf_entities.specs.Kinds.{repeat_of}
use Rattle.dxf_entities.proofs.extrusions.find_repeat.Given as goal

abbrev pub invariant-loop-number : goal.invariant-loop-number
invariant-loop-number l = repeat_of (take l.number l.fields) (drop l.number l.fields) ≡ repeat_of [] l.fields
