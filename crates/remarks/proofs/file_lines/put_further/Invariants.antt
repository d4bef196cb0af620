-- The invariant of the loop of `put_further` in src/file_lines.rt.
use Rattle.std.proofs.Common.{◌≡◌, ◌++◌, take}
use Rattle.std.specs.Prelude.{string_bytes}
use Rattle.std.specs.List.{flat_map}
use Rattle.remarks.specs.FileLines.{further_kind}
use Rattle.remarks.proofs.file_lines.put_further.Given as goal

abbrev pub invariant-loop-kind : goal.invariant-loop-kind
invariant-loop-kind l = string_bytes l.text ≡ string_bytes l.initial.text
    ++ flat_map further_kind (take l.kind-index l.kinds)
