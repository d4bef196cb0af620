-- The invariants of `handle_number` in src/handle_counts.rt.
use Rattle.std.proofs.Common.{◌≡◌, ◌<◌, ◌^◌, take}
use Rattle.dxf_copies.specs.Rendering.{handle_number}
use Rattle.dxf_copies.proofs.handle_counts.handle_number.Given as goal

abbrev pub invariant-loop-byte : goal.invariant-loop-byte
invariant-loop-byte l = record {
  so_far : l.number ≡ handle_number (take l.byte-index l.text);
  small : l.number < 16 ^ l.byte-index;
}
