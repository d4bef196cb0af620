-- The invariants of `push_all_fields` in src/copies.rt.
use Rattle.std.proofs.Common.{◌≡◌, ◌++◌, drop}
use Rattle.std.specs.Prelude.{flat_map}
use Rattle.dxf_copies.specs.Rendering.{field_copy}
use Rattle.dxf_copies.proofs.copies.push_all_fields.Given as goal

abbrev pub invariant-loop-image : goal.invariant-loop-image
invariant-loop-image l = l.out.items ++ flat_map (field_copy l.bytes l.x l.y) (drop l.image-index l.images)
    ≡ l.fn.out.items ++ flat_map (field_copy l.bytes l.x l.y) l.images
