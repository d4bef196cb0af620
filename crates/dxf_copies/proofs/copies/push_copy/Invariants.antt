-- The invariants of `push_copy` in src/copies.rt.
use Rattle.std.proofs.Common.{◌≡◌, ◌++◌, drop}
use Rattle.dxf_entities.specs.EntityViews.{entity_view}
use Rattle.dxf_entities.specs.Entities.{entity_end}
use Rattle.dxf_copies.specs.Rendering.{copied_from, copy_text}
use Rattle.dxf_copies.proofs.copies.push_copy.Given as goal

abbrev pub invariant-loop-pair : goal.invariant-loop-pair
invariant-loop-pair l =
    l.out.items ++ copied_from l.bytes l.copied (entity_end (entity_view l.entity)) (drop l.pair-index l.pair-items) l.from
    ≡ l.fn.out.items ++ copy_text l.bytes l.copied (entity_view l.entity)
