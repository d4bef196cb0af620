-- The invariants of `push_vertices` in src/texts.rt.
use Rattle.std.proofs.Common.{◌≡◌, ◌++◌, drop, true}
use Rattle.dxf_entities.specs.EntityViews.{entity_view}
use Rattle.dxf_copies.specs.Rendering.{vertex_copies}
use Rattle.dxf_copies.proofs.CopyLists.{IsFirst, vertices_left}
use Rattle.dxf_copies.proofs.texts.push_vertices.Given as goal

abbrev pub invariant-loop-image : goal.invariant-loop-image
invariant-loop-image l =
    (l.out.items ++ vertices_left l.bytes (entity_view l.entity) l.handle l.next (drop l.image-index l.images) ≡ l.fn.out.items
    ++ vertex_copies l.bytes (entity_view l.entity) true l.initial.next l.images)
    × IsFirst l.initial.next l.image-index l.handle l.next
