-- The invariants of `push_between` in src/texts.rt.
use Rattle.std.proofs.Common.{◌≡◌, ◌++◌, ◌≤◌, ◌+◌, true}
use Rattle.dxf_entities.specs.EntityViews.{entity_view}
use Rattle.dxf_copies.specs.Rendering.{line_copies}
use Rattle.dxf_copies.proofs.CopyLists.{IsNext, lines_left, some_of}
use Rattle.dxf_copies.proofs.texts.push_between.Given as goal

-- the copies so far and those that are left are all of them, and no more handles were given than images come after
abbrev pub invariant-loop-number : goal.invariant-loop-number
invariant-loop-number l = (l.out.items ++ lines_left l.bytes (entity_view l.entity) l.handle l.next
    (some_of l.images.points l.images.heights l.number l.past)
    ≡ l.fn.out.items ++ line_copies l.bytes (entity_view l.entity) true l.initial.next
    (some_of l.images.points l.images.heights l.first l.past))
    × IsNext l.initial.next l.handle l.next × (l.next + l.first ≤ l.initial.next + l.number)
