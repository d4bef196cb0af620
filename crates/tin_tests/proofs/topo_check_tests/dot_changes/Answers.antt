-- Answers to the goals of `found` in src/topo_check_tests.rt.
use Rattle.std.proofs.Common.{List, sym, subst}
use Rattle.tin_base.specs.declared.pieces.Piece.{Piece}
use Rattle.topo_check.specs.Changes.{AreAllComparable}
use Rattle.tin_tests.proofs.SegmentTests.{all_comparable}
use Rattle.tin_tests.proofs.topo_check_tests.dot_changes.Goals as goal

pub changes-requires-clause-comparable : goal.changes-requires-clause-comparable
changes-requires-clause-comparable c =
    subst (λ (ps : List Piece). AreAllComparable c.in_ok-tin.tin ps) (sym c.deref.ensures.value)
    (all_comparable c.in_ok-tin.tin c.in_ok-pieces.pieces.items c.in_ok-pieces.ensures)
