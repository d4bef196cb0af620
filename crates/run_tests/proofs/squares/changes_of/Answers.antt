-- Answers to the goals of `changes_of` in src/squares.rt.
use Rattle.std.proofs.Common.{subst, sym, List, ◌++◌}
use Rattle.tin_base.specs.declared.pieces.Piece.{Piece}
use Rattle.tin_base.specs.Limits.{IsWithinLimits}
use Rattle.tin_base.specs.Triangulation.{Triangulation}
use Rattle.topo_check.specs.Changes.{AreAllComparable}
use Rattle.migrate_mode.proofs.ComparablePieces.{pieces_are_comparable}
use Rattle.run_tests.proofs.squares.changes_of.Goals as goal

pub changes-requires-clause-comparable : goal.changes-requires-clause-comparable
changes-requires-clause-comparable c =
    let tin : Triangulation = c.in_ok-index.index in
    let own = c.in-Ok.ensures.pieces in
    let limits : IsWithinLimits tin = subst (λ (t : Triangulation). IsWithinLimits t) c.tin.ensures
    c.show_soundness.ensures.limits in
    let all : AreAllComparable tin own.0 = pieces_are_comparable tin 0 c.in_ok-sheet.sheet own.0 limits
    c.in-Ok.ensures.inside own.2 in
    let behind : AreAllComparable tin (c.new-pieces.result.items ++ own.0) =
    subst (λ (front : List Piece). AreAllComparable tin (front ++ own.0)) (sym c.new-pieces.ensures.items) all in
    let carried : AreAllComparable tin c.carry.new.pieces.items =
    subst (λ (ps : List Piece). AreAllComparable tin ps) (sym own.1) behind in
    let seen : AreAllComparable tin c.deref.result.now =
    subst (λ (ps : List Piece). AreAllComparable tin ps) (sym c.deref.ensures.value) carried in
    subst (λ (t : Triangulation). AreAllComparable t c.deref.result.now) (sym c.tin-in-Ok.ensures) seen
