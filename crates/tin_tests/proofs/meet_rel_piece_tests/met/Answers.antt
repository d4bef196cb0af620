-- Answers to the goals of `met` in src/meet_rel_piece_tests.rt.
use Rattle.std.proofs.Common.{sym, subst}
use Rattle.tin_base.specs.Triangulation.{Triangulation}
use Rattle.tin_base.specs.Pieces.{IsPieceInside}
use Rattle.tin_tests.proofs.meet_rel_piece_tests.met.Goals as goal

pub piece_rel-requires-clause-p : goal.piece_rel-requires-clause-p
piece_rel-requires-clause-p c =
    subst (λ (tin : Triangulation). IsPieceInside tin c.args.p.now) (sym c.tin.ensures)
    (c.is_inside.ensures c.if-not-is_inside.false)

pub piece_rel-requires-clause-q : goal.piece_rel-requires-clause-q
piece_rel-requires-clause-q c =
    subst (λ (tin : Triangulation). IsPieceInside tin c.args.q.now) (sym c.tin.ensures)
    (c.is_inside-2.ensures c.if-not-is_inside-2.false)
