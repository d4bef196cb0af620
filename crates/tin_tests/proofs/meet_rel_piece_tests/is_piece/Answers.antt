-- Answers to the goals of `is_piece` in src/meet_rel_piece_tests.rt.
use Rattle.std.proofs.Common.{◌≡◌, rules}
use Rattle.tin_tests.proofs.OwnPieces.{point_piece}
use Rattle.tin_tests.proofs.meet_rel_piece_tests.is_piece.Goals as goal

pub returns-then-eq : goal.returns-then-eq
returns-then-eq c = λ yes.
    let same : c.args.piece.now.a ≡ c.args.piece.now.b = search rules in
    point_piece c.args.tin.now c.args.piece.now c.requires same (c.has_point.ensures yes)
