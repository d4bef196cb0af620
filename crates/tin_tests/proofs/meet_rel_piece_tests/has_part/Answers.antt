-- Answers to the goals of `has_part` in src/meet_rel_piece_tests.rt.
use Rattle.std.proofs.Common.{rules}
use Rattle.tin_base.specs.Limits.{IsWithinLimits}
use Rattle.tin_tests.proofs.OwnPieces.{part_piece}
use Rattle.tin_tests.proofs.meet_rel_piece_tests.has_part.Goals as goal

pub returns-in-Some : goal.returns-in-Some
returns-in-Some c = λ yes.
    let limits : IsWithinLimits c.args.tin.now = search rules in
    part_piece c.args.tin.now c.args.piece.now c.in-Some.stretch limits c.requires.in_range c.requires.differ
    c.in-Some.ensures.some (c.is_below.ensures.0 yes)
