-- Answers to the goals of `line_and_copies` in src/topo_check_copy_tests.rt.
use Rattle.std.proofs.Common.{All, List, sym, subst}
use Rattle.std.proofs.lemmas.List.Elements.{All-push}
use Rattle.tin_base.specs.declared.pieces.Piece.{Piece}
use Rattle.tin_tests.specs.Small.{IsTried}
use Rattle.tin_tests.proofs.topo_check_copy_tests.line_and_copies.Goals as goal

pub loop-number-preserved : goal.loop-number-preserved
loop-number-preserved c =
    let tin = c.args.tin.now in
    subst (λ (ps : List Piece). All (λ p. IsTried tin p) ps) (sym c.in_ok-push-2.ensures.items)
    (All-push (λ p. IsTried tin p) c.loop-number.pieces.items c.in_ok-dot.field-0 c.loop-number.invariant
    c.in_ok-dot.ensures)
