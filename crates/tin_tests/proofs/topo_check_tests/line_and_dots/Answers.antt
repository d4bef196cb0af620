-- Answers to the goals of `line_and_dots` in src/topo_check_tests.rt.
use Rattle.std.proofs.Common.{All, List, sym, subst}
use Rattle.std.proofs.lemmas.List.Elements.{All-push}
use Rattle.tin_base.specs.declared.pieces.Piece.{Piece}
use Rattle.tin_tests.specs.Small.{IsTried}
use Rattle.tin_tests.proofs.topo_check_tests.line_and_dots.Goals as goal

pub loop-number-preserved : goal.loop-number-preserved
loop-number-preserved c =
    let tin = c.args.tin.now in let before = c.loop-number.pieces.items in let dot = c.in_ok-dot.field-0 in let other =
    c.in_ok-dot-2.field-0 in
    let one : All (λ p. IsTried tin p) c.push-in-loop-number.new.self.items =
    subst (λ (ps : List Piece). All (λ p. IsTried tin p) ps) (sym c.in_ok-push-2.ensures.items)
    (All-push (λ p. IsTried tin p) before dot c.loop-number.invariant c.in_ok-dot.ensures) in
    subst (λ (ps : List Piece). All (λ p. IsTried tin p) ps) (sym c.in_ok-push-3.ensures.items)
    (All-push (λ p. IsTried tin p) c.push-in-loop-number.new.self.items other one c.in_ok-dot-2.ensures)
