-- Answers to the goals of `boundary_and_point` in src/topo_check_copy_tests.rt.
use Rattle.std.proofs.Common.{All, List, sym, subst, arith}
use Rattle.std.proofs.lemmas.List.Elements.{All-push}
use Rattle.tin_base.specs.declared.pieces.Piece.{Piece}
use Rattle.tin_tests.specs.Small.{IsTried}
use Rattle.tin_tests.proofs.topo_check_copy_tests.boundary_and_point.Goals as goal

pub returns : goal.returns
returns c =
    let tin = c.args.tin.now in
    let none : All (λ p. IsTried tin p) c.new-pieces.result.items =
    subst (λ (ps : List Piece). All (λ p. IsTried tin p) ps) (sym c.new-pieces.ensures.items)
    (λ k d within. absurd (omega (arith, within))) in
    let one : All (λ p. IsTried tin p) c.push.new.self.items =
    subst (λ (ps : List Piece). All (λ p. IsTried tin p) ps) (sym c.in_ok-push.ensures.items)
    (All-push (λ p. IsTried tin p) c.new-pieces.result.items c.in_ok-piece.field-0 none
    (c.in_ok-piece.ensures.inside, c.in_ok-piece.ensures.small)) in
    let two : All (λ p. IsTried tin p) c.push-2.new.self.items =
    subst (λ (ps : List Piece). All (λ p. IsTried tin p) ps) (sym c.in_ok-push-2.ensures.items)
    (All-push (λ p. IsTried tin p) c.push.new.self.items c.in_ok-piece-2.field-0 one
    (c.in_ok-piece-2.ensures.inside, c.in_ok-piece-2.ensures.small)) in
    subst (λ (ps : List Piece). All (λ p. IsTried tin p) ps) (sym c.in_ok-push-3.ensures.items)
    (All-push (λ p. IsTried tin p) c.push-2.new.self.items c.in_ok-piece-3.field-0 two
    (c.in_ok-piece-3.ensures.inside, c.in_ok-piece-3.ensures.small))
