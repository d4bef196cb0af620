-- Answers to the goals of `changed_pair` in src/comparisons.rt.
use Rattle.std.proofs.Common.{◌≡◌, rules, sym, subst, arith}
use Rattle.tin_base.specs.declared.relations.Rel.{Rel}
use Rattle.topo_check.specs.Changes.{HasRelation, piece_at, no_piece}
use Rattle.topo_check.proofs.comparisons.changed_pair.Goals as goal

pub piece_rel-was-requires-clause-p : goal.piece_rel-was-requires-clause-p
piece_rel-was-requires-clause-p c = (c.requires.comparable c.args.first no_piece
    (omega (arith, c.requires.earlier, c.requires.second)) c.args.second no_piece c.requires.second).first

pub piece_rel-was-requires-clause-q : goal.piece_rel-was-requires-clause-q
piece_rel-was-requires-clause-q c = (c.requires.comparable c.args.first no_piece
    (omega (arith, c.requires.earlier, c.requires.second)) c.args.second no_piece c.requires.second).second

pub returns-then-eq-clause-none : goal.returns-then-eq-clause-none
returns-then-eq-clause-none c =
    let same : c.piece_rel-was.result ≡ c.rel-now.result = search rules in
    λ _. (
      c.piece_rel-was.result,
      c.piece_rel-was.ensures,
      subst
          (λ (r : Rel). HasRelation r (piece_at c.args.pieces.now c.args.first)
          (piece_at c.args.pieces.now c.args.second)) (sym same) c.rel-now.ensures,
    )
