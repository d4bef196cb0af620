-- Answers to the goals of `is_steady` in src/copies.rt.
use Rattle.std.proofs.Common.{◌≡◌, rules, sym, subst}
use Rattle.tin_base.specs.declared.relations.Rel.{Rel}
use Rattle.topo_check.specs.Changes.{HasRelation}
use Rattle.topo_check.proofs.copies.is_steady.Goals as goal

pub returns : goal.returns
returns c = λ yes.
    let same : c.piece_rel-was.result ≡ c.rel-now.result = search (rules, yes) in (
      c.piece_rel-was.result,
      c.piece_rel-was.ensures,
      subst (λ (r : Rel). HasRelation r c.args.piece.now c.args.piece.now) (sym same) c.rel-now.ensures,
    )
