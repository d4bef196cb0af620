-- The proof of the law `pieces_follow` in src/laws.rt.
use Rattle.tin_base.proofs.PieceChains.Chain.{chain, covered}
use Rattle.tin_base.proofs.laws.pieces_follow.Goals as goal

pub returns : goal.returns
returns c = λ tin sound a b differ inside parts pieces.
    (chain tin a b parts sound differ inside pieces, covered tin a b parts sound differ inside pieces)
