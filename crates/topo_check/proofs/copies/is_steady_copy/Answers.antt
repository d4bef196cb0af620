-- Answers to the goals of `is_steady_copy` in src/copies.rt.
use Rattle.topo_check.proofs.PieceCopies.{copy_of}
use Rattle.topo_check.proofs.copies.is_steady_copy.Goals as goal

pub returns : goal.returns
returns c = λ yes.
    let same = c.are_same_or_turned.ensures c.if-not-are_same_or_turned.false in
    record {
      copy = copy_of c.args.tin.now c.args.piece.now c.args.other.now same.triangle same.exact same.rounded;
      steady = c.is_steady.ensures yes;
    }
