-- Answers to the goals of `sort` in src/change_lists.rt.
use Rattle.std.proofs.Common.{rules}
use Rattle.std.proofs.lemmas.List.Sorted.{answers_always}
use Rattle.topo_check.proofs.PairOrder.{ascending, different_moved}
use Rattle.topo_check.proofs.change_lists.sort.Goals as goal

pub returns : goal.returns
returns c =
    let moved = c.sort_unstable_by_key.ensures.permutation in
    record {
      ascending = ascending _ (c.sort_unstable_by_key.ensures.sorted (λ pair. (pair.first, pair.second))
          (answers_always _ _ _ (λ f a r g h. search rules))) (different_moved _ _ moved c.requires);
      same = moved;
    }
