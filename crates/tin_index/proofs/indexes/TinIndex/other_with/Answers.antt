-- Answers to the goals of `TinIndex::other_with` in src/indexes.rt.
use Rattle.std.proofs.Common.{arith}
use Rattle.tin_base.proofs.TriangleLemmas.TestAnswers.{told}
use Rattle.tin_index.proofs.Across.{found_with, none_with}
use Rattle.tin_index.proofs.indexes.TinIndex.other_with.Goals as goal

pub returns-then-is_across-clause-found : goal.returns-then-is_across-clause-found
returns-then-is_across-clause-found c =
    found_with c.args.self.now c.args.triangle c.args.corner c.args.second c.loop-place.place c.around-star.result.now
    c.around-star.ensures c.loop-place-test.true (told c.if-is_across.ensures)

pub returns-clause-none : goal.returns-clause-none
returns-clause-none c =
    none_with c.args.self.now c.args.triangle c.args.corner c.args.second c.around-star.result.now c.around-star.ensures
    (λ i h other. c.loop-place.invariant i (omega (arith, h)) other)
