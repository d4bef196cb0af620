-- Answers to the goals of `find_everywhere` in src/searches.rt.
use Rattle.std.proofs.Common.{◌+◌, ℕ, List, Contains, subst, arith}
use Rattle.cell_grid.proofs.LevelFinds.{stands_more, stands_all}
use Rattle.cell_grid.proofs.searches.find_everywhere.Goals as goal

pub find_among-requires-clause-numbers : goal.find_among-requires-clause-numbers
find_among-requires-clause-numbers c = λ k h. c.requires.numbers (c.args.level.now.base + c.loop-index.index) k
    (subst (λ (l : List ℕ). Contains l k) c.at.ensures h)

pub loop-index-preserved : goal.loop-index-preserved
loop-index-preserved c =
    stands_more c.args.boxes.now.boxes c.args.r.now c.args.cells.now (λ k. c.args.level.now.base + k) c.loop-index.index
    c.at.result.now c.args.found.now.items c.loop-index.found.items c.find_among.new.found.items
    c.at.ensures c.loop-index.invariant c.in_ok-find_among.ensures

pub returns : goal.returns
returns c =
    stands_all c.args.boxes.now.boxes c.args.r.now c.args.cells.now (λ k. c.args.level.now.base + k) c.loop-index.index
    (c.args.level.now.mask + 1) c.args.found.now.items c.loop-index.found.items
    (omega (arith, c.loop-index-test.false)) c.loop-index.invariant
