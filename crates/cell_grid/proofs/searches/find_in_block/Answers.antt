-- Answers to the goals of `find_in_block` in src/searches.rt.
use Rattle.std.proofs.Common.{◌*◌, ℕ, List, Contains, subst, ap, ◌∙◌, arith}
use Rattle.cell_grid.specs.Cells.{numbers_at}
use Rattle.cell_grid.specs.InsideBlocks.{place_at}
use Rattle.cell_grid.proofs.LevelFinds.{stands_more, stands_all}
use Rattle.cell_grid.proofs.searches.find_in_block.Goals as goal

pub find_among-requires-clause-numbers : goal.find_among-requires-clause-numbers
find_among-requires-clause-numbers c = λ k h. c.requires.numbers c.place_at.result k
    (subst (λ (l : List ℕ). Contains l k) c.at.ensures h)

pub loop-index-preserved : goal.loop-index-preserved
loop-index-preserved c =
    stands_more c.args.boxes.now.boxes c.args.r.now c.args.cells.now (place_at c.args.level.now c.args.block.now)
    c.loop-index.index c.at.result.now c.args.found.now.items c.loop-index.found.items c.find_among.new.found.items
    (c.at.ensures ∙ ap (numbers_at c.args.cells.now) c.place_at.ensures.place) c.loop-index.invariant
    c.in_ok-find_among.ensures

pub returns : goal.returns
returns c =
    stands_all c.args.boxes.now.boxes c.args.r.now c.args.cells.now (place_at c.args.level.now c.args.block.now)
    c.loop-index.index (c.args.block.now.columns * c.args.block.now.rows) c.args.found.now.items
    c.loop-index.found.items
    (omega (arith, c.loop-index-test.false, c.count-index-end.ensures)) c.loop-index.invariant
