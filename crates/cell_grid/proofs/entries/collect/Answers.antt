-- Answers to the goals of `collect` in src/entries.rt.
use Rattle.std.proofs.Common.{arith}
use Rattle.cell_grid.proofs.Indices.{few}
use Rattle.cell_grid.proofs.Collects.{first_none, first_more, first_all}
use Rattle.cell_grid.proofs.entries.collect.Goals as goal

pub overflow_cast-index-end : goal.overflow_cast-index-end
overflow_cast-index-end c = omega (
  arith,
  c.count-index-end.ensures,
  few c.args.level.now c.args.rect.now
      c.of-block.result c.requires.past c.of-block.ensures c.requires.size,
)

pub loop-index-init : goal.loop-index-init
loop-index-init c = first_none c.args.level.now c.of-block.result c.clear.new.self.items c.clear.ensures.items

pub loop-index-preserved : goal.loop-index-preserved
loop-index-preserved c =
    first_more c.args.level.now c.of-block.result c.loop-index.index c.place_at.result c.loop-index.places.items
    c.add_once.new.places.items c.loop-index.invariant c.place_at.ensures.place
    (c.place_at.ensures.from, c.place_at.ensures.to) c.in_ok-add_once.ensures

pub returns : goal.returns
returns c =
    first_all c.args.level.now c.args.rect.now c.of-block.result c.loop-index.index c.loop-index.places.items
    c.requires.past c.requires.size c.of-block.ensures
    (omega (arith, c.loop-index-test.false, c.loop-index.auto.index-end, c.count-index-end.ensures))
    c.loop-index.invariant
