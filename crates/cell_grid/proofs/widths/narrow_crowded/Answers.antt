-- Answers to the goals of `narrow_crowded` in src/widths.rt.
use Rattle.cell_grid.proofs.LevelEntries.{same_none, same_then, same_laid, same_past}
use Rattle.cell_grid.proofs.widths.narrow_crowded.Goals as goal

pub loop-round-init : goal.loop-round-init
loop-round-init c = same_none c.args.levels.now.items

pub pairs_in_places-requires-clause-laid : goal.pairs_in_places-requires-clause-laid
pairs_in_places-requires-clause-laid c = rw c.deref-in-loop-round.ensures.value
    (same_laid c.args.levels.now.items c.loop-round.levels.items c.loop-round.invariant c.requires.laid)

pub pairs_in_places-requires-clause-past : goal.pairs_in_places-requires-clause-past
pairs_in_places-requires-clause-past c = rw c.deref-in-loop-round.ensures.value
    (same_past c.args.levels.now.items c.loop-round.levels.items c.args.boxes.now c.loop-round.invariant
    c.requires.past)

pub loop-round-preserved : goal.loop-round-preserved
loop-round-preserved c = same_then c.args.levels.now.items c.loop-round.levels.items c.narrow.new.levels.items
    c.loop-round.invariant c.narrow.ensures

pub returns-then-not-narrow : goal.returns-then-not-narrow
returns-then-not-narrow c = same_then c.args.levels.now.items c.loop-round.levels.items c.narrow.new.levels.items
    c.loop-round.invariant c.narrow.ensures
