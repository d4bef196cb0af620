-- Answers to the goals of `cells_of` in src/entries.rt.
use Rattle.std.proofs.Common.{subst}
use Rattle.cell_grid.proofs.LevelEntries.{AreGroups, cells_ascend, cells_below, cells_levels}
use Rattle.cell_grid.proofs.entries.cells_of.Goals as goal

pub returns-clause-levels : goal.returns-clause-levels
returns-clause-levels c =
    let are : AreGroups c.deref.result.now c.place_count.result c.in_ok-cells.cells =
    record { count = c.in_ok-cells.ensures.count; each = c.in_ok-cells.ensures.each } in
    cells_levels c.args.boxes.now c.args.levels.now c.in_ok-entries.entries.items c.place_count.result
    c.in_ok-cells.cells c.in_ok-entries.ensures c.requires.laid c.place_count.ensures.all
    (subst (λ l. AreGroups l c.place_count.result c.in_ok-cells.cells) c.deref.ensures.value are)

pub returns-clause-ascending : goal.returns-clause-ascending
returns-clause-ascending c =
    let are : AreGroups c.deref.result.now c.place_count.result c.in_ok-cells.cells =
    record { count = c.in_ok-cells.ensures.count; each = c.in_ok-cells.ensures.each } in
    cells_ascend c.args.boxes.now c.args.levels.now c.in_ok-entries.entries.items c.place_count.result
    c.in_ok-cells.cells c.in_ok-entries.ensures
    (subst (λ l. AreGroups l c.place_count.result c.in_ok-cells.cells) c.deref.ensures.value are)

pub returns-clause-numbers : goal.returns-clause-numbers
returns-clause-numbers c =
    let are : AreGroups c.deref.result.now c.place_count.result c.in_ok-cells.cells =
    record { count = c.in_ok-cells.ensures.count; each = c.in_ok-cells.ensures.each } in
    cells_below c.args.boxes.now c.args.levels.now c.in_ok-entries.entries.items c.place_count.result
    c.in_ok-cells.cells c.in_ok-entries.ensures
    (subst (λ l. AreGroups l c.place_count.result c.in_ok-cells.cells) c.deref.ensures.value are)
