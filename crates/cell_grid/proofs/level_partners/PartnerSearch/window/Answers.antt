-- Answers to the goals of `Asked::window` in src/level_partners.rt.
use Rattle.std.proofs.Common.{ℕ, subst}
use Rattle.cell_grid.specs.InsideWindows.{AreBoundsOf}
use Rattle.cell_grid.proofs.Windows.{cell_within, short_x, short_y}
use Rattle.cell_grid.proofs.level_partners.PartnerSearch.window.Goals as goal

pub bounds_in-requires-clause-from : goal.bounds_in-requires-clause-from
bounds_in-requires-clause-from c = (cell_within c.args.self.now c.args.index c.args.cell.column c.args.cell.row
    c.requires.asked c.requires.within c.requires.column c.requires.row).left

pub bounds_in-requires-clause-to : goal.bounds_in-requires-clause-to
bounds_in-requires-clause-to c = (cell_within c.args.self.now c.args.index c.args.cell.column c.args.cell.row
    c.requires.asked c.requires.within c.requires.column c.requires.row).right

pub bounds_in-requires-clause-short : goal.bounds_in-requires-clause-short
bounds_in-requires-clause-short c = short_x c.args.self.now c.requires.asked

pub bounds_in-requires-2-clause-from : goal.bounds_in-requires-2-clause-from
bounds_in-requires-2-clause-from c = (cell_within c.args.self.now c.args.index c.args.cell.column c.args.cell.row
    c.requires.asked c.requires.within c.requires.column c.requires.row).bottom

pub bounds_in-requires-2-clause-to : goal.bounds_in-requires-2-clause-to
bounds_in-requires-2-clause-to c = (cell_within c.args.self.now c.args.index c.args.cell.column c.args.cell.row
    c.requires.asked c.requires.within c.requires.column c.requires.row).top

pub bounds_in-requires-2-clause-short : goal.bounds_in-requires-2-clause-short
bounds_in-requires-2-clause-short c = short_y c.args.self.now c.requires.asked

pub returns-clause-window : goal.returns-clause-window
returns-clause-window c =
    let asked = c.args.self.now in
    record {
      x = subst (λ (i : ℕ). AreBoundsOf asked.level.shift i asked.own.x0 asked.own.x1 c.bounds_in.result)
          c.requires.column c.bounds_in.ensures;
      y = subst (λ (i : ℕ). AreBoundsOf asked.level.shift i asked.own.y0 asked.own.y1 c.bounds_in-2.result)
          c.requires.row c.bounds_in-2.ensures;
    }
