-- Answers to the goals of `Asked::is_told` in src/level_partners.rt.
use Rattle.cell_grid.proofs.Windows.{told_by_window}
use Rattle.cell_grid.proofs.level_partners.PartnerSearch.is_told.Goals as goal

pub returns : goal.returns
returns c = told_by_window c.args.self.now c.args.window c.args.other.now c.does_meet-wide.result
    c.does_meet-high.result c.requires.asked c.requires.window c.requires.past c.does_meet-wide.ensures
    c.does_meet-high.ensures
