-- Answers to the goals of `Grid::partners` in src/grids.rt.
use Rattle.std.proofs.Common.{◌≤◌, ℕ, List, [], length, sym, subst, arith}
use Rattle.cell_grid.specs.InsideLevelPartners.{DoesTell, IsPartnerOnFirst}
use Rattle.cell_grid.proofs.LevelPlaces.{grid_levels}
use Rattle.cell_grid.proofs.Tells.{levels_told, none_on_first, all_told}
use Rattle.cell_grid.proofs.grids.Grid.partners.Goals as goal

pub loop-place-init : goal.loop-place-init
loop-place-init c =
    subst (λ (l : List ℕ). DoesTell (IsPartnerOnFirst c.args.self.now c.args.number 0) [] l) (sym c.clear.ensures.items)
    (none_on_first c.args.self.now c.args.number [])

pub loop-place-preserved : goal.loop-place-preserved
loop-place-preserved c =
    levels_told c.args.self.now c.args.number c.loop-place.place [] c.loop-place.found.items c.tell_on.new.found.items
    c.loop-place.invariant c.in_ok-tell_on.ensures

pub returns : goal.returns
returns c =
    let all : length c.self.inside.used.items ≤ c.loop-place.place =
    omega (arith, c.loop-place-test.false, c.len-place-end.ensures) in
    let has = grid_levels (length c.self.inside.levels.items) c.self.inside.boxes.boxes c.self.inside.used.items
    c.args.self.now c.self.invariant.used c.self.view_is in
    all_told c.args.self.now c.args.number c.loop-place.place c.loop-place.found.items
    (λ n h. omega (arith, has.below n h, all)) c.loop-place.invariant
