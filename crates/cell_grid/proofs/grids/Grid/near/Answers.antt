-- Answers to the goals of `Grid::near` in src/grids.rt.
use Rattle.std.proofs.Common.{◌≡◌, ◌<◌, ◌≤◌, ℕ, List, [], length, get_or, ap, ◌∙◌, subst, arith}
use Rattle.plane_base.specs.declared.shapes.Rect.{Rect}
use Rattle.cell_grid.specs.Grids.{Boxes}
use Rattle.cell_grid.specs.Around.{cut_of}
use Rattle.cell_grid.specs.Cells.{IsOnLevel}
use Rattle.cell_grid.specs.InsideSearches.{DoesFind, StandsIn}
use Rattle.cell_grid.proofs.Spans.{cut_past}
use Rattle.cell_grid.proofs.LevelFields.{used_kept}
use Rattle.cell_grid.proofs.LevelPlaces.{grid_levels}
use Rattle.cell_grid.proofs.LevelFinds.{near_list, level_found, found_at, levels_more}
use Rattle.cell_grid.proofs.grids.Grid.near.Goals as goal

pub find-requires-clause-numbers : goal.find-requires-clause-numbers
find-requires-clause-numbers c = λ place k h. c.self.invariant.numbers place k h

pub find-requires-clause-cut : goal.find-requires-clause-cut
find-requires-clause-cut c =
    let kept = used_kept c.self.inside.boxes.boxes c.self.inside.boxes.around c.self.inside.cells
    c.self.inside.levels.items c.self.inside.used.items c.deref-used-items.result.now c.loop-used.used-index
    c.index-level.result.now
    c.self.invariant.used c.self.invariant.laid c.self.invariant.low c.self.invariant.levels
    c.deref-used-items.ensures.value c.loop-used-test.true c.index-level.ensures in
    rw (kept.low, c.cut_to-cut.ensures, c.around.ensures)
    (cut_past c.self.inside.boxes.around c.args.r c.self.invariant.around.ordered c.self.invariant.around.span
    c.requires)

pub loop-used-preserved : goal.loop-used-preserved
loop-used-preserved c =
    let boxes : c.self.inside.boxes.boxes ≡ c.args.self.now.boxes = ap (λ (v : Boxes). v.boxes) c.self.view_is in
    let kept = used_kept c.self.inside.boxes.boxes c.self.inside.boxes.around c.self.inside.cells
    c.self.inside.levels.items c.self.inside.used.items c.deref-used-items.result.now c.loop-used.used-index
    c.index-level.result.now
    c.self.invariant.used c.self.invariant.laid c.self.invariant.low c.self.invariant.levels
    c.deref-used-items.ensures.value c.loop-used-test.true c.index-level.ensures in
    let finds = c.in_ok-find.ensures in
    let cut = subst (λ (q : Rect). DoesFind c.self.inside.boxes.boxes c.args.r
    (StandsIn c.index-level.result.now c.self.inside.cells q) c.loop-used.numbers.items c.find.new.found.items)
    (c.cut_to-cut.ensures ∙ ap (λ (a : Rect). cut_of a c.args.r) c.around.ensures) finds in
    let found = level_found c.self.inside.boxes.boxes c.args.r c.self.inside.boxes.around c.index-level.result.now
    c.self.inside.cells c.loop-used.numbers.items c.find.new.found.items kept.is c.self.invariant.around cut in
    let own = subst (λ (l : ℕ). DoesFind c.self.inside.boxes.boxes c.args.r (IsOnLevel c.self.inside.boxes.boxes l)
    c.loop-used.numbers.items c.find.new.found.items) kept.number found in
    let here = subst (λ (l : List ℕ). DoesFind c.self.inside.boxes.boxes c.args.r
    (IsOnLevel c.self.inside.boxes.boxes (get_or l c.loop-used.used-index 0)) c.loop-used.numbers.items
    c.find.new.found.items)
    c.deref-used-items.ensures.value own in
    let within : c.loop-used.used-index < length c.self.inside.used.items =
    subst (λ (l : List ℕ). c.loop-used.used-index < length l) c.deref-used-items.ensures.value
    c.loop-used-test.true in
    let has = grid_levels (length c.self.inside.levels.items) c.self.inside.boxes.boxes c.self.inside.used.items
    c.args.self.now c.self.invariant.used c.self.view_is in
    levels_more c.args.self.now c.args.r c.loop-used.used-index [] c.loop-used.numbers.items c.find.new.found.items
    c.loop-used.invariant
    (found_at c.self.inside.used.items c.args.self.now c.args.r c.loop-used.used-index c.loop-used.numbers.items
    c.find.new.found.items has within
    (subst (λ (bs : List Rect). DoesFind bs c.args.r
    (IsOnLevel bs (get_or c.self.inside.used.items c.loop-used.used-index 0)) c.loop-used.numbers.items
    c.find.new.found.items) boxes here))

pub returns : goal.returns
returns c =
    let all : length c.self.inside.used.items ≤ c.loop-used.used-index =
    subst (λ (l : List ℕ). length l ≤ c.loop-used.used-index) c.deref-used-items.ensures.value
    c.loop-used-test.false in
    let has = grid_levels (length c.self.inside.levels.items) c.self.inside.boxes.boxes c.self.inside.used.items
    c.args.self.now c.self.invariant.used c.self.view_is in
    near_list c.args.self.now c.args.r c.loop-used.used-index c.loop-used.numbers.items
    c.sort_once.new.numbers.items (λ n h. omega (arith, has.below n h, all)) c.loop-used.invariant
    c.sort_once.ensures.ascending c.sort_once.ensures.same
