-- Answers to the goals of `Grid::tell_on` in src/grids.rt.
use Rattle.std.proofs.Common.{◌≡◌, ◌<◌, ℕ, List, length, get_or, ap, ◌∙◌, sym, subst, arith}
use Rattle.std.proofs.lemmas.List.{get_or_default}
use Rattle.plane_base.specs.declared.shapes.Rect.{Rect}
use Rattle.cell_grid.specs.Boxes.{box_at}
use Rattle.cell_grid.specs.Grids.{Boxes}
use Rattle.cell_grid.specs.InsideSizes.{level_of}
use Rattle.cell_grid.specs.InsideLevelPartners.{DoesTell, IsPartnerOn}
use Rattle.cell_grid.proofs.LevelFields.{number_kept, boxes_past}
use Rattle.cell_grid.proofs.LevelPlaces.{grid_levels}
use Rattle.cell_grid.proofs.Tells.{none_on_lower, told_at}
use Rattle.cell_grid.proofs.grids.Grid.tell_on.Goals as goal

pub tell-requires-clause-past : goal.tell-requires-clause-past
tell-requires-clause-past c =
    let levels : length c.self.inside.used.items ≡ c.args.self.now.levels =
    ap (λ (v : Boxes). v.levels) c.self.view_is in
    let within : c.args.place < length c.self.inside.used.items =
    subst (λ (n : ℕ). c.args.place < n) (sym levels) c.requires.place in
    let kept = number_kept c.self.inside.boxes.boxes c.self.inside.boxes.around c.self.inside.cells
    c.self.inside.levels.items c.self.inside.used.items c.args.place c.index-used.result.now
    c.index-level.result.now
    c.self.invariant.used c.self.invariant.laid c.self.invariant.low c.self.invariant.levels within c.index-used.ensures
    c.index-level.ensures in
    (boxes_past c.self.inside.boxes.boxes c.self.inside.boxes.around c.index-level.result.now.low
    c.self.invariant.ordered c.self.invariant.around kept.low)

pub returns : goal.returns
returns c =
    let boxes : c.self.inside.boxes.boxes ≡ c.args.self.now.boxes = ap (λ (v : Boxes). v.boxes) c.self.view_is in
    let levels : length c.self.inside.used.items ≡ c.args.self.now.levels =
    ap (λ (v : Boxes). v.levels) c.self.view_is in
    let within : c.args.place < length c.self.inside.used.items =
    subst (λ (n : ℕ). c.args.place < n) (sym levels) c.requires.place in
    let kept = number_kept c.self.inside.boxes.boxes c.self.inside.boxes.around c.self.inside.cells
    c.self.inside.levels.items c.self.inside.used.items c.args.place c.index-used.result.now
    c.index-level.result.now
    c.self.invariant.used c.self.invariant.laid c.self.invariant.low c.self.invariant.levels within c.index-used.ensures
    c.index-level.ensures in
    let number : c.index-level.result.now.number ≡ get_or c.self.inside.used.items c.args.place 0 =
    kept.number ∙ c.index-used.ensures ∙ get_or_default c.self.inside.used.items c.args.place c.index-used.result.now 0
    within in
    let tells = subst (λ (bs : List Rect). DoesTell (IsPartnerOn bs c.args.number c.index-level.result.now.number)
    c.args.found.now.items c.tell.new.found.items) boxes c.in_ok-tell.ensures in
    let has = grid_levels (length c.self.inside.levels.items) c.self.inside.boxes.boxes c.self.inside.used.items
    c.args.self.now c.self.invariant.used c.self.view_is in
    told_at c.self.inside.used.items c.args.self.now c.args.number c.args.place c.args.found.now.items
    c.tell.new.found.items has c.requires.number within
    (subst (λ (l : ℕ). DoesTell (IsPartnerOn c.args.self.now.boxes c.args.number l) c.args.found.now.items
    c.tell.new.found.items) number tells)

pub returns-then-used-level_of : goal.returns-then-used-level_of
returns-then-used-level_of c =
    let boxes : c.self.inside.boxes.boxes ≡ c.args.self.now.boxes = ap (λ (v : Boxes). v.boxes) c.self.view_is in
    let levels : length c.self.inside.used.items ≡ c.args.self.now.levels =
    ap (λ (v : Boxes). v.levels) c.self.view_is in
    let within : c.args.place < length c.self.inside.used.items =
    subst (λ (n : ℕ). c.args.place < n) (sym levels) c.requires.place in
    let number : c.index-used.result.now ≡ get_or c.self.inside.used.items c.args.place 0 =
    c.index-used.ensures ∙ get_or_default c.self.inside.used.items c.args.place c.index-used.result.now 0 within in
    let own : c.level_of.result ≡ level_of (box_at c.args.self.now.boxes c.args.number) =
    c.level_of.ensures.level ∙ ap level_of (c.rect.ensures ∙ ap (λ (l : List Rect). box_at l c.args.number) boxes) in
    let low : get_or c.self.inside.used.items c.args.place 0 < level_of (box_at c.args.self.now.boxes c.args.number) =
    omega (arith, c.if-used-level_of.true, number, own) in
    let has = grid_levels (length c.self.inside.levels.items) c.self.inside.boxes.boxes c.self.inside.used.items
    c.args.self.now c.self.invariant.used c.self.view_is in
    told_at c.self.inside.used.items c.args.self.now c.args.number c.args.place c.args.found.now.items
    c.args.found.now.items has c.requires.number within
    (none_on_lower c.args.self.now.boxes c.args.number (get_or c.self.inside.used.items c.args.place 0)
    c.args.found.now.items low)

pub tell-requires-clause-low : goal.tell-requires-clause-low
tell-requires-clause-low c =
    let levels : length c.self.inside.used.items ≡ c.args.self.now.levels =
    ap (λ (v : Boxes). v.levels) c.self.view_is in
    let within : c.args.place < length c.self.inside.used.items =
    subst (λ (n : ℕ). c.args.place < n) (sym levels) c.requires.place in
    let kept = number_kept c.self.inside.boxes.boxes c.self.inside.boxes.around c.self.inside.cells
    c.self.inside.levels.items c.self.inside.used.items c.args.place c.index-used.result.now
    c.index-level.result.now
    c.self.invariant.used c.self.invariant.laid c.self.invariant.low c.self.invariant.levels within c.index-used.ensures
    c.index-level.ensures in
    sym kept.low
