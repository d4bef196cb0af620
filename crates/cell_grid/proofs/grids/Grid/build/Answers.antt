-- Answers to the goals of `Grid::build` in src/grids.rt.
use Rattle.std.proofs.Common.{◌≡◌, ◌<◌, ◌≤◌, ℕ, List, length, get_or, All, Contains, sym, ap, ◌∙◌, subst}
use Rattle.plane_base.specs.declared.shapes.Rect.{Rect}
use Rattle.cell_grid.specs.Boxes.{AreOrdered}
use Rattle.cell_grid.specs.InsideSizes.{level_of, AreOfLevels, AreUsed}
use Rattle.cell_grid.specs.Around.{IsAround, corner_of}
use Rattle.cell_grid.specs.Cells.{IsLevelOf, HasNumbersBelow}
use Rattle.cell_grid.specs.declared.levels.Level.{Level}
use Rattle.cell_grid.specs.declared.grids.TheConstants.{LIMIT}
use Rattle.cell_grid.proofs.Sizes.{levels_small}
use Rattle.cell_grid.proofs.LevelFields.{boxes_past}
use Rattle.cell_grid.proofs.UsedLevels.{used_each}
use Rattle.cell_grid.proofs.grids.Grid.build.Goals as goal

pub counts_of-requires-clause-sizes : goal.counts_of-requires-clause-sizes
counts_of-requires-clause-sizes c = levels_small c.args.boxes.now c.requires.ordered c.requires.span

pub cells_of-requires-clause-past : goal.cells_of-requires-clause-past
cells_of-requires-clause-past c =
    rw c.deref-2.ensures.value
    (λ k d h. boxes_past c.args.boxes.now c.around_all-around.result (get_or c.in_ok-levels.levels.items k d).low
    c.requires.ordered c.around_all-around.ensures (c.in_ok-levels.ensures.low k d h))

pub invariant_of-result : goal.invariant_of-result
invariant_of-result c =
    let same = sym c.in_ok-of.ensures.boxes in
    let round = sym c.in_ok-of.ensures.around in
    let counts : length c.in_ok-counts.counts.items ≡ length c.in_ok-levels.levels.items =
    ap length (sym c.deref.ensures.value) ∙ sym c.in_ok-levels.ensures.count in
    let long : length c.deref-3.result.now ≡ length c.in_ok-levels.levels.items = ap length c.deref-3.ensures.value
    ∙ counts in
    let of_levels : AreOfLevels (length c.in_ok-levels.levels.items) c.args.boxes.now =
    subst (λ (n : ℕ). AreOfLevels n c.args.boxes.now) counts c.in_ok-counts.ensures.of_levels in
    let each : All (λ (rect : Rect). Contains c.in_ok-used_levels.field-0.items (level_of rect)) c.args.boxes.now =
    used_each c.args.boxes.now c.in_ok-counts.counts.items c.in_ok-used_levels.field-0.items
    c.in_ok-counts.ensures.of_levels c.in_ok-counts.ensures.some
    (subst (λ (l : List ℕ). (level : ℕ) → level < length l → 0 < get_or l level 0
    → Contains c.in_ok-used_levels.field-0.items level) c.deref-3.ensures.value c.in_ok-used_levels.ensures.each) in
    let used : AreUsed (length c.in_ok-levels.levels.items) c.args.boxes.now c.in_ok-used_levels.field-0.items =
    record {
      ascending = c.in_ok-used_levels.ensures.ascending;
      below = subst (λ (n : ℕ). All (λ level. level < n) c.in_ok-used_levels.field-0.items) long
          c.in_ok-used_levels.ensures.below;
      few = subst (λ (n : ℕ). length c.in_ok-used_levels.field-0.items ≤ n) long c.in_ok-used_levels.ensures.few;
      each = each;
    } in
    record {
      ordered = subst (λ (bs : List Rect). AreOrdered bs) same c.requires.ordered;
      count = subst (λ (bs : List Rect). length bs < LIMIT) same c.requires.count;
      around = subst (λ (a : Rect). IsAround a c.in_ok-of.field-0.boxes) round
          (subst (λ (bs : List Rect). IsAround c.around_all-around.result bs) same c.around_all-around.ensures);
      of_levels = subst (λ (bs : List Rect). AreOfLevels (length c.in_ok-levels.levels.items) bs) same of_levels;
      used = subst (λ (bs : List Rect). AreUsed (length c.in_ok-levels.levels.items) bs
          c.in_ok-used_levels.field-0.items) same used;
      laid = c.in_ok-levels.ensures.laid;
      low = subst (λ (a : Rect). All (λ (v : Level). v.low ≡ corner_of a) c.in_ok-levels.levels.items) round
          c.in_ok-levels.ensures.low;
      levels = subst (λ (bs : List Rect). All (λ (v : Level). IsLevelOf bs c.in_ok-cells_of.field-0 v)
          c.in_ok-levels.levels.items) same
          (subst (λ (vs : List Level). All (λ (v : Level). IsLevelOf c.args.boxes.now c.in_ok-cells_of.field-0 v) vs)
          c.deref-2.ensures.value c.in_ok-cells_of.ensures.levels);
      ascending = c.in_ok-cells_of.ensures.ascending;
      numbers = subst (λ (bs : List Rect). HasNumbersBelow (length bs) c.in_ok-cells_of.field-0) same
          c.in_ok-cells_of.ensures.numbers;
    }
