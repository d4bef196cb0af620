-- Answers to the goals of `levels_for` in src/level_lists.rt.
use Rattle.std.proofs.Common.{◌≡◌, ◌∙◌, ℕ, get_or, All, sym, subst, rules}
use Rattle.std.specs.Prelude.{FitsSigned}
use Rattle.std.proofs.lemmas.Int.{to_z-of_z}
use mir.Syntax.{w64}
use Rattle.cell_grid.specs.declared.levels.Level.{Level}
use Rattle.cell_grid.specs.InsideSizes.{AreOfLevels}
use Rattle.cell_grid.specs.Around.{corner_of}
use Rattle.cell_grid.proofs.LevelEntries.{same_laid, same_low}
use Rattle.cell_grid.proofs.LevelFields.{boxes_past}
use Rattle.cell_grid.proofs.level_lists.levels_for.Goals as goal

pub narrow_crowded-requires-clause-of_levels : goal.narrow_crowded-requires-clause-of_levels
narrow_crowded-requires-clause-of_levels c =
    subst (λ (n : ℕ). AreOfLevels n c.args.boxes.now) (sym c.in_ok-levels.ensures.count) c.requires.of_levels

pub narrow_crowded-requires-clause-past : goal.narrow_crowded-requires-clause-past
narrow_crowded-requires-clause-past c =
    let x : FitsSigned w64 c.args.around.now.x0 = search rules in
    let y : FitsSigned w64 c.args.around.now.y0 = search rules in
    let low : All (λ (v : Level). v.low ≡ corner_of c.args.around.now) c.in_ok-levels.levels.items =
    simp to_z-of_z at c.in_ok-levels.ensures.low in
    λ k d h. boxes_past c.args.boxes.now c.args.around.now (get_or c.in_ok-levels.levels.items k d).low
    c.requires.ordered c.requires.around (low k d h)

pub returns-clause-count : goal.returns-clause-count
returns-clause-count c = c.in_ok-narrow_crowded.ensures.count ∙ c.in_ok-levels.ensures.count

pub returns-clause-laid : goal.returns-clause-laid
returns-clause-laid c = same_laid c.in_ok-levels.levels.items c.narrow_crowded.new.levels.items
    c.in_ok-narrow_crowded.ensures c.in_ok-levels.ensures.laid

pub returns-clause-low : goal.returns-clause-low
returns-clause-low c =
    let x : FitsSigned w64 c.args.around.now.x0 = search rules in
    let y : FitsSigned w64 c.args.around.now.y0 = search rules in
    let low : All (λ (v : Level). v.low ≡ corner_of c.args.around.now) c.in_ok-levels.levels.items =
    simp to_z-of_z at c.in_ok-levels.ensures.low in
    same_low c.in_ok-levels.levels.items c.narrow_crowded.new.levels.items (corner_of c.args.around.now)
    c.in_ok-narrow_crowded.ensures low
