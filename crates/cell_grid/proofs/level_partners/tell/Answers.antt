-- Answers to the goals of `tell` in src/level_partners.rt.
use Rattle.std.proofs.Common.{◌≡◌, ◌≤◌, ℕ, List, Contains, sym, ap, ap₂, ◌∙◌, subst, arith}
use Rattle.plane_base.specs.declared.shapes.Rect.{Rect}
use Rattle.cell_grid.specs.Boxes.{box_at}
use Rattle.cell_grid.specs.InsideSizes.{level_of}
use Rattle.cell_grid.specs.Cells.{numbers_at, place_of, IsPlaceOf, IsLevelOf}
use Rattle.cell_grid.specs.InsideBlocks.{place_at}
use Rattle.cell_grid.specs.InsideLevelPartners.{DoesTell, IsPartnerOn, IsToldFrom}
use Rattle.cell_grid.specs.declared.levels.Level.{Level}
use Rattle.cell_grid.proofs.Indices.{few}
use Rattle.cell_grid.proofs.Sizes.{small_on}
use Rattle.cell_grid.proofs.Tells.{index_more, block_told}
use Rattle.cell_grid.proofs.level_partners.tell.Goals as goal

pub overflow_cast-index-end : goal.overflow_cast-index-end
overflow_cast-index-end c =
    let asked = c.of-asked.result in
    let is = c.of-asked.ensures.is in
    let up = subst (λ (r : Rect). level_of r ≤ asked.level.number) (sym c.of-asked.ensures.rect)
    (subst (λ (v : Level). level_of (box_at c.args.boxes.now.boxes c.args.number) ≤ v.number)
    (sym c.of-asked.ensures.level) c.requires.above) in
    omega (
      arith,
      c.count-index-end.ensures,
      few asked.level asked.rect asked.block is.past is.block
          (small_on asked.level.low asked.rect asked.level.shift is.past (omega (arith, up, asked.level.wide))),
    )

pub tell_among-requires-clause-numbers : goal.tell_among-requires-clause-numbers
tell_among-requires-clause-numbers c =
    let of_level = subst (λ (v : Level). IsLevelOf c.args.boxes.now.boxes c.args.cells.now v)
    (sym c.of-asked.ensures.level) c.requires.level in
    λ k h. (of_level.of_level c.place.result k (c.place.ensures.from, c.place.ensures.to)
    (subst (λ (l : List ℕ). Contains l k) c.at-numbers.ensures h)).0

pub loop-index-preserved : goal.loop-index-preserved
loop-index-preserved c =
    let asked = c.of-asked.result in
    let of_level = subst (λ (v : Level). IsLevelOf c.args.boxes.now.boxes c.args.cells.now v)
    (sym c.of-asked.ensures.level) c.requires.level in
    let at : c.place.result ≡ place_at asked.level asked.block c.loop-index.index = c.place.ensures.place
    ∙ ap₂ (place_of asked.level) c.cell_at-cell.ensures.column c.cell_at-cell.ensures.row in
    index_more asked c.args.boxes.now.boxes c.args.cells.now c.loop-index.index c.at-numbers.result.now
    c.args.found.now.items c.loop-index.found.items c.tell_among.new.found.items
    c.of-asked.ensures.is (λ k d h. (c.requires.past k d h).ordered) of_level
    (subst (IsPlaceOf asked.level) at (c.place.ensures.from, c.place.ensures.to))
    (c.at-numbers.ensures ∙ ap (numbers_at c.args.cells.now) at)
    c.loop-index.invariant
    (subst (λ (i : ℕ). DoesTell (IsToldFrom asked c.args.boxes.now.boxes i c.at-numbers.result.now 0)
    c.loop-index.found.items c.tell_among.new.found.items) c.window.ensures.index c.in_ok-tell_among.ensures)

pub returns : goal.returns
returns c =
    let asked = c.of-asked.result in
    let level = c.of-asked.ensures.level in
    let own = level_of (box_at c.args.boxes.now.boxes c.args.number) in
    subst (λ (v : Level). DoesTell (IsPartnerOn c.args.boxes.now.boxes c.args.number v.number) c.args.found.now.items
    c.loop-index.found.items) level
    (block_told asked c.args.boxes.now.boxes c.args.number c.loop-index.index c.args.found.now.items
    c.loop-index.found.items c.of-asked.ensures.is (λ k d h. (c.requires.past k d h).ordered)
    c.of-asked.ensures.rect
    (omega (arith, c.loop-index-test.false, c.count-index-end.ensures))
    (subst (λ (v : Level). own ≤ v.number) (sym level) c.requires.above)
    (λ same. c.of-asked.ensures.own (same ∙ ap (λ (v : Level). v.number) level))
    (λ other. c.of-asked.ensures.above (λ same. other (same ∙ sym (ap (λ (v : Level). v.number) level))))
    c.loop-index.invariant)
