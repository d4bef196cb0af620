-- What is found while the cells of a level, and the levels of a grid, are looked at.
use Rattle.std.proofs.Common.{◌≡◌, ◌↔◌, ℕ, ◌+◌, ◌-◌, ◌*◌, ◌<◌, ◌≤◌, List, [], length, get_or, Contains, inl, inr}
use Rattle.std.proofs.Common.{⊎_elim, sym, ap, ◌∙◌, subst, arith}
use Rattle.std.proofs.lemmas.Bool.{cases_lt}
use Rattle.std.specs.List.Sorted.{IsStrictlyIncreasing}
use Rattle.plane_base.specs.declared.shapes.Rect.{Rect}
use Rattle.cell_grid.specs.Boxes.{box_at, no_box, AreBoxesAt}
use Rattle.cell_grid.specs.Grids.{Boxes, level_at}
use Rattle.cell_grid.specs.Stripes.{IsPastCorner}
use Rattle.cell_grid.specs.Cells.{numbers_at, cell_of, IsOnLevel, IsLevelOf}
use Rattle.cell_grid.specs.InsideBlocks.{IsBlockOf, place_at, index_of}
use Rattle.cell_grid.specs.Around.{IsAround, cut_of}
use Rattle.cell_grid.specs.InsideSearches.{DoesFind, StandsIn, StandsBefore, IsAtLevel, IsOnFirst}
use Rattle.cell_grid.specs.declared.levels.Level.{Level}
use Rattle.cell_grid.specs.declared.blocks.Block.{Block}
use Rattle.cell_grid.proofs.Finds.{find_as, find_more}
use Rattle.cell_grid.proofs.LevelPlaces.{HasLevelsOf, size_at}
use Rattle.cell_grid.proofs.Indices.{place_there, index_within}
use Rattle.cell_grid.proofs.Places.{cell_within}
use Rattle.plane_base.proofs.Bounds.BoxLemmas.{outer_has}
use Rattle.cell_grid.proofs.Spans.{cut_has}

-- ---- cells one after another
pub stands_more : (boxes : List Rect) (r : Rect) (cells : List (List ℕ)) (place : ℕ → ℕ) (index : ℕ) (cell : List ℕ)
    (xs ys zs : List ℕ) → cell ≡ numbers_at cells (place index)
    → DoesFind boxes r (StandsBefore cells place index) xs ys → DoesFind boxes r (Contains cell) ys zs
    → DoesFind boxes r (StandsBefore cells place (index + 1)) xs zs
stands_more boxes r cells place index cell xs ys zs at before here =
    find_more boxes r (StandsBefore cells place index) (Contains cell) (StandsBefore cells place (index + 1)) xs ys zs
    before here
    (λ n s _. ⊎_elim
    (λ earlier. inl (s.0, earlier, s.2))
    (λ late. let e : s.0 ≡ index = omega (arith, s.1) in
    inr (subst (λ (l : List ℕ). Contains l n) (ap (λ (k : ℕ). numbers_at cells (place k)) e ∙ sym at) s.2))
    (cases_lt s.0 index))

pub stands_all : (boxes : List Rect) (r : Rect) (cells : List (List ℕ)) (place : ℕ → ℕ) (index count : ℕ)
    (xs ys : List ℕ) → count ≤ index
    → DoesFind boxes r (StandsBefore cells place index) xs ys → DoesFind boxes r (StandsBefore cells place count) xs ys
stands_all boxes r cells place index count xs ys all finds =
    find_as boxes r (StandsBefore cells place index) (StandsBefore cells place count) xs ys finds
    (λ n s _. (s.0, omega (arith, s.1), s.2))

-- ---- a level
pub everywhere_found : (boxes : List Rect) (r cut : Rect) (level : Level) (cells : List (List ℕ)) (xs ys : List ℕ)
    → DoesFind boxes r (StandsBefore cells (λ k. level.base + k) (level.mask + 1)) xs ys
    → DoesFind boxes r (StandsIn level cells cut) xs ys
everywhere_found boxes r cut level cells xs ys finds =
    find_as boxes r (StandsBefore cells (λ k. level.base + k) (level.mask + 1)) (StandsIn level cells cut) xs ys finds
    (λ n s _.
    let place = cell_of level s.0 in
    let within = cell_within level s.0 in
    let same : level.base + (place - level.base) ≡ place = omega (arith, within.0) in (
      place - level.base,
      omega (arith, within.0, within.1),
      subst (λ (k : ℕ). Contains (numbers_at cells k) n)
          (sym same) s.2,
    ))

pub block_found : (boxes : List Rect) (r cut : Rect) (level : Level) (block : Block) (cells : List (List ℕ))
    (xs ys : List ℕ) → IsPastCorner level.low cut → IsBlockOf level cut block
    → DoesFind boxes r (StandsBefore cells (place_at level block) (block.columns * block.rows)) xs ys
    → DoesFind boxes r (StandsIn level cells cut) xs ys
block_found boxes r cut level block cells xs ys past is finds =
    find_as boxes r (StandsBefore cells (place_at level block) (block.columns * block.rows)) (StandsIn level cells cut)
    xs ys finds
    (λ n s _. (
      index_of level block s.0,
      index_within level cut block s.0 past is s.1,
      subst
          (λ (k : ℕ). Contains (numbers_at cells k) n) (sym (place_there level cut block s.0 past is s.1)) s.2,
    ))

-- what a level has of the boxes near r
pub level_found : (boxes : List Rect) (r around : Rect) (level : Level) (cells : List (List ℕ)) (xs ys : List ℕ)
    → IsLevelOf boxes cells level → IsAround around boxes
    → DoesFind boxes r (StandsIn level cells (cut_of around r)) xs ys
    → DoesFind boxes r (IsOnLevel boxes level.number) xs ys
level_found boxes r around level cells xs ys is round finds =
    find_as boxes r (StandsIn level cells (cut_of around r)) (IsOnLevel boxes level.number) xs ys finds
    (λ n on near.
    let shared = near.1 in (
      shared.0,
      cut_has around r shared.0 (outer_has around (box_at boxes n) shared.0 (round.all n no_box near.0)
          shared.1) shared.2,
      is.held n shared.0 on shared.1,
    ))

-- ---- all levels
pub found_at : (used : List ℕ) (grid : Boxes) (r : Rect) (place : ℕ) (xs ys : List ℕ) → HasLevelsOf used grid
    → place < length used → DoesFind grid.boxes r (IsOnLevel grid.boxes (get_or used place 0)) xs ys
    → DoesFind grid.boxes r (IsAtLevel grid place) xs ys
found_at used grid r place xs ys has within finds =
    find_as grid.boxes r (IsOnLevel grid.boxes (get_or used place 0)) (IsAtLevel grid place) xs ys finds
    (λ n on near. (near.0, (size_at used grid n place has near.0 within).1 on))

pub levels_more : (grid : Boxes) (r : Rect) (i : ℕ) (xs ys zs : List ℕ)
    → DoesFind grid.boxes r (IsOnFirst grid i) xs ys → DoesFind grid.boxes r (IsAtLevel grid i) ys zs
    → DoesFind grid.boxes r (IsOnFirst grid (i + 1)) xs zs
levels_more grid r i xs ys zs before here =
    find_more grid.boxes r (IsOnFirst grid i) (IsAtLevel grid i) (IsOnFirst grid (i + 1)) xs ys zs before here
    (λ n on near. ⊎_elim (λ earlier. inl earlier) (λ late. inr (omega (arith, on, late)))
    (cases_lt (level_at grid n) i))

pub near_list : (grid : Boxes) (r : Rect) (count : ℕ) (xs ys : List ℕ)
    → ((n : ℕ) → n < length grid.boxes → level_at grid n < count)
    → DoesFind grid.boxes r (IsOnFirst grid count) [] xs
    → IsStrictlyIncreasing ys → ((n : ℕ) → Contains ys n ↔ Contains xs n) → AreBoxesAt grid.boxes r ys
near_list grid r count xs ys all finds up same =
    record {
      ascending = up;
      exact = λ n. (
        λ h. ⊎_elim (λ none. absurd (omega (arith, none.1))) (λ near. near) (finds.near n ((same n).0 h)),
        λ near. (same n).1 (finds.found n (all n near.0) near),
      );
    }
