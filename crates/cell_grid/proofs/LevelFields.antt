-- What the fields of a grid keep, level by level.
use Rattle.std.proofs.Common.{◌≡◌, ◌↔◌, ℕ, ◌<◌, List, length, get_or, All, Contains, sym, ap, ◌∙◌, subst}
use Rattle.std.proofs.lemmas.List.Elements.{Contains-get_or}
use Rattle.plane_base.specs.declared.shapes.Pt.{Pt}
use Rattle.plane_base.specs.declared.shapes.Rect.{Rect}
use Rattle.cell_grid.specs.Boxes.{AreOrdered, IsHolder, box_at, no_box}
use Rattle.cell_grid.specs.InsideSizes.{level_of, AreUsed}
use Rattle.cell_grid.specs.Stripes.{IsPast, IsPastCorner}
use Rattle.cell_grid.specs.Cells.{numbers_at, cell_of, HasNumbersBelow, IsLevelOf}
use Rattle.cell_grid.specs.LevelLists.{AreLaid}
use Rattle.cell_grid.specs.Around.{IsAround, corner_of, put_of}
use Rattle.cell_grid.specs.declared.levels.Level.{Level}
use Rattle.cell_grid.proofs.Spans.{past, past_corner, between_in, put_same}
use Rattle.plane_base.proofs.Bounds.BoxLemmas.{outer_has}
use Rattle.cell_grid.proofs.Places.{cell_within}

-- ---- a level of the grid
pub record IsKeptLevel (boxes : List Rect) (around : Rect) (cells : List (List ℕ)) (k : ℕ) (level : Level) : Type 0
  where
    pub is : IsLevelOf boxes cells level
    pub number : level.number ≡ k
    pub low : level.low ≡ corner_of around

level_kept : (boxes : List Rect) (around : Rect) (cells : List (List ℕ)) (levels : List Level) (k : ℕ)
    (level : Level) → AreLaid levels → All (λ (v : Level). v.low ≡ corner_of around) levels
    → All (λ (v : Level). IsLevelOf boxes cells v) levels → k < length levels → level ≡ get_or levels k level
    → IsKeptLevel boxes around cells k level
level_kept boxes around cells levels k level laid low all within is =
    record {
      is = subst (λ (v : Level). IsLevelOf boxes cells v) (sym is) (all k level within);
      number = ap (λ (v : Level). v.number) is ∙ laid.number k level within;
      low = ap (λ (v : Level). v.low) is ∙ low k level within;
    }

-- ---- past the low corner
pub boxes_past : (boxes : List Rect) (around : Rect) (low : Pt) → AreOrdered boxes → IsAround around boxes
    → low ≡ corner_of around → All (λ (r : Rect). IsPastCorner low r) boxes
boxes_past boxes around low ordered round is k d h =
    subst (λ (p : Pt). IsPastCorner p (get_or boxes k d)) (sym is)
    (past_corner around (get_or boxes k d) (ordered k d h) round.span (round.all k d h))

pub put_past : (boxes : List Rect) (around : Rect) (low p q : Pt) → IsAround around boxes → low ≡ corner_of around
    → q ≡ put_of around p → IsPast low.x q.x × IsPast low.y q.y
put_past boxes around low p q round is put =
    let x = between_in around.x0 around.x1 p.x round.ordered.0 in
    let y = between_in around.y0 around.y1 p.y round.ordered.1 in
    rw (is, put) (
      past around.x0 around.x1 (put_of around p).x round.span.0 x.0 x.1,
      past around.y0 around.y1
          (put_of around p).y round.span.1 y.0 y.1,
    )

-- ---- the cell of a point
pub cell_below : (boxes : List Rect) (cells : List (List ℕ)) (place : ℕ) (cell : List ℕ)
    → HasNumbersBelow (length boxes) cells → cell ≡ numbers_at cells place → All (λ n. n < length boxes) cell
cell_below boxes cells place cell below at k d within =
    below place (get_or cell k d) (subst (λ (l : List ℕ). Contains l (get_or cell k d)) at
    (Contains-get_or cell k d within))

pub cell_exact : (boxes : List Rect) (around : Rect) (cells : List (List ℕ)) (k : ℕ) (level : Level) (p : Pt)
    (cell : List ℕ) → IsAround around boxes → IsKeptLevel boxes around cells k level
    → cell ≡ numbers_at cells (cell_of level (put_of around p)) → (n : ℕ) → IsHolder boxes p n
    → Contains cell n ↔ (level_of (box_at boxes n) ≡ k)
cell_exact boxes around cells k level p cell round kept at n holder =
    let same = put_same around p (outer_has around (box_at boxes n) p (round.all n no_box holder.0) holder.1) in
    let there : cell ≡ numbers_at cells (cell_of level p) = at
    ∙ ap (λ (q : Pt). numbers_at cells (cell_of level q)) same in (
      λ c. (kept.is.of_level (cell_of level p) n (cell_within level p) (subst (λ (l : List ℕ). Contains l n) there c)).1
          ∙ kept.number,
      λ e. subst (λ (l : List ℕ). Contains l n) (sym there) (kept.is.held n p (holder.0, e ∙ sym kept.number) holder.1),
    )

-- a level that has boxes
pub used_kept : (boxes : List Rect) (around : Rect) (cells : List (List ℕ)) (levels : List Level) (used items : List ℕ)
    (i : ℕ) (level : Level) → AreUsed (length levels) boxes used → AreLaid levels
    → All (λ (v : Level). v.low ≡ corner_of around) levels → All (λ (v : Level). IsLevelOf boxes cells v) levels
    → items ≡ used → i < length items → level ≡ get_or levels (get_or items i 0) level
    → IsKeptLevel boxes around cells (get_or items i 0) level
used_kept boxes around cells levels used items i level are laid low all same within is =
    let there : i < length used = subst (λ (l : List ℕ). i < length l) same within in
    let below : get_or items i 0 < length levels =
    subst (λ (l : List ℕ). get_or l i 0 < length levels) (sym same) (are.below i 0 there) in
    level_kept boxes around cells levels (get_or items i 0) level laid low all below is

-- a level that has boxes, where its number is read first
pub number_kept : (boxes : List Rect) (around : Rect) (cells : List (List ℕ)) (levels : List Level) (used : List ℕ)
    (i number : ℕ) (level : Level) → AreUsed (length levels) boxes used → AreLaid levels
    → All (λ (v : Level). v.low ≡ corner_of around) levels → All (λ (v : Level). IsLevelOf boxes cells v) levels
    → i < length used → number ≡ get_or used i number → level ≡ get_or levels number level
    → IsKeptLevel boxes around cells number level
number_kept boxes around cells levels used i number level are laid low all within read is =
    level_kept boxes around cells levels number level laid low all
    (subst (λ (n : ℕ). n < length levels) (sym read) (are.below i number within)) is

-- its low corner, wherever its number is read
pub number_low : (boxes : List Rect) (around : Rect) (levels : List Level) (used : List ℕ) (i number : ℕ)
    (level : Level) → AreUsed (length levels) boxes used → All (λ (v : Level). v.low ≡ corner_of around) levels
    → number ≡ get_or used i number → i < length used → level ≡ get_or levels number level
    → level.low ≡ corner_of around
number_low boxes around levels used i number level are low read within is =
    ap (λ (v : Level). v.low) is
    ∙ low number level (subst (λ (n : ℕ). n < length levels) (sym read) (are.below i number within))
