-- Boxes that are kept by their offsets from a low corner.
use Rattle.std.proofs.Common.{◌≡◌, ℕ, ◌+◌, ◌/◌, ◌^◌, ◌<◌, ℤ, pos, ◌+ℤ◌, ◌-ℤ◌, unsigned_abs, List, [], ◌∷◌, ◌++◌, length}
use Rattle.std.proofs.Common.{map, take, get_or, sym, ap, ◌∙◌, subst, arith}
use Rattle.std.proofs.lemmas.Int.{ints, int_max_is}
use Rattle.std.proofs.lemmas.List.{map-append, take_more, get_or-map, length-map}
use Rattle.std.specs.Int.{int_max}
use Rattle.std.specs.Prelude.{max}
use Rattle.plane_base.specs.declared.shapes.Pt.{Pt}
use Rattle.plane_base.specs.declared.shapes.Rect.{Rect}
use Rattle.plane_base.specs.Boxes.{IsOrdered, HasBox}
use Rattle.cell_grid.specs.Boxes.{AreOrdered, box_at, no_box}
use Rattle.cell_grid.specs.Around.{IsAround, corner_of}
use Rattle.cell_grid.specs.InsideOffsets.{rect_of, PlacedBoxes}
use Rattle.cell_grid.specs.Stripes.{stripe_of}
use Rattle.cell_grid.specs.Cells.{column_of, row_of}
use Rattle.cell_grid.specs.InsideLevelPartners.{least, IsTold}
use Rattle.cell_grid.specs.declared.level_partners.PartnerSearch.{PartnerSearch}
use Rattle.cell_grid.specs.declared.levels.Level.{Level}
use Rattle.cell_grid.specs.declared.offsets.Offsets.{Offsets}

-- ---- a list of them
-- the boxes of some offsets
abbrev pub placed : Rect → List Offsets → List Rect
placed around items = map (rect_of (corner_of around)) items

pub placed_more : (around : Rect) (boxes : List Rect) (i : ℕ) (xs ys : List Offsets) (o : Offsets) → i < length boxes
    → rect_of (corner_of around) o ≡ get_or boxes i no_box → ys ≡ xs ++ o ∷ [] → placed around xs ≡ take i boxes
    → placed around ys ≡ take (i + 1) boxes
placed_more around boxes i xs ys o within is made before =
    ap (λ (l : List Offsets). placed around l) made ∙ map-append (rect_of (corner_of around)) xs (o ∷ [])
    ∙ ap (λ (l : List Rect). l ++ rect_of (corner_of around) o ∷ []) before
    ∙ ap (λ (r : Rect). take i boxes ++ r ∷ []) is ∙ sym (take_more boxes i no_box within)

pub placed_at : (around : Rect) (items : List Offsets) (i : ℕ) (o : Offsets) → i < length items → o ≡ get_or items i o
    → rect_of (corner_of around) o ≡ box_at (placed around items) i
placed_at around items i o within is = ap (rect_of (corner_of around)) is
    ∙ sym (get_or-map (rect_of (corner_of around)) items i o no_box within)

-- it is in the box round all
pub placed_inside : (around : Rect) (items : List Offsets) (i : ℕ) (o : Offsets) → AreOrdered (placed around items)
    → IsAround around (placed around items) → i < length items → o ≡ get_or items i o
    → IsOrdered (rect_of (corner_of around) o) × HasBox around (rect_of (corner_of around) o)
placed_inside around items i o ordered round within is =
    let at = placed_at around items i o within is in
    let there : i < length (placed around items) =
    subst (λ (n : ℕ). i < n) (sym (length-map items (rect_of (corner_of around)))) within in (
      subst (λ (r : Rect). IsOrdered r) (sym at) (ordered i no_box there),
      subst (λ (r : Rect). HasBox around r) (sym at) (round.all i no_box there),
    )

-- a number of the list
pub placed_within : (around : Rect) (items : List Offsets) (seen : PlacedBoxes) (number : ℕ)
    → record { around = around; boxes = placed around items } ≡ seen → number < length seen.boxes
    → number < length items
placed_within around items seen number is h =
    subst (λ (n : ℕ). number < n) (length-map items (rect_of (corner_of around)))
    (subst (λ (v : PlacedBoxes). number < length v.boxes) (sym is) h)

-- ---- where the least common point is
-- the greater of two offsets is that of the greater number
greater_offset : (low : ℤ) (a b : ℕ) → int_max (low +ℤ pos a) (low +ℤ pos b) ≡ (low +ℤ pos (max a b))
greater_offset low a b = omega (arith, ints, int_max_is (low +ℤ pos a) (low +ℤ pos b))

offset_of : (low : ℤ) (n : ℕ) → unsigned_abs ((low +ℤ pos n) -ℤ low) ≡ n
offset_of low n = omega (arith, ints)

pub stripe_at : (low : ℤ) (shift n : ℕ) → stripe_of low shift (low +ℤ pos n) ≡ n / 2 ^ shift
unfolding stripe_of
stripe_at low shift n = ap (λ (k : ℕ). k / 2 ^ shift) (offset_of low n)

stripe_past : (low : ℤ) (shift a b : ℕ) → stripe_of low shift (int_max (low +ℤ pos a) (low +ℤ pos b))
    ≡ max a b / 2 ^ shift
unfolding stripe_of
stripe_past low shift a b = ap (λ (z : ℤ). unsigned_abs (z -ℤ low) / 2 ^ shift) (greater_offset low a b)
    ∙ ap (λ (n : ℕ). n / 2 ^ shift) (offset_of low (max a b))

pub least_column : (level : Level) (p q : Offsets) (r : Rect) → rect_of level.low q ≡ r
    → column_of level (least (rect_of level.low p) r).x ≡ max p.x0 q.x0 / 2 ^ level.shift
least_column level p q r own = subst (λ (s : Rect). column_of level (least (rect_of level.low p) s).x
    ≡ max p.x0 q.x0 / 2 ^ level.shift) own (stripe_past level.low.x level.shift p.x0 q.x0)

pub least_row : (level : Level) (p q : Offsets) (r : Rect) → rect_of level.low q ≡ r
    → row_of level (least (rect_of level.low p) r).y ≡ max p.y0 q.y0 / 2 ^ level.shift
least_row level p q r own = subst (λ (s : Rect). row_of level (least (rect_of level.low p) s).y
    ≡ max p.y0 q.y0 / 2 ^ level.shift) own (stripe_past level.low.y level.shift p.y0 q.y0)

-- ---- a box by its offsets is itself
offsets_of : (asked : PartnerSearch) (boxes : PlacedBoxes) (number : ℕ) (o : Offsets) → corner_of boxes.around ≡ asked.level.low
    → rect_of (corner_of boxes.around) o ≡ box_at boxes.boxes number
    → rect_of asked.level.low o ≡ box_at boxes.boxes number
offsets_of asked boxes number o low is = subst (λ (p : Pt). rect_of p o ≡ box_at boxes.boxes number) low is

pub told_back : (asked : PartnerSearch) (boxes : PlacedBoxes) (index number : ℕ) (o : Offsets)
    → corner_of boxes.around ≡ asked.level.low → rect_of (corner_of boxes.around) o ≡ box_at boxes.boxes number
    → IsTold asked index (rect_of asked.level.low o) → IsTold asked index (box_at boxes.boxes number)
told_back asked boxes index number o low is h =
    subst (λ (r : Rect). IsTold asked index r) (offsets_of asked boxes number o low is) h

pub told_same : (asked : PartnerSearch) (boxes : PlacedBoxes) (index n number : ℕ) (o : Offsets)
    → corner_of boxes.around ≡ asked.level.low → rect_of (corner_of boxes.around) o ≡ box_at boxes.boxes number
    → n ≡ number
    → IsTold asked index (box_at boxes.boxes n) → IsTold asked index (rect_of asked.level.low o)
told_same asked boxes index n number o low is same h =
    subst (λ (r : Rect). IsTold asked index r) (sym (offsets_of asked boxes number o low is))
    (subst (λ (k : ℕ). IsTold asked index (box_at boxes.boxes k)) same h)
