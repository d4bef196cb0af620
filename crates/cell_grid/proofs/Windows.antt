-- Boxes that begin in the window of a cell are just those that are reported there.
use Rattle.std.proofs.Common.{◌≡◌, ◌⊎◌, ◌↔◌, inl, inr, ⊎_elim, ℕ, ◌+◌, ◌-◌, ◌*◌, ◌/◌, ◌%◌, ◌^◌, ◌<◌, ◌≤◌, Bool, true}
use Rattle.std.proofs.Common.{false, ◌&&◌, IsTrue, refl, sym, ap, ◌∙◌, subst, arith}
use Rattle.std.specs.Prelude.{max, min}
use Rattle.std.proofs.lemmas.Bool.{cases_lt}
use Rattle.std.proofs.lemmas.Int.{ints}
use Rattle.std.proofs.lemmas.Nat.{le-div, div-add-mod', pow_pos, mod_below, div_below, same_from_place}
use Rattle.plane_base.specs.declared.shapes.Rect.{Rect}
use Rattle.plane_base.specs.Boxes.{IsOrdered, ShareAPoint}
use Rattle.plane_base.proofs.Bounds.BoxLemmas.{shared, meeting}
use Rattle.cell_grid.specs.Stripes.{IsPastCorner}
use Rattle.cell_grid.specs.Cells.{column_of, row_of}
use Rattle.cell_grid.specs.InsideOffsets.{rect_of}
use Rattle.cell_grid.specs.InsideLevelPartners.{IsAsked, IsTold, least}
use Rattle.cell_grid.specs.InsideWindows.{IsBetween, AreBoundsOf, IsWindow}
use Rattle.cell_grid.specs.declared.level_partners.PartnerSearch.{PartnerSearch}
use Rattle.cell_grid.specs.declared.level_partners.Bounds.{Bounds}
use Rattle.cell_grid.specs.declared.level_partners.Window.{Window}
use Rattle.cell_grid.specs.declared.offsets.Offsets.{Offsets}
use Rattle.cell_grid.proofs.Indices.{point_in, index_parts}
use Rattle.cell_grid.proofs.OffsetBoxes.{stripe_at, least_column, least_row}
use Rattle.cell_grid.proofs.Tells.{least_has}

-- ---- the numbers of a stripe
to_stripe : (n w q : ℕ) → 0 < w → q * w ≤ n → n < q * w + w → n / w ≡ q
to_stripe n w q some low high =
    let same = same_from_place (n / w) (n % w) q (n - q * w) w (mod_below n w some) (omega (arith, low, high))
    (div-add-mod' n w ∙ sym (omega (arith, low))) in same.0

from_stripe : (n w q : ℕ) → 0 < w → n / w ≡ q → (q * w ≤ n) × (n < q * w + w)
from_stripe n w q some e =
    let whole : q * w + n % w ≡ n = subst (λ (k : ℕ). k * w + n % w ≡ n) e (div-add-mod' n w) in
    let rest = mod_below n w some in (omega (arith, whole), omega (arith, whole, rest))

-- a number whose stripe is not after another one begins before the end of that one
before_end : (n w q : ℕ) → 0 < w → n / w ≤ q → n < q * w + w
before_end n w q some h = ⊎_elim (λ less. less)
    (λ more. absurd (omega (arith, h, le-div (q + 1) n w some (omega (arith, more))))) (cases_lt n (q * w + w))

-- and a number whose stripe is not before another one is not before the beginning of that one
from_start : (n w q : ℕ) → 0 < w → q ≤ n / w → q * w ≤ n
from_start n w q some h = ⊎_elim (λ less. absurd (omega (arith, h, div_below n w q some less))) (λ more. more)
    (cases_lt n (q * w))

-- ---- the bounds
both : (n w s first last low high : ℕ) → first < s + w → s ≤ last → high ≤ last → high + 1 ≤ s + w
    → ((s ≤ first) × (low ≡ 0)) ⊎ ((first < s) × (low ≡ s)) → (low ≤ n) × (n ≤ high)
    → (n ≤ last) × (s ≤ max n first) × (max n first < s + w)
both n w s first last low high a b c d (inl e) h = (omega (arith, h.1, c), omega (arith, e.0), omega (arith, a, h.1, d))
both n w s first last low high a b c d (inr e) h =
    (omega (arith, h.1, c), omega (arith, h.0, e.1), omega (arith, a, h.1, d))

back : (n w s first last low high : ℕ) → (last ≤ high) ⊎ (s + w ≤ high + 1)
    → ((s ≤ first) × (low ≡ 0)) ⊎ ((first < s) × (low ≡ s)) → n ≤ last → s ≤ max n first → max n first < s + w
    → (low ≤ n) × (n ≤ high)
back n w s first last low high d e h i j = (begin e, end d)
  where
    begin : ((s ≤ first) × (low ≡ 0)) ⊎ ((first < s) × (low ≡ s)) → low ≤ n
    begin (inl e) = omega (arith, e.1)
    begin (inr e) = omega (arith, e.0, e.1, i)

    end : (last ≤ high) ⊎ (s + w ≤ high + 1) → n ≤ high
    end (inl d) = omega (arith, d, h)
    end (inr d) = omega (arith, d, j)

pub bounds_of : (shift stripe first last low high : ℕ) → first / 2 ^ shift ≤ stripe → stripe ≤ last / 2 ^ shift
    → high ≡ min last (stripe * 2 ^ shift + (2 ^ shift - 1))
    → ((stripe * 2 ^ shift ≤ first) × (low ≡ 0)) ⊎ ((first < stripe * 2 ^ shift) × (low ≡ stripe * 2 ^ shift))
    → AreBoundsOf shift stripe first last (record { first = low; last = high })
bounds_of shift stripe first last low high from to least begin n = (
  λ h.
      let all = both n w (stripe * w) first last low high (before_end first w stripe some from)
      (from_start last w stripe some to) within short begin h in
      (all.0, to_stripe (max n first) w stripe some all.1 all.2),
  λ h.
      let at = from_stripe (max n first) w stripe some h.1 in
      back n w (stripe * w) first last low high (long (cases_lt last (stripe * w + w))) begin h.0 at.0 at.1,
)
  where
    w : ℕ
    w = 2 ^ shift

    some : 0 < 2 ^ shift
    some = pow_pos shift

    within : high ≤ last
    within = omega (arith, least)

    short : high + 1 ≤ stripe * 2 ^ shift + 2 ^ shift
    short = omega (arith, least, some)

    long : (last < stripe * 2 ^ shift + 2 ^ shift) ⊎ (stripe * 2 ^ shift + 2 ^ shift ≤ last)
        → (last ≤ high) ⊎ (stripe * 2 ^ shift + 2 ^ shift ≤ high + 1)
    long (inl h) = inl (omega (arith, h, least, some))
    long (inr h) = inr (omega (arith, h, least, some))

-- ---- the stripes of the box that asks
own_column : (asked : PartnerSearch) → IsAsked asked
    → column_of asked.level asked.rect.x0 ≡ asked.own.x0 / 2 ^ asked.level.shift
own_column asked is = subst (λ (r : Rect). column_of asked.level r.x0 ≡ asked.own.x0 / 2 ^ asked.level.shift) is.own
    (stripe_at asked.level.low.x asked.level.shift asked.own.x0)

last_column : (asked : PartnerSearch) → IsAsked asked
    → column_of asked.level asked.rect.x1 ≡ asked.own.x1 / 2 ^ asked.level.shift
last_column asked is = subst (λ (r : Rect). column_of asked.level r.x1 ≡ asked.own.x1 / 2 ^ asked.level.shift) is.own
    (stripe_at asked.level.low.x asked.level.shift asked.own.x1)

own_row : (asked : PartnerSearch) → IsAsked asked → row_of asked.level asked.rect.y0 ≡ asked.own.y0 / 2 ^ asked.level.shift
own_row asked is = subst (λ (r : Rect). row_of asked.level r.y0 ≡ asked.own.y0 / 2 ^ asked.level.shift) is.own
    (stripe_at asked.level.low.y asked.level.shift asked.own.y0)

last_row : (asked : PartnerSearch) → IsAsked asked → row_of asked.level asked.rect.y1 ≡ asked.own.y1 / 2 ^ asked.level.shift
last_row asked is = subst (λ (r : Rect). row_of asked.level r.y1 ≡ asked.own.y1 / 2 ^ asked.level.shift) is.own
    (stripe_at asked.level.low.y asked.level.shift asked.own.y1)

pub record IsCellOf (asked : PartnerSearch) (column row : ℕ) : Type 0 where
  pub left : asked.own.x0 / 2 ^ asked.level.shift ≤ column
  pub right : column ≤ asked.own.x1 / 2 ^ asked.level.shift
  pub bottom : asked.own.y0 / 2 ^ asked.level.shift ≤ row
  pub top : row ≤ asked.own.y1 / 2 ^ asked.level.shift

-- a cell of the block is between those of the corners
pub cell_within : (asked : PartnerSearch) (index column row : ℕ) → IsAsked asked
    → index < asked.block.columns * asked.block.rows → column ≡ asked.block.column + index % asked.block.columns
    → row ≡ asked.block.row + index / asked.block.columns → IsCellOf asked column row
cell_within asked index column row is h c r =
    let block = asked.block in
    let some : 0 < block.columns = block.some in
    let across = mod_below index block.columns some in
    let up = div_below index block.columns block.rows some (omega (arith, h)) in
    record {
      left = omega (arith, c, own_column asked is, is.block.column);
      right = omega (arith, c, across, last_column asked is, is.block.columns);
      bottom = omega (arith, r, own_row asked is, is.block.row);
      top = omega (arith, r, up, last_row asked is, is.block.rows);
    }

pub short_x : (asked : PartnerSearch) → IsAsked asked → asked.own.x1 < 2 ^ 31
short_x asked is = omega (
  arith,
  ints,
  (subst (λ (r : Rect). IsPastCorner asked.level.low r) (sym is.own)
      is.past).right.1,
)

pub short_y : (asked : PartnerSearch) → IsAsked asked → asked.own.y1 < 2 ^ 31
short_y asked is = omega (
  arith,
  ints,
  (subst (λ (r : Rect). IsPastCorner asked.level.low r) (sym is.own)
      is.past).top.1,
)

-- ---- what is reported at a cell
within_true : (a b : Bool) → IsTrue (a && b) → IsTrue a × IsTrue b
within_true true true t = (refl, refl)
within_true true false t = cc
within_true false b t = cc

both_true : (a b : Bool) → IsTrue a → IsTrue b → IsTrue (a && b)
both_true true true s t = refl
both_true true false s t = cc
both_true false b s t = cc

-- a box that begins within the bounds, and does not end before the one that asks begins
abbrev pub DoesMeet : Bounds → ℕ → ℕ → ℕ → Type 0
DoesMeet bounds start first last = IsBetween bounds first × (start ≤ last)

pub told_by_window : (asked : PartnerSearch) (window : Window) (other : Offsets) (wide high : Bool) → IsAsked asked
    → IsWindow asked window → IsPastCorner asked.level.low (rect_of asked.level.low other)
    → IsTrue wide ↔ DoesMeet window.x asked.own.x0 other.x0 other.x1
    → IsTrue high ↔ DoesMeet window.y asked.own.y0 other.y0 other.y1
    → IsTrue (wide && high) ↔ IsTold asked window.index (rect_of asked.level.low other)
told_by_window asked window other wide high is of past x y = (there, back_again)
  where
    p : Rect
    p = rect_of asked.level.low other

    column : column_of asked.level (least p asked.rect).x ≡ max other.x0 asked.own.x0 / 2 ^ asked.level.shift
    column = least_column asked.level other asked.own asked.rect is.own

    row : row_of asked.level (least p asked.rect).y ≡ max other.y0 asked.own.y0 / 2 ^ asked.level.shift
    row = least_row asked.level other asked.own asked.rect is.own

    ordered : IsOrdered (rect_of asked.level.low asked.own)
    ordered = subst (λ (r : Rect). IsOrdered r) (sym is.own) is.past.ordered

    there : IsTrue (wide && high) → IsTold asked window.index p
    there t =
        let yes = within_true wide high t in
        let a = x.0 yes.0 in
        let b = y.0 yes.1 in
        let c = (of.x other.x0).0 a.0 in
        let d = (of.y other.y0).0 b.0 in
        let cell = asked.block in
        record {
          shared = subst (λ (r : Rect). ShareAPoint p r) is.own
              (shared p (rect_of asked.level.low asked.own) past.ordered ordered
              (record {
                left = omega (arith, ints, c.0);
                right = omega (arith, ints, a.1);
                bottom =
                    omega (arith, ints, d.0);
                top = omega (arith, ints, b.1);
              }));
          here = rw (column ∙ c.1, row ∙ d.1) (index_again window.index cell.column cell.row cell.columns);
        }
      where
        index_again : (i c r m : ℕ) → ((r + i / m) - r) * m + ((c + i % m) - c) ≡ i
        index_again i c r m =
            let up : (r + i / m) - r ≡ i / m = omega arith in
            let over : (c + i % m) - c ≡ i % m = omega arith in
            rw (up, over) (div-add-mod' i m)

    back_again : IsTold asked window.index p → IsTrue (wide && high)
    back_again told =
        let m = meeting p (rect_of asked.level.low asked.own)
        (subst (λ (r : Rect). ShareAPoint p r) (sym is.own) told.shared) in
        let common = least_has p asked.rect past.ordered is.past.ordered told.shared in
        let inside = point_in asked.level asked.rect asked.block (least p asked.rect) is.past is.block common.1 in
        let parts = index_parts asked.block (column_of asked.level (least p asked.rect).x)
        (row_of asked.level (least p asked.rect).y) inside in
        let at_row : row_of asked.level (least p asked.rect).y - asked.block.row ≡ window.index / asked.block.columns =
        sym parts.0 ∙ ap (λ (i : ℕ). i / asked.block.columns) told.here in
        let at_column : column_of asked.level (least p asked.rect).x - asked.block.column
        ≡ window.index % asked.block.columns = sym parts.1 ∙ ap (λ (i : ℕ). i % asked.block.columns) told.here in
        both_true wide high
        (x.1 (
          (of.x other.x0).1 (omega (arith, ints, m.left), sym column ∙ omega (arith, at_column, inside.left)),
          omega
              (arith, ints, m.right),
        ))
        (y.1 (
          (of.y other.y0).1 (omega (arith, ints, m.bottom), sym row ∙ omega (arith, at_row, inside.bottom)),
          omega
              (arith, ints, m.top),
        ))
