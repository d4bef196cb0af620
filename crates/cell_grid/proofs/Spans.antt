-- A box round others, and what is moved into it.
use Rattle.std.proofs.Common.{◌≡◌, ℕ, ◌+◌, ◌<◌, ℤ, ◌-ℤ◌, ◌≤ℤ◌, ◌<ℤ◌, List, length, All, get_or, ⊎_elim, refl, sym, ap}
use Rattle.std.proofs.Common.{◌∙◌, subst, arith}
use Rattle.std.proofs.lemmas.Bool.{cases_lt}
use Rattle.std.proofs.lemmas.List.{get_or_read, get_or_default}
use Rattle.std.proofs.lemmas.Int.{ints, int_max_is, int_min_is}
use Rattle.std.specs.Int.{int_max, int_min}
use Rattle.plane_base.specs.declared.shapes.Pt.{Pt}
use Rattle.plane_base.specs.declared.shapes.Rect.{Rect}
use Rattle.plane_base.specs.declared.shapes.TheConstants.{SPAN}
use Rattle.plane_base.specs.Boxes.{HasPoint, HasBox, IsOrdered, box_of_boxes}
use Rattle.plane_base.proofs.Bounds.BoxLemmas.{joined_has, outer_box}
use Rattle.cell_grid.specs.Boxes.{IsWithinSpan, AreWithinSpan, no_box}
use Rattle.cell_grid.specs.Stripes.{IsPast, IsPastCorner}
use Rattle.cell_grid.specs.Around.{between, cut_of, put_of, corner_of}

-- ---- one axis: two spans joined
-- an end after a joined beginning
short_after : (a b x s : ℤ) → (x -ℤ a) <ℤ s → (x -ℤ b) <ℤ s → (x -ℤ int_min a b) <ℤ s
short_after a b x s h k = omega (arith, ints, int_min_is a b)

short_before : (a b x s : ℤ) → (a -ℤ x) <ℤ s → (b -ℤ x) <ℤ s → (int_max a b -ℤ x) <ℤ s
short_before a b x s h k = omega (arith, ints, int_max_is a b)

-- ---- the first boxes
pub record IsAroundFirst (boxes : List Rect) (count : ℕ) (all : Rect) : Type 0 where
  pub ordered : IsOrdered all
  pub span : IsWithinSpan all all
  pub to : All (λ rect. IsWithinSpan all rect) boxes
  pub from : All (λ rect. IsWithinSpan rect all) boxes
  pub inside : (k : ℕ) (d : Rect) → k < count → HasBox all (get_or boxes k d)

join_to : (p q r : Rect) → IsWithinSpan p r → IsWithinSpan q r → IsWithinSpan (box_of_boxes p q) r
join_to p q r a b = (short_after p.x0 q.x0 r.x1 SPAN a.0 b.0, short_after p.y0 q.y0 r.y1 SPAN a.1 b.1)

join_from : (p q r : Rect) → IsWithinSpan r p → IsWithinSpan r q → IsWithinSpan r (box_of_boxes p q)
join_from p q r a b = (short_before p.x1 q.x1 r.x0 SPAN a.0 b.0, short_before p.y1 q.y1 r.y0 SPAN a.1 b.1)

join_ordered : (p q : Rect) → IsOrdered p → IsOrdered (box_of_boxes p q)
join_ordered p q h = (
  omega (arith, ints, h.0, int_min_is p.x0 q.x0, int_max_is p.x1 q.x1),
  omega
      (arith, ints, h.1, int_min_is p.y0 q.y0, int_max_is p.y1 q.y1),
)

first_more : (boxes : List Rect) (i : ℕ) (all rect now : Rect) → i < length boxes → rect ≡ get_or boxes i rect
    → AreWithinSpan boxes → IsAroundFirst boxes i all → now ≡ box_of_boxes all rect → IsAroundFirst boxes (i + 1) now
first_more boxes i all rect now within read span is made =
    let to_all : All (λ q. IsWithinSpan rect q) boxes =
    subst (λ (r : Rect). All (λ q. IsWithinSpan r q) boxes) (sym read) (span i rect within) in
    let from_all : All (λ q. IsWithinSpan q rect) boxes =
    λ k d h. subst (λ (r : Rect). IsWithinSpan (get_or boxes k d) r) (sym read) (span k d h i rect within) in
    let itself : IsWithinSpan rect rect = subst (λ (r : Rect). IsWithinSpan rect r) (sym read) (to_all i rect within) in
    let there : IsWithinSpan all rect = subst (λ (r : Rect). IsWithinSpan all r) (sym read) (is.to i rect within) in
    let back : IsWithinSpan rect all = subst (λ (r : Rect). IsWithinSpan r all) (sym read) (is.from i rect within) in
    subst (λ (r : Rect). IsAroundFirst boxes (i + 1) r) (sym made) (record {
      ordered = join_ordered all rect is.ordered;
      span = join_from all rect (box_of_boxes all rect) (join_to all rect all is.span back)
          (join_to all rect rect there itself);
      to = λ k d h. join_to all rect (get_or boxes k d) (is.to k d h) (to_all k d h);
      from = λ k d h. join_from all rect (get_or boxes k d) (is.from k d h) (from_all k d h);
      inside = λ k d h. ⊎_elim
          (λ earlier. outer_box (box_of_boxes all rect) all (get_or boxes k d) (joined_has all rect).0
          (is.inside k d earlier))
          (λ late. let e : k ≡ i = omega arith in
          subst (λ (r : Rect). HasBox (box_of_boxes all rect) r)
          (get_or_read boxes i rect within read d ∙ ap (λ (n : ℕ). get_or boxes n d) (sym e))
          (joined_has all rect).1)
          (cases_lt k i);
    })

-- ---- moved into a box
pub between_in : (low high x : ℤ) → low ≤ℤ high → (low ≤ℤ between low high x) × (between low high x ≤ℤ high)
between_in low high x h = (
  omega (arith, ints, int_max_is low (int_min x high)),
  omega
      (arith, ints, int_max_is low (int_min x high), int_min_is x high),
)

between_up : (low high x y : ℤ) → low ≤ℤ high → x ≤ℤ y → between low high x ≤ℤ between low high y
between_up low high x y h up = omega (
  arith,
  ints,
  int_max_is low (int_min x high),
  int_min_is x high,
  int_max_is low
      (int_min y high),
  int_min_is y high,
)

between_same : (low high x : ℤ) → low ≤ℤ x → x ≤ℤ high → between low high x ≡ x
between_same low high x a b = omega (arith, ints, int_max_is low (int_min x high), int_min_is x high)

-- of a number in the box, what is before it stays before it
between_low : (low high r x : ℤ) → low ≤ℤ x → r ≤ℤ x → between low high r ≤ℤ x
between_low low high r x a b = omega (arith, ints, int_max_is low (int_min r high), int_min_is r high)

between_high : (low high r x : ℤ) → x ≤ℤ high → x ≤ℤ r → x ≤ℤ between low high r
between_high low high r x a b = omega (arith, ints, int_max_is low (int_min r high), int_min_is r high)

-- a number between two that are less than the span from each other
pub past : (low high x : ℤ) → (high -ℤ low) <ℤ SPAN → low ≤ℤ x → x ≤ℤ high → IsPast low x
past low high x h a b = (a, omega (arith, ints))

-- a box in the box round all
pub past_corner : (around rect : Rect) → IsOrdered rect → IsWithinSpan around around → HasBox around rect
    → IsPastCorner (corner_of around) rect
past_corner around rect ordered span inside =
    record {
      ordered = ordered;
      left = past around.x0 around.x1 rect.x0 span.0 inside.left (omega (arith, ints, inside.right, ordered.0));
      right = past around.x0 around.x1 rect.x1 span.0 (omega (arith, ints, inside.left, ordered.0)) inside.right;
      bottom = past around.y0 around.y1 rect.y0 span.1 inside.bottom (omega (arith, ints, inside.top, ordered.1));
      top = past around.y0 around.y1 rect.y1 span.1 (omega (arith, ints, inside.bottom, ordered.1)) inside.top;
    }

pub cut_past : (around r : Rect) → IsOrdered around → IsWithinSpan around around → IsOrdered r
    → IsPastCorner (corner_of around) (cut_of around r)
cut_past around r ordered span up =
    let x0 = between_in around.x0 around.x1 r.x0 ordered.0 in
    let x1 = between_in around.x0 around.x1 r.x1 ordered.0 in
    let y0 = between_in around.y0 around.y1 r.y0 ordered.1 in
    let y1 = between_in around.y0 around.y1 r.y1 ordered.1 in
    record {
      ordered = (
        between_up around.x0 around.x1 r.x0 r.x1 ordered.0 up.0,
        between_up around.y0 around.y1 r.y0 r.y1
            ordered.1 up.1,
      );
      left = past around.x0 around.x1 (between around.x0 around.x1 r.x0) span.0 x0.0 x0.1;
      right = past around.x0 around.x1 (between around.x0 around.x1 r.x1) span.0 x1.0 x1.1;
      bottom = past around.y0 around.y1 (between around.y0 around.y1 r.y0) span.1 y0.0 y0.1;
      top = past around.y0 around.y1 (between around.y0 around.y1 r.y1) span.1 y1.0 y1.1;
    }

-- a point of a box in the box round all
pub cut_has : (around r : Rect) (p : Pt) → HasPoint around p → HasPoint r p → HasPoint (cut_of around r) p
cut_has around r p a b =
    record {
      left = between_low around.x0 around.x1 r.x0 p.x a.left b.left;
      right = between_high around.x0 around.x1 r.x1 p.x a.right b.right;
      bottom = between_low around.y0 around.y1 r.y0 p.y a.bottom b.bottom;
      top = between_high around.y0 around.y1 r.y1 p.y a.top b.top;
    }

pub put_same : (around : Rect) (p : Pt) → HasPoint around p → put_of around p ≡ p
put_same around p a = rw (
  between_same around.x0 around.x1 p.x a.left a.right,
  between_same around.y0 around.y1 p.y
      a.bottom a.top,
) refl

pub first_next : (boxes : List Rect) (i : ℕ) (all now : Rect) → i < length boxes → AreWithinSpan boxes
    → IsAroundFirst boxes i all → now ≡ box_of_boxes all (get_or boxes i no_box) → IsAroundFirst boxes (i + 1) now
first_next boxes i all now within span is made =
    first_more boxes i all (get_or boxes i no_box) now within
    (get_or_default boxes i no_box (get_or boxes i no_box) within) span is made
