-- The nearest of four ends: it is one, and it exists.
use Rattle.std.proofs.Common.{◌⊎◌, inl, inr, ℕ, ◌*◌, ◌<◌, ◌≤◌, pos, ◌+ℤ◌, ◌≤ℤ◌, ◌<ℤ◌, unsigned_abs}
use Rattle.std.proofs.Common.{refl, sym, ◌∙◌, ap, subst, arith}
use Rattle.std.proofs.lemmas.Bool.{cases_lt}
use Rattle.std.proofs.lemmas.Int.{ints}
use Rattle.integer_ring.proofs.Order.{≤_or_>, ≤_of_<}
use Rattle.integer_ring.proofs.Signs.{frac-≤_trans, frac-<-≤_trans}
use Rattle.plane_base.specs.declared.shapes.Pt.{Pt}
use Rattle.seg_gap.specs.Ends.{IsNearestEnd, first_start, first_end, second_start, second_end}
use Rattle.seg_gap.specs.InsideEnds.{dot_of}
use Rattle.seg_gap.specs.InsideSquares.{Square, IsBelow, IsAtMost, IsNearer, IsEndOf}
use Rattle.seg_gap.specs.Laws.{NearestEndIsOne, NearestEndExists}
use Rattle.seg_gap.proofs.Steps.{whole_turn}
use Rattle.seg_gap.proofs.Feet.{sum_some}
use Rattle.seg_gap.proofs.Squares.{own_magnitude, magnitude_squared, dot_nonneg, square_of_end, square_swapped}
use Rattle.seg_gap.proofs.Squares.{square_of_foot, near_to, nearer_to, not_both}

-- ---- fractions
up_most : (i j : ℕ) → i ≤ j → pos i ≤ℤ pos j
up_most i j h = omega (arith, ints)

up_below : (i j : ℕ) → i < j → pos i <ℤ pos j
up_below i j h = omega (arith, ints)

down_most : (i j : ℕ) → pos i ≤ℤ pos j → i ≤ j
down_most i j h = omega (arith, ints)

down_below : (i j : ℕ) → pos i <ℤ pos j → i < j
down_below i j h = omega (arith, ints)

most_trans : (x y z : Square) → 0 < x.den → 0 < y.den → 0 < z.den → IsAtMost x y → IsAtMost y z → IsAtMost x z
most_trans x y z a b c h k =
    down_most (x.num * z.den) (z.num * x.den)
    (frac-≤_trans (pos x.num) (pos x.den) (pos y.num) (pos y.den) (pos z.num) (pos z.den) (up_below 0 x.den a)
    (up_below 0 y.den b) (up_below 0 z.den c) (up_most (x.num * y.den) (y.num * x.den) h)
    (up_most (y.num * z.den) (z.num * y.den) k))

below_trans : (x y z : Square) → 0 < x.den → 0 < y.den → 0 < z.den → IsBelow x y → IsAtMost y z → IsBelow x z
below_trans x y z a b c h k =
    down_below (x.num * z.den) (z.num * x.den)
    (frac-<-≤_trans (pos x.num) (pos x.den) (pos y.num) (pos y.den) (pos z.num) (pos z.den) (up_below 0 x.den a)
    (up_below 0 y.den b) (up_below 0 z.den c) (up_below (x.num * y.den) (y.num * x.den) h)
    (up_most (y.num * z.den) (z.num * y.den) k))

-- ---- the nearer of two
pub record IsLow (x y r : Square) : Type 0 where
  pub first : IsAtMost r x
  pub second : IsAtMost r y
  pub some : 0 < r.den

low_of : (x y r : Square) → 0 < x.den → 0 < y.den → IsNearer x y r → IsLow x y r
low_of x y r a b below = grind arith

pub nearest_among : (a b c d : Pt) (w x y z f s r : Square) → IsEndOf a c d w → IsEndOf b c d x → IsEndOf c a b y
    → IsEndOf d a b z → IsNearer w x f → IsNearer f y s → IsNearer s z r → IsNearestEnd a b c d r.end
nearest_among a b c d w x y z f s r ends_a ends_b ends_c ends_d one two three =
    let first = low_of w x f ends_a.least.some ends_b.least.some one in
    let second = low_of f y s first.some ends_c.least.some two in
    let s_w : IsAtMost s w =
    most_trans s f w second.some first.some ends_a.least.some second.first first.first in
    let s_x : IsAtMost s x =
    most_trans s f x second.some first.some ends_b.least.some second.first first.second in
    by one two three first second s_w s_x
  where
    by : IsNearer w x f → IsNearer f y s → IsNearer s z r → IsLow w x f → IsLow f y s → IsAtMost s w → IsAtMost s x
        → IsNearestEnd a b c d r.end
    by one two (inl (is, below)) first second s_w s_x =
        second_end (ap (λ (t : Square). t.end) is ∙ ends_d.end_is)
        (nearer_to d a b a c d z.num z.den w.num w.den ends_d.least ends_a.least
        (below_trans z s w ends_d.least.some second.some ends_a.least.some below s_w))
        (nearer_to d a b b c d z.num z.den x.num x.den ends_d.least ends_b.least
        (below_trans z s x ends_d.least.some second.some ends_b.least.some below s_x))
        (nearer_to d a b c a b z.num z.den y.num y.den ends_d.least ends_c.least
        (below_trans z s y ends_d.least.some second.some ends_c.least.some below second.second))
    by one (inl (at_y, below)) (inr (is, most)) first second s_w s_x =
        second_start (ap (λ (t : Square). t.end) (is ∙ at_y) ∙ ends_c.end_is)
        (nearer_to c a b a c d y.num y.den w.num w.den ends_c.least ends_a.least
        (below_trans y f w ends_c.least.some first.some ends_a.least.some below first.first))
        (nearer_to c a b b c d y.num y.den x.num x.den ends_c.least ends_b.least
        (below_trans y f x ends_c.least.some first.some ends_b.least.some below first.second))
        (near_to c a b d a b y.num y.den z.num z.den ends_c.least ends_d.least
        (subst (λ (t : Square). IsAtMost t z) at_y most))
    by (inl (at_x, below)) (inr (at_f, over_y)) (inr (is, most)) first second s_w s_x =
        first_end (ap (λ (t : Square). t.end) (is ∙ at_f ∙ at_x) ∙ ends_b.end_is)
        (nearer_to b c d a c d x.num x.den w.num w.den ends_b.least ends_a.least below)
        (near_to b c d c a b x.num x.den y.num y.den ends_b.least ends_c.least
        (subst (λ (t : Square). IsAtMost t y) at_x over_y))
        (near_to b c d d a b x.num x.den z.num z.den ends_b.least ends_d.least
        (subst (λ (t : Square). IsAtMost t z) (at_f ∙ at_x) most))
    by (inr (at_w, over_x)) (inr (at_f, over_y)) (inr (is, most)) first second s_w s_x =
        first_start (ap (λ (t : Square). t.end) (is ∙ at_f ∙ at_w) ∙ ends_a.end_is)
        (near_to a c d b c d w.num w.den x.num x.den ends_a.least ends_b.least over_x)
        (near_to a c d c a b w.num w.den y.num y.den ends_a.least ends_c.least
        (subst (λ (t : Square). IsAtMost t y) at_w over_y))
        (near_to a c d d a b w.num w.den z.num z.den ends_a.least ends_d.least
        (subst (λ (t : Square). IsAtMost t z) (at_f ∙ at_w) most))

-- ---- one
pub nearest_end_is_one : NearestEndIsOne
nearest_end_is_one a b c d p q (first_start e h i j) (first_start f k l m) = e ∙ sym f
nearest_end_is_one a b c d p q (first_start e h i j) (first_end f k l m) = absurd (not_both b c d a c d k h)
nearest_end_is_one a b c d p q (first_start e h i j) (second_start f k l m) = absurd (not_both c a b a c d k i)
nearest_end_is_one a b c d p q (first_start e h i j) (second_end f k l m) = absurd (not_both d a b a c d k j)
nearest_end_is_one a b c d p q (first_end e h i j) (first_start f k l m) = absurd (not_both b c d a c d h k)
nearest_end_is_one a b c d p q (first_end e h i j) (first_end f k l m) = e ∙ sym f
nearest_end_is_one a b c d p q (first_end e h i j) (second_start f k l m) = absurd (not_both c a b b c d l i)
nearest_end_is_one a b c d p q (first_end e h i j) (second_end f k l m) = absurd (not_both d a b b c d l j)
nearest_end_is_one a b c d p q (second_start e h i j) (first_start f k l m) = absurd (not_both c a b a c d h l)
nearest_end_is_one a b c d p q (second_start e h i j) (first_end f k l m) = absurd (not_both c a b b c d i l)
nearest_end_is_one a b c d p q (second_start e h i j) (second_start f k l m) = e ∙ sym f
nearest_end_is_one a b c d p q (second_start e h i j) (second_end f k l m) = absurd (not_both d a b c a b m j)
nearest_end_is_one a b c d p q (second_end e h i j) (first_start f k l m) = absurd (not_both d a b a c d h m)
nearest_end_is_one a b c d p q (second_end e h i j) (first_end f k l m) = absurd (not_both d a b b c d i m)
nearest_end_is_one a b c d p q (second_end e h i j) (second_start f k l m) = absurd (not_both d a b c a b j m)
nearest_end_is_one a b c d p q (second_end e h i j) (second_end f k l m) = e ∙ sym f

-- ---- some
some_square : (p c d : Pt) → (square : Square) × IsEndOf p c d square
some_square p c d = by (≤_or_> (dot_of c p d) (pos 0)) (≤_or_> (dot_of d p c) (pos 0))
  where
    by : (dot_of c p d ≤ℤ pos 0) ⊎ (pos 0 <ℤ dot_of c p d) → (dot_of d p c ≤ℤ pos 0) ⊎ (pos 0 <ℤ dot_of d p c)
        → (square : Square) × IsEndOf p c d square
    by (inl from) other =
        let n = unsigned_abs (dot_of c p p) in (
          record { end = p; num = n; den = 1 },
          record {
            end_is = refl;
            least = square_of_end p c d n 1 from (own_magnitude (dot_of c p p) (dot_nonneg c p)) refl;
          },
        )
    by (inr from) (inl to) =
        let n = unsigned_abs (dot_of d p p) in (
          record { end = p; num = n; den = 1 },
          record {
            end_is = refl;
            least =
                square_swapped p c d n 1
                (square_of_end p d c n 1 to (own_magnitude (dot_of d p p) (dot_nonneg d p)) refl);
          },
        )
    by (inr from) (inr to) =
        let t = whole_turn c d p in
        let sum = dot_of c p d +ℤ dot_of d p c in
        let n = unsigned_abs t * unsigned_abs t in
        let m = unsigned_abs sum in (
          record { end = p; num = n; den = m },
          record {
            end_is = refl;
            least =
                square_of_foot p c d t n m from to refl (magnitude_squared t)
                (own_magnitude sum (≤_of_< (pos 0) sum (sum_some (dot_of c p d) (dot_of d p c) from to)));
          },
        )

nearer_of : (x y : Square) → (r : Square) × IsNearer x y r
nearer_of x y = by (cases_lt (y.num * x.den) (x.num * y.den))
  where
    by : (y.num * x.den < x.num * y.den) ⊎ (x.num * y.den ≤ y.num * x.den) → (r : Square) × IsNearer x y r
    by (inl below) = (y, inl (refl, below))
    by (inr most) = (x, inr (refl, most))

pub nearest_end_exists : NearestEndExists
nearest_end_exists a b c d =
    let (w, ends_a) = some_square a c d in
    let (x, ends_b) = some_square b c d in
    let (y, ends_c) = some_square c a b in
    let (z, ends_d) = some_square d a b in
    let (f, one) = nearer_of w x in
    let (s, two) = nearer_of f y in
    let (r, three) = nearer_of s z in
    (r.end, nearest_among a b c d w x y z f s r ends_a ends_b ends_c ends_d one two three)
