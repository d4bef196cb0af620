-- Two segments that do not cross are as far apart as their four ends say.
use Rattle.std.proofs.Common.{◌≡◌, ◌⊎◌, inl, inr, ℤ, pos, ◌+ℤ◌, ◌-ℤ◌, ◌*ℤ◌, ◌≤ℤ◌, ◌<ℤ◌, arith}
use Rattle.integer_ring.proofs.Ring.{Expr, num, neg, ◌⊕◌, ◌⊖◌, ◌⊗◌}
use Rattle.integer_ring.proofs.Order.{≤_or_>, ≤_of_<, ≤_antisymm, nonneg_square, nonneg_pos}
use Rattle.integer_ring.proofs.Signs.{zero_cases}
use Rattle.integer_ring.proofs.Claims.{Claim, ◌≐◌, ◌≼◌, ◌≺◌, gap, over, eqn, nat, ◌⊠◌, ◌because◌, ◌⇒◌}
use Rattle.integer_ring.proofs.Claims.{follows, solve}
use Rattle.plane_base.specs.Plane.{whole, turn_of}
use Rattle.plane_base.specs.declared.shapes.Pt.{Pt}
use Rattle.plane_base.proofs.Bounds.Sizes.{turn_whole}
use Rattle.plane_base.specs.TwoWeights.{AreWeights}
use Rattle.seg_gap.specs.InsideEnds.{AreOpposite, DoCross, way_to, IsLow}
use Rattle.seg_gap.proofs.Steps.{way_from, way_fromE, way_toE, square_toE, whole_turn, whole_turnE, length_of, IsFarAt}
use Rattle.seg_gap.proofs.Steps.{shrink, step}

-- all mixes of both segments
abbrev pub IsFar : ℤ → Pt → Pt → Pt → Pt → Type 0
IsFar m a b c d = (i j k l : ℤ) → AreWeights i j → AreWeights k l → IsFarAt m a b c d i j k l

-- what is known of the four ends
pub record AreLow (m : ℤ) (a b c d : Pt) : Type 0 where
  pub of_a : IsLow m a c d
  pub of_b : IsLow m b c d
  pub of_c : IsLow m c a b
  pub of_d : IsLow m d a b

-- that two mixes are as far apart, as a claim
abbrev pub way_betweenE : Expr → Expr → Expr → Expr → Expr → Expr → Expr → Expr → Expr
way_betweenE a b c d i j k l = way_fromE a b (k ⊗ c ⊕ l ⊗ d) (k ⊕ l) i j

abbrev pub is_far : Expr → Expr → Expr → Expr → Expr → Expr → Expr → Expr → Expr → Expr → Expr → Expr → Expr → Claim
is_far m ax ay bx by cx cy dx dy i j k l =
    m ⊗ (((i ⊕ j) ⊗ (k ⊕ l)) ⊗ ((i ⊕ j) ⊗ (k ⊕ l)))
    ≼ num (pos 4) ⊗ (way_betweenE ax bx cx dx i j k l ⊗ way_betweenE ax bx cx dx i j k l
    ⊕ way_betweenE ay by cy dy i j k l ⊗ way_betweenE ay by cy dy i j k l)

-- ---- a segment from its other end, and the two segments in the other order
pub weights_swapped : (k l : ℤ) → AreWeights k l → AreWeights l k
weights_swapped k l w =
    record {
      first = w.second;
      second = w.first;
      some = follows 2 (λ k l. num (pos 0) ≺ k ⊕ l ⇒ num (pos 0) ≺ l ⊕ k because over 0) tt k l w.some;
    }

pub low_swapped : (m : ℤ) (p c d : Pt) → IsLow m p d c → IsLow m p c d
low_swapped m p c d h k l w =
    follows 9 (λ m px py cx cy dx dy k l. m ⊗ ((l ⊕ k) ⊗ (l ⊕ k)) ≼ square_toE px py dx dy cx cy l k
    ⇒ m ⊗ ((k ⊕ l) ⊗ (k ⊕ l)) ≼ square_toE px py cx cy dx dy k l because gap 0) tt
    m p.x p.y c.x c.y d.x d.y k l (h l k (weights_swapped k l w))

lows_first : (m : ℤ) (a b c d : Pt) → AreLow m a b c d → AreLow m b a c d
lows_first m a b c d h =
    record { of_a = h.of_b; of_b = h.of_a; of_c = low_swapped m c b a h.of_c; of_d = low_swapped m d b a h.of_d }

lows_second : (m : ℤ) (a b c d : Pt) → AreLow m a b c d → AreLow m a b d c
lows_second m a b c d h =
    record { of_a = low_swapped m a d c h.of_a; of_b = low_swapped m b d c h.of_b; of_c = h.of_d; of_d = h.of_c }

lows_exchanged : (m : ℤ) (a b c d : Pt) → AreLow m a b c d → AreLow m c d a b
lows_exchanged m a b c d h = record { of_a = h.of_c; of_b = h.of_d; of_c = h.of_a; of_d = h.of_b }

far_first : (m : ℤ) (a b c d : Pt) → IsFar m b a c d → IsFar m a b c d
far_first m a b c d h i j k l v w =
    follows 13 (λ m ax ay bx by cx cy dx dy i j k l.
    is_far m bx by ax ay cx cy dx dy j i k l ⇒ is_far m ax ay bx by cx cy dx dy i j k l because gap 0) tt
    m a.x a.y b.x b.y c.x c.y d.x d.y i j k l (h j i k l (weights_swapped i j v) w)

far_exchanged : (m : ℤ) (a b c d : Pt) → IsFar m c d a b → IsFar m a b c d
far_exchanged m a b c d h i j k l v w =
    follows 13 (λ m ax ay bx by cx cy dx dy i j k l.
    is_far m cx cy dx dy ax ay bx by k l i j ⇒ is_far m ax ay bx by cx cy dx dy i j k l because gap 0) tt
    m a.x a.y b.x b.y c.x c.y d.x d.y i j k l (h k l i j w v)

far_second : (m : ℤ) (a b c d : Pt) → IsFar m a b d c → IsFar m a b c d
far_second m a b c d h = far_exchanged m a b c d (far_first m c d a b (far_exchanged m d c a b h))

-- ---- the second segment is a point
zero_square : (u v : ℤ) → (u *ℤ u +ℤ v *ℤ v) ≤ℤ pos 0 → u ≡ pos 0
zero_square u v h = grind (arith, zero_cases, ≤_antisymm, nonneg_square)

zero_other : (u v : ℤ) → (u *ℤ u +ℤ v *ℤ v) ≤ℤ pos 0 → v ≡ pos 0
zero_other u v h = zero_square v u (follows 2
    (λ u v. u ⊗ u ⊕ v ⊗ v ≼ num (pos 0) ⇒ v ⊗ v ⊕ u ⊗ u ≼ num (pos 0) because gap 0) tt u v h)

point_axis : (a b c d i j k l : ℤ) → d -ℤ c ≡ pos 0
    → (k +ℤ l) *ℤ way_to c a b i j ≡ pos 1 *ℤ way_from a b (k *ℤ c +ℤ l *ℤ d) (k +ℤ l) i j
point_axis =
    follows 8 (λ a b c d i j k l. d ⊖ c ≐ num (pos 0)
    ⇒ (k ⊕ l) ⊗ way_toE c a b i j ≐ num (pos 1) ⊗ way_fromE a b (k ⊗ c ⊕ l ⊗ d) (k ⊕ l) i j
    because eqn 0 ((i ⊕ j) ⊗ l)) tt

point_sum : (i j k l : ℤ) → (k +ℤ l) *ℤ (i +ℤ j) ≡ ((i +ℤ j) *ℤ (k +ℤ l)) *ℤ pos 1
point_sum = solve 4 (λ i j k l. (k ⊕ l) ⊗ (i ⊕ j) ≐ ((i ⊕ j) ⊗ (k ⊕ l)) ⊗ num (pos 1)) tt

far_point : (m : ℤ) (a b c d : Pt) → length_of c d ≤ℤ pos 0 → IsLow m c a b → IsFar m a b c d
far_point m a b c d h low i j k l v w =
    shrink m (i +ℤ j) (way_to c.x a.x b.x i j) (way_to c.y a.y b.y i j) (k +ℤ l) ((i +ℤ j) *ℤ (k +ℤ l)) (pos 1) (pos 1)
    (way_from a.x b.x (k *ℤ c.x +ℤ l *ℤ d.x) (k +ℤ l) i j) (way_from a.y b.y (k *ℤ c.y +ℤ l *ℤ d.y) (k +ℤ l) i j)
    (low i j v) (point_sum i j k l)
    (point_axis a.x b.x c.x d.x i j k l (zero_square (d.x -ℤ c.x) (d.y -ℤ c.y) h))
    (point_axis a.y b.y c.y d.y i j k l (zero_other (d.x -ℤ c.x) (d.y -ℤ c.y) h))
    (follows 0 (neg (num (pos 1)) ≼ num (pos 1) because nat 2) tt)
    (follows 0 (num (pos 1) ≼ num (pos 1) because nat 0) tt)
    (follows 0 (num (pos 0) ≺ num (pos 1) because nat 0) tt)

-- ---- a and b are on one side of the line of c and d, and a is not farther from it
-- how far the mix of a and b is from the line
mix_not_nearer : (u v i j : ℤ) → pos 0 ≤ℤ j → u ≤ℤ v → ((i +ℤ j) *ℤ u) ≤ℤ (i *ℤ u +ℤ j *ℤ v)
mix_not_nearer = follows 4 (λ u v i j. num (pos 0) ≼ j ⇒ u ≼ v ⇒ (i ⊕ j) ⊗ u ≼ i ⊗ u ⊕ j ⊗ v because gap 0 ⊠ gap 1) tt

times_some : (u m : ℤ) → pos 0 ≤ℤ u → pos 0 <ℤ m → pos 0 ≤ℤ (m *ℤ u)
times_some = follows 2 (λ u m. num (pos 0) ≼ u ⇒ num (pos 0) ≺ m ⇒ num (pos 0) ≼ m ⊗ u because gap 0 ⊠ gap 1) tt

on_it : (z t : ℤ) → z ≤ℤ pos 0 → t ≤ℤ z → pos 0 ≤ℤ t → pos 1 *ℤ z ≡ pos 1 *ℤ t
on_it z t h k p = grind (arith, ≤_antisymm)

nearer_first : (m : ℤ) (a b c d : Pt) → pos 0 <ℤ length_of c d → pos 0 ≤ℤ whole_turn c d a
    → whole_turn c d a ≤ℤ whole_turn c d b → AreLow m a b c d → IsFar m a b c d
nearer_first m a b c d hg from order low i j k l v w = go (≤_or_> z (pos 0))
  where
    z : ℤ
    z = i *ℤ whole_turn c d a +ℤ j *ℤ whole_turn c d b

    t : ℤ
    t = (i +ℤ j) *ℤ whole_turn c d a

    t_some : pos 0 ≤ℤ t
    t_some = times_some (whole_turn c d a) (i +ℤ j) from v.some

    t_to : t ≤ℤ z
    t_to = mix_not_nearer (whole_turn c d a) (whole_turn c d b) i j v.second order

    go : (z ≤ℤ pos 0) ⊎ (pos 0 <ℤ z) → IsFarAt m a b c d i j k l
    go (inl none) =
        step m a b c d i j k l (pos 1) (pos 1) v w (follows 0 (num (pos 0) ≺ num (pos 1) because nat 0) tt)
        (nonneg_pos 1) (follows 0 (num (pos 1) ≼ num (pos 1) because nat 0) tt) hg
        (on_it z t none t_to t_some) low.of_a low.of_c low.of_d
    go (inr some) =
        step m a b c d i j k l z t v w some t_some t_to hg
        (solve 2 (λ z t. t ⊗ z ≐ z ⊗ t) tt z t) low.of_a low.of_c low.of_d

left_of : (m : ℤ) (a b c d : Pt) → pos 0 <ℤ length_of c d → pos 0 ≤ℤ whole_turn c d a → pos 0 ≤ℤ whole_turn c d b
    → AreLow m a b c d → IsFar m a b c d
left_of m a b c d hg ha hb low = go (≤_or_> (whole_turn c d a) (whole_turn c d b))
  where
    go : (whole_turn c d a ≤ℤ whole_turn c d b) ⊎ (whole_turn c d b <ℤ whole_turn c d a) → IsFar m a b c d
    go (inl h) = nearer_first m a b c d hg ha h low
    go (inr h) = far_first m a b c d (nearer_first m b a c d hg hb (≤_of_< (whole_turn c d b) (whole_turn c d a) h)
        (lows_first m a b c d low))

-- ---- the line from the other end
other_side : (c d a : Pt) → whole_turn c d a ≤ℤ pos 0 → pos 0 ≤ℤ whole_turn d c a
other_side c d a =
    follows 6 (λ cx cy dx dy ax ay. whole_turnE cx cy dx dy ax ay ≼ num (pos 0)
    ⇒ num (pos 0) ≼ whole_turnE dx dy cx cy ax ay
    because gap 0) tt c.x c.y d.x d.y a.x a.y

same_length : (c d : Pt) → pos 0 <ℤ length_of c d → pos 0 <ℤ length_of d c
same_length c d =
    follows 4 (λ cx cy dx dy. num (pos 0) ≺ (dx ⊖ cx) ⊗ (dx ⊖ cx) ⊕ (dy ⊖ cy) ⊗ (dy ⊖ cy)
    ⇒ num (pos 0) ≺ (cx ⊖ dx) ⊗ (cx ⊖ dx) ⊕ (cy ⊖ dy) ⊗ (cy ⊖ dy) because over 0) tt c.x c.y d.x d.y

right_of : (m : ℤ) (a b c d : Pt) → pos 0 <ℤ length_of c d → whole_turn c d a ≤ℤ pos 0 → whole_turn c d b ≤ℤ pos 0
    → AreLow m a b c d → IsFar m a b c d
right_of m a b c d hg ha hb low =
    far_second m a b c d
    (left_of m a b d c (same_length c d hg) (other_side c d a ha) (other_side c d b hb) (lows_second m a b c d low))

-- ---- both on one side, or both on the other; on the line is on both
abbrev pub AreAside : ℤ → ℤ → Type 0
AreAside u v = ((pos 0 ≤ℤ u) × (pos 0 ≤ℤ v)) ⊎ ((u ≤ℤ pos 0) × (v ≤ℤ pos 0))

pub opposite_or_aside : (u v : ℤ) → AreOpposite u v ⊎ AreAside u v
opposite_or_aside u v = grind (arith, ≤_or_>, ≤_of_<)

far_aside : (m : ℤ) (a b c d : Pt) → AreAside (whole_turn c d a) (whole_turn c d b) → AreLow m a b c d → IsFar m a b c d
far_aside m a b c d h low = grind (arith, ≤_or_>, far_point, left_of, right_of)

-- ---- the turn of whole points
pub whole_turn_is : (c d a : Pt) → turn_of (whole c) (whole d) (whole a) ≡ whole_turn c d a
whole_turn_is c d a = grind (arith, turn_whole)

aside_of : (c d a b : Pt) → AreAside (turn_of (whole c) (whole d) (whole a)) (turn_of (whole c) (whole d) (whole b))
    → AreAside (whole_turn c d a) (whole_turn c d b)
aside_of c d a b h = grind (arith, whole_turn_is)

pub far_apart : (m : ℤ) (a b c d : Pt) → (DoCross a b c d → ⊥) → AreLow m a b c d → IsFar m a b c d
far_apart m a b c d none low =
    go (opposite_or_aside (turn_of (whole a) (whole b) (whole c)) (turn_of (whole a) (whole b) (whole d)))
    (opposite_or_aside (turn_of (whole c) (whole d) (whole a)) (turn_of (whole c) (whole d) (whole b)))
  where
    go : AreOpposite (turn_of (whole a) (whole b) (whole c)) (turn_of (whole a) (whole b) (whole d))
        ⊎ AreAside (turn_of (whole a) (whole b) (whole c)) (turn_of (whole a) (whole b) (whole d))
        → AreOpposite (turn_of (whole c) (whole d) (whole a)) (turn_of (whole c) (whole d) (whole b))
        ⊎ AreAside (turn_of (whole c) (whole d) (whole a)) (turn_of (whole c) (whole d) (whole b)) → IsFar m a b c d
    go (inl h) (inl k) = absurd (none (record { first = h; second = k }))
    go (inl h) (inr k) = far_aside m a b c d (aside_of c d a b k) low
    go (inr h) k = far_exchanged m a b c d (far_aside m c d a b (aside_of a b c d h) (lows_exchanged m a b c d low))
