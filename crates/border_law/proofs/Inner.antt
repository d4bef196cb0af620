-- No two triangles of a bordered triangulation have a common inner point: one that they had could be moved a little, to
-- a line that meets no corner.
use Rattle.std.proofs.Common.{◌≡◌, ◌≢◌, ◌⊎◌, inl, inr, ℕ, suc, ◌+◌, ◌<◌, ◌≤◌, ℤ, pos, ◌+ℤ◌, ◌-ℤ◌, ◌*ℤ◌, ◌≤ℤ◌, ◌<ℤ◌}
use Rattle.std.proofs.Common.{negsuc, List, subst, arith}
use Rattle.std.proofs.lemmas.Int.{ints}
use Rattle.integer_ring.proofs.Ring.{num, ◌⊕◌, ◌⊖◌, ◌⊗◌}
use Rattle.integer_ring.proofs.Order.{≤_of_<, nonneg_pos}
use Rattle.integer_ring.proofs.Claims.{◌≐◌, ◌≼◌, ◌≺◌, never, gap, over, eqn, ◌⊞◌, ◌⊠◌, ◌because◌, ◌⇒◌, follows}
use Rattle.plain_laws.proofs.Weights.{lift}
use Rattle.plane_base.specs.Plane.{Point, turn_of}
use Rattle.plane_base.proofs.MixLaws.Points.{turn, plus, solve_at}
use Rattle.border_law.specs.Borders.{IsFrom}
use Rattle.border_law.proofs.Heights.{above_of, GoesUp}
use Rattle.border_law.proofs.Rows.{next_from, Net}
use Rattle.border_law.proofs.Sweep.{Covers, IsFree, not_doubled, sign_or}

-- ---- what holds of all large numbers
abbrev pub Large : (ℕ → Type 0) → Type 0
Large P = (m : ℕ) × ((n : ℕ) → m ≤ n → P n)

pub both : {P Q : ℕ → Type 0} → Large P → Large Q → Large (λ n. P n × Q n)
both p q = (p.0 + q.0, λ n h. (p.1 n (omega arith), q.1 n (omega arith)))

grows : (t s : ℤ) → pos 0 <ℤ t → Large (λ n. pos 0 <ℤ (pos n *ℤ t +ℤ s))
grows t s h =
    let l = lift s in
    (suc l.0, λ n more. law (pos n) t s (pos l.0) h l.1 (later l.0 n more) (nonneg_pos n))
  where
    later : (l n : ℕ) → suc l ≤ n → pos l <ℤ pos n
    later l n h = omega (arith, ints)

    law : (n t s l : ℤ) → pos 0 <ℤ t → pos 0 ≤ℤ (l +ℤ s) → l <ℤ n → pos 0 ≤ℤ n → pos 0 <ℤ (n *ℤ t +ℤ s)
    law = follows 4 (λ n t s l. num (pos 0) ≺ t ⇒ num (pos 0) ≼ l ⊕ s ⇒ l ≺ n ⇒ num (pos 0) ≼ n
        ⇒ num (pos 0) ≺ n ⊗ t ⊕ s because gap 3 ⊠ over 0 ⊞ over 2 ⊞ gap 1) tt

-- n·p + q
abbrev pub moved : ℕ → Point → Point → Point
moved n p q = record { x = pos n *ℤ p.x +ℤ q.x; y = pos n *ℤ p.y +ℤ q.y; w = pos n *ℤ p.w +ℤ q.w }

pub turn_moved : (a b p q : Point) (n : ℕ) → pos n *ℤ turn_of a b p +ℤ turn_of a b q ≡ turn_of a b (moved n p q)
turn_moved a b p q n = solve_at 4 1 (λ a b p q n. n ⊗ turn a b p ⊕ turn a b q ≐ turn a b (plus n p q)) tt a b p q (pos n)

-- a turn that is positive at p is so at each point near enough
pub near : (a b p q : Point) → pos 0 <ℤ turn_of a b p → Large (λ n. pos 0 <ℤ turn_of a b (moved n p q))
near a b p q h = grind (arith, grows (turn_of a b p) (turn_of a b q) h, turn_moved a b p q)

-- ---- inner points
pub record IsInner (p a b c : Point) : Type 0 where
  pub first : pos 0 <ℤ turn_of a b p
  pub second : pos 0 <ℤ turn_of b c p
  pub third : pos 0 <ℤ turn_of c a p

pub near_inner : (p q a b c : Point) → IsInner p a b c → Large (λ n. IsInner (moved n p q) a b c)
near_inner p q a b c i =
    let g = both (near a b p q i.first) (both (near b c p q i.second) (near c a p q i.third)) in
    (g.0, λ n h. let r = g.1 n h in record { first = r.0; second = r.1.0; third = r.1.1 })

-- ---- a point just above another, on a line that meets no corner
twice : Point → Point
twice p = record { x = pos 2 *ℤ p.x; y = pos 2 *ℤ p.y; w = pos 2 *ℤ p.w }

upward : Point
upward = record { x = pos 0; y = pos 1; w = pos 0 }

twice_inner : (p a b c : Point) → IsInner p a b c → IsInner (twice p) a b c
unfolding twice
twice_inner p a b c i = record {
  first = double a b i.first;
  second = double b c i.second;
  third = double c a i.third;
}
  where
    turn_twice : (a b p : Point) → pos 2 *ℤ turn_of a b p
        ≡ turn_of a b (record { x = pos 2 *ℤ p.x; y = pos 2 *ℤ p.y; w = pos 2 *ℤ p.w })
    turn_twice = solve_at 3 0 (λ a b p. num (pos 2) ⊗ turn a b p
        ≐ turn a b (record { x = num (pos 2) ⊗ p.x; y = num (pos 2) ⊗ p.y; w = num (pos 2) ⊗ p.w })) tt

    positive : (z : ℤ) → pos 0 <ℤ z → pos 0 <ℤ (pos 2 *ℤ z)
    positive z h = omega (arith, ints)

    double : (a b : Point) → pos 0 <ℤ turn_of a b p
        → pos 0 <ℤ turn_of a b (record { x = pos 2 *ℤ p.x; y = pos 2 *ℤ p.y; w = pos 2 *ℤ p.w })
    double a b h = subst (λ (z : ℤ). pos 0 <ℤ z) (turn_twice a b p) (positive (turn_of a b p) h)

odd : (q : ℤ) → pos 2 *ℤ q -ℤ pos 1 ≡ pos 0 → ⊥
odd q e = absurd (omega (arith, ints))

moved_free : (at : ℕ → Point) (p : Point) (n : ℕ) → ((k : ℕ) → (at k).w ≡ pos 1)
    → IsFree at (moved n (twice p) upward)
unfolding twice upward
moved_free at p n one k e =
    odd (pos n *ℤ ((at k).y *ℤ p.w -ℤ p.y)) (law (at k).y (at k).w (pos n) p.y p.w (one k) e)
  where
    law : (y v n s w : ℤ) → v ≡ pos 1
        → y *ℤ (n *ℤ (pos 2 *ℤ w) +ℤ pos 0) -ℤ (n *ℤ (pos 2 *ℤ s) +ℤ pos 1) *ℤ v ≡ pos 0
        → pos 2 *ℤ (n *ℤ (y *ℤ w -ℤ s)) -ℤ pos 1 ≡ pos 0
    law = follows 5 (λ y v n s w. v ≐ num (pos 1)
        ⇒ y ⊗ (n ⊗ (num (pos 2) ⊗ w) ⊕ num (pos 0)) ⊖ (n ⊗ (num (pos 2) ⊗ s) ⊕ num (pos 1)) ⊗ v ≐ num (pos 0)
        ⇒ num (pos 2) ⊗ (n ⊗ (y ⊗ w ⊖ s)) ⊖ num (pos 1) ≐ num (pos 0)
        because eqn 1 (num (pos 1)) ⊞ eqn 0 (n ⊗ (num (pos 2) ⊗ s) ⊕ num (pos 1))) tt

-- ---- a triangle with an inner point of the line has a side that goes up through it
balance : (z a b c : Point)
    → turn_of b c z *ℤ above_of z a +ℤ turn_of c a z *ℤ above_of z b +ℤ turn_of a b z *ℤ above_of z c ≡ pos 0
balance = solve_at 4 0 (λ z a b c. turn b c z ⊗ (a.y ⊗ z.w ⊖ z.y ⊗ a.w) ⊕ turn c a z ⊗ (b.y ⊗ z.w ⊖ z.y ⊗ b.w)
    ⊕ turn a b z ⊗ (c.y ⊗ z.w ⊖ z.y ⊗ c.w) ≐ num (pos 0)) tt

not_all_high : (r s t a b c : ℤ) → pos 0 <ℤ r → pos 0 <ℤ s → pos 0 <ℤ t → pos 0 <ℤ a → pos 0 <ℤ b → pos 0 <ℤ c
    → r *ℤ a +ℤ s *ℤ b +ℤ t *ℤ c ≡ pos 0 → ⊥
not_all_high = follows 6 (λ r s t a b c. num (pos 0) ≺ r ⇒ num (pos 0) ≺ s ⇒ num (pos 0) ≺ t ⇒ num (pos 0) ≺ a
    ⇒ num (pos 0) ≺ b ⇒ num (pos 0) ≺ c ⇒ r ⊗ a ⊕ s ⊗ b ⊕ t ⊗ c ≐ num (pos 0) ⇒ never
    because over 0 ⊠ gap 3 ⊞ over 3 ⊞ gap 1 ⊠ gap 4 ⊞ gap 2 ⊠ gap 5 ⊞ eqn 6 (num (pos 1))) tt

not_all_low : (r s t a b c : ℤ) → pos 0 <ℤ r → pos 0 <ℤ s → pos 0 <ℤ t → a <ℤ pos 0 → b <ℤ pos 0 → c <ℤ pos 0
    → r *ℤ a +ℤ s *ℤ b +ℤ t *ℤ c ≡ pos 0 → ⊥
not_all_low = follows 6 (λ r s t a b c. num (pos 0) ≺ r ⇒ num (pos 0) ≺ s ⇒ num (pos 0) ≺ t ⇒ a ≺ num (pos 0)
    ⇒ b ≺ num (pos 0) ⇒ c ≺ num (pos 0) ⇒ r ⊗ a ⊕ s ⊗ b ⊕ t ⊗ c ≐ num (pos 0) ⇒ never
    because over 0 ⊠ gap 3 ⊞ over 3 ⊞ gap 1 ⊠ gap 4 ⊞ gap 2 ⊠ gap 5 ⊞ eqn 6 (num (negsuc 0))) tt

abbrev Sign : ℤ → Type 0
Sign y = (pos 0 <ℤ y) ⊎ ((y ≡ pos 0) ⊎ (y <ℤ pos 0))

covers : (rows : ℕ → List ℕ) (at : ℕ → Point) (z : Point) (t a b c : ℕ) → IsFree at z → IsFrom (rows t) a b c
    → IsInner z (at a) (at b) (at c) → Covers rows at z t
covers rows at z t a b c free from i =
    go (sign_or (above_of z (at a))) (sign_or (above_of z (at b))) (sign_or (above_of z (at c)))
  where
    ab : GoesUp z (at a) (at b) → Covers rows at z t
    ab up = record {
      a = a;
      b = b;
      c = c;
      from = from;
      up = up;
      left = i.first;
      second = ≤_of_< (pos 0) (turn_of (at b) (at c) z) i.second;
      third = ≤_of_< (pos 0) (turn_of (at c) (at a) z) i.third;
    }

    bc : GoesUp z (at b) (at c) → Covers rows at z t
    bc up = record {
      a = b;
      b = c;
      c = a;
      from = next_from (rows t) a b c from;
      up = up;
      left = i.second;
      second = ≤_of_< (pos 0) (turn_of (at c) (at a) z) i.third;
      third = ≤_of_< (pos 0) (turn_of (at a) (at b) z) i.first;
    }

    ca : GoesUp z (at c) (at a) → Covers rows at z t
    ca up = record {
      a = c;
      b = a;
      c = b;
      from = next_from (rows t) b c a (next_from (rows t) a b c from);
      up = up;
      left = i.third;
      second = ≤_of_< (pos 0) (turn_of (at a) (at b) z) i.first;
      third = ≤_of_< (pos 0) (turn_of (at b) (at c) z) i.second;
    }

    go : Sign (above_of z (at a)) → Sign (above_of z (at b)) → Sign (above_of z (at c)) → Covers rows at z t
    go (inr (inl e)) sb sc = absurd (free a e)
    go sa (inr (inl e)) sc = absurd (free b e)
    go sa sb (inr (inl e)) = absurd (free c e)
    go (inr (inr low)) (inl high) sc = ab (record { low = low; high = high })
    go sa (inr (inr low)) (inl high) = bc (record { low = low; high = high })
    go (inl high) sb (inr (inr low)) = ca (record { low = low; high = high })
    go (inr (inr h)) (inr (inr k)) (inr (inr l)) =
        absurd (not_all_low (turn_of (at b) (at c) z) (turn_of (at c) (at a) z) (turn_of (at a) (at b) z)
        (above_of z (at a)) (above_of z (at b)) (above_of z (at c)) i.second i.third i.first h k l
        (balance z (at a) (at b) (at c)))
    go (inl h) (inl k) (inl l) =
        absurd (not_all_high (turn_of (at b) (at c) z) (turn_of (at c) (at a) z) (turn_of (at a) (at b) z)
        (above_of z (at a)) (above_of z (at b)) (above_of z (at c)) i.second i.third i.first h k l
        (balance z (at a) (at b) (at c)))

-- ---- no common inner point
pub not_both_inner : {rows : ℕ → List ℕ} {at : ℕ → Point} {n : ℕ} → Net rows at n → (t u a b c d e f : ℕ) → t ≢ u
    → t < n → u < n → IsFrom (rows t) a b c → IsFrom (rows u) d e f → (p : Point) → pos 0 <ℤ p.w
    → IsInner p (at a) (at b) (at c) → IsInner p (at d) (at e) (at f) → ⊥
unfolding twice upward
not_both_inner {rows} {at} {n} net t u a b c d e f differ ht hu from other p hp in_t in_u =
    let q = twice p in
    let all = both (grows (pos 2 *ℤ p.w) (pos 0) (positive p.w hp))
    (both (near_inner q upward (at a) (at b) (at c) (twice_inner p (at a) (at b) (at c) in_t))
    (near_inner q upward (at d) (at e) (at f) (twice_inner p (at d) (at e) (at f) in_u))) in
    let m = all.0 in
    let there = all.1 m (same m) in
    let z = moved m q upward in
    let free = moved_free at p m net.one in
    not_doubled net z (record {
      w = there.0;
      free = free;
      i = t;
      j = u;
      differ = differ;
      i_below = ht;
      j_below = hu;
      first = covers rows at z t a b c free from there.1.0;
      second = covers rows at z u d e f free other there.1.1;
    })
  where
    same : (m : ℕ) → m ≤ m
    same m = omega arith

    positive : (z : ℤ) → pos 0 <ℤ z → pos 0 <ℤ (pos 2 *ℤ z)
    positive z h = omega (arith, ints)
