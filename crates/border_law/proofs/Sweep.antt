-- A point in two triangles, on a line along the first axis that meets no corner, goes right until it leaves one of the
-- two, and is in two triangles again.
use Rattle.std.proofs.Common.{◌≡◌, ◌≢◌, ◌⊎◌, inl, inr, ℕ, ◌<◌, ◌≤◌, ℤ, pos, ◌+ℤ◌, ◌-ℤ◌, ◌*ℤ◌, ◌≤ℤ◌, ◌<ℤ◌, neg_ℤ, negsuc}
use Rattle.std.proofs.Common.{List, Some, [], ◌∷◌, length, map, sym, subst, arith}
use Rattle.std.proofs.lemmas.Int.{ints}
use Rattle.integer_ring.proofs.Ring.{num, neg, ◌⊕◌, ◌⊖◌, ◌⊗◌}
use Rattle.integer_ring.proofs.Order.{≤_of_<}
use Rattle.integer_ring.proofs.Signs.{zero_cases}
use Rattle.integer_ring.proofs.Claims.{◌≐◌, ◌≼◌, ◌≺◌, gap, over, eqn, ◌⊞◌, ◌⊠◌, ◌because◌, ◌otherwise◌, ◌⇒◌, follows}
use Rattle.plain_laws.proofs.Order.{opposite}
use Rattle.plane_base.specs.Plane.{Point, Same, turn_of, IsMix}
use Rattle.plane_base.proofs.MixLaws.Turns.{turn_swap}
use Rattle.plane_base.proofs.TriangleLaws.CommonPoints.{mix_of_side}
use Rattle.tin_base.specs.Soundness.{common}
use Rattle.border_law.specs.Borders.{IsFrom}
use Rattle.border_law.proofs.Signs.{nonneg_zero, not_zero, not_opposite}
use Rattle.border_law.proofs.Heights.{above_of, meeting_of, rise_of, GoesUp, meeting-w, rise_positive, above_meeting}
use Rattle.border_law.proofs.Heights.{on_side, after_side, before_side, exchanged, one_line, further, partner_first}
use Rattle.border_law.proofs.Heights.{partner_last}
use Rattle.border_law.proofs.Descent.{Next, ends}
use Rattle.border_law.proofs.Spots.{one_place}
use Rattle.border_law.proofs.Rows.{next_from, shifted, AreShifted, Net, MeetsAt, Partner, partner_or, above, turned}
use Rattle.border_law.proofs.Rows.{left_of_mix, mix_of_left}

-- ---- signs
pub sign_or : (z : ℤ) → (pos 0 <ℤ z) ⊎ ((z ≡ pos 0) ⊎ (z <ℤ pos 0))
sign_or z = grind (arith, ints)

not_below : (z : ℤ) → z <ℤ pos 0 → pos 0 <ℤ z → ⊥
not_below z h k = absurd (omega (arith, ints))

opposite_zero : (y z : ℤ) → y ≡ neg_ℤ z → y ≡ pos 0 → z ≡ pos 0
opposite_zero y z e h = omega (arith, ints)

negative : (z : ℤ) → z <ℤ pos 0 → pos 0 <ℤ neg_ℤ z
negative z h = omega (arith, ints)

times_negative : (k z y : ℤ) → pos 0 <ℤ k → z <ℤ pos 0 → y ≡ k *ℤ z → y <ℤ pos 0
times_negative = follows 3 (λ k z y. num (pos 0) ≺ k ⇒ z ≺ num (pos 0) ⇒ y ≐ k ⊗ z ⇒ y ≺ num (pos 0)
    because gap 0 ⊠ over 1 ⊞ over 0 ⊞ eqn 2 (num (pos 1))) tt

times_positive : (k z y : ℤ) → pos 0 <ℤ k → pos 0 <ℤ z → y ≡ k *ℤ z → pos 0 <ℤ y
times_positive = follows 3 (λ k z y. num (pos 0) ≺ k ⇒ num (pos 0) ≺ z ⇒ y ≐ k ⊗ z ⇒ num (pos 0) ≺ y
    because gap 0 ⊠ over 1 ⊞ over 0 ⊞ eqn 2 (num (negsuc 0))) tt

from_negative : (k z y : ℤ) → pos 0 <ℤ k → y <ℤ pos 0 → y ≡ k *ℤ z → z <ℤ pos 0
from_negative = follows 3 (λ k z y. num (pos 0) ≺ k ⇒ y ≺ num (pos 0) ⇒ y ≐ k ⊗ z ⇒ z ≺ num (pos 0)
    otherwise gap 0 ⊠ gap 3 ⊞ over 1 ⊞ eqn 2 (num (negsuc 0))) tt

from_positive : (k z y : ℤ) → pos 0 <ℤ k → pos 0 <ℤ y → y ≡ k *ℤ z → pos 0 <ℤ z
from_positive = follows 3 (λ k z y. num (pos 0) ≺ k ⇒ num (pos 0) ≺ y ⇒ y ≐ k ⊗ z ⇒ num (pos 0) ≺ z
    otherwise gap 0 ⊠ gap 3 ⊞ over 1 ⊞ eqn 2 (num (pos 1))) tt

-- ---- a triangle that has a point of the line, not on its side that goes up
pub record Covers (rows : ℕ → List ℕ) (at : ℕ → Point) (z : Point) (t : ℕ) : Type 0 where
  pub a : ℕ
  pub b : ℕ
  pub c : ℕ
  pub from : IsFrom (rows t) a b c
  pub up : GoesUp z (at a) (at b)
  pub left : pos 0 <ℤ turn_of (at a) (at b) z
  pub second : pos 0 ≤ℤ turn_of (at b) (at c) z
  pub third : pos 0 ≤ℤ turn_of (at c) (at a) z

-- it goes on to the right of the point
record Rises (rows : ℕ → List ℕ) (at : ℕ → Point) (z : Point) (t : ℕ) : Type 0 where
  a : ℕ
  b : ℕ
  c : ℕ
  from : IsFrom (rows t) a b c
  up : GoesUp z (at a) (at b)
  left : pos 0 <ℤ turn_of (at a) (at b) z

-- no corner is on the line
abbrev pub IsFree : (ℕ → Point) → Point → Type 0
IsFree at z = (k : ℕ) → above_of z (at k) ≡ pos 0 → ⊥

-- two triangles have the point
pub record Doubled (rows : ℕ → List ℕ) (at : ℕ → Point) (n : ℕ) (z : Point) : Type 0 where
  pub w : pos 0 <ℤ z.w
  pub free : IsFree at z
  pub i : ℕ
  pub j : ℕ
  pub differ : i ≢ j
  pub i_below : i < n
  pub j_below : j < n
  pub first : Covers rows at z i
  pub second : Covers rows at z j

-- ---- where the point comes to the side of the first triangle
same_height : (p q : Point) → Same p q → above_of p q ≡ pos 0
same_height p q s = law p.y p.w q.y q.w s.1
  where
    law : (y w s t : ℤ) → y *ℤ t ≡ s *ℤ w → s *ℤ w -ℤ y *ℤ t ≡ pos 0
    law = follows 4 (λ y w s t. y ⊗ t ≐ s ⊗ w ⇒ s ⊗ w ⊖ y ⊗ t ≐ num (pos 0) because eqn 0 (num (negsuc 0))) tt

no_corner : (at : ℕ → Point) (cs : List ℕ) (p : Point) → IsFree at p → length cs ≤ 1 → IsMix p (map at cs) → ⊥
no_corner at cs p free short m = let k = one_place at cs p short m in free k.0 (same_height p (at k.0) k.2)

-- a turn at the meeting point, on the way from z to the meeting point of the second side
kept : (tj f lz ti lg lf : ℤ) → pos 0 <ℤ tj → pos 0 ≤ℤ f → pos 0 ≤ℤ lz → pos 0 <ℤ ti → pos 0 <ℤ lg
    → tj *ℤ lf ≡ f *ℤ lz +ℤ ti *ℤ lg → pos 0 <ℤ lf
kept = follows 6 (λ tj f lz ti lg lf. num (pos 0) ≺ tj ⇒ num (pos 0) ≼ f ⇒ num (pos 0) ≼ lz ⇒ num (pos 0) ≺ ti
    ⇒ num (pos 0) ≺ lg ⇒ tj ⊗ lf ≐ f ⊗ lz ⊕ ti ⊗ lg ⇒ num (pos 0) ≺ lf
    otherwise gap 0 ⊠ gap 6 ⊞ gap 1 ⊠ gap 2 ⊞ gap 3 ⊠ over 4 ⊞ over 3 ⊞ eqn 5 (num (negsuc 0))) tt

kept_there : (tj f lz ti lg lf : ℤ) → pos 0 <ℤ tj → f ≡ pos 0 → pos 0 <ℤ ti → pos 0 <ℤ lg
    → tj *ℤ lf ≡ f *ℤ lz +ℤ ti *ℤ lg → pos 0 <ℤ lf
kept_there = follows 6 (λ tj f lz ti lg lf. num (pos 0) ≺ tj ⇒ f ≐ num (pos 0) ⇒ num (pos 0) ≺ ti ⇒ num (pos 0) ≺ lg
    ⇒ tj ⊗ lf ≐ f ⊗ lz ⊕ ti ⊗ lg ⇒ num (pos 0) ≺ lf
    otherwise gap 0 ⊠ gap 5 ⊞ gap 2 ⊠ over 3 ⊞ over 2 ⊞ eqn 4 (num (negsuc 0)) ⊞ eqn 1 (neg lz)) tt

nearer : (k t f r s : ℤ) → pos 0 <ℤ k → pos 0 <ℤ f → pos 0 <ℤ r → pos 0 <ℤ s → k *ℤ t ≡ f +ℤ r *ℤ s → pos 0 <ℤ t
nearer = follows 5 (λ k t f r s. num (pos 0) ≺ k ⇒ num (pos 0) ≺ f ⇒ num (pos 0) ≺ r ⇒ num (pos 0) ≺ s
    ⇒ k ⊗ t ≐ f ⊕ r ⊗ s ⇒ num (pos 0) ≺ t
    otherwise gap 0 ⊠ gap 5 ⊞ over 1 ⊞ gap 2 ⊠ gap 3 ⊞ eqn 4 (num (negsuc 0))) tt

-- the triangle at the other side of a side that goes up, at a point of this side
cover_partner : (rows : ℕ → List ℕ) (at : ℕ → Point) (f : Point) (u a b g : ℕ) → IsFree at f → IsFrom (rows u) b a g
    → GoesUp f (at a) (at b) → pos 0 <ℤ turn_of (at a) (at g) f → pos 0 <ℤ turn_of (at g) (at b) f
    → turn_of (at b) (at a) f ≡ pos 0 → Covers rows at f u
cover_partner rows at f u a b g free from up first last on = go (sign_or (above_of f (at g)))
  where
    go : (pos 0 <ℤ above_of f (at g)) ⊎ ((above_of f (at g) ≡ pos 0) ⊎ (above_of f (at g) <ℤ pos 0)) → Covers rows at f u
    go (inl high) = record {
      a = a;
      b = g;
      c = b;
      from = next_from (rows u) b a g from;
      up = record { low = up.low; high = high };
      left = first;
      second = ≤_of_< (pos 0) (turn_of (at g) (at b) f) last;
      third = nonneg_zero (turn_of (at b) (at a) f) on;
    }
    go (inr (inl there)) = absurd (free g there)
    go (inr (inr low)) = record {
      a = g;
      b = b;
      c = a;
      from = next_from (rows u) a g b (next_from (rows u) b a g from);
      up = record { low = low; high = up.high };
      left = last;
      second = nonneg_zero (turn_of (at b) (at a) f) on;
      third = ≤_of_< (pos 0) (turn_of (at a) (at g) f) first;
    }

-- ---- the meeting point of the first triangle's side that goes up, and what is known there
record Meeting (rows : ℕ → List ℕ) (at : ℕ → Point) (z f : Point) (a b : ℕ) : Type 0 where
  w : pos 0 <ℤ f.w
  free : IsFree at f
  up : (x y : ℕ) → GoesUp z (at x) (at y) → GoesUp f (at x) (at y)
  back : (x y : ℕ) → GoesUp f (at x) (at y) → GoesUp z (at x) (at y)
  less : (t : ℕ) → Rises rows at f t → Rises rows at z t

meeting_known : {rows : ℕ → List ℕ} {at : ℕ → Point} {n : ℕ} → Net rows at n → (z : Point) (a b : ℕ) → pos 0 <ℤ z.w
    → IsFree at z → GoesUp z (at a) (at b) → pos 0 <ℤ turn_of (at a) (at b) z
    → Meeting rows at z (meeting_of z (at a) (at b)) a b
meeting_known {rows} {at} net z a b hz free up left = record {
  w = meeting-w z (at a) (at b) (w a) (w b) up;
  free = grind (arith, zero_cases, r, above_of, height, not_zero, hr);
  up = ups;
  back = backs;
  less = λ t rises. let before = backs rises.a rises.b rises.up in record {
    a = rises.a;
    b = rises.b;
    c = rises.c;
    from = rises.from;
    up = before;
    left = nearer r (turn_of (at rises.a) (at rises.b) z) (turn_of (at rises.a) (at rises.b) f)
        (rise_of (at rises.a) (at rises.b)) (turn_of (at a) (at b) z) hr rises.left
        (rise_positive z (at rises.a) (at rises.b) hz (w rises.a) (w rises.b) before) left
        (further z (at a) (at b) (at rises.a) (at rises.b));
  };
}
  where
    w : (k : ℕ) → pos 0 <ℤ (at k).w
    w = above at net.one

    f : Point
    f = meeting_of z (at a) (at b)

    r : ℤ
    r = rise_of (at a) (at b)

    hr : pos 0 <ℤ r
    hr = rise_positive z (at a) (at b) hz (w a) (w b) up

    height : (k : ℕ) → above_of f (at k) ≡ r *ℤ above_of z (at k)
    height k = above_meeting z (at a) (at b) (at k)

    ups : (x y : ℕ) → GoesUp z (at x) (at y) → GoesUp f (at x) (at y)
    ups x y u = record {
      low = times_negative r (above_of z (at x)) (above_of f (at x)) hr u.low (height x);
      high = times_positive r (above_of z (at y)) (above_of f (at y)) hr u.high (height y);
    }

    backs : (x y : ℕ) → GoesUp f (at x) (at y) → GoesUp z (at x) (at y)
    backs x y u = record {
      low = from_negative r (above_of z (at x)) (above_of f (at x)) hr u.low (height x);
      high = from_positive r (above_of z (at y)) (above_of f (at y)) hr u.high (height y);
    }

-- the two in the other order
abbrev swapped : {rows : ℕ → List ℕ} {at : ℕ → Point} {n : ℕ} {z : Point} → Doubled rows at n z → Doubled rows at n z
swapped d = record {
  w = d.w;
  free = d.free;
  i = d.j;
  j = d.i;
  differ = λ e. d.differ (sym e);
  i_below = d.j_below;
  j_below = d.i_below;
  first = d.second;
  second = d.first;
}

abbrev After : (ℕ → List ℕ) → (ℕ → Point) → ℕ → Point → Type 0
After rows at n z = Next Point (Doubled rows at n) (Rises rows at) n z

-- a point inside the second and the third side of the second triangle
record InSecond (at : ℕ → Point) (z f : Point) (a b c : ℕ) : Type 0 where
  second : pos 0 <ℤ turn_of (at b) (at c) f
  third : pos 0 <ℤ turn_of (at c) (at a) f

same_some : (i j : ℕ) → Some i ≡ Some j → i ≡ j
same_some i j e = cc

-- ---- two triangles that have the point: the ends of the sides that go up, and where the point comes to them
module _ {rows : ℕ → List ℕ} {at : ℕ → Point} {n : ℕ} {z : Point} (net : Net rows at n) (d : Doubled rows at n z) where
  abbrev a : ℕ
  a = d.first.a

  abbrev b : ℕ
  b = d.first.b

  abbrev c : ℕ
  c = d.first.c

  abbrev x : ℕ
  x = d.second.a

  abbrev y : ℕ
  y = d.second.b

  abbrev k : ℕ
  k = d.second.c

  abbrev f : Point
  f = meeting_of z (at a) (at b)

  abbrev g : Point
  g = meeting_of z (at x) (at y)

  known : Meeting rows at z f a b
  known = meeting_known net z a b d.w d.free d.first.up d.first.left

  turns : pos 0 <ℤ turn_of (at a) (at b) (at c)
  turns = turned net d.i a b c d.i_below d.first.from

  second_turns : pos 0 <ℤ turn_of (at x) (at y) (at k)
  second_turns = turned net d.j x y k d.j_below d.second.from

  -- the first triangle does not go on there
  ended : Rises rows at f d.i → ⊥
  ended rises = go (shifted (rows d.i) a b c rises.a rises.b rises.c d.first.from rises.from)
    where
      go : AreShifted a b c rises.a rises.b rises.c → ⊥
      go (inl s) = grind (arith, not_zero, on_side)
      go (inr (inl s)) = not_below (above_of f (at rises.a)) rises.up.low
          (subst (λ (k : ℕ). pos 0 <ℤ above_of f (at k)) (sym s.0) (known.up a b d.first.up).high)
      go (inr (inr s)) = not_below (above_of f (at a)) (known.up a b d.first.up).low
          (subst (λ (k : ℕ). pos 0 <ℤ above_of f (at k)) s.1 rises.up.high)

  -- the meeting point is right of no side of the first triangle
  first_second : pos 0 ≤ℤ turn_of (at b) (at c) f
  first_second = ≤_of_< (pos 0) (turn_of (at b) (at c) f) (times_positive (above_of z (at b)) (turn_of (at a) (at b) (at c))
      (turn_of (at b) (at c) f) d.first.up.high turns (after_side z (at a) (at b) (at c)))

  first_third : pos 0 ≤ℤ turn_of (at c) (at a) f
  first_third = ≤_of_< (pos 0) (turn_of (at c) (at a) f) (times_positive (neg_ℤ (above_of z (at a)))
      (turn_of (at a) (at b) (at c)) (turn_of (at c) (at a) f)
      (negative (above_of z (at a)) d.first.up.low) turns (before_side z (at a) (at b) (at c)))

  -- it is in the first triangle, on its side
  on_first_side : IsMix f (at a ∷ at b ∷ [])
  on_first_side =
      mix_of_side (at a) (at b) (at c) f (above at net.one a) (above at net.one b) known.w turns
      (on_side z (at a) (at b)) first_second first_third

  in_first : IsMix f (map at (rows d.i))
  in_first = mix_of_left net d.i a b c d.i_below d.first.from f known.w
      (nonneg_zero (turn_of (at a) (at b) f) (on_side z (at a) (at b)), first_second, first_third)

  -- and in the second, where this ends no earlier
  module _ (h : pos 0 ≤ℤ turn_of (at x) (at y) f) where
    in_second : InSecond at z f x y k
    in_second = record {
      second = kept (turn_of (at x) (at y) z) (turn_of (at x) (at y) f) (turn_of (at y) (at k) z)
          (turn_of (at a) (at b) z) (turn_of (at y) (at k) g) (turn_of (at y) (at k) f) d.second.left h d.second.second
          d.first.left (times_positive (above_of z (at y)) (turn_of (at x) (at y) (at k)) (turn_of (at y) (at k) g)
          d.second.up.high second_turns (after_side z (at x) (at y) (at k)))
          (one_line z (at a) (at b) (at x) (at y) (at y) (at k));
      third = kept (turn_of (at x) (at y) z) (turn_of (at x) (at y) f) (turn_of (at k) (at x) z)
          (turn_of (at a) (at b) z) (turn_of (at k) (at x) g) (turn_of (at k) (at x) f) d.second.left h d.second.third
          d.first.left (times_positive (neg_ℤ (above_of z (at x))) (turn_of (at x) (at y) (at k)) (turn_of (at k) (at x) g)
          (negative (above_of z (at x)) d.second.up.low) second_turns (before_side z (at x) (at y) (at k)))
          (one_line z (at a) (at b) (at x) (at y) (at k) (at x));
    }

    behind_second : pos 0 ≤ℤ turn_of (at y) (at k) f
    behind_second = ≤_of_< (pos 0) (turn_of (at y) (at k) f) in_second.second

    behind_third : pos 0 ≤ℤ turn_of (at k) (at x) f
    behind_third = ≤_of_< (pos 0) (turn_of (at k) (at x) f) in_second.third

    mix_in_second : IsMix f (map at (rows d.j))
    mix_in_second =
        mix_of_left net d.j x y k d.j_below d.second.from f known.w (h, behind_second, behind_third)

    -- the first triangle's side is no border side, since the second has a point of it that is no corner
    not_border : ((u : ℕ) → d.i ≢ u → u < n → MeetsAt rows at a b u) → ⊥
    not_border border =
        let met = border d.j d.differ d.j_below in
        no_corner at (common (a ∷ b ∷ []) (rows d.j)) f known.free met.0
        (met.1 f known.w on_first_side mix_in_second)

  -- the triangle at the side of the first
  at_partner : (p : Partner rows net.mate n d.i a b) → Covers rows at f p.number
  at_partner p =
      let over = turned net p.number b a p.third p.below p.from in
      cover_partner rows at f p.number a b p.third known.free p.from (known.up a b d.first.up)
      (times_positive (neg_ℤ (above_of z (at a))) (turn_of (at b) (at a) (at p.third)) (turn_of (at a) (at p.third) f)
      (negative (above_of z (at a)) d.first.up.low) over (partner_first z (at a) (at b) (at p.third)))
      (times_positive (above_of z (at b)) (turn_of (at b) (at a) (at p.third)) (turn_of (at p.third) (at b) f)
      d.first.up.high over (partner_last z (at a) (at b) (at p.third)))
      (opposite_zero (turn_of (at a) (at b) f) (turn_of (at b) (at a) f) (turn_swap (at a) (at b) f)
      (on_side z (at a) (at b)))

  -- the first goes right no more, and the second and the one at its side have the meeting point
  goes_on : Doubled rows at n f → After rows at n z
  goes_on doubled = record {
    state = f;
    is = doubled;
    number = d.i;
    below = d.i_below;
    used = grind arith;
    free = ended;
    less = known.less;
  }

  -- the second triangle goes on: from the first to the one at its side
  onward : pos 0 <ℤ turn_of (at x) (at y) f → After rows at n z
  onward h = go (partner_or net d.i a b d.i_below (c, d.first.from))
    where
      at_end : pos 0 ≤ℤ turn_of (at x) (at y) f
      at_end = ≤_of_< (pos 0) (turn_of (at x) (at y) f) h

      inside : IsMix z (map at (rows d.j))
      inside = mix_of_left net d.j x y k d.j_below d.second.from z d.w
          (≤_of_< (pos 0) (turn_of (at x) (at y) z) d.second.left, d.second.second, d.second.third)

      another : (p : Partner rows net.mate n d.i a b) → p.number ≢ d.j
      another p e =
          let from : IsFrom (rows d.j) b a p.third = subst (λ (k : ℕ). IsFrom (rows k) b a p.third) e p.from in
          not_opposite (turn_of (at a) (at b) z) (turn_of (at b) (at a) z) (turn_swap (at a) (at b) z) d.first.left
          (left_of_mix net d.j b a p.third d.j_below from z d.w inside).0

      go : Partner rows net.mate n d.i a b ⊎ ((u : ℕ) → d.i ≢ u → u < n → MeetsAt rows at a b u) → After rows at n z
      go (inr none) = absurd (not_border at_end none)
      go (inl p) = goes_on (record {
        w = known.w;
        free = known.free;
        i = p.number;
        j = d.j;
        differ = another p;
        i_below = p.below;
        j_below = d.j_below;
        first = at_partner p;
        second = record {
          a = x;
          b = y;
          c = k;
          from = d.second.from;
          up = known.up x y d.second.up;
          left = h;
          second = behind_second at_end;
          third = behind_third at_end;
        };
      })

  -- both end there: from both to those at their sides
  both_onward : turn_of (at x) (at y) f ≡ pos 0 → After rows at n z
  both_onward h =
      go (partner_or net d.i a b d.i_below (c, d.first.from)) (partner_or net d.j x y d.j_below (k, d.second.from))
    where
      at_end : pos 0 ≤ℤ turn_of (at x) (at y) f
      at_end = nonneg_zero (turn_of (at x) (at y) f) h

      at_second : (p : Partner rows net.mate n d.j x y) → Covers rows at f p.number
      at_second p =
          let over = turned net p.number y x p.third p.below p.from in
          cover_partner rows at f p.number x y p.third known.free p.from (known.up x y d.second.up)
          (kept_there (turn_of (at x) (at y) z) (turn_of (at x) (at y) f) (turn_of (at x) (at p.third) z)
          (turn_of (at a) (at b) z) (turn_of (at x) (at p.third) g) (turn_of (at x) (at p.third) f) d.second.left h
          d.first.left (times_positive (neg_ℤ (above_of z (at x))) (turn_of (at y) (at x) (at p.third))
          (turn_of (at x) (at p.third) g) (negative (above_of z (at x)) d.second.up.low) over
          (partner_first z (at x) (at y) (at p.third)))
          (one_line z (at a) (at b) (at x) (at y) (at x) (at p.third)))
          (kept_there (turn_of (at x) (at y) z) (turn_of (at x) (at y) f) (turn_of (at p.third) (at y) z)
          (turn_of (at a) (at b) z) (turn_of (at p.third) (at y) g) (turn_of (at p.third) (at y) f) d.second.left h
          d.first.left (times_positive (above_of z (at y)) (turn_of (at y) (at x) (at p.third))
          (turn_of (at p.third) (at y) g) d.second.up.high over (partner_last z (at x) (at y) (at p.third)))
          (one_line z (at a) (at b) (at x) (at y) (at p.third) (at y)))
          (opposite_zero (turn_of (at x) (at y) f) (turn_of (at y) (at x) f) (turn_swap (at x) (at y) f) h)

      -- the second triangle's side is no border side either
      second_side : IsMix f (at x ∷ at y ∷ [])
      second_side =
          mix_of_side (at x) (at y) (at k) f (above at net.one x) (above at net.one y) known.w second_turns h
          (behind_second at_end) (behind_third at_end)

      not_second : ((u : ℕ) → d.j ≢ u → u < n → MeetsAt rows at x y u) → ⊥
      not_second border =
          let met = border d.i (λ e. d.differ (sym e)) d.i_below in
          no_corner at (common (x ∷ y ∷ []) (rows d.i)) f known.free met.0 (met.1 f known.w second_side in_first)

      -- the two at their sides differ, since one side is joined with one side
      apart : (p : Partner rows net.mate n d.i a b) (q : Partner rows net.mate n d.j x y) → p.number ≢ q.number
      apart p q e =
          by_shift (grind (arith, shifted))
        where
          by_shift : AreShifted b a p.third y x q.third → ⊥
          by_shift (inl s) = d.differ (grind (arith, same_some))
          by_shift (inr (inl s)) = grind (arith, not_below, above_of)
          by_shift (inr (inr s)) = grind (arith, not_below, above_of)

      go : Partner rows net.mate n d.i a b ⊎ ((u : ℕ) → d.i ≢ u → u < n → MeetsAt rows at a b u)
          → Partner rows net.mate n d.j x y ⊎ ((u : ℕ) → d.j ≢ u → u < n → MeetsAt rows at x y u) → After rows at n z
      go (inr none) q = absurd (not_border at_end none)
      go (inl p) (inr none) = absurd (not_second none)
      go (inl p) (inl q) = goes_on (record {
        w = known.w;
        free = known.free;
        i = p.number;
        j = q.number;
        differ = apart p q;
        i_below = p.below;
        j_below = q.below;
        first = at_partner p;
        second = at_second q;
      })

step : {rows : ℕ → List ℕ} {at : ℕ → Point} {n : ℕ} → Net rows at n → (z : Point) → Doubled rows at n z
    → ⊥ ⊎ After rows at n z
step {rows} {at} {n} net z d = inr (go (sign_or (turn_of (at x) (at y) (meeting_of z (at a) (at b)))))
  where
    a : ℕ
    a = d.first.a

    b : ℕ
    b = d.first.b

    x : ℕ
    x = d.second.a

    y : ℕ
    y = d.second.b

    go : (pos 0 <ℤ turn_of (at x) (at y) (meeting_of z (at a) (at b)))
        ⊎ ((turn_of (at x) (at y) (meeting_of z (at a) (at b)) ≡ pos 0)
        ⊎ (turn_of (at x) (at y) (meeting_of z (at a) (at b)) <ℤ pos 0)) → After rows at n z
    go (inl later) = onward net d later
    go (inr (inl there)) = both_onward net d there
    go (inr (inr earlier)) = onward net (swapped d)
        (grind (arith, opposite, x, y, meeting_of, a, b, exchanged))

-- so no two triangles have a point of the line, other than on their sides that go up
pub not_doubled : {rows : ℕ → List ℕ} {at : ℕ → Point} {n : ℕ} → Net rows at n → (z : Point) → Doubled rows at n z → ⊥
not_doubled {rows} {at} {n} net z d = ends Point (Doubled rows at n) (Rises rows at) n ⊥ (step net) z d
