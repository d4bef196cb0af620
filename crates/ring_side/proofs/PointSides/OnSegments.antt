-- A point is on a segment exactly where it is a mix of its ends.
use Rattle.std.proofs.Common.{◌≡◌, ◌⊎◌, inl, inr, Bool, true, false, ◌&&◌, ℤ, pos, ◌+ℤ◌, ◌-ℤ◌, ◌*ℤ◌, ◌<ℤ◌, ◌≤ℤ◌, [], ◌∷◌, arith, refl}
use Rattle.std.specs.Prelude.{not, int_lt}
use Rattle.std.specs.Int.{int_min, int_max}
use Rattle.std.proofs.lemmas.Int.{ints}
use Rattle.std.proofs.lemmas.Bool.Decides.{Decides-int_eq}
use Rattle.integer_ring.proofs.Order.{≤_or_>, ≤_of_<}
use Rattle.integer_ring.proofs.Signs.{≡_of_mul}
use Rattle.integer_ring.proofs.Ring.{Expr, num, neg, ◌⊕◌, ◌⊖◌, ◌⊗◌}
use Rattle.integer_ring.proofs.Claims.{solve, follows, ◌≐◌, ◌⇒◌, ◌because◌, eqn, ◌⊞◌}
use Rattle.plane_base.specs.declared.shapes.Pt.{Pt}
use Rattle.plane_base.specs.Plane.{IsMix, along, turn_of, whole}
use Rattle.plane_base.specs.Boxes.{box_of_segment}
use Rattle.plane_base.specs.Laws.{HasParameter}
use Rattle.plane_base.proofs.MixLaws.Points.{PointE, turn}
use Rattle.plane_base.proofs.MixLaws.Along.{along-w}
use Rattle.plane_base.proofs.MixLaws.Turns.{turn_same}
use Rattle.plane_base.proofs.MixLaws.Parameters.{segments_have_parameters}
use Rattle.plane_base.proofs.Bounds.BoxLemmas.{between_in, has_whole, lesser_is_one, greater_is_one}
use Rattle.ring_side.specs.Sides.{is_between, is_on}
use Rattle.ring_side.specs.Laws.{PointsOfSegmentsAreMixes}
use Rattle.ring_side.proofs.RingBoxes.InBoxes.{not_below}

abbrev one : Expr
one = num (pos 1)

-- ---- tests
and_both : (x y : Bool) → (x && y) ≡ true → (x ≡ true) × (y ≡ true)
and_both true true e = (refl, refl)
and_both x y e = cc

not_true : (x : Bool) → not x ≡ true → x ≡ false
not_true true e = cc
not_true false e = refl

at_least : (a b : ℤ) → int_lt a b ≡ false → b ≤ℤ a
at_least a b e = grind (arith, ints)

between_is : (u v z : ℤ) → is_between u v z ≡ true → (int_min u v ≤ℤ z) × (z ≤ℤ int_max u v)
between_is u v z e = grind (arith, and_both, at_least, not_true)

pub is_between_by : (u v z : ℤ) → int_min u v ≤ℤ z → z ≤ℤ int_max u v → is_between u v z ≡ true
is_between_by u v z a b = rw (not_below z (int_min u v) a, not_below (int_max u v) z b) refl

-- ---- from the one end to the other
from_first : (m u v z : ℤ) → u ≤ℤ v → m ≤ℤ z → (m ≡ u) ⊎ (m ≡ v) → u ≤ℤ z
from_first m u v z h a (inl e) = omega (arith, ints)
from_first m u v z h a (inr e) = omega (arith, ints)

to_last : (m u v z : ℤ) → u ≤ℤ v → z ≤ℤ m → (m ≡ u) ⊎ (m ≡ v) → z ≤ℤ v
to_last m u v z h a (inl e) = omega (arith, ints)
to_last m u v z h a (inr e) = omega (arith, ints)

turned_or : {A B : Type 0} → A ⊎ B → B ⊎ A
turned_or (inl a) = inr a
turned_or (inr b) = inl b

record IsFromTo (u v z : ℤ) : Type 0 where
  rising : u ≤ℤ v → (u ≤ℤ z) × (z ≤ℤ v)
  falling : v ≤ℤ u → (v ≤ℤ z) × (z ≤ℤ u)

from_to : (u v z : ℤ) → is_between u v z ≡ true → IsFromTo u v z
from_to u v z e =
    let is = between_is u v z e in
    record {
      rising = λ (h : u ≤ℤ v). (from_first (int_min u v) u v z h is.0 (lesser_is_one u v), to_last (int_max u v) u v z h is.1 (greater_is_one u v));
      falling = λ (h : v ≤ℤ u). (
        from_first (int_min u v) v u z h is.0 (turned_or (lesser_is_one u v)),
        to_last (int_max u v) v u z h is.1 (turned_or (greater_is_one u v)),
      );
    }

-- ---- the parameter, by an axis on which the ends differ
own_axis : (a b p : ℤ)
    → p *ℤ (((b -ℤ a) -ℤ (p -ℤ a)) *ℤ pos 1 +ℤ (p -ℤ a) *ℤ pos 1) ≡ (((b -ℤ a) -ℤ (p -ℤ a)) *ℤ a +ℤ (p -ℤ a) *ℤ b) *ℤ pos 1
own_axis = solve 3 (λ a b p. p ⊗ (((b ⊖ a) ⊖ (p ⊖ a)) ⊗ one ⊕ (p ⊖ a) ⊗ one) ≐ (((b ⊖ a) ⊖ (p ⊖ a)) ⊗ a ⊕ (p ⊖ a) ⊗ b) ⊗ one) tt

own_axis_back : (a b p : ℤ)
    → p *ℤ (((a -ℤ b) -ℤ (a -ℤ p)) *ℤ pos 1 +ℤ (a -ℤ p) *ℤ pos 1) ≡ (((a -ℤ b) -ℤ (a -ℤ p)) *ℤ a +ℤ (a -ℤ p) *ℤ b) *ℤ pos 1
own_axis_back = solve 3 (λ a b p. p ⊗ (((a ⊖ b) ⊖ (a ⊖ p)) ⊗ one ⊕ (a ⊖ p) ⊗ one) ≐ (((a ⊖ b) ⊖ (a ⊖ p)) ⊗ a ⊕ (a ⊖ p) ⊗ b) ⊗ one) tt

-- a whole point, on expressions
abbrev whole_e : Expr → Expr → PointE
whole_e x y = record { x = x; y = y; w = one }

by_x : (a b p : Pt) → turn_of (whole a) (whole b) (whole p) ≡ pos 0 → a.x <ℤ b.x → a.x ≤ℤ p.x → p.x ≤ℤ b.x
    → HasParameter (whole a) (whole b) (whole p)
by_x a b p zero h low high = record {
  n = p.x -ℤ a.x;
  d = b.x -ℤ a.x;
  param = (omega (arith, ints), omega (arith, ints), omega (arith, ints));
  same = (
    own_axis a.x b.x p.x,
    follows 6 (λ ax ay bx by px py. turn (whole_e ax ay) (whole_e bx by) (whole_e px py) ≐ num (pos 0)
        ⇒ py ⊗ (((bx ⊖ ax) ⊖ (px ⊖ ax)) ⊗ one ⊕ (px ⊖ ax) ⊗ one) ≐ (((bx ⊖ ax) ⊖ (px ⊖ ax)) ⊗ ay ⊕ (px ⊖ ax) ⊗ by) ⊗ one
        because eqn 0 one) tt a.x a.y b.x b.y p.x p.y zero,
  );
}

by_x_back : (a b p : Pt) → turn_of (whole a) (whole b) (whole p) ≡ pos 0 → b.x <ℤ a.x → b.x ≤ℤ p.x → p.x ≤ℤ a.x
    → HasParameter (whole a) (whole b) (whole p)
by_x_back a b p zero h low high = record {
  n = a.x -ℤ p.x;
  d = a.x -ℤ b.x;
  param = (omega (arith, ints), omega (arith, ints), omega (arith, ints));
  same = (
    own_axis_back a.x b.x p.x,
    follows 6 (λ ax ay bx by px py. turn (whole_e ax ay) (whole_e bx by) (whole_e px py) ≐ num (pos 0)
        ⇒ py ⊗ (((ax ⊖ bx) ⊖ (ax ⊖ px)) ⊗ one ⊕ (ax ⊖ px) ⊗ one) ≐ (((ax ⊖ bx) ⊖ (ax ⊖ px)) ⊗ ay ⊕ (ax ⊖ px) ⊗ by) ⊗ one
        because eqn 0 (neg one)) tt a.x a.y b.x b.y p.x p.y zero,
  );
}

by_y : (a b p : Pt) → turn_of (whole a) (whole b) (whole p) ≡ pos 0 → a.y <ℤ b.y → a.y ≤ℤ p.y → p.y ≤ℤ b.y
    → HasParameter (whole a) (whole b) (whole p)
by_y a b p zero h low high = record {
  n = p.y -ℤ a.y;
  d = b.y -ℤ a.y;
  param = (omega (arith, ints), omega (arith, ints), omega (arith, ints));
  same = (
    follows 6 (λ ax ay bx by px py. turn (whole_e ax ay) (whole_e bx by) (whole_e px py) ≐ num (pos 0)
        ⇒ px ⊗ (((by ⊖ ay) ⊖ (py ⊖ ay)) ⊗ one ⊕ (py ⊖ ay) ⊗ one) ≐ (((by ⊖ ay) ⊖ (py ⊖ ay)) ⊗ ax ⊕ (py ⊖ ay) ⊗ bx) ⊗ one
        because eqn 0 (neg one)) tt a.x a.y b.x b.y p.x p.y zero,
    own_axis a.y b.y p.y,
  );
}

by_y_back : (a b p : Pt) → turn_of (whole a) (whole b) (whole p) ≡ pos 0 → b.y <ℤ a.y → b.y ≤ℤ p.y → p.y ≤ℤ a.y
    → HasParameter (whole a) (whole b) (whole p)
by_y_back a b p zero h low high = record {
  n = a.y -ℤ p.y;
  d = a.y -ℤ b.y;
  param = (omega (arith, ints), omega (arith, ints), omega (arith, ints));
  same = (
    follows 6 (λ ax ay bx by px py. turn (whole_e ax ay) (whole_e bx by) (whole_e px py) ≐ num (pos 0)
        ⇒ px ⊗ (((ay ⊖ by) ⊖ (ay ⊖ py)) ⊗ one ⊕ (ay ⊖ py) ⊗ one) ≐ (((ay ⊖ by) ⊖ (ay ⊖ py)) ⊗ ax ⊕ (ay ⊖ py) ⊗ bx) ⊗ one
        because eqn 0 one) tt a.x a.y b.x b.y p.x p.y zero,
    own_axis_back a.y b.y p.y,
  );
}

start_axis : (a b p : ℤ) → p ≡ a → p *ℤ ((pos 1 -ℤ pos 0) *ℤ pos 1 +ℤ pos 0 *ℤ pos 1) ≡ ((pos 1 -ℤ pos 0) *ℤ a +ℤ pos 0 *ℤ b) *ℤ pos 1
start_axis = follows 3 (λ a b p. p ≐ a ⇒ p ⊗ ((one ⊖ num (pos 0)) ⊗ one ⊕ num (pos 0) ⊗ one)
    ≐ ((one ⊖ num (pos 0)) ⊗ a ⊕ num (pos 0) ⊗ b) ⊗ one because eqn 0 one) tt

by_start : (a b p : Pt) → p.x ≡ a.x → p.y ≡ a.y → HasParameter (whole a) (whole b) (whole p)
by_start a b p e f = record {
  n = pos 0;
  d = pos 1;
  param = (omega (arith, ints), omega (arith, ints), omega (arith, ints));
  same = (start_axis a.x b.x p.x e, start_axis a.y b.y p.y f);
}

one_between : (u v z : ℤ) → v ≤ℤ u → u ≤ℤ v → u ≤ℤ z → z ≤ℤ v → z ≡ u
one_between u v z a b c d = omega (arith, ints)

by_axes : (a b p : Pt) → turn_of (whole a) (whole b) (whole p) ≡ pos 0 → IsFromTo a.x b.x p.x → IsFromTo a.y b.y p.y
    → (b.x ≤ℤ a.x) ⊎ (a.x <ℤ b.x) → (a.x ≤ℤ b.x) ⊎ (b.x <ℤ a.x) → (b.y ≤ℤ a.y) ⊎ (a.y <ℤ b.y) → (a.y ≤ℤ b.y) ⊎ (b.y <ℤ a.y)
    → HasParameter (whole a) (whole b) (whole p)
by_axes a b p zero x y (inr h) q r s =
    let is = x.rising (≤_of_< a.x b.x h) in by_x a b p zero h is.0 is.1
by_axes a b p zero x y (inl g) (inr h) r s =
    let is = x.falling (≤_of_< b.x a.x h) in by_x_back a b p zero h is.0 is.1
by_axes a b p zero x y (inl g) (inl h) (inr k) s =
    let is = y.rising (≤_of_< a.y b.y k) in by_y a b p zero k is.0 is.1
by_axes a b p zero x y (inl g) (inl h) (inl k) (inr l) =
    let is = y.falling (≤_of_< b.y a.y l) in by_y_back a b p zero l is.0 is.1
by_axes a b p zero x y (inl g) (inl h) (inl k) (inl l) =
    let of_x = x.rising h in let of_y = y.rising l in
    by_start a b p (one_between a.x b.x p.x g h of_x.0 of_x.1) (one_between a.y b.y p.y k l of_y.0 of_y.1)

mix_of : (a b p : Pt) → is_on p (record { from = a; to = b }) ≡ true → IsMix (whole p) (whole a ∷ whole b ∷ [])
mix_of a b p e =
    let parts = and_both _ _ e in
    let spans = and_both _ _ parts.1 in
    let zero = (Decides-int_eq (turn_of (whole a) (whole b) (whole p)) (pos 0)).0 parts.0 in
    (segments_have_parameters (whole a) (whole b) (whole p)).1
    (by_axes a b p zero (from_to a.x b.x p.x spans.0) (from_to a.y b.y p.y spans.1)
    (≤_or_> b.x a.x) (≤_or_> a.x b.x) (≤_or_> b.y a.y) (≤_or_> a.y b.y))

-- ---- a mix is on the line, and between the ends
on_line : (ax ay bx by n d : ℤ)
    → turn_of (record { x = ax; y = ay; w = pos 1 }) (record { x = bx; y = by; w = pos 1 })
    (along (record { x = ax; y = ay; w = pos 1 }) (record { x = bx; y = by; w = pos 1 }) n d) ≡ pos 0
on_line = solve 6 (λ ax ay bx by n d.
    ax ⊗ (by ⊗ ((d ⊖ n) ⊗ one ⊕ n ⊗ one) ⊖ ((d ⊖ n) ⊗ ay ⊕ n ⊗ by) ⊗ one)
    ⊖ ay ⊗ (bx ⊗ ((d ⊖ n) ⊗ one ⊕ n ⊗ one) ⊖ ((d ⊖ n) ⊗ ax ⊕ n ⊗ bx) ⊗ one)
    ⊕ one ⊗ (bx ⊗ ((d ⊖ n) ⊗ ay ⊕ n ⊗ by) ⊖ ((d ⊖ n) ⊗ ax ⊕ n ⊗ bx) ⊗ by) ≐ num (pos 0)) tt

zero_times : (w t z : ℤ) → w *ℤ t ≡ pos 1 *ℤ z → z ≡ pos 0 → t *ℤ w ≡ pos 0 *ℤ w
zero_times = follows 3 (λ w t z. w ⊗ t ≐ one ⊗ z ⇒ z ≐ num (pos 0) ⇒ t ⊗ w ≐ num (pos 0) ⊗ w
    because eqn 0 one ⊞ eqn 1 one) tt

turn_zero : (a b p : Pt) → IsMix (whole p) (whole a ∷ whole b ∷ []) → turn_of (whole a) (whole b) (whole p) ≡ pos 0
turn_zero a b p m =
    let h = (segments_have_parameters (whole a) (whole b) (whole p)).0 m in
    let place = along (whole a) (whole b) h.n h.d in
    ≡_of_mul (turn_of (whole a) (whole b) (whole p)) (pos 0) place.w (along-w h.n h.d h.param.0)
    (zero_times place.w (turn_of (whole a) (whole b) (whole p)) (turn_of (whole a) (whole b) place)
    (turn_same (whole a) (whole b) (whole p) place h.same) (on_line a.x a.y b.x b.y h.n h.d))

pub all_three : (x y z : Bool) → x ≡ true → y ≡ true → z ≡ true → (x && (y && z)) ≡ true
all_three x y z e f g = rw (e, f, g) refl

on_of : (a b p : Pt) → IsMix (whole p) (whole a ∷ whole b ∷ []) → is_on p (record { from = a; to = b }) ≡ true
on_of a b p m =
    let inside = has_whole (box_of_segment a b) p (between_in a b (whole p) (omega (arith, ints)) m) in
    all_three _ _ _ ((Decides-int_eq (turn_of (whole a) (whole b) (whole p)) (pos 0)).1 (turn_zero a b p m))
    (is_between_by a.x b.x p.x inside.left inside.right) (is_between_by a.y b.y p.y inside.bottom inside.top)

pub points_of_segments_are_mixes : PointsOfSegmentsAreMixes
points_of_segments_are_mixes a b p = (mix_of a b p, on_of a b p)
