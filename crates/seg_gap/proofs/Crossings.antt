-- Two segments that cross share a point: the turns of the ends of each with the other are the weights there.
use Rattle.std.proofs.Common.{◌≡◌, ◌↔◌, inl, inr, ℕ, ◌<◌, ℤ, pos, ◌+ℤ◌, ◌*ℤ◌, ◌≤ℤ◌, ◌<ℤ◌, neg_ℤ, negsuc, Bool, false}
use Rattle.std.proofs.Common.{IsTrue, subst, arith}
use Rattle.std.proofs.lemmas.Bool.{false≢true}
use Rattle.integer_ring.proofs.Ring.{num, neg, ◌⊕◌, ◌⊗◌}
use Rattle.integer_ring.proofs.Claims.{◌≐◌, ◌≼◌, ◌≺◌, never, gap, over, eqn, ◌⊞◌, ◌because◌, ◌⇒◌, follows, solve}
use Rattle.plane_base.specs.Plane.{whole, turn_of}
use Rattle.plane_base.specs.declared.shapes.Pt.{Pt}
use Rattle.seg_gap.specs.Gaps.{HaveCloser}
use Rattle.plane_base.specs.TwoWeights.{AreWeights}
use Rattle.seg_gap.specs.InsideEnds.{AreOpposite, DoCross}
use Rattle.seg_gap.proofs.Steps.{whole_turn, whole_turnE}
use Rattle.seg_gap.proofs.Sides.{whole_turn_is}
use Rattle.seg_gap.proofs.Places.{mix_at, of_weights, same_closer}

-- ---- the two mixes are one
left_x : (a b c d : Pt) → neg_ℤ (whole_turn c d b) *ℤ a.x +ℤ whole_turn c d a *ℤ b.x ≡ whole_turn a b d *ℤ c.x
    +ℤ neg_ℤ (whole_turn a b c) *ℤ d.x
left_x a b c d =
    solve 8 (λ ax ay bx by cx cy dx dy. neg (whole_turnE cx cy dx dy bx by) ⊗ ax ⊕ whole_turnE cx cy dx dy ax ay ⊗ bx
    ≐ whole_turnE ax ay bx by dx dy ⊗ cx ⊕ neg (whole_turnE ax ay bx by cx cy) ⊗ dx) tt
    a.x a.y b.x b.y c.x c.y d.x d.y

left_y : (a b c d : Pt) → neg_ℤ (whole_turn c d b) *ℤ a.y +ℤ whole_turn c d a *ℤ b.y ≡ whole_turn a b d *ℤ c.y
    +ℤ neg_ℤ (whole_turn a b c) *ℤ d.y
left_y a b c d =
    solve 8 (λ ax ay bx by cx cy dx dy. neg (whole_turnE cx cy dx dy bx by) ⊗ ay ⊕ whole_turnE cx cy dx dy ax ay
    ⊗ by ≐ whole_turnE ax ay bx by dx dy ⊗ cy ⊕ neg (whole_turnE ax ay bx by cx cy) ⊗ dy) tt
    a.x a.y b.x b.y c.x c.y d.x d.y

left_w : (a b c d : Pt) → neg_ℤ (whole_turn c d b) +ℤ whole_turn c d a ≡ whole_turn a b d +ℤ neg_ℤ (whole_turn a b c)
left_w a b c d =
    solve 8 (λ ax ay bx by cx cy dx dy. neg (whole_turnE cx cy dx dy bx by) ⊕ whole_turnE cx cy dx dy ax ay
    ≐ whole_turnE ax ay bx by dx dy ⊕ neg (whole_turnE ax ay bx by cx cy)) tt
    a.x a.y b.x b.y c.x c.y d.x d.y

right_x : (a b c d : Pt)
    → whole_turn c d b *ℤ a.x +ℤ neg_ℤ (whole_turn c d a) *ℤ b.x ≡ neg_ℤ (whole_turn a b d) *ℤ c.x +ℤ whole_turn a b c
    *ℤ d.x
right_x a b c d =
    solve 8 (λ ax ay bx by cx cy dx dy. whole_turnE cx cy dx dy bx by ⊗ ax ⊕ neg (whole_turnE cx cy dx dy ax ay) ⊗ bx
    ≐ neg (whole_turnE ax ay bx by dx dy) ⊗ cx ⊕ whole_turnE ax ay bx by cx cy ⊗ dx) tt
    a.x a.y b.x b.y c.x c.y d.x d.y

right_y : (a b c d : Pt)
    → whole_turn c d b *ℤ a.y +ℤ neg_ℤ (whole_turn c d a) *ℤ b.y ≡ neg_ℤ (whole_turn a b d) *ℤ c.y +ℤ whole_turn a b c
    *ℤ d.y
right_y a b c d =
    solve 8 (λ ax ay bx by cx cy dx dy. whole_turnE cx cy dx dy bx by ⊗ ay ⊕ neg (whole_turnE cx cy dx dy ax ay)
    ⊗ by ≐ neg (whole_turnE ax ay bx by dx dy) ⊗ cy ⊕ whole_turnE ax ay bx by cx cy ⊗ dy) tt
    a.x a.y b.x b.y c.x c.y d.x d.y

right_w : (a b c d : Pt) → whole_turn c d b +ℤ neg_ℤ (whole_turn c d a) ≡ neg_ℤ (whole_turn a b d) +ℤ whole_turn a b c
right_w a b c d =
    solve 8 (λ ax ay bx by cx cy dx dy. whole_turnE cx cy dx dy bx by ⊕ neg (whole_turnE cx cy dx dy ax ay)
    ≐ neg (whole_turnE ax ay bx by dx dy) ⊕ whole_turnE ax ay bx by cx cy) tt
    a.x a.y b.x b.y c.x c.y d.x d.y

-- ---- the weights
nonneg_of : (u : ℤ) → pos 0 <ℤ u → pos 0 ≤ℤ u
nonneg_of = follows 1 (λ u. num (pos 0) ≺ u ⇒ num (pos 0) ≼ u because gap 0) tt

nonneg_neg : (u : ℤ) → u <ℤ pos 0 → pos 0 ≤ℤ neg_ℤ u
nonneg_neg = follows 1 (λ u. u ≺ num (pos 0) ⇒ num (pos 0) ≼ neg u because gap 0) tt

-- one below 0 and one above, in either order
first_below : (u v : ℤ) → u <ℤ pos 0 → pos 0 <ℤ v → AreWeights (neg_ℤ u) v
first_below u v h k =
    record {
      first = nonneg_neg u h;
      second = nonneg_of v k;
      some = follows 2 (λ u v. u ≺ num (pos 0) ⇒ num (pos 0) ≺ v ⇒ num (pos 0) ≺ neg u ⊕ v
          because gap 0 ⊞ over 1) tt u v h k;
    }

second_below : (u v : ℤ) → pos 0 <ℤ u → v <ℤ pos 0 → AreWeights u (neg_ℤ v)
second_below u v h k =
    record {
      first = nonneg_of u h;
      second = nonneg_neg v k;
      some = follows 2 (λ u v. num (pos 0) ≺ u ⇒ v ≺ num (pos 0) ⇒ num (pos 0) ≺ u ⊕ neg v
          because over 0 ⊞ gap 1) tt u v h k;
    }

-- both turn to the same side: that cannot be
no_left : (ta tb tc td : ℤ) → neg_ℤ tb +ℤ ta ≡ td +ℤ neg_ℤ tc → tc <ℤ pos 0 → pos 0 <ℤ td → ta <ℤ pos 0 → pos 0 <ℤ tb
    → ⊥
no_left =
    follows 4 (λ ta tb tc td. neg tb ⊕ ta ≐ td ⊕ neg tc ⇒ tc ≺ num (pos 0) ⇒ num (pos 0) ≺ td ⇒ ta ≺ num (pos 0)
    ⇒ num (pos 0) ≺ tb ⇒ never
    because over 1 ⊞ gap 2 ⊞ gap 3 ⊞ gap 4 ⊞ eqn 0 (num (negsuc 0))) tt

no_right : (ta tb tc td : ℤ) → neg_ℤ tb +ℤ ta ≡ td +ℤ neg_ℤ tc → pos 0 <ℤ tc → td <ℤ pos 0 → pos 0 <ℤ ta → tb <ℤ pos 0
    → ⊥
no_right =
    follows 4 (λ ta tb tc td. neg tb ⊕ ta ≐ td ⊕ neg tc ⇒ num (pos 0) ≺ tc ⇒ td ≺ num (pos 0) ⇒ num (pos 0) ≺ ta
    ⇒ tb ≺ num (pos 0) ⇒ never
    because over 1 ⊞ gap 2 ⊞ gap 3 ⊞ gap 4 ⊞ eqn 0 (num (pos 1))) tt

-- ---- places of both segments that are as near as anything asks
at_crossing : (n : ℕ) (a b c d : Pt) → 0 < n → AreOpposite (whole_turn a b c) (whole_turn a b d)
    → AreOpposite (whole_turn c d a) (whole_turn c d b) → HaveCloser n a b c d
at_crossing n a b c d some (inl h) (inr k) =
    let v = first_below (whole_turn c d b) (whole_turn c d a) k.1 k.0 in
    let w = second_below (whole_turn a b d) (whole_turn a b c) h.1 h.0 in
    let p = mix_at a b (neg_ℤ (whole_turn c d b)) (whole_turn c d a) in
    let q = mix_at c d (whole_turn a b d) (neg_ℤ (whole_turn a b c)) in
    let first = of_weights a b (neg_ℤ (whole_turn c d b)) (whole_turn c d a) v in
    let second = of_weights c d (whole_turn a b d) (neg_ℤ (whole_turn a b c)) w in
    record {
      p = p;
      q = q;
      first = first;
      second = second;
      closer =
          same_closer n p q some first.place second.place (left_x a b c d) (left_y a b c d) (left_w a b c d);
    }
at_crossing n a b c d some (inr h) (inl k) =
    let v = second_below (whole_turn c d b) (whole_turn c d a) k.1 k.0 in
    let w = first_below (whole_turn a b d) (whole_turn a b c) h.1 h.0 in
    let p = mix_at a b (whole_turn c d b) (neg_ℤ (whole_turn c d a)) in
    let q = mix_at c d (neg_ℤ (whole_turn a b d)) (whole_turn a b c) in
    let first = of_weights a b (whole_turn c d b) (neg_ℤ (whole_turn c d a)) v in
    let second = of_weights c d (neg_ℤ (whole_turn a b d)) (whole_turn a b c) w in
    record {
      p = p;
      q = q;
      first = first;
      second = second;
      closer =
          same_closer n p q some first.place second.place (right_x a b c d) (right_y a b c d) (right_w a b c d);
    }
at_crossing n a b c d some (inl h) (inl k) =
    absurd (no_left (whole_turn c d a) (whole_turn c d b) (whole_turn a b c) (whole_turn a b d) (left_w a b c d) h.0 h.1
    k.0 k.1)
at_crossing n a b c d some (inr h) (inr k) =
    absurd (no_right (whole_turn c d a) (whole_turn c d b) (whole_turn a b c) (whole_turn a b d) (left_w a b c d) h.0
    h.1 k.0 k.1)

opposite_of : (c d a b : Pt)
    → AreOpposite (turn_of (whole c) (whole d) (whole a)) (turn_of (whole c) (whole d) (whole b))
    → AreOpposite (whole_turn c d a) (whole_turn c d b)
opposite_of c d a b h = grind (arith, whole_turn_is)

pub closer_crossing : (n : ℕ) (a b c d : Pt) → 0 < n → DoCross a b c d → HaveCloser n a b c d
closer_crossing n a b c d some h = at_crossing n a b c d some (opposite_of a b c d h.first)
    (opposite_of c d a b h.second)

-- ---- what the tests of four turns say
opposite_as : (s t u v : ℤ) → s ≡ u → t ≡ v → AreOpposite s t → AreOpposite u v
opposite_as s t u v e f h = subst (λ (z : ℤ). AreOpposite u z) f (subst (λ (z : ℤ). AreOpposite z t) e h)

pub crossing_if : (a b c d : Pt) (r : Bool) (tc td ta tb : ℤ) → tc ≡ turn_of (whole a) (whole b) (whole c)
    → td ≡ turn_of (whole a) (whole b) (whole d) → ta ≡ turn_of (whole c) (whole d) (whole a)
    → tb ≡ turn_of (whole c) (whole d) (whole b)
    → AreOpposite tc td → IsTrue r ↔ AreOpposite ta tb → IsTrue r ↔ DoCross a b c d
crossing_if a b c d r tc td ta tb ec ed ea eb first tells = grind (arith, opposite_as)

pub no_crossing : (a b c d : Pt) (r : Bool) (tc td : ℤ) → tc ≡ turn_of (whole a) (whole b) (whole c)
    → td ≡ turn_of (whole a) (whole b) (whole d) → r ≡ false → IsTrue r ↔ AreOpposite tc td → IsTrue r ↔ DoCross a b c d
no_crossing a b c d r tc td ec ed fails tells = grind (arith, false≢true, opposite_as)
