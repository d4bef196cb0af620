-- The first and the last of four points of one line: the way between them holds all four.
use Rattle.std.proofs.Common.{◌≡◌, ◌⊎◌, inl, inr, ℤ, pos, ◌+ℤ◌, ◌-ℤ◌, ◌*ℤ◌, ◌≤ℤ◌, ◌<ℤ◌, sym, ◌∙◌, subst, refl}
use Rattle.std.proofs.Common.{arith}
use Rattle.std.proofs.lemmas.Int.{ints}
use Rattle.integer_ring.proofs.Ring.{num, neg, ◌⊕◌, ◌⊖◌, ◌⊗◌}
use Rattle.integer_ring.proofs.Order.{≤_or_>}
use Rattle.integer_ring.proofs.Signs.{≡_of_mul}
use Rattle.integer_ring.proofs.Claims.{◌≐◌, eqn, ◌⊞◌, ◌because◌, ◌⇒◌, follows}
use Rattle.frac128.specs.declared.frac.Frac.{Frac}
use Rattle.plane_base.specs.Plane.{turn_of, whole, IsNear, IsNearTri}
use Rattle.plane_base.specs.declared.shapes.Pt.{Pt}
use Rattle.plane_base.proofs.MixLaws.Points.{turn, solve_at}
use Rattle.meet_rel.specs.declared.clips.Clip.{Clip}
use Rattle.meet_rel.specs.Clips.{IsPointBefore, IsNotAfter, IsOneOf, AreOuter, IsWayFor, StandsAt}
use Rattle.meet_rel.specs.Near.{AreNear}
use Rattle.meet_rel.specs.Signs.{AreOnOneLine}
use Rattle.meet_rel.proofs.Axes.{same_or_not}
use Rattle.meet_rel.proofs.Ways.{AreDifferent, far}
use Rattle.meet_rel.proofs.ClipEnds.{same_or_different}
use Rattle.plain_laws.proofs.Order.{up_trans}

-- ---- one of four
pub one_of : (a b c d m n r : Pt) → (m ≡ a) ⊎ (m ≡ b) → (n ≡ c) ⊎ (n ≡ d) → (r ≡ m) ⊎ (r ≡ n) → IsOneOf r a b c d
one_of a b c d m n r (inl e) k (inl h) = inl (h ∙ e)
one_of a b c d m n r (inr e) k (inl h) = inr (inl (h ∙ e))
one_of a b c d m n r k (inl e) (inr h) = inr (inr (inl (h ∙ e)))
one_of a b c d m n r k (inr e) (inr h) = inr (inr (inr (h ∙ e)))

picked : (P : Pt → Type 0) (a b c d r : Pt) → P a → P b → P c → P d → IsOneOf r a b c d → P r
picked P a b c d r pa pb pc pd (inl e) = subst P (sym e) pa
picked P a b c d r pa pb pc pd (inr (inl e)) = subst P (sym e) pb
picked P a b c d r pa pb pc pd (inr (inr (inl e))) = subst P (sym e) pc
picked P a b c d r pa pb pc pd (inr (inr (inr e))) = subst P (sym e) pd

-- ---- the order of points
less_trans : (a b c : ℤ) → a <ℤ b → b <ℤ c → a <ℤ c
less_trans a b c h k = omega (arith, ints)

pub not_after_trans : (p q r : Pt) → IsNotAfter p q → IsNotAfter q r → IsNotAfter p r
not_after_trans p q r (inl h) (inl k) = inl (less_trans p.x q.x r.x h k)
not_after_trans p q r (inl h) (inr k) = inl (subst (λ (z : ℤ). p.x <ℤ z) k.0 h)
not_after_trans p q r (inr h) (inl k) = inl (subst (λ (z : ℤ). z <ℤ r.x) (sym h.0) k)
not_after_trans p q r (inr h) (inr k) = inr (h.0 ∙ k.0, up_trans p.y q.y r.y h.1 k.1)

no_loop : (a b : ℤ) → a <ℤ b → b <ℤ a → ⊥
no_loop a b h k = absurd (omega (arith, ints))

no_same : (a b : ℤ) → a <ℤ b → a ≡ b → ⊥
no_same a b h e = absurd (omega (arith, ints))

antisymm : (a b : ℤ) → a ≤ℤ b → b ≤ℤ a → a ≡ b
antisymm a b h k = omega (arith, ints)

same_by_order : (p q : Pt) → IsNotAfter p q → IsNotAfter q p → p ≡ q
same_by_order p q (inl h) (inl k) = absurd (no_loop p.x q.x h k)
same_by_order p q (inl h) (inr k) = absurd (no_same p.x q.x h (sym k.0))
same_by_order p q (inr h) (inl k) = absurd (no_same q.x p.x k (sym h.0))
same_by_order p q (inr h) (inr k) = grind (arith, antisymm)

not_after_of : (p q : Pt) → (IsPointBefore q p → ⊥) → IsNotAfter p q
not_after_of p q n = grind (arith, ≤_or_>, same_or_not, antisymm)

weaker : (a b : ℤ) → a <ℤ b → a ≤ℤ b
weaker a b h = omega (arith, ints)

not_before_itself : (p q : Pt) → p ≡ q → IsPointBefore p q → ⊥
not_before_itself p q e b = grind arith

-- ---- points of one line
three_z : (sx sy tx ty ux uy vx vy px py : ℤ)
    → turn_of (record { x = sx; y = sy; w = pos 1 }) (record { x = tx; y = ty; w = pos 1 })
    (record { x = ux; y = uy; w = pos 1 }) ≡ pos 0
    → turn_of (record { x = sx; y = sy; w = pos 1 }) (record { x = tx; y = ty; w = pos 1 })
    (record { x = vx; y = vy; w = pos 1 }) ≡ pos 0
    → turn_of (record { x = sx; y = sy; w = pos 1 }) (record { x = tx; y = ty; w = pos 1 })
    (record { x = px; y = py; w = pos 1 }) ≡ pos 0
    → turn_of (record { x = ux; y = uy; w = pos 1 }) (record { x = vx; y = vy; w = pos 1 })
    (record { x = px; y = py; w = pos 1 }) *ℤ ((tx -ℤ sx) *ℤ (tx -ℤ sx) +ℤ (ty -ℤ sy) *ℤ (ty -ℤ sy)) ≡ pos 0
    *ℤ ((tx -ℤ sx) *ℤ (tx -ℤ sx) +ℤ (ty -ℤ sy) *ℤ (ty -ℤ sy))
three_z =
    follows 10 (λ sx sy tx ty ux uy vx vy px py.
    turn (record { x = sx; y = sy; w = num (pos 1) }) (record { x = tx; y = ty; w = num (pos 1) })
    (record { x = ux; y = uy; w = num (pos 1) }) ≐ num (pos 0)
    ⇒ turn (record { x = sx; y = sy; w = num (pos 1) }) (record { x = tx; y = ty; w = num (pos 1) })
    (record { x = vx; y = vy; w = num (pos 1) }) ≐ num (pos 0)
    ⇒ turn (record { x = sx; y = sy; w = num (pos 1) }) (record { x = tx; y = ty; w = num (pos 1) })
    (record { x = px; y = py; w = num (pos 1) }) ≐ num (pos 0)
    ⇒ turn (record { x = ux; y = uy; w = num (pos 1) }) (record { x = vx; y = vy; w = num (pos 1) })
    (record { x = px; y = py; w = num (pos 1) }) ⊗ ((tx ⊖ sx) ⊗ (tx ⊖ sx) ⊕ (ty ⊖ sy) ⊗ (ty ⊖ sy))
    ≐ num (pos 0) ⊗ ((tx ⊖ sx) ⊗ (tx ⊖ sx) ⊕ (ty ⊖ sy) ⊗ (ty ⊖ sy))
    because eqn 0 ((sy ⊖ ty) ⊗ (vy ⊖ py) ⊕ (tx ⊖ sx) ⊗ (px ⊖ vx)) ⊞ eqn 1
    ((sy ⊖ ty) ⊗ (py ⊖ uy) ⊕ (tx ⊖ sx) ⊗ (ux ⊖ px)) ⊞ eqn 2 ((sy ⊖ ty) ⊗ (uy ⊖ vy) ⊕ (tx ⊖ sx) ⊗ (vx ⊖ ux))) tt

-- a line of two different points with all four on it
pub record IsLineOf (a b c d : Pt) : Type 0 where
  pub s : Pt
  pub t : Pt
  pub different : AreDifferent s t
  pub of_a : turn_of (whole s) (whole t) (whole a) ≡ pos 0
  pub of_b : turn_of (whole s) (whole t) (whole b) ≡ pos 0
  pub of_c : turn_of (whole s) (whole t) (whole c) ≡ pos 0
  pub of_d : turn_of (whole s) (whole t) (whole d) ≡ pos 0

three_on : (a b c d u v x : Pt) → IsLineOf a b c d → IsOneOf u a b c d → IsOneOf v a b c d → IsOneOf x a b c d
    → turn_of (whole u) (whole v) (whole x) ≡ pos 0
three_on a b c d u v x l hu hv hx =
    let s = l.s in let t = l.t in let w = l.different in
    ≡_of_mul (turn_of (whole u) (whole v) (whole x)) (pos 0) (far s t) w.far_positive
    (three_z s.x s.y t.x t.y u.x u.y v.x v.y x.x x.y (on u hu) (on v hv) (on x hx))
  where
    on : (r : Pt) → IsOneOf r a b c d → turn_of (whole l.s) (whole l.t) (whole r) ≡ pos 0
    on r h = picked (λ y. turn_of (whole l.s) (whole l.t) (whole y) ≡ pos 0) a b c d r l.of_a l.of_b l.of_c l.of_d h

turn_first : (a b : Pt) → turn_of (whole a) (whole b) (whole a) ≡ pos 0
turn_first a b = solve_at 2 0 (λ a b. turn a b a ≐ num (pos 0)) tt (whole a) (whole b)

turn_last : (a b : Pt) → turn_of (whole a) (whole b) (whole b) ≡ pos 0
turn_last a b = solve_at 2 0 (λ a b. turn a b b ≐ num (pos 0)) tt (whole a) (whole b)

line_of : (a b c d : Pt) → AreOnOneLine a b c d → (a ≡ b → c ≡ d → a ≡ c → ⊥) → IsLineOf a b c d
line_of a b c d l some = go (same_or_different a b) (same_or_different c d) (same_or_different a c)
  where
    go : (a ≡ b) ⊎ AreDifferent a b → (c ≡ d) ⊎ AreDifferent c d → (a ≡ c) ⊎ AreDifferent a c → IsLineOf a b c d
    go (inr h) k m = record {
      s = a;
      t = b;
      different = h;
      of_a = turn_first a b;
      of_b = turn_last a b;
      of_c =
          l.of_c;
      of_d = l.of_d;
    }
    go (inl e) (inr k) m = record {
      s = c;
      t = d;
      different = k;
      of_a = l.of_a;
      of_b = l.of_b;
      of_c =
          turn_first c d;
      of_d = turn_last c d;
    }
    go (inl e) (inl f) (inr m) = record {
      s = a;
      t = c;
      different = m;
      of_a = turn_first a c;
      of_b = subst (λ (x : Pt). turn_of (whole a) (whole c) (whole x) ≡ pos 0) e (turn_first a c);
      of_c = turn_last a c;
      of_d = subst (λ (x : Pt). turn_of (whole a) (whole c) (whole x) ≡ pos 0) f (turn_last a c);
    }
    go (inl e) (inl f) (inl g) = absurd (some e f g)

-- ---- the way
near_turned : (p q : Pt) → IsNear p q → IsNear q p
near_turned p q (a, b, c, d) = (b, a, d, c)

near_itself : (p : Pt) → IsNear p p
near_itself p = (omega (arith, ints), omega (arith, ints), omega (arith, ints), omega (arith, ints))

two_near : (a b c d u v : Pt) → AreNear a b c d → IsOneOf u a b c d → IsOneOf v a b c d → IsNear u v
two_near a b c d u v n hu hv = picked (λ x. IsNear x v) a b c d u (to_a hv) (to_b hv) (to_c hv) (to_d hv) hu
  where
    ab : IsNear a b
    ab = (n.0).0

    ac : IsNear a c
    ac = (n.0).1

    bc : IsNear b c
    bc = (n.0).2

    ad : IsNear a d
    ad = (n.1).1

    bd : IsNear b d
    bd = (n.1).2

    cd : IsNear c d
    cd = n.2

    to_a : IsOneOf v a b c d → IsNear a v
    to_a h = picked (λ x. IsNear a x) a b c d v (near_itself a) ab ac ad h

    to_b : IsOneOf v a b c d → IsNear b v
    to_b h = picked (λ x. IsNear b x) a b c d v (near_turned a b ab) (near_itself b) bc bd h

    to_c : IsOneOf v a b c d → IsNear c v
    to_c h = picked (λ x. IsNear c x) a b c d v (near_turned a c ac) (near_turned b c bc) (near_itself c) cd h

    to_d : IsOneOf v a b c d → IsNear d v
    to_d h = picked (λ x. IsNear d x) a b c d v (near_turned a d ad) (near_turned b d bd) (near_turned c d cd)
        (near_itself d) h

outer_line : (a b c d u v : Pt) → AreOuter a b c d u v → IsPointBefore u v → IsLineOf a b c d
outer_line a b c d u v o before = line_of a b c d o.line
    (λ e f g. not_before_itself u v (all e f g u o.u_one ∙ sym (all e f g v o.v_one)) before)
  where
    all : a ≡ b → c ≡ d → a ≡ c → (r : Pt) → IsOneOf r a b c d → r ≡ a
    all e f g r h = picked (λ x. x ≡ a) a b c d r refl (sym e) (sym g) (sym f ∙ sym g) h

-- the four are one point where u is not before v
pub outer_same : (a b c d u v : Pt) → AreOuter a b c d u v → (IsPointBefore u v → ⊥) → (a ≡ b) × (c ≡ d) × (a ≡ c)
outer_same a b c d u v o n = (
  sym (same a o.u_a o.a_v) ∙ same b o.u_b o.b_v,
  sym (same c o.u_c o.c_v)
      ∙ same d o.u_d o.d_v,
  sym (same a o.u_a o.a_v) ∙ same c o.u_c o.c_v,
)
  where
    back : IsNotAfter v u
    back = not_after_of v u n

    same : (r : Pt) → IsNotAfter u r → IsNotAfter r v → u ≡ r
    same r h k = same_by_order u r h (not_after_trans r v u k back)

-- so the way from u to v is one for a segment between two of the four
pub way_for : (a b c d u v : Pt) (clip : Clip) → AreOuter a b c d u v → IsPointBefore u v → IsOneOf clip.a a b c d
    → IsOneOf clip.b a b c d → IsNearTri clip.tri a → IsNearTri clip.tri b → IsNearTri clip.tri c → IsNearTri clip.tri d
    → IsWayFor u v clip
way_for a b c d u v clip o before one_a one_b na nb nc nd =
    let l = outer_line a b c d u v o before in
    record {
      near = two_near a b c d u v o.near o.u_one o.v_one;
      near_u = picked (λ x. IsNearTri clip.tri x) a b c d u na nb nc nd o.u_one;
      near_v = picked (λ x. IsNearTri clip.tri x) a b c d v na nb nc nd o.v_one;
      a_from = picked (λ x. IsNotAfter u x) a b c d clip.a o.u_a o.u_b o.u_c o.u_d one_a;
      a_to = picked (λ x. IsNotAfter x v) a b c d clip.a o.a_v o.b_v o.c_v o.d_v one_a;
      a_on = three_on a b c d u v clip.a l o.u_one o.v_one one_a;
      b_from = picked (λ x. IsNotAfter u x) a b c d clip.b o.u_a o.u_b o.u_c o.u_d one_b;
      b_to = picked (λ x. IsNotAfter x v) a b c d clip.b o.a_v o.b_v o.c_v o.d_v one_b;
      b_on = three_on a b c d u v clip.b l o.u_one o.v_one one_b;
    }

-- ---- where a point is
x_z : (n d px ux vx : ℤ) → n ≡ px -ℤ ux → d ≡ vx -ℤ ux
    → px *ℤ ((d -ℤ n) *ℤ pos 1 +ℤ n *ℤ pos 1) ≡ ((d -ℤ n) *ℤ ux +ℤ n *ℤ vx) *ℤ pos 1
x_z = follows 5 (λ n d px ux vx. n ≐ px ⊖ ux ⇒ d ≐ vx ⊖ ux ⇒ px ⊗ ((d ⊖ n) ⊗ num (pos 1) ⊕ n ⊗ num (pos 1))
    ≐ ((d ⊖ n) ⊗ ux ⊕ n ⊗ vx) ⊗ num (pos 1) because eqn 1 n ⊞ eqn 0 (neg d)) tt

y_z : (n d px py ux uy vx vy : ℤ) → n ≡ px -ℤ ux → d ≡ vx -ℤ ux
    → turn_of (record { x = ux; y = uy; w = pos 1 }) (record { x = vx; y = vy; w = pos 1 })
    (record { x = px; y = py; w = pos 1 }) ≡ pos 0
    → py *ℤ ((d -ℤ n) *ℤ pos 1 +ℤ n *ℤ pos 1) ≡ ((d -ℤ n) *ℤ uy +ℤ n *ℤ vy) *ℤ pos 1
y_z =
    follows 8 (λ n d px py ux uy vx vy. n ≐ px ⊖ ux ⇒ d ≐ vx ⊖ ux
    ⇒ turn (record { x = ux; y = uy; w = num (pos 1) }) (record { x = vx; y = vy; w = num (pos 1) })
    (record { x = px; y = py; w = num (pos 1) }) ≐ num (pos 0)
    ⇒ py ⊗ ((d ⊖ n) ⊗ num (pos 1) ⊕ n ⊗ num (pos 1)) ≐ ((d ⊖ n) ⊗ uy ⊕ n ⊗ vy) ⊗ num (pos 1)
    because eqn 2 (num (pos 1)) ⊞ eqn 1 (py ⊖ uy) ⊞ eqn 0 (neg (vy ⊖ uy))) tt

level_z : (n d px ux vx : ℤ) → ux ≡ px → ux ≡ vx
    → px *ℤ ((d -ℤ n) *ℤ pos 1 +ℤ n *ℤ pos 1) ≡ ((d -ℤ n) *ℤ ux +ℤ n *ℤ vx) *ℤ pos 1
level_z = follows 5 (λ n d px ux vx. ux ≐ px ⇒ ux ≐ vx ⇒ px ⊗ ((d ⊖ n) ⊗ num (pos 1) ⊕ n ⊗ num (pos 1))
    ≐ ((d ⊖ n) ⊗ ux ⊕ n ⊗ vx) ⊗ num (pos 1) because eqn 0 (neg d) ⊞ eqn 1 n) tt

-- by the first numbers, where these differ
pub first_up : (p q : Pt) → IsNotAfter p q → p.x ≤ℤ q.x
first_up p q (inl h) = weaker p.x q.x h
first_up p q (inr h) = grind arith

pub second_up : (p q : Pt) → IsNotAfter p q → p.x ≡ q.x → p.y ≤ℤ q.y
second_up p q (inl h) e = absurd (no_same p.x q.x h e)
second_up p q (inr h) e = h.1

params : (n d a b c : ℤ) → n ≡ b -ℤ a → d ≡ c -ℤ a → a <ℤ c → a ≤ℤ b → b ≤ℤ c → (pos 0 <ℤ d) × (pos 0 ≤ℤ n) × (n ≤ℤ d)
params n d a b c e f h k l = (omega (arith, ints), omega (arith, ints), omega (arith, ints))

pub stands_first : (u v p : Pt) (f : Frac) → u.x <ℤ v.x → IsNotAfter u p → IsNotAfter p v
    → turn_of (whole u) (whole v) (whole p) ≡ pos 0 → f.num ≡ p.x -ℤ u.x → f.den ≡ v.x -ℤ u.x → StandsAt u v p f
stands_first u v p f h from to on n d =
    record {
      param = params f.num f.den u.x p.x v.x n d h (first_up u p from) (first_up p v to);
      same = (x_z f.num f.den p.x u.x v.x n d, y_z f.num f.den p.x p.y u.x u.y v.x v.y n d on);
    }

-- and by the second numbers, where all first numbers are the same
pub upright_of : (u v p : Pt) → IsPointBefore u v → (u.x <ℤ v.x → ⊥) → IsNotAfter u p → IsNotAfter p v
    → (u.x ≡ v.x) × (u.y <ℤ v.y) × (u.x ≡ p.x) × (p.x ≡ v.x)
upright_of u v p (inl h) no_first from to = absurd (no_first h)
upright_of u v p (inr h) no_first from to = grind (arith, first_up, antisymm)

pub stands_second : (u v p : Pt) (f : Frac) → IsPointBefore u v → (u.x <ℤ v.x → ⊥) → IsNotAfter u p → IsNotAfter p v
    → f.num ≡ p.y -ℤ u.y → f.den ≡ v.y -ℤ u.y → StandsAt u v p f
stands_second u v p f before no_first from to n d =
    let k = upright_of u v p before no_first from to in
    record {
      param = params f.num f.den u.y p.y v.y n d k.1 (second_up u p from k.2) (second_up p v to k.3);
      same = (level_z f.num f.den p.x u.x v.x k.2 k.0, x_z f.num f.den p.y u.y v.y n d);
    }

pub different_before : (u v : Pt) → IsPointBefore u v → AreDifferent u v
different_before u v before = grind (arith, same_or_different, AreDifferent, not_before_itself)
