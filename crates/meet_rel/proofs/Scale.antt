-- The points of the line through u and v, told apart by a number for each: its share of a direction that the line does
-- not cross at a right angle.
use Rattle.std.proofs.Common.{◌≡◌, ◌⊎◌, inl, inr, ℕ, ◌+◌, ◌<◌, ℤ, pos, ◌+ℤ◌, ◌-ℤ◌, ◌*ℤ◌, ◌≤ℤ◌, ◌<ℤ◌, [], ◌∷◌, sym, ◌∙◌}
use Rattle.std.proofs.Common.{subst, refl, arith}
use Rattle.std.proofs.lemmas.Int.{ints}
use Rattle.integer_ring.proofs.Ring.{num, neg, ◌⊕◌, ◌⊖◌, ◌⊗◌}
use Rattle.integer_ring.proofs.Order.{≤_or_>, nonneg_pos, to_nat, ≤-to-nonneg, ≤_antisymm, ≤_of_≡}
use Rattle.integer_ring.proofs.Signs.{≡_of_mul, zero_cases, frac-≤_trans}
use Rattle.integer_ring.proofs.Claims.{◌≐◌, ◌≼◌, ◌≺◌, gap, over, eqn, ◌⊞◌, ◌⊠◌, ◌because◌, ◌otherwise◌, ◌⇒◌, follows}
use Rattle.integer_ring.proofs.Claims.{solve}
use Rattle.plane_base.specs.Plane.{Point, Same, turn_of, IsMix, whole}
use Rattle.plane_base.specs.declared.shapes.Pt.{Pt}
use Rattle.plane_base.proofs.MixLaws.Points.{turn}
use Rattle.plane_base.proofs.MixLaws.Turns.{turn_same}
use Rattle.plane_base.proofs.MixLaws.Mixes.{mixed, Between, between_weights, weights_between, between-w, same_refl, mix_moved, turn_between}
use Rattle.plane_base.proofs.MixLaws.Mixes.{mix_swapped}
use Rattle.plain_laws.proofs.Weights.{zero_mix, zero_factor}

-- two whole points, and a direction whose share is not the same at both
pub record Scale : Type 0 where
  pub u : Pt
  pub v : Pt
  pub dx : ℤ
  pub dy : ℤ
  pub tells : dx *ℤ (v.x -ℤ u.x) +ℤ dy *ℤ (v.y -ℤ u.y) ≡ pos 0 → ⊥

pub record IsOn (s : Scale) (r : Point) : Type 0 where
  pub line : turn_of (whole s.u) (whole s.v) r ≡ pos 0
  pub positive : pos 0 <ℤ r.w

abbrev pub share : Scale → Point → ℤ
share s r = s.dx *ℤ r.x +ℤ s.dy *ℤ r.y

-- not further on
pub record IsUpTo (s : Scale) (p q : Point) : Type 0 where
  pub order : (share s p *ℤ q.w) ≤ℤ (share s q *ℤ p.w)

pub record IsLessFar (s : Scale) (p q : Point) : Type 0 where
  pub order : (share s p *ℤ q.w) <ℤ (share s q *ℤ p.w)

pub record IsLevel (s : Scale) (p q : Point) : Type 0 where
  pub even : share s p *ℤ q.w ≡ share s q *ℤ p.w

-- ---- order
pub up_to_trans : (s : Scale) (p q r : Point) → IsOn s p → IsOn s q → IsOn s r → IsUpTo s p q → IsUpTo s q r
    → IsUpTo s p r
up_to_trans s p q r hp hq hr a b =
    record {
      order = frac-≤_trans (share s p) p.w (share s q) q.w (share s r) r.w hp.positive hq.positive hr.positive
          a.order b.order;
    }

pub level_up : (s : Scale) (p q : Point) → IsLevel s p q → IsUpTo s p q
level_up s p q l = record { order = ≤_of_≡ (share s p *ℤ q.w) (share s q *ℤ p.w) l.even }

pub level_down : (s : Scale) (p q : Point) → IsLevel s p q → IsUpTo s q p
level_down s p q l = record { order = ≤_of_≡ (share s q *ℤ p.w) (share s p *ℤ q.w) (sym l.even) }

pub level_of : (s : Scale) (p q : Point) → IsUpTo s p q → IsUpTo s q p → IsLevel s p q
level_of s p q a b = record { even = ≤_antisymm (share s p *ℤ q.w) (share s q *ℤ p.w) a.order b.order }

pub before_up : (s : Scale) (p q : Point) → IsLessFar s p q → IsUpTo s p q
before_up s p q b = grind arith

pub not_before : (s : Scale) (p q : Point) → IsLessFar s p q → IsUpTo s q p → ⊥
not_before s p q a b = no (share s p *ℤ q.w) (share s q *ℤ p.w) a.order b.order
  where
    no : (a b : ℤ) → a <ℤ b → b ≤ℤ a → ⊥
    no a b h k = absurd (omega (arith, ints))

pub up_to_itself : (s : Scale) (p : Point) → IsUpTo s p p
up_to_itself s p = record { order = ≤_of_≡ (share s p *ℤ p.w) (share s p *ℤ p.w) refl }

-- ---- one place has one share, and a share is of one place
share_same : (dx dy px py pw qx qy qw : ℤ) → px *ℤ qw ≡ qx *ℤ pw → py *ℤ qw ≡ qy *ℤ pw
    → (dx *ℤ px +ℤ dy *ℤ py) *ℤ qw ≡ (dx *ℤ qx +ℤ dy *ℤ qy) *ℤ pw
share_same =
    follows 8 (λ dx dy px py pw qx qy qw. px ⊗ qw ≐ qx ⊗ pw ⇒ py ⊗ qw ≐ qy ⊗ pw ⇒ (dx ⊗ px ⊕ dy ⊗ py) ⊗ qw
    ≐ (dx ⊗ qx ⊕ dy ⊗ qy) ⊗ pw because eqn 0 dx ⊞ eqn 1 dy) tt

pub same_level : (s : Scale) (p q : Point) → Same p q → IsLevel s p q
same_level s p q same = record { even = share_same s.dx s.dy p.x p.y p.w q.x q.y q.w same.0 same.1 }

-- e times the difference of a and b is 0, and e is not
same_of : (e a b : ℤ) → (e ≡ pos 0 → ⊥) → e *ℤ (a -ℤ b) ≡ pos 0 → a ≡ b
same_of e a b differ z = grind (arith, zero_cases)

x_told : (ux uy vx vy dx dy px py pw qx qy qw : ℤ)
    → turn_of (record { x = ux; y = uy; w = pos 1 }) (record { x = vx; y = vy; w = pos 1 })
    (record { x = px; y = py; w = pw }) ≡ pos 0
    → turn_of (record { x = ux; y = uy; w = pos 1 }) (record { x = vx; y = vy; w = pos 1 })
    (record { x = qx; y = qy; w = qw }) ≡ pos 0
    → (dx *ℤ px +ℤ dy *ℤ py) *ℤ qw ≡ (dx *ℤ qx +ℤ dy *ℤ qy) *ℤ pw
    → (dx *ℤ (vx -ℤ ux) +ℤ dy *ℤ (vy -ℤ uy)) *ℤ (px *ℤ qw -ℤ qx *ℤ pw) ≡ pos 0
x_told =
    follows 12 (λ ux uy vx vy dx dy px py pw qx qy qw.
    turn (record { x = ux; y = uy; w = num (pos 1) }) (record { x = vx; y = vy; w = num (pos 1) })
    (record { x = px; y = py; w = pw }) ≐ num (pos 0)
    ⇒ turn (record { x = ux; y = uy; w = num (pos 1) }) (record { x = vx; y = vy; w = num (pos 1) })
    (record { x = qx; y = qy; w = qw }) ≐ num (pos 0)
    ⇒ (dx ⊗ px ⊕ dy ⊗ py) ⊗ qw ≐ (dx ⊗ qx ⊕ dy ⊗ qy) ⊗ pw
    ⇒ (dx ⊗ (vx ⊖ ux) ⊕ dy ⊗ (vy ⊖ uy)) ⊗ (px ⊗ qw ⊖ qx ⊗ pw) ≐ num (pos 0)
    because eqn 2 (vx ⊖ ux) ⊞ eqn 0 (neg (dy ⊗ qw)) ⊞ eqn 1 (dy ⊗ pw)) tt

y_told : (ux uy vx vy dx dy px py pw qx qy qw : ℤ)
    → turn_of (record { x = ux; y = uy; w = pos 1 }) (record { x = vx; y = vy; w = pos 1 })
    (record { x = px; y = py; w = pw }) ≡ pos 0
    → turn_of (record { x = ux; y = uy; w = pos 1 }) (record { x = vx; y = vy; w = pos 1 })
    (record { x = qx; y = qy; w = qw }) ≡ pos 0
    → (dx *ℤ px +ℤ dy *ℤ py) *ℤ qw ≡ (dx *ℤ qx +ℤ dy *ℤ qy) *ℤ pw
    → (dx *ℤ (vx -ℤ ux) +ℤ dy *ℤ (vy -ℤ uy)) *ℤ (py *ℤ qw -ℤ qy *ℤ pw) ≡ pos 0
y_told =
    follows 12 (λ ux uy vx vy dx dy px py pw qx qy qw.
    turn (record { x = ux; y = uy; w = num (pos 1) }) (record { x = vx; y = vy; w = num (pos 1) })
    (record { x = px; y = py; w = pw }) ≐ num (pos 0)
    ⇒ turn (record { x = ux; y = uy; w = num (pos 1) }) (record { x = vx; y = vy; w = num (pos 1) })
    (record { x = qx; y = qy; w = qw }) ≐ num (pos 0)
    ⇒ (dx ⊗ px ⊕ dy ⊗ py) ⊗ qw ≐ (dx ⊗ qx ⊕ dy ⊗ qy) ⊗ pw
    ⇒ (dx ⊗ (vx ⊖ ux) ⊕ dy ⊗ (vy ⊖ uy)) ⊗ (py ⊗ qw ⊖ qy ⊗ pw) ≐ num (pos 0)
    because eqn 2 (vy ⊖ uy) ⊞ eqn 0 (dx ⊗ qw) ⊞ eqn 1 (neg (dx ⊗ pw))) tt

pub level_same : (s : Scale) (p q : Point) → IsOn s p → IsOn s q → IsLevel s p q → Same p q
level_same s p q hp hq l =
    let u = s.u in let v = s.v in
    let e = s.dx *ℤ (v.x -ℤ u.x) +ℤ s.dy *ℤ (v.y -ℤ u.y) in (
      same_of e (p.x *ℤ q.w) (q.x *ℤ p.w) s.tells
          (x_told u.x u.y v.x v.y s.dx s.dy p.x p.y p.w q.x q.y q.w hp.line hq.line l.even),
      same_of e (p.y *ℤ q.w) (q.y *ℤ p.w) s.tells
          (y_told u.x u.y v.x v.y s.dx s.dy p.x p.y p.w q.x q.y q.w hp.line hq.line l.even),
    )

-- ---- the points between two points of the line

-- a point in the place of one of a line is of the line
pub line_moved : (a b p q : Point) → pos 0 <ℤ q.w → Same p q → turn_of a b q ≡ pos 0 → turn_of a b p ≡ pos 0
line_moved a b p q h same z = ≡_of_mul (turn_of a b p) (pos 0) q.w h
    (zero_factor q.w (turn_of a b p) p.w (subst (λ (t : ℤ). q.w *ℤ turn_of a b p ≡ p.w *ℤ t) z
    (turn_same a b p q same)))

pub between_line : (a b p q r : Point) → pos 0 <ℤ p.w → pos 0 <ℤ q.w → turn_of a b p ≡ pos 0 → turn_of a b q ≡ pos 0
    → IsMix r (p ∷ q ∷ []) → turn_of a b r ≡ pos 0
between_line a b p q r hp hq zp zq m =
    let i = between_weights p q r m in
    line_moved a b r (mixed i.k i.l p q) (between-w p q r i hp hq) i.same
    (turn_between a b p q i.k i.l ∙ zero_mix (pos i.k) (pos i.l) (turn_of a b p) (turn_of a b q) zp zq)

pub between_on : (s : Scale) (p q r : Point) → IsOn s p → IsOn s q → pos 0 <ℤ r.w → IsMix r (p ∷ q ∷ []) → IsOn s r
between_on s p q r hp hq hr m = record {
  line =
      between_line (whole s.u) (whole s.v) p q r hp.positive hq.positive hp.line hq.line m;
  positive = hr;
}

share_mixed : (s : Scale) (p q : Point) (k l : ℕ)
    → share s (mixed k l p q) ≡ pos k *ℤ share s p +ℤ (pos l *ℤ share s q +ℤ pos 0)
share_mixed s p q k l =
    solve 8 (λ dx dy px py qx qy k l. dx ⊗ (k ⊗ px ⊕ (l ⊗ qx ⊕ num (pos 0))) ⊕ dy ⊗ (k ⊗ py ⊕ (l ⊗ qy ⊕ num (pos 0)))
    ≐ k ⊗ (dx ⊗ px ⊕ dy ⊗ py) ⊕ (l ⊗ (dx ⊗ qx ⊕ dy ⊗ qy) ⊕ num (pos 0))) tt
    s.dx s.dy p.x p.y q.x q.y (pos k) (pos l)

from_first : (lp pw lq qw lr rw k l : ℤ) → pos 0 ≤ℤ k → pos 0 ≤ℤ l → pos 0 <ℤ (k *ℤ pw +ℤ (l *ℤ qw +ℤ pos 0))
    → pos 0 <ℤ rw → (lp *ℤ qw) ≤ℤ (lq *ℤ pw)
    → lr *ℤ (k *ℤ pw +ℤ (l *ℤ qw +ℤ pos 0)) ≡ (k *ℤ lp +ℤ (l *ℤ lq +ℤ pos 0)) *ℤ rw → (lp *ℤ rw) ≤ℤ (lr *ℤ pw)
from_first =
    follows 8 (λ lp pw lq qw lr rw k l.
    num (pos 0) ≼ k ⇒ num (pos 0) ≼ l ⇒ num (pos 0) ≺ k ⊗ pw ⊕ (l ⊗ qw ⊕ num (pos 0)) ⇒ num (pos 0) ≺ rw ⇒ lp ⊗ qw ≼ lq
    ⊗ pw
    ⇒ lr ⊗ (k ⊗ pw ⊕ (l ⊗ qw ⊕ num (pos 0))) ≐ (k ⊗ lp ⊕ (l ⊗ lq ⊕ num (pos 0))) ⊗ rw ⇒ lp ⊗ rw ≼ lr ⊗ pw
    otherwise over 6 ⊠ gap 2 ⊞ over 2 ⊞ gap 3 ⊠ gap 1 ⊠ gap 4 ⊞ eqn 5 (neg pw)) tt

to_last : (lp pw lq qw lr rw k l : ℤ) → pos 0 ≤ℤ k → pos 0 ≤ℤ l → pos 0 <ℤ (k *ℤ pw +ℤ (l *ℤ qw +ℤ pos 0))
    → pos 0 <ℤ rw → (lp *ℤ qw) ≤ℤ (lq *ℤ pw)
    → lr *ℤ (k *ℤ pw +ℤ (l *ℤ qw +ℤ pos 0)) ≡ (k *ℤ lp +ℤ (l *ℤ lq +ℤ pos 0)) *ℤ rw → (lr *ℤ qw) ≤ℤ (lq *ℤ rw)
to_last =
    follows 8 (λ lp pw lq qw lr rw k l.
    num (pos 0) ≼ k ⇒ num (pos 0) ≼ l ⇒ num (pos 0) ≺ k ⊗ pw ⊕ (l ⊗ qw ⊕ num (pos 0)) ⇒ num (pos 0) ≺ rw ⇒ lp ⊗ qw ≼ lq
    ⊗ pw
    ⇒ lr ⊗ (k ⊗ pw ⊕ (l ⊗ qw ⊕ num (pos 0))) ≐ (k ⊗ lp ⊕ (l ⊗ lq ⊕ num (pos 0))) ⊗ rw ⇒ lr ⊗ qw ≼ lq ⊗ rw
    otherwise over 6 ⊠ gap 2 ⊞ over 2 ⊞ gap 3 ⊠ gap 0 ⊠ gap 4 ⊞ eqn 5 qw) tt

-- the mix of weights in the place of r has its share
mixed_level : (s : Scale) (p q r : Point) (i : Between p q r)
    → share s r *ℤ (mixed i.k i.l p q).w ≡ (pos i.k *ℤ share s p +ℤ (pos i.l *ℤ share s q +ℤ pos 0)) *ℤ r.w
mixed_level s p q r i =
    let l = same_level s r (mixed i.k i.l p q) i.same in
    subst (λ (z : ℤ). share s r *ℤ (mixed i.k i.l p q).w ≡ z *ℤ r.w) (share_mixed s p q i.k i.l) l.even

pub after_first : (s : Scale) (p q r : Point) → IsOn s p → IsOn s q → pos 0 <ℤ r.w → IsUpTo s p q → IsMix r (p ∷ q ∷ [])
    → IsUpTo s p r
after_first s p q r hp hq hr o m =
    let i = between_weights p q r m in
    record {
      order = from_first (share s p) p.w (share s q) q.w (share s r) r.w (pos i.k) (pos i.l) (nonneg_pos i.k)
          (nonneg_pos i.l) (between-w p q r i hp.positive hq.positive) hr o.order (mixed_level s p q r i);
    }

pub before_last : (s : Scale) (p q r : Point) → IsOn s p → IsOn s q → pos 0 <ℤ r.w → IsUpTo s p q → IsMix r (p ∷ q ∷ [])
    → IsUpTo s r q
before_last s p q r hp hq hr o m =
    let i = between_weights p q r m in
    record {
      order = to_last (share s p) p.w (share s q) q.w (share s r) r.w (pos i.k) (pos i.l) (nonneg_pos i.k)
          (nonneg_pos i.l) (between-w p q r i hp.positive hq.positive) hr o.order (mixed_level s p q r i);
    }

-- ---- a point of the line that is neither before the first nor after the last is between them
weights_level : (lp pw lq qw lr rw k l : ℤ) → lq *ℤ rw -ℤ lr *ℤ qw ≡ k → lr *ℤ pw -ℤ lp *ℤ rw ≡ l
    → lr *ℤ (k *ℤ pw +ℤ (l *ℤ qw +ℤ pos 0)) ≡ (k *ℤ lp +ℤ (l *ℤ lq +ℤ pos 0)) *ℤ rw
weights_level =
    follows 8 (λ lp pw lq qw lr rw k l. lq ⊗ rw ⊖ lr ⊗ qw ≐ k ⇒ lr ⊗ pw ⊖ lp ⊗ rw ≐ l ⇒ lr
    ⊗ (k ⊗ pw ⊕ (l ⊗ qw ⊕ num (pos 0))) ≐ (k ⊗ lp ⊕ (l ⊗ lq ⊕ num (pos 0))) ⊗ rw
    because eqn 1 k ⊞ eqn 0 (neg l)) tt

pub between_of : (s : Scale) (p q r : Point) → IsOn s p → IsOn s q → IsOn s r → IsUpTo s p r → IsUpTo s r q
    → IsMix r (p ∷ q ∷ [])
between_of s p q r hp hq hr a b = go (to_nat (share s q *ℤ r.w -ℤ share s r *ℤ q.w)
    (≤-to-nonneg (share s r *ℤ q.w) (share s q *ℤ r.w) b.order))
    (to_nat (share s r *ℤ p.w -ℤ share s p *ℤ r.w) (≤-to-nonneg (share s p *ℤ r.w) (share s r *ℤ p.w) a.order))
  where
    even : (a b : ℤ) (n : ℕ) → a -ℤ b ≡ pos n → n ≡ 0 → a ≡ b
    even a b n e z = omega (arith, ints)

    at_first : IsMix p (p ∷ q ∷ [])
    at_first = weights_between p q p (record {
      k = 1;
      l = 0;
      some = omega arith;
      same =
          (one p.x q.x p.w q.w, one p.y q.y p.w q.w);
    })
      where
        one : (a b v w : ℤ) → a *ℤ (pos 1 *ℤ v +ℤ (pos 0 *ℤ w +ℤ pos 0)) ≡ (pos 1 *ℤ a +ℤ (pos 0 *ℤ b +ℤ pos 0)) *ℤ v
        one = solve 4 (λ a b v w. a ⊗ (num (pos 1) ⊗ v ⊕ (num (pos 0) ⊗ w ⊕ num (pos 0)))
            ≐ (num (pos 1) ⊗ a ⊕ (num (pos 0) ⊗ b ⊕ num (pos 0))) ⊗ v) tt

    some_or_none : (k l : ℕ) → (0 < k + l) ⊎ (l ≡ 0)
    some_or_none k l = grind arith

    go : (k : ℕ) × (share s q *ℤ r.w -ℤ share s r *ℤ q.w ≡ pos k)
        → (l : ℕ) × (share s r *ℤ p.w -ℤ share s p *ℤ r.w ≡ pos l) → IsMix r (p ∷ q ∷ [])
    go k l = by (some_or_none k.0 l.0)
      where
        by : (0 < k.0 + l.0) ⊎ (l.0 ≡ 0) → IsMix r (p ∷ q ∷ [])
        by (inr z) = mix_moved p r (p ∷ q ∷ []) hp.positive
            (level_same s r p hr hp (record { even = even (share s r *ℤ p.w) (share s p *ℤ r.w) l.0 l.1 z })) at_first
        by (inl some) =
            let m = mixed k.0 l.0 p q in
            let i : Between p q m = record { k = k.0; l = l.0; some = some; same = same_refl m } in
            let m_between : IsMix m (p ∷ q ∷ []) = weights_between p q m i in
            let m_on : IsOn s m = between_on s p q m hp hq (between-w p q m i hp.positive hq.positive) m_between in
            let e : share s r *ℤ m.w ≡ (pos k.0 *ℤ share s p +ℤ (pos l.0 *ℤ share s q +ℤ pos 0)) *ℤ r.w =
            weights_level (share s p) p.w (share s q) q.w (share s r) r.w (pos k.0) (pos l.0) k.1 l.1 in
            let level : IsLevel s r m = record {
              even =
                  subst (λ (z : ℤ). share s r *ℤ m.w ≡ z *ℤ r.w) (sym (share_mixed s p q k.0 l.0)) e;
            } in
            mix_moved m r (p ∷ q ∷ []) m_on.positive (level_same s r m hr m_on level) m_between

-- ---- ends, and points between two from before or after both
mix_one : (a b v w : ℤ) → a *ℤ (pos 1 *ℤ v +ℤ (pos 0 *ℤ w +ℤ pos 0)) ≡ (pos 1 *ℤ a +ℤ (pos 0 *ℤ b +ℤ pos 0)) *ℤ v
mix_one = solve 4 (λ a b v w. a ⊗ (num (pos 1) ⊗ v ⊕ (num (pos 0) ⊗ w ⊕ num (pos 0)))
    ≐ (num (pos 1) ⊗ a ⊕ (num (pos 0) ⊗ b ⊕ num (pos 0))) ⊗ v) tt

pub mix_first : (p q : Point) → IsMix p (p ∷ q ∷ [])
mix_first p q = weights_between p q p (record {
  k = 1;
  l = 0;
  some = omega arith;
  same =
      (mix_one p.x q.x p.w q.w, mix_one p.y q.y p.w q.w);
})

pub mix_last : (p q : Point) → IsMix q (p ∷ q ∷ [])
mix_last p q = mix_swapped q q p (mix_first q p)

pub up_or : (s : Scale) (p q : Point) → IsUpTo s p q ⊎ IsUpTo s q p
up_or s p q = grind (arith, ≤_or_>)

pub up_from_both : (s : Scale) (x p q r : Point) → IsOn s x → IsOn s p → IsOn s q → pos 0 <ℤ r.w → IsUpTo s x p
    → IsUpTo s x q → IsMix r (p ∷ q ∷ []) → IsUpTo s x r
up_from_both s x p q r hx hp hq hr a b m = go (up_or s p q)
  where
    hon : IsOn s r
    hon = between_on s p q r hp hq hr m

    go : IsUpTo s p q ⊎ IsUpTo s q p → IsUpTo s x r
    go (inl o) = up_to_trans s x p r hx hp hon a (after_first s p q r hp hq hr o m)
    go (inr o) = up_to_trans s x q r hx hq hon b (after_first s q p r hq hp hr o (mix_swapped r p q m))

pub up_to_both : (s : Scale) (x p q r : Point) → IsOn s x → IsOn s p → IsOn s q → pos 0 <ℤ r.w → IsUpTo s p x
    → IsUpTo s q x → IsMix r (p ∷ q ∷ []) → IsUpTo s r x
up_to_both s x p q r hx hp hq hr a b m = go (up_or s p q)
  where
    hon : IsOn s r
    hon = between_on s p q r hp hq hr m

    go : IsUpTo s p q ⊎ IsUpTo s q p → IsUpTo s r x
    go (inl o) = up_to_trans s r q x hon hq hx (before_last s p q r hp hq hr o m) b
    go (inr o) = up_to_trans s r p x hon hp hx (before_last s q p r hq hp hr o (mix_swapped r p q m)) a
