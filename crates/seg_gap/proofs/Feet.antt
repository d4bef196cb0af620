-- A point and a segment: the nearest point of the segment is an end, or the foot of the perpendicular.
use Rattle.std.proofs.Common.{◌≡◌, ℕ, ℤ, pos, negsuc, ◌+ℤ◌, ◌*ℤ◌, ◌≤ℤ◌, ◌<ℤ◌, T, true, false, sym, arith}
use Rattle.std.proofs.Common.{subst}
use Rattle.std.specs.Int.Signed.{le_z, le_z_yes}
use Rattle.integer_ring.proofs.Ring.{Expr, num, neg, ◌⊕◌, ◌⊖◌, ◌⊗◌}
use Rattle.integer_ring.proofs.Order.{≤_or_>, ≤_of_<, nonneg_pos}
use Rattle.integer_ring.proofs.Signs.{≤_of_mul}
use Rattle.integer_ring.proofs.Claims.{◌≐◌, ◌≼◌, ◌≺◌, gap, over, eqn, nat, square, ◌⊞◌, ◌⊠◌, ◌because◌, ◌⇒◌, follows}
use Rattle.plane_base.specs.declared.shapes.Pt.{Pt}
use Rattle.plane_base.specs.TwoWeights.{AreWeights}
use Rattle.seg_gap.specs.InsideEnds.{dot_of, square_to, HasMixBelow, IsEndSquare}
use Rattle.seg_gap.proofs.Steps.{way_toE, square_toE, whole_turn, whole_turnE}
use Rattle.seg_gap.proofs.Sides.{weights_swapped, low_swapped}

-- the dot product, as an expression
abbrev pub dotE : Expr → Expr → Expr → Expr → Expr → Expr → Expr
dotE ox oy px py qx qy = (px ⊖ ox) ⊗ (qx ⊖ ox) ⊕ (py ⊖ oy) ⊗ (qy ⊖ oy)

-- ---- a test of a number that is equal to z
pub at_most_by : (r z : ℤ) → r ≡ z → le_z r (pos 0) ≡ true → z ≤ℤ pos 0
at_most_by r z e t = subst (λ (y : ℤ). y ≤ℤ pos 0) e (le_z_yes (subst T (sym t) tt))

pub above_by : (r z : ℤ) → r ≡ z → le_z r (pos 0) ≡ false → pos 0 <ℤ z
above_by r z e t = grind (arith, ≤_or_>)

-- ---- the end c is nearest where p is not on the side of d
end_low : (v : ℤ) (p c d : Pt) (k l : ℤ) → v ≡ pos 4 *ℤ dot_of c p p → dot_of c p d ≤ℤ pos 0 → pos 0 ≤ℤ l
    → pos 0 <ℤ (k +ℤ l)
    → (v *ℤ ((k +ℤ l) *ℤ (k +ℤ l))) ≤ℤ square_to p c d k l
end_low v p c d k l =
    follows 9 (λ v px py cx cy dx dy k l. v ≐ num (pos 4) ⊗ dotE cx cy px py px py
    ⇒ dotE cx cy px py dx dy ≼ num (pos 0) ⇒ num (pos 0) ≼ l ⇒ num (pos 0) ≺ k ⊕ l
    ⇒ v ⊗ ((k ⊕ l) ⊗ (k ⊕ l)) ≼ square_toE px py cx cy dx dy k l
    because eqn 0 ((k ⊕ l) ⊗ (k ⊕ l)) ⊞ nat 4 ⊠ square l ⊠ (square (dx ⊖ cx) ⊞ square (dy ⊖ cy))
    ⊞ nat 8 ⊠ gap 2 ⊠ gap 3 ⊠ gap 1) tt
    v p.x p.y c.x c.y d.x d.y k l

end_high : (v : ℤ) (p c d : Pt) → v ≡ pos 4 *ℤ dot_of c p p
    → square_to p c d (pos 1) (pos 0) <ℤ ((v +ℤ pos 1) *ℤ ((pos 1 +ℤ pos 0) *ℤ (pos 1 +ℤ pos 0)))
end_high v p c d =
    follows 7 (λ v px py cx cy dx dy. v ≐ num (pos 4) ⊗ dotE cx cy px py px py
    ⇒ square_toE px py cx cy dx dy (num (pos 1)) (num (pos 0))
    ≺ (v ⊕ num (pos 1)) ⊗ ((num (pos 1) ⊕ num (pos 0)) ⊗ (num (pos 1) ⊕ num (pos 0)))
    because eqn 0 (num (negsuc 0))) tt v p.x p.y c.x c.y d.x d.y

pub at_first : AreWeights (pos 1) (pos 0)
at_first = record {
  first = nonneg_pos 1;
  second = nonneg_pos 0;
  some =
      follows 0 (num (pos 0) ≺ num (pos 1) because nat 0) tt;
}

pub square_of_end : (p c d : Pt) (value : ℕ) → dot_of c p d ≤ℤ pos 0 → pos value ≡ pos 4 *ℤ dot_of c p p
    → IsEndSquare p c d value
square_of_end p c d value h e =
    record {
      low = λ k l w. end_low (pos value) p c d k l e h w.second w.some;
      high = record { k = pos 1; l = pos 0; weights = at_first; below = end_high (pos value) p c d e };
    }

-- ---- from the other end
mix_below_swapped : (v : ℤ) (p c d : Pt) → HasMixBelow v p d c → HasMixBelow v p c d
mix_below_swapped v p c d h =
    record {
      k = h.l;
      l = h.k;
      weights = weights_swapped h.k h.l h.weights;
      below =
          follows 9 (λ v px py cx cy dx dy k l. square_toE px py dx dy cx cy k l ≺ (v ⊕ num (pos 1))
          ⊗ ((k ⊕ l) ⊗ (k ⊕ l))
          ⇒ square_toE px py cx cy dx dy l k ≺ (v ⊕ num (pos 1)) ⊗ ((l ⊕ k) ⊗ (l ⊕ k)) because over 0) tt
          v p.x p.y c.x c.y d.x d.y h.k h.l h.below;
    }

pub end_square_swapped : (p c d : Pt) (value : ℕ) → IsEndSquare p d c value → IsEndSquare p c d value
end_square_swapped p c d value h =
    record { low = low_swapped (pos value) p c d h.low; high = mix_below_swapped (pos value) p c d h.high }

-- ---- the foot is between the ends: the height is the turn over the length
foot_times : (v t : ℤ) (p c d : Pt) (k l : ℤ) → t ≡ whole_turn c d p
    → (v *ℤ (dot_of c p d +ℤ dot_of d p c)) ≤ℤ (pos 4 *ℤ (t *ℤ t))
    → ((v *ℤ ((k +ℤ l) *ℤ (k +ℤ l))) *ℤ (dot_of c p d +ℤ dot_of d p c))
    ≤ℤ (square_to p c d k l *ℤ (dot_of c p d +ℤ dot_of d p c))
foot_times v t p c d k l =
    follows 10 (λ v t px py cx cy dx dy k l. t ≐ whole_turnE cx cy dx dy px py
    ⇒ v ⊗ (dotE cx cy px py dx dy ⊕ dotE dx dy px py cx cy) ≼ num (pos 4) ⊗ (t ⊗ t)
    ⇒ (v ⊗ ((k ⊕ l) ⊗ (k ⊕ l))) ⊗ (dotE cx cy px py dx dy ⊕ dotE dx dy px py cx cy)
    ≼ square_toE px py cx cy dx dy k l ⊗ (dotE cx cy px py dx dy ⊕ dotE dx dy px py cx cy)
    because square (k ⊕ l) ⊠ gap 1 ⊞ eqn 0 (num (pos 4) ⊗ ((k ⊕ l) ⊗ (k ⊕ l)) ⊗ (whole_turnE cx cy dx dy px py ⊕ t))
    ⊞ nat 4 ⊠ square (way_toE px cx dx k l ⊗ (dx ⊖ cx) ⊕ way_toE py cy dy k l ⊗ (dy ⊖ cy))) tt
    v t p.x p.y c.x c.y d.x d.y k l

foot_high : (v t : ℤ) (p c d : Pt) → t ≡ whole_turn c d p
    → (pos 4 *ℤ (t *ℤ t)) <ℤ ((v +ℤ pos 1) *ℤ (dot_of c p d +ℤ dot_of d p c))
    → pos 0 <ℤ (dot_of d p c +ℤ dot_of c p d)
    → square_to p c d (dot_of d p c) (dot_of c p d)
    <ℤ ((v +ℤ pos 1) *ℤ ((dot_of d p c +ℤ dot_of c p d) *ℤ (dot_of d p c +ℤ dot_of c p d)))
foot_high v t p c d =
    follows 8 (λ v t px py cx cy dx dy. t ≐ whole_turnE cx cy dx dy px py
    ⇒ num (pos 4) ⊗ (t ⊗ t) ≺ (v ⊕ num (pos 1)) ⊗ (dotE cx cy px py dx dy ⊕ dotE dx dy px py cx cy)
    ⇒ num (pos 0) ≺ dotE dx dy px py cx cy ⊕ dotE cx cy px py dx dy
    ⇒ square_toE px py cx cy dx dy (dotE dx dy px py cx cy) (dotE cx cy px py dx dy)
    ≺ (v ⊕ num (pos 1)) ⊗ ((dotE dx dy px py cx cy ⊕ dotE cx cy px py dx dy)
    ⊗ (dotE dx dy px py cx cy ⊕ dotE cx cy px py dx dy))
    because gap 2 ⊠ over 1 ⊞ over 2
    ⊞ eqn 0 (neg (num (pos 4) ⊗ (dotE dx dy px py cx cy ⊕ dotE cx cy px py dx dy)
    ⊗ (whole_turnE cx cy dx dy px py ⊕ t)))) tt
    v t p.x p.y c.x c.y d.x d.y

pub sum_some : (f g : ℤ) → pos 0 <ℤ f → pos 0 <ℤ g → pos 0 <ℤ (f +ℤ g)
sum_some = follows 2 (λ f g. num (pos 0) ≺ f ⇒ num (pos 0) ≺ g ⇒ num (pos 0) ≺ f ⊕ g because over 0 ⊞ gap 1) tt

-- the sum of both dot products, as the code has it
pub foot_low : (v f g p q t : ℤ) → f ≡ p → g ≡ q → (v *ℤ (f +ℤ g)) ≤ℤ (pos 4 *ℤ (t *ℤ t))
    → (v *ℤ (p +ℤ q)) ≤ℤ (pos 4 *ℤ (t *ℤ t))
foot_low v f g p q t e h k = grind arith

pub foot_above : (v f g p q t : ℤ) → f ≡ p → g ≡ q → (pos 4 *ℤ (t *ℤ t)) <ℤ ((v +ℤ pos 1) *ℤ (f +ℤ g))
    → (pos 4 *ℤ (t *ℤ t)) <ℤ ((v +ℤ pos 1) *ℤ (p +ℤ q))
foot_above v f g p q t e h k = grind arith

pub square_of_foot : (p c d : Pt) (t : ℤ) (value : ℕ) → pos 0 <ℤ dot_of c p d → pos 0 <ℤ dot_of d p c
    → t ≡ whole_turn c d p
    → (pos value *ℤ (dot_of c p d +ℤ dot_of d p c)) ≤ℤ (pos 4 *ℤ (t *ℤ t))
    → (pos 4 *ℤ (t *ℤ t)) <ℤ ((pos value +ℤ pos 1) *ℤ (dot_of c p d +ℤ dot_of d p c)) → IsEndSquare p c d value
square_of_foot p c d t value from to e low high =
    record {
      low = λ k l w.
          ≤_of_mul (pos value *ℤ ((k +ℤ l) *ℤ (k +ℤ l))) (square_to p c d k l) (dot_of c p d +ℤ dot_of d p c)
          (sum_some (dot_of c p d) (dot_of d p c) from to) (foot_times (pos value) t p c d k l e low);
      high = record {
        k = dot_of d p c;
        l = dot_of c p d;
        weights = record {
          first = ≤_of_< (pos 0) (dot_of d p c) to;
          second = ≤_of_< (pos 0) (dot_of c p d) from;
          some =
              some;
        };
        below = foot_high (pos value) t p c d e high some;
      };
    }
  where
    some : pos 0 <ℤ (dot_of d p c +ℤ dot_of c p d)
    some = sum_some (dot_of d p c) (dot_of c p d) to from
