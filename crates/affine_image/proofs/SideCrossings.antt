-- Where a segment leaves a triangle through a side: the parameter on the side, and the image of the crossing.
use Rattle.std.proofs.Common.{◌≡◌, ℤ, pos, negsuc, ◌+ℤ◌, ◌-ℤ◌, ◌*ℤ◌, ◌≤ℤ◌, ◌<ℤ◌, [], ◌∷◌, sym, ◌∙◌}
use Rattle.integer_ring.proofs.Ring.{num, neg, ◌⊕◌, ◌⊖◌, ◌⊗◌}
use Rattle.integer_ring.proofs.Signs.{≡_of_mul, nonneg_of_mul, ≤_of_mul}
use Rattle.integer_ring.proofs.Claims.{◌≐◌, ◌≼◌, ◌≺◌, gap, eqn, ◌⊞◌, ◌⊠◌, ◌because◌, ◌⇒◌, follows}
use Rattle.plain_laws.proofs.Weights.{zero_mix}
use Rattle.plane_base.specs.Plane.{Point, Same, whole, along, turn_of, IsMix}
use Rattle.plane_base.specs.Laws.{HasParameter}
use Rattle.plane_base.specs.Slices.{IsParam, IsParallel}
use Rattle.plane_base.specs.declared.shapes.Pt.{Pt}
use Rattle.plane_base.proofs.MixLaws.Mixes.{same_trans}
use Rattle.plane_base.proofs.MixLaws.Turns.{turn_cycle, turn_twice, turn_same}
use Rattle.plane_base.proofs.MixLaws.Along.{turn_along, along-w}
use Rattle.plane_base.proofs.MixLaws.Parameters.{segments_have_parameters}

-- ---- the points of the segment are on its line
on_line : (a b : Pt) (n d : ℤ) → turn_of (whole a) (whole b) (along (whole a) (whole b) n d) ≡ pos 0
on_line a b n d =
    let p = whole a in let q = whole b in
    let first : turn_of p q p ≡ pos 0 = sym (turn_cycle p p q) ∙ turn_twice p q in
    let last : turn_of p q q ≡ pos 0 = turn_cycle p q q ∙ turn_twice q p in
    turn_along p q p q n d ∙ zero_mix (d -ℤ n) n (turn_of p q p) (turn_of p q q) first last

zero_by : (w v s t : ℤ) → s ≡ pos 0 → v *ℤ s ≡ w *ℤ t → t *ℤ w ≡ pos 0 *ℤ w
zero_by = follows 4 (λ w v s t. s ≐ num (pos 0) ⇒ v ⊗ s ≐ w ⊗ t ⇒ t ⊗ w ≐ num (pos 0)
    ⊗ w because eqn 0 v ⊞ eqn 1 (num (negsuc 0))) tt

-- and so is each point of the same place
on_line_too : (a b : Pt) (x y : Point) → pos 0 <ℤ x.w → Same x y → turn_of (whole a) (whole b) x ≡ pos 0
    → turn_of (whole a) (whole b) y ≡ pos 0
on_line_too a b x y h same e =
    let s = turn_of (whole a) (whole b) x in let t = turn_of (whole a) (whole b) y in
    ≡_of_mul t (pos 0) x.w h (zero_by x.w y.w s t e (turn_same (whole a) (whole b) x y same))

-- ---- where the turns of the side's ends with the segment are the same, the two are parallel
pub parallel : (a b p q : Pt) → turn_of (whole a) (whole b) (whole p) ≡ turn_of (whole a) (whole b) (whole q)
    → IsParallel a b p q
parallel a b p q = follows 8
    (λ ax ay bx by px py qx qy.
    ax ⊗ (by ⊗ num (pos 1) ⊖ py ⊗ num (pos 1)) ⊖ ay ⊗ (bx ⊗ num (pos 1) ⊖ px ⊗ num (pos 1)) ⊕ num (pos 1)
    ⊗ (bx ⊗ py ⊖ px ⊗ by)
    ≐ ax ⊗ (by ⊗ num (pos 1) ⊖ qy ⊗ num (pos 1)) ⊖ ay ⊗ (bx ⊗ num (pos 1) ⊖ qx ⊗ num (pos 1)) ⊕ num (pos 1)
    ⊗ (bx ⊗ qy ⊖ qx ⊗ by)
    ⇒ (bx ⊖ ax) ⊗ (qy ⊖ py) ≐ (by ⊖ ay) ⊗ (qx ⊖ px) because eqn 0 (num (negsuc 0))) tt a.x a.y b.x b.y p.x p.y q.x q.y

-- ---- the parameter of a crossing
nonneg_by : (n d m e : ℤ) → n *ℤ e ≡ m *ℤ d → pos 0 ≤ℤ n → pos 0 <ℤ e → pos 0 ≤ℤ (m *ℤ d)
nonneg_by = follows 4 (λ n d m e. n ⊗ e ≐ m ⊗ d ⇒ num (pos 0) ≼ n ⇒ num (pos 0) ≺ e ⇒ num (pos 0) ≼ m
    ⊗ d because gap 1 ⊠ gap 2 ⊞ eqn 0 (num (pos 1))) tt

upto_by : (n d m e : ℤ) → n *ℤ e ≡ m *ℤ d → n ≤ℤ d → pos 0 <ℤ e → (m *ℤ d) ≤ℤ (e *ℤ d)
upto_by = follows 4 (λ n d m e. n ⊗ e ≐ m ⊗ d ⇒ n ≼ d ⇒ num (pos 0) ≺ e ⇒ m ⊗ d ≼ e
    ⊗ d because gap 1 ⊠ gap 2 ⊞ eqn 0 (num (negsuc 0))) tt

same_on : (n d m e p q s t : ℤ) → n *ℤ e ≡ m *ℤ d
    → ((d -ℤ n) *ℤ p +ℤ n *ℤ q) *ℤ ((e -ℤ m) *ℤ s +ℤ m *ℤ t) ≡ ((e -ℤ m) *ℤ p +ℤ m *ℤ q) *ℤ ((d -ℤ n) *ℤ s +ℤ n *ℤ t)
same_on = follows 8
    (λ n d m e p q s t. n ⊗ e ≐ m ⊗ d ⇒ ((d ⊖ n) ⊗ p ⊕ n ⊗ q) ⊗ ((e ⊖ m) ⊗ s ⊕ m ⊗ t) ≐ ((e ⊖ m) ⊗ p ⊕ m ⊗ q)
    ⊗ ((d ⊖ n) ⊗ s ⊕ n ⊗ t) because eqn 0 (neg (p ⊗ t ⊖ q ⊗ s))) tt

-- the parameter m/e on the side from p to q, of the point at n/d on the segment from a to b
pub record IsOnSide (a b p q : Pt) (n d m e : ℤ) : Type 0 where
  pub param : IsParam m e
  pub same : Same (along (whole a) (whole b) n d) (along (whole p) (whole q) m e)

pub crossing : (a b p q : Pt) (n d m e : ℤ) → pos 0 <ℤ d → pos 0 <ℤ e
    → IsMix (along (whole a) (whole b) n d) (whole p ∷ whole q ∷ [])
    → ((k l : ℤ) → turn_of (whole a) (whole b) (along (whole p) (whole q) k l) ≡ pos 0 → k *ℤ e ≡ m *ℤ l)
    → IsOnSide a b p q n d m e
crossing a b p q n d m e hd he mix once = go
    ((segments_have_parameters (whole p) (whole q) (along (whole a) (whole b) n d)).0 mix)
  where
    go : HasParameter (whole p) (whole q) (along (whole a) (whole b) n d) → IsOnSide a b p q n d m e
    go h =
        let k = h.n in let l = h.d in let param = h.param in
        let y = along (whole p) (whole q) k l in
        let w = along-w n d hd in
        let value = once k l (on_line_too a b (along (whole a) (whole b) n d) y w h.same (on_line a b n d)) in
        record {
          param = (
            he,
            nonneg_of_mul m l param.0 (nonneg_by k l m e value param.1 he),
            ≤_of_mul m e l param.0
                (upto_by k l m e value param.2 he),
          );
          same = same_trans (along (whole a) (whole b) n d) y (along (whole p) (whole q) m e) (along-w k l param.0)
              h.same
              (same_on k l m e p.x q.x (pos 1) (pos 1) value, same_on k l m e p.y q.y (pos 1) (pos 1) value);
        }
