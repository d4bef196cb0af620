-- The weights of a mix of a triangle's corners: each is the turn of the side opposite, and so they are unique up to a
-- factor.
use Rattle.std.proofs.Common.{◌≡◌, ℕ, ℤ, pos, ◌*ℤ◌, ◌<ℤ◌, ◌∙◌, ap}
use Rattle.integer_ring.proofs.Ring.{neg, ◌⊗◌}
use Rattle.integer_ring.proofs.Signs.{≡_of_mul, mul-positive}
use Rattle.integer_ring.proofs.Claims.{◌≐◌, eqn, ◌⊞◌, ◌because◌, ◌⇒◌, follows}
use Rattle.plane_base.specs.Plane.{Point, turn_of}
use Rattle.plane_base.specs.Laws.{mix_of, TrianglesAreLeftOfSides, WeightsAreTurns, WeightsAreUnique}
use Rattle.plane_base.proofs.MixLaws.Points.{turn, plus, nothing, solve_at}
use Rattle.plane_base.proofs.MixLaws.Turns.{turn_same}
use Rattle.plane_base.proofs.TriangleLaws.InTriangle.{turns_of_mix, mix_of_turns}

pub triangles_are_left_of_sides : TrianglesAreLeftOfSides
triangles_are_left_of_sides a b c p h d = (
  λ m. turns_of_mix a b c p h.0 h.1.0 h.1.1.0 h.1.1.1.0 d m,
  λ t. mix_of_turns a b c p h.0 h.1.0 h.1.1.0 h.1.1.1.0 d t.0 t.1 t.2,
)

turn_a : (a b c : Point) (k l m : ℕ) → turn_of b c (mix_of k l m a b c) ≡ pos k *ℤ turn_of a b c
turn_a a b c k l m = solve_at 3 3 (λ a b c k l m. turn b c (plus k a (plus l b (plus m c nothing))) ≐ k ⊗ turn a b c) tt
    a b c (pos k) (pos l) (pos m)

turn_b : (a b c : Point) (k l m : ℕ) → turn_of c a (mix_of k l m a b c) ≡ pos l *ℤ turn_of a b c
turn_b a b c k l m = solve_at 3 3 (λ a b c k l m. turn c a (plus k a (plus l b (plus m c nothing))) ≐ l ⊗ turn a b c) tt
    a b c (pos k) (pos l) (pos m)

turn_c : (a b c : Point) (k l m : ℕ) → turn_of a b (mix_of k l m a b c) ≡ pos m *ℤ turn_of a b c
turn_c a b c k l m = solve_at 3 3 (λ a b c k l m. turn a b (plus k a (plus l b (plus m c nothing))) ≐ m ⊗ turn a b c) tt
    a b c (pos k) (pos l) (pos m)

pub weights_are_turns : WeightsAreTurns
weights_are_turns a b c p k l m same =
    let q = mix_of k l m a b c in
    record {
      of_a = turn_same b c p q same ∙ ap (λ (z : ℤ). p.w *ℤ z) (turn_a a b c k l m);
      of_b = turn_same c a p q same ∙ ap (λ (z : ℤ). p.w *ℤ z) (turn_b a b c k l m);
      of_c = turn_same a b p q same ∙ ap (λ (z : ℤ). p.w *ℤ z) (turn_c a b c k l m);
    }

-- v·t = p·(k·d) and w·t = p·(r·d) give k·w = r·v
one_weight : (k r v w p t d : ℤ) → pos 0 <ℤ p → pos 0 <ℤ d → v *ℤ t ≡ p *ℤ (k *ℤ d) → w *ℤ t ≡ p *ℤ (r *ℤ d)
    → k *ℤ w ≡ r *ℤ v
one_weight k r v w p t d hp hd e f =
    ≡_of_mul (k *ℤ w) (r *ℤ v) (p *ℤ d) (mul-positive p d hp hd)
    (follows 7 (λ k r v w p t d. v ⊗ t ≐ p ⊗ (k ⊗ d) ⇒ w ⊗ t ≐ p ⊗ (r ⊗ d) ⇒ k ⊗ w ⊗ (p ⊗ d) ≐ r ⊗ v
    ⊗ (p ⊗ d) because eqn 0 (neg w) ⊞ eqn 1 v) tt k r v w p t d e f)

pub weights_are_unique : WeightsAreUnique
weights_are_unique a b c p k l m r s t h d same same' =
    let i = weights_are_turns a b c p k l m same in let j = weights_are_turns a b c p r s t same' in
    let v = (mix_of k l m a b c).w in let w = (mix_of r s t a b c).w in
    record {
      of_a = one_weight (pos k) (pos r) v w p.w (turn_of b c p) (turn_of a b c) h.1.1.1.0 d i.of_a j.of_a;
      of_b = one_weight (pos l) (pos s) v w p.w (turn_of c a p) (turn_of a b c) h.1.1.1.0 d i.of_b j.of_b;
      of_c = one_weight (pos m) (pos t) v w p.w (turn_of a b p) (turn_of a b c) h.1.1.1.0 d i.of_c j.of_c;
    }
