-- Turns and mixes.
use Rattle.std.proofs.Common.{◌≡◌, ℕ, pos, ◌+ℤ◌, ◌*ℤ◌, neg_ℤ, [], ◌∷◌}
use Rattle.integer_ring.proofs.Ring.{num, neg, ◌⊕◌, ◌⊖◌, ◌⊗◌}
use Rattle.integer_ring.proofs.Claims.{◌≐◌, eqn, ◌⊞◌, ◌because◌, ◌⇒◌}
use Rattle.plane_base.specs.Plane.{Point, Same, turn_of, weighted_sum}
use Rattle.plane_base.proofs.MixLaws.Points.{turn, plus, nothing, follows_at, solve_at}

-- ---- signs and places
pub turn_cycle : (a b c : Point) → turn_of a b c ≡ turn_of b c a
turn_cycle = solve_at 3 0 (λ a b c. turn a b c ≐ turn b c a) tt

pub turn_swap : (a b c : Point) → turn_of a b c ≡ neg_ℤ (turn_of b a c)
turn_swap = solve_at 3 0 (λ a b c. turn a b c ≐ neg (turn b a c)) tt

pub turn_twice : (a b : Point) → turn_of a a b ≡ pos 0
turn_twice = solve_at 2 0 (λ a b. turn a a b ≐ num (pos 0)) tt

-- the three turns at a point make the turn of the triangle
pub turn_split : (a b c p : Point) → p.w *ℤ turn_of a b c ≡ c.w *ℤ turn_of a b p +ℤ a.w *ℤ turn_of b c p +ℤ b.w
    *ℤ turn_of c a p
turn_split = solve_at 4 0 (λ a b c p. p.w ⊗ turn a b c ≐ c.w ⊗ turn a b p ⊕ a.w ⊗ turn b c p ⊕ b.w ⊗ turn c a p) tt

-- ---- the same place, and mixes
-- a point may stand for another of the same place, up to a factor
pub turn_same : (a b p q : Point) → Same p q → q.w *ℤ turn_of a b p ≡ p.w *ℤ turn_of a b q
turn_same a b p q s =
    follows_at 4 0 (λ a b p q. p.x ⊗ q.w ≐ q.x ⊗ p.w ⇒ p.y ⊗ q.w ≐ q.y ⊗ p.w ⇒ q.w ⊗ turn a b p ≐ p.w ⊗ turn a b q
    because eqn 0 (a.y ⊗ b.w ⊖ b.y ⊗ a.w) ⊞ eqn 1 (neg (a.x ⊗ b.w ⊖ b.x ⊗ a.w))) tt a b p q s.0 s.1

-- the turn of two corners and a mix is the third corner's weight times the triangle's turn
pub turn_mix : (a b c : Point) (k l m : ℕ)
    → turn_of a b (weighted_sum (k ∷ l ∷ m ∷ []) (a ∷ b ∷ c ∷ [])) ≡ pos m *ℤ turn_of a b c
turn_mix a b c k l m =
    solve_at 3 3 (λ a b c k l m. turn a b (plus k a (plus l b (plus m c nothing))) ≐ m ⊗ turn a b c) tt a b c (pos k)
    (pos l) (pos m)
