-- A point near the middle of a triangle's side, n times each of its ends and once the third corner: its turns with the
-- sides of a triangle beyond.
use Rattle.std.proofs.Common.{◌≡◌, ℕ, ◌<◌, ℤ, pos, ◌+ℤ◌, ◌*ℤ◌, ◌≤ℤ◌, ◌<ℤ◌, [], ◌∷◌, sum, arith}
use Rattle.integer_ring.proofs.Ring.{num, ◌⊕◌, ◌⊗◌}
use Rattle.integer_ring.proofs.Claims.{◌≐◌}
use Rattle.plane_base.specs.Plane.{Point, turn_of}
use Rattle.plane_base.proofs.MixLaws.Points.{turn, plus, nothing, solve_at}

abbrev pub near_side : ℤ → Point → Point → Point → Point
near_side n a b c = record {
  x = n *ℤ a.x +ℤ (n *ℤ b.x +ℤ (pos 1 *ℤ c.x +ℤ pos 0));
  y =
      n *ℤ a.y +ℤ (n *ℤ b.y +ℤ (pos 1 *ℤ c.y +ℤ pos 0));
  w = n *ℤ a.w +ℤ (n *ℤ b.w +ℤ (pos 1 *ℤ c.w +ℤ pos 0));
}

pub turn_near_b : (a b c g : Point) (n : ℤ) → turn_of b g (near_side n a b c) ≡ n *ℤ turn_of a b g +ℤ turn_of b g c
turn_near_b = solve_at 4 1 (λ a b c g n. turn b g (plus n a (plus n b (plus (num (pos 1)) c nothing))) ≐ n ⊗ turn a b g
    ⊕ turn b g c) tt

pub turn_near_a : (a b c g : Point) (n : ℤ) → turn_of g a (near_side n a b c) ≡ n *ℤ turn_of a b g +ℤ turn_of g a c
turn_near_a = solve_at 4 1 (λ a b c g n. turn g a (plus n a (plus n b (plus (num (pos 1)) c nothing))) ≐ n ⊗ turn a b g
    ⊕ turn g a c) tt

pub turn_near : (a b c : Point) (n : ℤ) → turn_of a b (near_side n a b c) ≡ turn_of a b c
turn_near = solve_at 3 1 (λ a b c n. turn a b (plus n a (plus n b (plus (num (pos 1)) c nothing))) ≐ turn a b c) tt

pub near-w : (v w x n : ℤ) → pos 0 <ℤ v → pos 0 <ℤ w → pos 0 <ℤ x → pos 0 ≤ℤ n
    → pos 0 <ℤ (n *ℤ v +ℤ (n *ℤ w +ℤ (pos 1 *ℤ x +ℤ pos 0)))
near-w = grind arith

pub near_some : (n : ℕ) → 0 < sum (n ∷ n ∷ 1 ∷ [])
near_some n = omega arith
