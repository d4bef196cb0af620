-- The laws of `Claims` with points for variables: three numbers each.
use Rattle.std.proofs.Common.{ℕ, zero, suc, ◌+◌, ◌*◌, ℤ, pos, List, [], ◌∷◌, T}
use Rattle.integer_ring.proofs.Ring.{Expr, var, num, ◌⊕◌, ◌⊖◌, ◌⊗◌}
use Rattle.integer_ring.proofs.Claims.{Claim, Law, none, gives, identity_holds, says, states, checks, law_holds, Over}
use Rattle.integer_ring.proofs.Claims.{at_vars, For, for_all}
use Rattle.plane_base.specs.Plane.{Point}

-- a point whose numbers are expressions
pub record PointE : Type 0 where
  pub x : Expr
  pub y : Expr
  pub w : Expr

-- the determinant, as an expression
abbrev pub turn : PointE → PointE → PointE → Expr
turn a b c =
    a.x ⊗ (b.y ⊗ c.w ⊖ c.y ⊗ b.w) ⊖ a.y ⊗ (b.x ⊗ c.w ⊖ c.x ⊗ b.w) ⊕ a.w ⊗ (b.x ⊗ c.y ⊖ c.x ⊗ b.y)

-- k·p + q
abbrev pub plus : Expr → PointE → PointE → PointE
plus k p q = record { x = k ⊗ p.x ⊕ q.x; y = k ⊗ p.y ⊕ q.y; w = k ⊗ p.w ⊕ q.w }

abbrev pub nothing : PointE
nothing = record { x = num (pos 0); y = num (pos 0); w = num (pos 0) }

-- k·a + l·b + m·c
abbrev pub three : Expr → Expr → Expr → PointE → PointE → PointE → PointE
three k l m a b c = plus k a (plus l b (plus m c nothing))

abbrev pub point_at : ℕ → PointE
point_at k = record { x = var k; y = var (1 + k); w = var (2 + k) }

-- a function of m points and n numbers
abbrev pub OverPoints : Type 0 → ℕ → ℕ → Type 0
OverPoints A zero n = Over A n
OverPoints A (suc m) n = PointE → OverPoints A m n

abbrev pub at_points : (A : Type 0) (m n : ℕ) → OverPoints A m n → A
at_points A zero n f = at_vars A n f
at_points A (suc m) n f = at_points A m n (f (point_at (3 * m + n)))

abbrev pub ForPoints : (List ℤ → Type 0) → ℕ → ℕ → List ℤ → Type 0
ForPoints S zero n ρ = For S n ρ
ForPoints S (suc m) n ρ = (p : Point) → ForPoints S m n (p.x ∷ p.y ∷ p.w ∷ ρ)

for_points : (S : List ℤ → Type 0) → ((ρ : List ℤ) → S ρ) → (m n : ℕ) (ρ : List ℤ) → ForPoints S m n ρ
for_points S f zero n ρ = for_all S f n ρ
for_points S f (suc m) n ρ = λ p. for_points S f m n (p.x ∷ p.y ∷ p.w ∷ ρ)

-- `follows` and `solve` over m points and n numbers
pub follows_at : (m n : ℕ) (f : OverPoints Law m n) → T (checks [] (at_points Law m n f))
    → ForPoints (states (at_points Law m n f)) m n []
follows_at m n f t = for_points (states (at_points Law m n f)) (law_holds (at_points Law m n f) t) m n []

pub solve_at : (m n : ℕ) (f : OverPoints Claim m n) → T (gives [] (at_points Claim m n f) none)
    → ForPoints (says (at_points Claim m n f)) m n []
solve_at m n f t = for_points (says (at_points Claim m n f)) (identity_holds (at_points Claim m n f) t) m n []
