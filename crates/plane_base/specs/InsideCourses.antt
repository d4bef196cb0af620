-- Numbers that change evenly along a segment, by the parameter n/d from 0 to 1.
use Rattle.std.specs.Prelude.{◌≡◌, ◌≢◌, ◌⊎◌, ℤ, pos, ◌+ℤ◌, ◌-ℤ◌, ◌*ℤ◌, ◌<ℤ◌}
use Rattle.frac128.specs.declared.frac.Frac.{Frac}

-- from u to v: d times the value at n/d
abbrev pub value_at : ℤ → ℤ → ℤ → ℤ → ℤ
value_at u v n d = (d -ℤ n) *ℤ u +ℤ n *ℤ v

-- it changes, and is 0 at f
abbrev pub IsZeroAt : ℤ → ℤ → Frac → Type 0
IsZeroAt u v f = (u ≢ v) × (value_at u v f.num f.den ≡ pos 0)

-- f is an end of the way, or the number is 0 there, or it is below 0 all the way
abbrev pub IsBound : Type 0 → ℤ → ℤ → Frac → Type 0
IsBound end u v f = end ⊎ (IsZeroAt u v f ⊎ ((u ≡ v) × (u <ℤ pos 0)))
