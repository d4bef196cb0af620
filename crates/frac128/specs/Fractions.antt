-- The order of the values of fractions. Denominators are positive, so products across have the order of the values.
use Rattle.std.specs.Prelude.{◌≡◌, ◌<◌, ◌^◌, ℤ, ◌*ℤ◌, ◌≤ℤ◌, ◌<ℤ◌, unsigned_abs}
use Rattle.std.specs.Ordering.{int_cmp}
use Rattle.std.specs.declared.cmp.Ordering.{Ordering}
use Rattle.frac128.specs.declared.frac.Frac.{Frac}

-- a ≤ b
abbrev pub IsAtMost : Frac → Frac → Type 0
IsAtMost a b = (a.num *ℤ b.den) ≤ℤ (b.num *ℤ a.den)

-- a < b
abbrev pub IsBelow : Frac → Frac → Type 0
IsBelow a b = (a.num *ℤ b.den) <ℤ (b.num *ℤ a.den)

-- two spellings of one value
abbrev pub IsSameValue : Frac → Frac → Type 0
IsSameValue a b = a.num *ℤ b.den ≡ b.num *ℤ a.den

abbrev pub order_of : Frac → Frac → Ordering
order_of a b = int_cmp (a.num *ℤ b.den) (b.num *ℤ a.den)

-- f ≤ n/d, for a d above 0
abbrev pub IsFrom : Frac → ℤ → ℤ → Type 0
IsFrom f n d = (f.num *ℤ d) ≤ℤ (n *ℤ f.den)

-- n/d ≤ f
abbrev pub IsUpTo : Frac → ℤ → ℤ → Type 0
IsUpTo f n d = (n *ℤ f.den) ≤ℤ (f.num *ℤ d)

-- both products of a comparison are below 2^126 in magnitude, so that 128 bits hold each
abbrev pub ComparedProductsAreSmall : Type 0
ComparedProductsAreSmall = (a b : Frac) → (unsigned_abs (a.num *ℤ b.den) < 2 ^ 126)
    × (unsigned_abs (b.num *ℤ a.den) < 2 ^ 126)
