-- What the code asks of turns and of numbers on one axis.
use Rattle.std.specs.Prelude.{◌≡◌, ◌⊎◌, ℤ, pos, ◌<ℤ◌}
use Rattle.std.specs.Int.{int_min, int_max}
use Rattle.plane_base.specs.Plane.{whole, turn_of}
use Rattle.plane_base.specs.declared.shapes.Pt.{Pt}
use Rattle.tin_base.specs.declared.relations.Rel.{Rel}
use Rattle.tin_base.specs.declared.relations.Rel.TheVariants.{Apart, Touching, Crossing, Overlapping}

-- both positive, or both negative
abbrev pub AreOnOneSide : ℤ → ℤ → Type 0
AreOnOneSide u v = ((pos 0 <ℤ u) × (pos 0 <ℤ v)) ⊎ ((u <ℤ pos 0) × (v <ℤ pos 0))

abbrev pub IsSomeZero : ℤ → ℤ → ℤ → ℤ → Type 0
IsSomeZero s t u v = (s ≡ pos 0) ⊎ ((t ≡ pos 0) ⊎ ((u ≡ pos 0) ⊎ (v ≡ pos 0)))

-- a and b are both below c and d
abbrev pub AreBelow : ℤ → ℤ → ℤ → ℤ → Type 0
AreBelow a b c d = int_max a b <ℤ int_min c d

-- both below, or both above
abbrev pub AreBeside : ℤ → ℤ → ℤ → ℤ → Type 0
AreBeside a b c d = AreBelow a b c d ⊎ AreBelow c d a b

-- the first number that is between a and b and between c and d, where there is one
abbrev pub first_of : ℤ → ℤ → ℤ → ℤ → ℤ
first_of a b c d = int_max (int_min a b) (int_min c d)

-- the last one
abbrev pub last_of : ℤ → ℤ → ℤ → ℤ → ℤ
last_of a b c d = int_min (int_max a b) (int_max c d)

-- from a first place to a last one there is none, one place, or more
abbrev pub IsRelFromTo : Rel → ℤ → ℤ → Type 0
IsRelFromTo Apart first last = last <ℤ first
IsRelFromTo Touching first last = first ≡ last
IsRelFromTo Crossing first last = ⊥
IsRelFromTo Overlapping first last = first <ℤ last

-- by the numbers that are between a and b and between c and d
abbrev pub DoSpansMeet : Rel → ℤ → ℤ → ℤ → ℤ → Type 0
DoSpansMeet relation a b c d = IsRelFromTo relation (first_of a b c d) (last_of a b c d)

-- each of the two segments is on the line of the other
pub record AreOnOneLine (a b c d : Pt) : Type 0 where
  pub of_c : turn_of (whole a) (whole b) (whole c) ≡ pos 0
  pub of_d : turn_of (whole a) (whole b) (whole d) ≡ pos 0
  pub of_a : turn_of (whole c) (whole d) (whole a) ≡ pos 0
  pub of_b : turn_of (whole c) (whole d) (whole b) ≡ pos 0
