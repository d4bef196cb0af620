-- What turns show of two triangles that have one corner in common, or none. Each is enough for that they meet in no
-- other point, and none is needed for it.
use Rattle.std.specs.Prelude.{◌⊎◌, ℤ, pos, ◌≤ℤ◌, ◌<ℤ◌}
use Rattle.plane_base.specs.Plane.{Point, turn_of}

-- Triangles a, b, c and a, e, f, by the turns at a from b to e, from b to f, from c to e and from c to f. Either e is
-- to the left of ac, and f is not to the right of it or e not to the right of ab. Or f is to the right of ab, and e is
-- not to the left of it or f not to the left of ac.
abbrev pub IsParted : ℤ → ℤ → ℤ → ℤ → Type 0
IsParted be bf ce cf = ((pos 0 <ℤ ce) × ((pos 0 ≤ℤ cf) ⊎ (pos 0 ≤ℤ be)))
    ⊎ ((bf <ℤ pos 0) × ((be ≤ℤ pos 0) ⊎ (cf ≤ℤ pos 0)))

-- three points are to the right of the line from p to q
abbrev pub AreRight : Point → Point → Point → Point → Point → Type 0
AreRight p q e f g = (turn_of p q e <ℤ pos 0) × (turn_of p q f <ℤ pos 0) × (turn_of p q g <ℤ pos 0)
