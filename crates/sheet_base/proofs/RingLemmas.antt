-- When the points of a ring are closed.
use Rattle.std.proofs.Common.{◌≡◌, ◌-◌, ◌≤◌, true, List, length, refl, ap}
use Rattle.std.specs.Prelude.{nat_le}
use Rattle.std.proofs.lemmas.Bool.{leb-true, le-leb, and_parts}
use Rattle.std.proofs.lemmas.Bool.Decides.{Decides-int_eq}
use Rattle.plane_base.specs.declared.shapes.Pt.{Pt}
use Rattle.sheet_base.specs.Segments.{point_at}
use Rattle.sheet_base.specs.Rings.{is_same, is_closed}

same_is : (p q : Pt) → p ≡ q → is_same p q ≡ true
same_is p q same =
    rw ((Decides-int_eq p.x q.x).1 (ap (λ (r : Pt). r.x) same), (Decides-int_eq p.y q.y).1 (ap (λ (r : Pt). r.y) same))
    refl

-- four points or more, whose last one is the first
pub closed_by : (points : List Pt) → 4 ≤ length points → point_at points 0 ≡ point_at points (length points - 1)
    → is_closed points ≡ true
closed_by points many same = rw (
  le-leb 4 (length points) many,
  same_is (point_at points 0)
      (point_at points (length points - 1)) same,
) refl

pub closed_many : (points : List Pt) → is_closed points ≡ true → 4 ≤ length points
closed_many points closed = leb-true 4 (length points)
    (and_parts (nat_le 4 (length points)) (is_same (point_at points 0) (point_at points (length points - 1))) closed).0
