-- Parts of a ring in a box. Only private functions speak of them.
use Rattle.std.specs.Prelude.{◌≡◌, ℕ, ◌-◌, List, [], ◌∷◌, Option, None, Some, take, drop}
use Rattle.plane_base.specs.declared.shapes.Pt.{Pt}
use Rattle.plane_base.specs.declared.shapes.Rect.{Rect}
use Rattle.plane_base.specs.Boxes.{HasPoint}
use Rattle.ring_side.specs.declared.kinds.Side.{Side}
use Rattle.ring_side.specs.Rings.{chain, last_of, no_point}
use Rattle.ring_side.specs.InsideSides.{side_by_all}

-- the box has each of the points
abbrev pub HasAll : Rect → List Pt → Type 0
HasAll box [] = Unit {0}
HasAll box (p ∷ ps) = HasPoint box p × HasAll box ps

-- the points of a ring from one place to before another
abbrev pub part_of : List Pt → ℕ → ℕ → List Pt
part_of ring first past = take (past - first) (drop first ring)

-- the point before a place: the last one before the first place
abbrev pub before_of : List Pt → ℕ → Pt
before_of ring place = last_of (last_of no_point ring) (take place ring)

-- a part of a way in the box, from one point on and up to another, has this side
abbrev pub IsSideInBox : Rect → Pt → Pt → Pt → Side → Type 0
IsSideInBox around from to p side = (ps : List Pt) → HasPoint around from → HasAll around ps → last_of from ps ≡ to
    → side_by_all p (chain from ps) ≡ side

-- the side, where it is stated
abbrev pub IsSideWhereTold : Rect → Pt → Pt → Pt → Option Side → Type 0
IsSideWhereTold around from to p None = Unit {0}
IsSideWhereTold around from to p (Some side) = IsSideInBox around from to p side
