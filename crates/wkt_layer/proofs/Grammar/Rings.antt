-- Rings whose points close.
use Rattle.std.proofs.Common.{◌≡◌, suc, ◌-◌, ◌≤◌, true, List, [], ◌∷◌, length, refl, sym, ap, ◌∙◌, arith}
use Rattle.std.specs.Prelude.{map, Some, None}
use Rattle.std.proofs.lemmas.Bool.{and_parts}
use Rattle.std.proofs.lemmas.Bool.Decides.{Decides-int_eq}
use Rattle.sheet_base.specs.PointHeights.{Height, Position}
use Rattle.sheet_base.specs.Rings.{is_same_height}
use Rattle.sheet_base.specs.Segments.{point_at}
use Rattle.sheet_base.proofs.RingLemmas.{closed_by, closed_many}
use Rattle.wkt_layer.specs.Numbers.{Point, place_of, height_of, position_of}
use Rattle.wkt_layer.specs.Geometries.{IsClosed, last_behind}
use Rattle.wkt_layer.specs.InsideStates.{may_close}

pub closed_is : (points : List Point) → IsClosed points → may_close points ≡ true
closed_is [] closed = refl
closed_is (one ∷ more) closed = rw (closed.0, closed.1) refl

pub is_closed_is : (points : List Point) → may_close points ≡ true → IsClosed points
is_closed_is [] closed = tt
is_closed_is (one ∷ more) closed = grind (arith, and_parts)

-- ---- four points, whose last one is the first
pub length_places : (points : List Point) → length (map place_of points) ≡ length points
length_places [] = refl
length_places (one ∷ more) = let e = length_places more in ap suc e

last_place : (one : Point) (more : List Point)
    → point_at (map place_of (one ∷ more)) (length more) ≡ place_of (last_behind one more)
last_place one [] = refl
last_place one (next ∷ more) = last_place next more

-- a height is the same as itself
same_height_is : (y z : Height) → y ≡ z → is_same_height y z ≡ true
same_height_is None None same = refl
same_height_is (Some y) (Some z) same = (Decides-int_eq y z).1 cc
same_height_is y z same = cc

pub ring_closes_by : (one : Point) (more : List Point) → 4 ≤ length (one ∷ more)
    → position_of (last_behind one more) ≡ position_of one → IsClosed (one ∷ more)
ring_closes_by one more many alike =
    let same : place_of (last_behind one more) ≡ place_of one = ap (λ (p : Position). p.point) alike in
    let level : height_of one ≡ height_of (last_behind one more) = sym (ap (λ (p : Position). p.height) alike) in
    let size : length (map place_of (one ∷ more)) ≡ length (one ∷ more) = length_places (one ∷ more) in
    let last : length (map place_of (one ∷ more)) - 1 ≡ length more = omega (arith, size) in (
      closed_by (map place_of (one ∷ more)) (omega (arith, size, many))
          (sym (ap (point_at (map place_of (one ∷ more))) last ∙ last_place one more ∙ same)),
      same_height_is (height_of one) (height_of (last_behind one more)) level,
    )

pub ring_has_four : (one : Point) (more : List Point) → IsClosed (one ∷ more) → 4 ≤ length (one ∷ more)
ring_has_four one more closed = let e = length_places (one ∷ more) in let f =
    closed_many (map place_of (one ∷ more)) closed.0 in omega (arith, e, f)
