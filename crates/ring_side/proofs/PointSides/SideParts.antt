-- The sides of segments one after another: parts of them, and all together.
use Rattle.std.proofs.Common.{◌≡◌, ℕ, ◌+◌, Bool, true, false, List, [], ◌∷◌, ◌++◌, arith, refl, ap, sym, ◌∙◌, zero-add}
use Rattle.std.specs.Prelude.{Some, length, slice_get, ◌-◌, not, cond, if◌then◌else◌, count_by}
use Rattle.std.proofs.lemmas.Bool.Decides.{nat_tests}
use Rattle.std.proofs.lemmas.List.Sums.{sum_by-cons}
use Rattle.plane_base.specs.declared.shapes.Pt.{Pt}
use Rattle.ring_side.specs.declared.kinds.Side.{Side}
use Rattle.ring_side.specs.declared.kinds.Side.TheVariants.{Inside, Border, Outside}
use Rattle.ring_side.specs.Rings.{Segment, chain, last_of, no_point, segments_of}
use Rattle.ring_side.specs.Sides.{is_on, is_on_some, is_odd, does_cross, side_among, side_of}
use Rattle.ring_side.specs.InsideSides.{side_by, both, side_by_all}

pub both_end : (s : Side) → both s Outside ≡ s
both_end Inside = refl
both_end s = refl

pub both_assoc : (s t u : Side) → both (both s t) u ≡ both s (both t u)
both_assoc Border t u = refl
both_assoc Inside Border u = refl
both_assoc Inside Inside Border = refl
both_assoc s t u = refl

odd_next : (n : ℕ) → is_odd (1 + n) ≡ not (is_odd n)
odd_next n = grind (arith, nat_tests)

-- the side of one more segment, by whether the point is on it, whether it crosses, and the same of the others
abbrev side_of_tests : Bool → Bool → Side
side_of_tests on odd = if on then Border else if odd then Inside else Outside

add_tests : (on cross others odd : Bool)
    → both (side_of_tests on cross) (side_of_tests others odd)
    ≡ side_of_tests (if on then true else others) (if cross then not odd else odd)
add_tests true cross others odd = refl
add_tests false true true odd = refl
add_tests false true false true = refl
add_tests false false true odd = refl
add_tests on cross others odd = refl

odd_more : (cross : Bool) (n : ℕ) → is_odd (cond cross 1 0 + n) ≡ (if cross then not (is_odd n) else is_odd n)
odd_more true n = odd_next n
odd_more false n = ap is_odd (zero-add n)

-- the sides of a segment and of others, where those are by tests
add_sides : (p : Pt) (s : Segment) (ss : List Segment) → side_by_all p ss ≡ side_among p ss
    → side_by_all p (s ∷ ss) ≡ side_among p (s ∷ ss)
add_sides p s ss e =
    ap (both (side_by p s)) e
    ∙ add_tests (is_on p s) (does_cross p s) (is_on_some p ss) (is_odd (count_by (does_cross p) ss))
    ∙ ap (side_of_tests (if is_on p s then true else is_on_some p ss))
    (sym (ap is_odd (sum_by-cons (λ (t : Segment). cond (does_cross p t) 1 0) s ss)
    ∙ odd_more (does_cross p s) (count_by (does_cross p) ss)))

pub side_by_all_is : (p : Pt) (ss : List Segment) → side_by_all p ss ≡ side_among p ss
side_by_all_is p [] = refl
side_by_all_is p (s ∷ ss) = add_sides p s ss (side_by_all_is p ss)

-- the side of two parts of segments
pub side_of_parts : (p : Pt) (ss ts : List Segment) → side_by_all p (ss ++ ts) ≡ both (side_by_all p ss) (side_by_all p ts)
side_of_parts p [] ts = refl
side_of_parts p (s ∷ ss) ts = grind (arith, both_assoc, (side_of_parts p ss ts))

-- the last of some points, by its place
last_at : (a b z : Pt) (ps : List Pt) → slice_get (b ∷ ps) (length ps) ≡ Some z → last_of a (b ∷ ps) ≡ z
last_at a b z [] e = cc
last_at a b z (q ∷ ps) e = last_at b q z ps e

last_is : (ring : List Pt) (z : Pt) → slice_get ring (length ring - 1) ≡ Some z → last_of no_point ring ≡ z
last_is [] z e = cc
last_is (b ∷ ps) z e =
    let f : length (b ∷ ps) - 1 ≡ length ps = omega arith in last_at no_point b z ps (rw f at e)

-- the side of a ring, from its last point on
pub side_from_last : (p : Pt) (ring : List Pt) (z : Pt) → slice_get ring (length ring - 1) ≡ Some z
    → side_by_all p (chain z ring) ≡ side_of ring p
side_from_last p ring z e =
    ap (λ (q : Pt). side_by_all p (chain q ring)) (sym (last_is ring z e)) ∙ side_by_all_is p (segments_of ring)
