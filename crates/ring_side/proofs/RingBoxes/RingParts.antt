-- Parts of a ring: their points, the points before them, and boxes round them.
use Rattle.std.proofs.Common.{◌≡◌, ℕ, zero, suc, ◌+◌, ◌-◌, ◌<◌, ◌≤◌, List, [], ◌∷◌, ◌++◌, length, get_or, take, drop, arith, refl, ap, sym, ◌∙◌, subst}
use Rattle.std.proofs.Common.{inl, inr}
use Rattle.std.specs.Prelude.{All, Option, None, Some, ◌⊎◌}
use Rattle.std.proofs.Math.Seq.{take-add, take-length}
use Rattle.std.proofs.lemmas.List.{drop-drop, take_more}
use Rattle.std.proofs.lemmas.List.Elements.{All-take, All-drop}
use Rattle.plane_base.specs.declared.shapes.Pt.{Pt}
use Rattle.plane_base.specs.declared.shapes.Rect.{Rect}
use Rattle.plane_base.specs.Plane.{IsNear}
use Rattle.plane_base.specs.Boxes.{HasPoint, HasBox, box_of_boxes, box_with_point}
use Rattle.plane_base.proofs.Bounds.BoxLemmas.{outer_has, joined_has, widened_has}
use Rattle.ring_side.specs.declared.kinds.Side.{Side}
use Rattle.ring_side.specs.declared.trees.RingPart.{RingPart}
use Rattle.ring_side.specs.Rings.{Segment, chain, last_of, no_point, AreNear, AreNearTo}
use Rattle.ring_side.specs.InsideSides.{both, side_by_all}
use Rattle.ring_side.specs.InsideParts.{HasAll, part_of, before_of, IsSideInBox, IsSideWhereTold}
use Rattle.ring_side.specs.InsideTrees.{IsAroundPart}
use Rattle.ring_side.proofs.PointSides.SideParts.{side_of_parts}

-- ---- the last of some points
last_take : (a d : Pt) (ps : List Pt) (k : ℕ) → k < length ps → last_of a (take (suc k) ps) ≡ get_or ps k d
last_take a d [] k h = absurd (omega arith)
last_take a d (b ∷ ps) zero h = refl
last_take a d (b ∷ ps) (suc k) h = last_take b d ps k (omega arith)

last_upto : (a d : Pt) (ps : List Pt) (n : ℕ) → 0 < n → n ≤ length ps → last_of a (take n ps) ≡ get_or ps (n - 1) d
last_upto a d ps n some within = grind (arith, last_take)

last_all : (a d : Pt) (ps : List Pt) → 0 < length ps → last_of a ps ≡ get_or ps (length ps - 1) d
last_all a d ps some =
    sym (ap (last_of a) (take-length ps)) ∙ last_upto a d ps (length ps) some (omega arith)

pub last-append : (a : Pt) (ps qs : List Pt) → last_of a (ps ++ qs) ≡ last_of (last_of a ps) qs
last-append a [] qs = refl
last-append a (b ∷ ps) qs = last-append b ps qs

pub chain-append : (a : Pt) (ps qs : List Pt) → chain a (ps ++ qs) ≡ chain a ps ++ chain (last_of a ps) qs
chain-append a [] qs = refl
chain-append a (b ∷ ps) qs = ap (λ (ss : List Segment). record { from = a; to = b } ∷ ss) (chain-append b ps qs)

-- ---- the point before a place
pub before_first : (ring : List Pt) (place : ℕ) (d : Pt) → place ≡ 0 → place < length ring
    → get_or ring (length ring - 1) d ≡ before_of ring place
before_first ring place d e within = grind (arith, last_all)

pub before_later : (ring : List Pt) (place : ℕ) (d : Pt) → 0 < place → place < length ring
    → get_or ring (place - 1) d ≡ before_of ring place
before_later ring place d some within = sym (last_upto (last_of no_point ring) d ring place some (omega arith))

-- what holds of all points of a ring holds of the one before a place
all_before_at : (P : Pt → Type 0) (ring : List Pt) (place : ℕ) → place < length ring → All P ring → (place ≡ 0) ⊎ (0 < place)
    → P (before_of ring place)
all_before_at P ring place within all (inl e) =
    subst P (before_first ring place no_point e within) (all (length ring - 1) no_point (omega arith))
all_before_at P ring place within all (inr some) =
    subst P (before_later ring place no_point some within) (all (place - 1) no_point (omega arith))

zero_or_more : (n : ℕ) → (n ≡ 0) ⊎ (0 < n)
zero_or_more n = grind arith

all_before : (P : Pt → Type 0) (ring : List Pt) (place : ℕ) → place < length ring → All P ring
    → P (before_of ring place)
all_before P ring place within all = all_before_at P ring place within all (zero_or_more place)

all_part : (P : Pt → Type 0) (ring : List Pt) (first past : ℕ) → All P ring → All P (part_of ring first past)
all_part P ring first past all = All-take P (past - first) (drop first ring) (All-drop P first ring all)

-- ---- parts
pub take_part : (ring : List Pt) (first past : ℕ) → first ≤ past → take past ring ≡ take first ring ++ part_of ring first past
take_part ring first past h =
    let e : first + (past - first) ≡ past = omega arith in
    sym (ap (λ (n : ℕ). take n ring) e) ∙ take-add first (past - first) ring

end_of_part : (ring : List Pt) (first past : ℕ) (d : Pt) → first < past → past ≤ length ring
    → last_of (before_of ring first) (part_of ring first past) ≡ get_or ring (past - 1) d
end_of_part ring first past d some within =
    sym (last-append (last_of no_point ring) (take first ring) (part_of ring first past))
    ∙ sym (ap (last_of (last_of no_point ring)) (take_part ring first past (omega arith)))
    ∙ last_upto (last_of no_point ring) d ring past (omega arith) within

-- the side of a ring up to a place, by the side up to an earlier one and that of the part between
pub side_upto : (p : Pt) (ring : List Pt) (first past : ℕ) → first ≤ past
    → side_by_all p (chain (last_of no_point ring) (take past ring))
    ≡ both (side_by_all p (chain (last_of no_point ring) (take first ring)))
    (side_by_all p (chain (before_of ring first) (part_of ring first past)))
side_upto p ring first past h =
    ap (λ (ps : List Pt). side_by_all p (chain (last_of no_point ring) ps)) (take_part ring first past h)
    ∙ ap (side_by_all p) (chain-append (last_of no_point ring) (take first ring) (part_of ring first past))
    ∙ side_of_parts p (chain (last_of no_point ring) (take first ring)) (chain (before_of ring first) (part_of ring first past))

two_parts : (ring : List Pt) (first middle past : ℕ) → first ≤ middle → middle ≤ past
    → part_of ring first past ≡ part_of ring first middle ++ part_of ring middle past
two_parts ring first middle past h k =
    let e : (middle - first) + (past - middle) ≡ past - first = omega arith in
    let f : first + (middle - first) ≡ middle = omega arith in
    sym (ap (λ (n : ℕ). take n (drop first ring)) e)
    ∙ take-add (middle - first) (past - middle) (drop first ring)
    ∙ ap (λ (ps : List Pt). part_of ring first middle ++ take (past - middle) ps)
    (drop-drop (middle - first) first ring ∙ ap (λ (n : ℕ). drop n ring) f)

-- ---- boxes
pub has_all-append : (box : Rect) (ps qs : List Pt) → HasAll box ps → HasAll box qs → HasAll box (ps ++ qs)
has_all-append box [] qs h k = k
has_all-append box (p ∷ ps) qs h k = (h.0, has_all-append box ps qs h.1 k)

pub has_all_outer : (outer inner : Rect) (ps : List Pt) → HasBox outer inner → HasAll inner ps → HasAll outer ps
has_all_outer outer inner [] h k = tt
has_all_outer outer inner (p ∷ ps) h k = (outer_has outer inner p h k.0, has_all_outer outer inner ps h k.1)

pub around_both : (low high : Rect) (ring : List Pt) (first middle past : ℕ) → first ≤ middle → middle ≤ past
    → IsAroundPart low ring first middle → IsAroundPart high ring middle past
    → IsAroundPart (box_of_boxes low high) ring first past
around_both low high ring first middle past h k of_low of_high =
    let has = joined_has low high in record {
      from = outer_has (box_of_boxes low high) low (before_of ring first) has.0 of_low.from;
      points =
          subst (HasAll (box_of_boxes low high)) (sym (two_parts ring first middle past h k))
          (has_all-append (box_of_boxes low high) (part_of ring first middle) (part_of ring middle past)
          (has_all_outer (box_of_boxes low high) low (part_of ring first middle) has.0 of_low.points)
          (has_all_outer (box_of_boxes low high) high (part_of ring middle past) has.1 of_high.points));
    }

-- one more point in the box
has_one_more : (box : Rect) (ps : List Pt) (p : Pt) → HasAll box ps → HasAll (box_with_point box p) (ps ++ p ∷ [])
has_one_more box ps p h =
    let has = widened_has box p in
    has_all-append (box_with_point box p) ps (p ∷ []) (has_all_outer (box_with_point box p) box ps has.1 h) (has.0, tt)

pub around_more : (box more : Rect) (from : Pt) (ps : List Pt) (i : ℕ) → i < length ps
    → more ≡ box_with_point box (get_or ps i no_point) → HasPoint box from × HasAll box (take i ps)
    → HasPoint more from × HasAll more (take (i + 1) ps)
around_more box more from ps i within e h =
    let p : Pt = get_or ps i no_point in
    subst (λ (r : Rect). HasPoint r from × HasAll r (take (i + 1) ps)) (sym e) (
      outer_has (box_with_point box p) box from (widened_has box p).1 h.0,
      subst (HasAll (box_with_point box p)) (sym (take_more ps i no_point within)) (has_one_more box (take i ps) p h.1),
    )

-- ---- the side where it is stated
told_side : (around : Rect) (from to p : Pt) (told : Option Side) (side : Side) → told ≡ Some side
    → IsSideWhereTold around from to p told → IsSideInBox around from to p side
told_side around from to p None side e h = cc
told_side around from to p (Some other) side e h =
    let f : other ≡ side = cc in subst (IsSideInBox around from to p) f h

-- ---- the side of the part of a node
pub node_told : (ring : List Pt) (node : RingPart) (from to p : Pt) (told : Option Side) (side : Side)
    → from ≡ before_of ring node.first → to ≡ get_or ring (node.past - 1) no_point → node.first < node.past
    → node.past ≤ length ring → IsAroundPart node.around ring node.first node.past → told ≡ Some side
    → IsSideWhereTold node.around from to p told
    → side_by_all p (chain (before_of ring node.first) (part_of ring node.first node.past)) ≡ side
node_told ring node from to p told side e f some within around is h = grind (arith, told_side, end_of_part)

-- ---- points near each other
pub near_part : (ring ps : List Pt) (first past : ℕ) → ps ≡ part_of ring first past → AreNear ring → AreNear ps
near_part ring ps first past e near =
    let part : List Pt = part_of ring first past in
    subst AreNear (sym e)
    (all_part (λ (q : Pt). AreNearTo part q) ring first past
    (λ (k : ℕ) (d : Pt) (within : k < length ring). all_part (λ (p : Pt). IsNear p (get_or ring k d)) ring first past (near k d within)))

pub near_from : (ring ps : List Pt) (first past : ℕ) (from : Pt) → ps ≡ part_of ring first past
    → from ≡ before_of ring first → first < length ring → AreNear ring → AreNearTo ps from
near_from ring ps first past from e f within near =
    let at : AreNearTo ring (before_of ring first) = all_before (λ (q : Pt). AreNearTo ring q) ring first within near in
    subst (λ (q : Pt). AreNearTo ps q) (sym f)
    (subst (λ (qs : List Pt). AreNearTo qs (before_of ring first)) (sym e)
    (all_part (λ (p : Pt). IsNear p (before_of ring first)) ring first past at))

pub near_point : (ring ps : List Pt) (first past : ℕ) (p : Pt) → ps ≡ part_of ring first past → AreNearTo ring p
    → AreNearTo ps p
near_point ring ps first past p e near =
    subst (λ (qs : List Pt). AreNearTo qs p) (sym e) (all_part (λ (q : Pt). IsNear q p) ring first past near)

pub near_before : (ring : List Pt) (first : ℕ) (from p : Pt) → from ≡ before_of ring first → first < length ring
    → AreNearTo ring p → IsNear from p
near_before ring first from p e within near =
    subst (λ (q : Pt). IsNear q p) (sym e) (all_before (λ (q : Pt). IsNear q p) ring first within near)
