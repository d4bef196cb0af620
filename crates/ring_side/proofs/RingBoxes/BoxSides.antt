-- All points of a box that each segment of a ring is apart from are on one side of the ring.
use Rattle.std.proofs.Common.{◌≡◌, Bool, true, false, ℤ, ◌<ℤ◌, ◌≤ℤ◌, List, [], ◌∷◌, arith, refl, ap, ap₂, sym, ◌∙◌, inl, inr}
use Rattle.std.specs.Prelude.{not, if◌then◌else◌, int_lt}
use Rattle.std.specs.Int.Signed.{<ℤ-≤ℤ_trans}
use Rattle.std.proofs.lemmas.Int.{ints}
use Rattle.integer_ring.proofs.Order.{≤_of_<}
use Rattle.plane_base.specs.declared.shapes.Pt.{Pt}
use Rattle.plane_base.specs.declared.shapes.Rect.{Rect}
use Rattle.plane_base.specs.Boxes.{HasPoint, AreApart}
use Rattle.ring_side.specs.declared.kinds.Side.{Side}
use Rattle.ring_side.specs.declared.kinds.Side.TheVariants.{Inside, Border, Outside}
use Rattle.ring_side.specs.Rings.{chain, last_of, no_point, segments_of}
use Rattle.ring_side.specs.Sides.{is_above, side_of}
use Rattle.ring_side.specs.InsideSides.{side_by, both, side_by_all, side_by_ends}
use Rattle.ring_side.specs.InsideParts.{HasAll}
use Rattle.ring_side.specs.InsideClear.{AreSegmentsApart, HasSide, corner_of}
use Rattle.ring_side.proofs.PointSides.SideParts.{both_end, both_assoc, side_by_all_is}
use Rattle.ring_side.proofs.RingBoxes.InBoxes.{below_is, not_below, one_clear, one_behind, ends_same, ends_joined, outside_ring, above_high}
use Rattle.plain_laws.proofs.Order.{up_trans}

-- ---- sides together
both_swap : (s t : Side) → both s t ≡ both t s
both_swap Inside Inside = refl
both_swap Border Inside = refl
both_swap Outside Inside = refl
both_swap s t = refl

crosswise : (s t u v : Side) → both (both s t) (both u v) ≡ both (both s u) (both t v)
crosswise s t u v = grind (arith, both_assoc, both_swap)

-- ---- what an end says of two points
abbrev differ : Bool → Bool → Bool
differ true b = not b
differ false b = b

-- whether an end is past the box on the first axis, and higher than exactly one of two points
abbrev is_turned : Rect → Pt → Pt → Pt → Bool
is_turned rect p q end = if int_lt rect.x1 end.x then differ (is_above p end) (is_above q end) else false

differing_ends : (a b c d : Bool) → side_by_ends a b ≡ both (side_by_ends c d) (side_by_ends (differ a c) (differ b d))
differing_ends true true true true = refl
differing_ends true true false true = refl
differing_ends true false true true = refl
differing_ends true false false true = refl
differing_ends false true true true = refl
differing_ends false true false true = refl
differing_ends false false true true = refl
differing_ends false false false true = refl
differing_ends a b c d = refl

never : (b : Bool) → (if b then false else false) ≡ false
never true = refl
never false = refl

turned_right : (rect : Rect) (p q end : Pt) → rect.x1 <ℤ end.x → is_turned rect p q end ≡ differ (is_above p end) (is_above q end)
turned_right rect p q end h = rw (below_is rect.x1 end.x h) refl

not_turned_left : (rect : Rect) (p q end : Pt) → end.x ≤ℤ rect.x1 → is_turned rect p q end ≡ false
not_turned_left rect p q end h = rw (not_below rect.x1 end.x h) refl

not_turned_above : (rect : Rect) (p q end : Pt) → p.y <ℤ end.y → q.y <ℤ end.y → is_turned rect p q end ≡ false
not_turned_above rect p q end h k =
    rw (below_is p.y end.y h, below_is q.y end.y k) (never (int_lt rect.x1 end.x))

not_turned_below : (rect : Rect) (p q end : Pt) → end.y ≤ℤ p.y → end.y ≤ℤ q.y → is_turned rect p q end ≡ false
not_turned_below rect p q end h k =
    rw (not_below p.y end.y h, not_below q.y end.y k) (never (int_lt rect.x1 end.x))

-- ---- one segment
under : (a b c d : ℤ) → a ≤ℤ b → b <ℤ c → c ≤ℤ d → a <ℤ d
under a b c d h k l = omega (arith, ints)

under_end : (a b c d e : ℤ) → a ≤ℤ b → b <ℤ c → c ≤ℤ d → d ≤ℤ e → a ≤ℤ e
under_end a b c d e h k l m = omega (arith, ints)

-- the sides of two points by a segment that has no share in either, and whose ends say nothing of them
by_none : (s t : Side) (x y : Bool) → s ≡ Outside → t ≡ Outside → x ≡ false → y ≡ false → s ≡ both t (side_by_ends x y)
by_none s t x y e f g h = rw (e, f, g, h) refl

by_ends : (s t : Side) (x y a b c d : Bool) → s ≡ side_by_ends a b → t ≡ side_by_ends c d → x ≡ differ a c → y ≡ differ b d
    → s ≡ both t (side_by_ends x y)
by_ends s t x y a b c d e f g h = rw (e, f, g, h) (differing_ends a b c d)

one_apart : (rect around : Rect) (p q a b : Pt) → HasPoint rect p → HasPoint rect q → HasPoint around a → HasPoint around b
    → AreApart around rect
    → side_by p (record { from = a; to = b })
    ≡ both (side_by q (record { from = a; to = b })) (side_by_ends (is_turned rect p q a) (is_turned rect p q b))
one_apart rect around p q a b hp hq ha hb (inl (inl left)) =
    by_none _ _ _ _ (one_clear around p a b (inr (inr (<ℤ-≤ℤ_trans left hp.left))) ha hb)
    (one_clear around q a b (inr (inr (<ℤ-≤ℤ_trans left hq.left))) ha hb)
    (not_turned_left rect p q a (under_end a.x around.x1 rect.x0 p.x rect.x1 ha.right left hp.left hp.right))
    (not_turned_left rect p q b (under_end b.x around.x1 rect.x0 p.x rect.x1 hb.right left hp.left hp.right))
one_apart rect around p q a b hp hq ha hb (inl (inr right)) =
    by_ends _ _ _ _ (is_above p a) (is_above p b) (is_above q a) (is_above q b)
    (one_behind around p a b (above_high p.x rect.x1 around.x0 hp.right right) ha hb)
    (one_behind around q a b (above_high q.x rect.x1 around.x0 hq.right right) ha hb)
    (turned_right rect p q a (<ℤ-≤ℤ_trans right ha.left))
    (turned_right rect p q b (<ℤ-≤ℤ_trans right hb.left))
one_apart rect around p q a b hp hq ha hb (inr (inl below)) =
    by_none _ _ _ _ (one_clear around p a b (inr (inl (<ℤ-≤ℤ_trans below hp.bottom))) ha hb)
    (one_clear around q a b (inr (inl (<ℤ-≤ℤ_trans below hq.bottom))) ha hb)
    (not_turned_below rect p q a (≤_of_< a.y p.y (under a.y around.y1 rect.y0 p.y ha.top below hp.bottom))
    (≤_of_< a.y q.y (under a.y around.y1 rect.y0 q.y ha.top below hq.bottom)))
    (not_turned_below rect p q b (≤_of_< b.y p.y (under b.y around.y1 rect.y0 p.y hb.top below hp.bottom))
    (≤_of_< b.y q.y (under b.y around.y1 rect.y0 q.y hb.top below hq.bottom)))
one_apart rect around p q a b hp hq ha hb (inr (inr above)) =
    by_none _ _ _ _ (one_clear around p a b (inl (above_high p.y rect.y1 around.y0 hp.top above)) ha hb)
    (one_clear around q a b (inl (above_high q.y rect.y1 around.y0 hq.top above)) ha hb)
    (not_turned_above rect p q a (under p.y rect.y1 around.y0 a.y hp.top above ha.bottom) (under q.y rect.y1 around.y0 a.y hq.top above ha.bottom))
    (not_turned_above rect p q b (under p.y rect.y1 around.y0 b.y hp.top above hb.bottom) (under q.y rect.y1 around.y0 b.y hq.top above hb.bottom))

-- ---- segments one after another, and a ring
along_apart : (rect : Rect) (p q a : Pt) (ps : List Pt) → HasPoint rect p → HasPoint rect q → AreSegmentsApart rect (chain a ps)
    → side_by_all p (chain a ps)
    ≡ both (side_by_all q (chain a ps)) (side_by_ends (is_turned rect p q a) (is_turned rect p q (last_of a ps)))
along_apart rect p q a [] hp hq are = sym (ends_same (is_turned rect p q a))
along_apart rect p q a (b ∷ ps) hp hq are =
    ap₂ both (one_apart rect are.0.around p q a b hp hq are.0.from are.0.to are.0.apart) (along_apart rect p q b ps hp hq are.1)
    ∙ crosswise (side_by q (record { from = a; to = b })) (side_by_ends (is_turned rect p q a) (is_turned rect p q b))
    (side_by_all q (chain b ps)) (side_by_ends (is_turned rect p q b) (is_turned rect p q (last_of b ps)))
    ∙ ap (both (both (side_by q (record { from = a; to = b })) (side_by_all q (chain b ps))))
    (ends_joined (is_turned rect p q a) (is_turned rect p q b) (is_turned rect p q (last_of b ps)))

round_apart : (rect : Rect) (p q z : Pt) (ps : List Pt) → last_of z ps ≡ z → HasPoint rect p → HasPoint rect q
    → AreSegmentsApart rect (chain z ps) → side_by_all p (chain z ps) ≡ side_by_all q (chain z ps)
round_apart rect p q z ps e hp hq are =
    along_apart rect p q z ps hp hq are
    ∙ ap (λ (end : Pt). both (side_by_all q (chain z ps)) (side_by_ends (is_turned rect p q z) (is_turned rect p q end))) e
    ∙ ap (both (side_by_all q (chain z ps))) (ends_same (is_turned rect p q z))
    ∙ both_end (side_by_all q (chain z ps))

same_sides : (rect : Rect) (ring : List Pt) (p q : Pt) → HasPoint rect p → HasPoint rect q → AreSegmentsApart rect (segments_of ring)
    → side_of ring p ≡ side_of ring q
same_sides rect [] p q hp hq are = refl
same_sides rect (b ∷ ps) p q hp hq are =
    sym (side_by_all_is p (segments_of (b ∷ ps)))
    ∙ round_apart rect p q (last_of no_point (b ∷ ps)) (b ∷ ps) refl hp hq are
    ∙ side_by_all_is q (segments_of (b ∷ ps))

-- the corner of a box with a point is in it
same : (a : ℤ) → a ≤ℤ a
same a = omega (arith, ints)

corner_in : (rect : Rect) (p : Pt) → HasPoint rect p → HasPoint rect (corner_of rect)
corner_in rect p h = grind (arith, same, up_trans)

pub side_of_corner : (rect : Rect) (ring : List Pt) (side : Side) → side ≡ side_of ring (corner_of rect)
    → AreSegmentsApart rect (segments_of ring) → HasSide rect ring side
side_of_corner rect ring side e are = λ p h.
    same_sides rect ring p (corner_of rect) h (corner_in rect p h) are ∙ sym e

-- no point is in two boxes apart
none_in_two : (around rect : Rect) (p : Pt) → AreApart around rect → HasPoint around p → HasPoint rect p → ⊥
none_in_two around rect p (inl (inl h)) ha hr = let a = ha.right in let r = hr.left in omega (arith, ints)
none_in_two around rect p (inl (inr h)) ha hr = let a = ha.left in let r = hr.right in omega (arith, ints)
none_in_two around rect p (inr (inl h)) ha hr = let a = ha.top in let r = hr.bottom in omega (arith, ints)
none_in_two around rect p (inr (inr h)) ha hr = let a = ha.bottom in let r = hr.top in omega (arith, ints)

pub outside_of_box : (rect around : Rect) (ring : List Pt) → HasAll around ring → AreApart around rect → HasSide rect ring Outside
outside_of_box rect around ring has apart = λ p h.
    outside_ring around ring p has (λ (i : HasPoint around p). none_in_two around rect p apart i h)
