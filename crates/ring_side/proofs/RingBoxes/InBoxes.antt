-- The sides of segments in a box that does not have the point.
use Rattle.std.proofs.Common.{◌≡◌, Bool, true, false, ◌&&◌, ℤ, pos, ◌+ℤ◌, ◌-ℤ◌, ◌*ℤ◌, ◌<ℤ◌, ◌≤ℤ◌, List, [], ◌∷◌, arith, refl, ap, sym, ◌∙◌}
use Rattle.std.specs.Prelude.{not, if◌then◌else◌, int_lt, ◌⊎◌}
use Rattle.std.specs.Int.Signed.{<ℤ-≤ℤ_trans}
use Rattle.std.specs.Int.{int_min, int_max}
use Rattle.std.proofs.Common.{inl, inr}
use Rattle.std.proofs.lemmas.Int.{ints}
use Rattle.integer_ring.proofs.Order.{≤_or_>, ≤_of_<}
use Rattle.integer_ring.proofs.Ring.{num, ◌⊕◌, ◌⊖◌, ◌⊗◌}
use Rattle.integer_ring.proofs.Claims.{follows, ◌≼◌, ◌≺◌, ◌⇒◌, ◌because◌, gap, over, ◌⊞◌, ◌⊠◌}
use Rattle.plane_base.specs.declared.shapes.Pt.{Pt}
use Rattle.plane_base.specs.declared.shapes.Rect.{Rect}
use Rattle.plane_base.specs.Boxes.{HasPoint}
use Rattle.plane_base.proofs.Bounds.BoxLemmas.{lesser_is_one, greater_is_one}
use Rattle.ring_side.specs.declared.kinds.Side.{Side}
use Rattle.ring_side.specs.declared.kinds.Side.TheVariants.{Inside, Outside}
use Rattle.ring_side.specs.Rings.{Segment, chain, last_of, segments_of}
use Rattle.ring_side.specs.Sides.{is_between, is_on, is_above, is_beyond, does_cross, side_of}
use Rattle.ring_side.specs.InsideSides.{side_by, both, side_by_all, side_by_ends}
use Rattle.ring_side.specs.InsideParts.{HasAll, IsSideInBox}
use Rattle.ring_side.proofs.PointSides.SideParts.{side_by_all_is}

-- ---- tests
and_false : (b : Bool) → (b && false) ≡ false
and_false true = refl
and_false false = refl

pub below_is : (a b : ℤ) → a <ℤ b → int_lt a b ≡ true
below_is a b h = grind (arith, ints)

pub not_below : (a b : ℤ) → b ≤ℤ a → int_lt a b ≡ false
not_below a b h = grind (arith, ints)

below_one : (m u v z : ℤ) → z <ℤ u → z <ℤ v → (m ≡ u) ⊎ (m ≡ v) → z <ℤ m
below_one m u v z a b (inl e) = rw e a
below_one m u v z a b (inr e) = rw e b

below_lesser : (u v z : ℤ) → z <ℤ u → z <ℤ v → z <ℤ int_min u v
below_lesser u v z a b = below_one (int_min u v) u v z a b (lesser_is_one u v)

above_one : (m u v z : ℤ) → u <ℤ z → v <ℤ z → (m ≡ u) ⊎ (m ≡ v) → m <ℤ z
above_one m u v z a b (inl e) = rw e a
above_one m u v z a b (inr e) = rw e b

above_greater : (u v z : ℤ) → u <ℤ z → v <ℤ z → int_max u v <ℤ z
above_greater u v z a b = above_one (int_max u v) u v z a b (greater_is_one u v)

not_between_low : (u v z : ℤ) → z <ℤ u → z <ℤ v → is_between u v z ≡ false
not_between_low u v z a b = rw (below_is z (int_min u v) (below_lesser u v z a b)) refl

not_between_high : (u v z : ℤ) → u <ℤ z → v <ℤ z → is_between u v z ≡ false
not_between_high u v z a b =
    rw (below_is (int_max u v) z (above_greater u v z a b)) (and_false (not (int_lt z (int_min u v))))

-- ---- one segment
off_x : (p a b : Pt) → is_between a.x b.x p.x ≡ false → is_on p (record { from = a; to = b }) ≡ false
off_x p a b e = rw e (and_false _)

off_y : (p a b : Pt) → is_between a.y b.y p.y ≡ false → is_on p (record { from = a; to = b }) ≡ false
off_y p a b e = rw (e, and_false (is_between a.x b.x p.x)) (and_false _)

-- the point of a rising segment at a height between its ends is between them on the first axis, too
not_behind : (px py lx ly hx hy : ℤ) → ly ≤ℤ py → py <ℤ hy → lx <ℤ px → hx <ℤ px
    → (((hy -ℤ ly) -ℤ (py -ℤ ly)) *ℤ lx +ℤ (py -ℤ ly) *ℤ hx)
    ≤ℤ (px *ℤ (((hy -ℤ ly) -ℤ (py -ℤ ly)) *ℤ pos 1 +ℤ (py -ℤ ly) *ℤ pos 1))
not_behind = follows 6 (λ px py lx ly hx hy. ly ≼ py ⇒ py ≺ hy ⇒ lx ≺ px ⇒ hx ≺ px
    ⇒ ((hy ⊖ ly) ⊖ (py ⊖ ly)) ⊗ lx ⊕ (py ⊖ ly) ⊗ hx
    ≼ px ⊗ (((hy ⊖ ly) ⊖ (py ⊖ ly)) ⊗ num (pos 1) ⊕ (py ⊖ ly) ⊗ num (pos 1))
    because gap 1 ⊠ gap 2 ⊞ gap 0 ⊠ gap 3) tt

behind : (px py lx ly hx hy : ℤ) → ly ≤ℤ py → py <ℤ hy → px <ℤ lx → px <ℤ hx
    → (px *ℤ (((hy -ℤ ly) -ℤ (py -ℤ ly)) *ℤ pos 1 +ℤ (py -ℤ ly) *ℤ pos 1))
    <ℤ (((hy -ℤ ly) -ℤ (py -ℤ ly)) *ℤ lx +ℤ (py -ℤ ly) *ℤ hx)
behind = follows 6 (λ px py lx ly hx hy. ly ≼ py ⇒ py ≺ hy ⇒ px ≺ lx ⇒ px ≺ hx
    ⇒ px ⊗ (((hy ⊖ ly) ⊖ (py ⊖ ly)) ⊗ num (pos 1) ⊕ (py ⊖ ly) ⊗ num (pos 1))
    ≺ ((hy ⊖ ly) ⊖ (py ⊖ ly)) ⊗ lx ⊕ (py ⊖ ly) ⊗ hx
    because over 1 ⊠ gap 2 ⊞ over 2 ⊞ gap 0 ⊠ gap 3) tt

none_beyond : (p low high : Pt) → low.y ≤ℤ p.y → p.y <ℤ high.y → low.x <ℤ p.x → high.x <ℤ p.x
    → is_beyond p low high ≡ false
none_beyond p low high a b c d =
    not_below _ _ (not_behind p.x p.y low.x low.y high.x high.y a b c d)

one_beyond : (p low high : Pt) → low.y ≤ℤ p.y → p.y <ℤ high.y → p.x <ℤ low.x → p.x <ℤ high.x
    → is_beyond p low high ≡ true
one_beyond p low high a b c d =
    below_is _ _ (behind p.x p.y low.x low.y high.x high.y a b c d)

-- whether the ends are higher than the point
abbrev IsAboveOrNot : Pt → Pt → Type 0
IsAboveOrNot p q = (q.y ≤ℤ p.y) ⊎ (p.y <ℤ q.y)

-- a segment that lies before the point on the first axis does not cross
crosses_none : (p a b : Pt) → a.x <ℤ p.x → b.x <ℤ p.x → IsAboveOrNot p a → IsAboveOrNot p b
    → does_cross p (record { from = a; to = b }) ≡ false
crosses_none p a b l m (inl u) (inl v) = rw (not_below p.y a.y u, not_below p.y b.y v) refl
crosses_none p a b l m (inl u) (inr v) = rw (not_below p.y a.y u, below_is p.y b.y v) (none_beyond p a b u v l m)
crosses_none p a b l m (inr u) (inl v) = rw (below_is p.y a.y u, not_below p.y b.y v) (none_beyond p b a v u m l)
crosses_none p a b l m (inr u) (inr v) = rw (below_is p.y a.y u, below_is p.y b.y v) refl

-- one that lies past the point on that axis crosses where exactly one end is higher
abbrev side_of_cross : Bool → Side
side_of_cross b = if b then Inside else Outside

crosses_by_ends : (p a b : Pt) → p.x <ℤ a.x → p.x <ℤ b.x → IsAboveOrNot p a → IsAboveOrNot p b
    → side_of_cross (does_cross p (record { from = a; to = b })) ≡ side_by_ends (is_above p a) (is_above p b)
crosses_by_ends p a b l m (inl u) (inl v) = rw (not_below p.y a.y u, not_below p.y b.y v) refl
crosses_by_ends p a b l m (inl u) (inr v) =
    rw (not_below p.y a.y u, below_is p.y b.y v) (rw (one_beyond p a b u v l m) refl)
crosses_by_ends p a b l m (inr u) (inl v) =
    rw (below_is p.y a.y u, not_below p.y b.y v) (rw (one_beyond p b a v u m l) refl)
crosses_by_ends p a b l m (inr u) (inr v) = rw (below_is p.y a.y u, below_is p.y b.y v) refl

-- the side of a segment that the point is not on and that does not cross
clear_segment : (p : Pt) (s : Segment) → is_on p s ≡ false → does_cross p s ≡ false → side_by p s ≡ Outside
clear_segment p s e f = rw (e, f) refl

segment_by_cross : (p : Pt) (s : Segment) → is_on p s ≡ false → side_by p s ≡ side_of_cross (does_cross p s)
segment_by_cross p s e = rw e refl

-- the point is above the box, below it, or past it on the first axis
abbrev pub IsClear : Rect → Pt → Type 0
IsClear box p = (p.y <ℤ box.y0) ⊎ ((box.y1 <ℤ p.y) ⊎ (box.x1 <ℤ p.x))

pub above_high : (u m z : ℤ) → u ≤ℤ m → m <ℤ z → u <ℤ z
above_high u m z a b = omega (arith, ints)

pub one_clear : (box : Rect) (p a b : Pt) → IsClear box p → HasPoint box a → HasPoint box b
    → side_by p (record { from = a; to = b }) ≡ Outside
one_clear box p a b (inl below) ha hb =
    let u = <ℤ-≤ℤ_trans below ha.bottom in let v = <ℤ-≤ℤ_trans below hb.bottom in
    clear_segment p (record { from = a; to = b }) (off_y p a b (not_between_low a.y b.y p.y u v))
    (rw (below_is p.y a.y u, below_is p.y b.y v) refl)
one_clear box p a b (inr (inl above)) ha hb =
    let u = above_high a.y box.y1 p.y ha.top above in let v = above_high b.y box.y1 p.y hb.top above in
    clear_segment p (record { from = a; to = b }) (off_y p a b (not_between_high a.y b.y p.y u v))
    (rw (not_below p.y a.y (≤_of_< a.y p.y u), not_below p.y b.y (≤_of_< b.y p.y v)) refl)
one_clear box p a b (inr (inr right)) ha hb =
    let u = above_high a.x box.x1 p.x ha.right right in let v = above_high b.x box.x1 p.x hb.right right in
    clear_segment p (record { from = a; to = b }) (off_x p a b (not_between_high a.x b.x p.x u v))
    (crosses_none p a b u v (≤_or_> a.y p.y) (≤_or_> b.y p.y))

pub one_behind : (box : Rect) (p a b : Pt) → p.x <ℤ box.x0 → HasPoint box a → HasPoint box b
    → side_by p (record { from = a; to = b }) ≡ side_by_ends (is_above p a) (is_above p b)
one_behind box p a b left ha hb =
    let u = <ℤ-≤ℤ_trans left ha.left in let v = <ℤ-≤ℤ_trans left hb.left in
    segment_by_cross p (record { from = a; to = b }) (off_x p a b (not_between_low a.x b.x p.x u v))
    ∙ crosses_by_ends p a b u v (≤_or_> a.y p.y) (≤_or_> b.y p.y)

-- ---- segments one after another
pub ends_same : (x : Bool) → side_by_ends x x ≡ Outside
ends_same true = refl
ends_same false = refl

pub ends_joined : (x y z : Bool) → both (side_by_ends x y) (side_by_ends y z) ≡ side_by_ends x z
ends_joined true true true = refl
ends_joined true false true = refl
ends_joined false true true = refl
ends_joined false false true = refl
ends_joined x y z = refl

all_clear : (box : Rect) (p a : Pt) (ps : List Pt) → IsClear box p → HasPoint box a → HasAll box ps
    → side_by_all p (chain a ps) ≡ Outside
all_clear box p a [] clear ha hs = refl
all_clear box p a (b ∷ ps) clear ha hs =
    ap (λ (s : Side). both s (side_by_all p (chain b ps))) (one_clear box p a b clear ha hs.0)
    ∙ all_clear box p b ps clear hs.0 hs.1

all_behind : (box : Rect) (p a : Pt) (ps : List Pt) → p.x <ℤ box.x0 → HasPoint box a → HasAll box ps
    → side_by_all p (chain a ps) ≡ side_by_ends (is_above p a) (is_above p (last_of a ps))
all_behind box p a [] left ha hs = sym (ends_same (is_above p a))
all_behind box p a (b ∷ ps) left ha hs = grind (arith, one_behind, ends_joined, (all_behind box p b ps left hs.0 hs.1))

-- the side by a box
pub clear_side : (box : Rect) (p a z : Pt) → IsClear box p → IsSideInBox box a z p Outside
clear_side box p a z clear = λ ps ha hs last. all_clear box p a ps clear ha hs

pub behind_side : (box : Rect) (p a z : Pt) (side : Side) → p.x <ℤ box.x0
    → side ≡ side_by_ends (is_above p a) (is_above p z) → IsSideInBox box a z p side
behind_side box p a z side left e = grind (arith, all_behind)

-- ---- a ring in a box that does not have the point
last_has : (box : Rect) (a : Pt) (ps : List Pt) → HasPoint box a → HasAll box ps → HasPoint box (last_of a ps)
last_has box a [] ha hs = ha
last_has box a (b ∷ ps) ha hs = last_has box b ps hs.0 hs.1

-- where a number is from another on
abbrev IsFromOrNot : ℤ → ℤ → Type 0
IsFromOrNot m z = (m ≤ℤ z) ⊎ (z <ℤ m)

where_outside : (box : Rect) (p : Pt) → (HasPoint box p → ⊥) → IsFromOrNot box.x0 p.x → IsFromOrNot p.x box.x1
    → IsFromOrNot box.y0 p.y → IsFromOrNot p.y box.y1 → (p.x <ℤ box.x0) ⊎ IsClear box p
where_outside box p off (inr left) b c d = inl left
where_outside box p off a (inr right) c d = inr (inr (inr right))
where_outside box p off a b (inr below) d = inr (inl below)
where_outside box p off a b c (inr above) = inr (inr (inl above))
where_outside box p off (inl a) (inl b) (inl c) (inl d) =
    absurd (off (record { left = a; right = b; bottom = c; top = d }))

outside_by : (box : Rect) (p z : Pt) (ps : List Pt) → HasPoint box z → HasAll box ps → last_of z ps ≡ z
    → (p.x <ℤ box.x0) ⊎ IsClear box p → side_by_all p (chain z ps) ≡ Outside
outside_by box p z ps hz hs e (inl left) = grind (arith, all_behind, ends_same)
outside_by box p z ps hz hs e (inr clear) = all_clear box p z ps clear hz hs

pub outside_ring : (box : Rect) (ring : List Pt) (p : Pt) → HasAll box ring → (HasPoint box p → ⊥) → side_of ring p ≡ Outside
outside_ring box [] p hs off = refl
outside_ring box (a ∷ ps) p hs off =
    sym (side_by_all_is p (segments_of (a ∷ ps)))
    ∙ outside_by box p (last_of a ps) (a ∷ ps) (last_has box a ps hs.0 hs.1) hs refl
    (where_outside box p off (≤_or_> box.x0 p.x) (≤_or_> p.x box.x1) (≤_or_> box.y0 p.y) (≤_or_> p.y box.y1))
