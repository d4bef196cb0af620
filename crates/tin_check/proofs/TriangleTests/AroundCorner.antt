-- Two triangles with their first corner in common. Turns at that corner show that each lies on a side of a line through
-- it, and that they have no ray in common.
use Rattle.std.proofs.Common.{◌≡◌, inl, inr, ℤ, pos, neg_ℤ, ◌+ℤ◌, ◌-ℤ◌, ◌*ℤ◌, ◌≤ℤ◌, ◌<ℤ◌, [], ◌∷◌, arith}
use Rattle.std.proofs.lemmas.Int.{ints}
use Rattle.integer_ring.proofs.Ring.{num, neg, ◌⊕◌, ◌⊖◌, ◌⊗◌}
use Rattle.integer_ring.proofs.Order.{≤_antisymm}
use Rattle.integer_ring.proofs.Signs.{mul-positive}
use Rattle.integer_ring.proofs.Claims.{◌≐◌, ◌≼◌, ◌≺◌, gap, over, eqn, ◌⊞◌, ◌⊠◌, ◌because◌, ◌otherwise◌, ◌⇒◌, follows}
use Rattle.plane_base.specs.Plane.{Point, turn_of, IsMix}
use Rattle.plane_base.proofs.MixLaws.Points.{turn, follows_at, solve_at}
use Rattle.plane_base.proofs.TriangleLaws.InTriangle.{turns_of_mix}
use Rattle.tin_check.specs.CommonPoints.{MeetOnlyIn}
use Rattle.tin_check.specs.InsideSeparations.{IsParted}
use Rattle.tin_check.proofs.TriangleTests.AtCorner.{corner_of}

-- ---- over whole numbers: m and n are the weights of a direction, which is between no two of the four
second_none : (m n v y : ℤ) → pos 0 ≤ℤ m → pos 0 ≤ℤ n → pos 0 ≤ℤ v → pos 0 <ℤ y → (m *ℤ v +ℤ n *ℤ y) ≤ℤ pos 0
    → n ≤ℤ pos 0
second_none =
    follows 4 (λ m n v y. num (pos 0) ≼ m ⇒ num (pos 0) ≼ n ⇒ num (pos 0) ≼ v ⇒ num (pos 0) ≺ y ⇒ m ⊗ v ⊕ n
    ⊗ y ≼ num (pos 0) ⇒ n ≼ num (pos 0)
    otherwise gap 4 ⊞ gap 0 ⊠ gap 2 ⊞ gap 5 ⊠ over 3 ⊞ over 5) tt

first_alone : (m n v y : ℤ) → pos 0 ≤ℤ m → pos 0 ≤ℤ v → n ≡ pos 0 → (m *ℤ v +ℤ n *ℤ y) ≤ℤ pos 0 → (m *ℤ v) ≤ℤ pos 0
first_alone =
    follows 4 (λ m n v y. num (pos 0) ≼ m ⇒ num (pos 0) ≼ v ⇒ n ≐ num (pos 0) ⇒ m ⊗ v ⊕ n ⊗ y ≼ num (pos 0) ⇒ m
    ⊗ v ≼ num (pos 0)
    because gap 3 ⊞ eqn 2 (neg y)) tt

not_negative : (m v : ℤ) → pos 0 ≤ℤ m → pos 0 ≤ℤ v → pos 0 ≤ℤ (m *ℤ v)
not_negative = follows 2 (λ m v. num (pos 0) ≼ m ⇒ num (pos 0) ≼ v ⇒ num (pos 0) ≼ m ⊗ v because gap 0 ⊠ gap 1) tt

first_none : (m n v y x z d : ℤ) → m *ℤ v ≡ pos 0 → n ≡ pos 0 → pos 0 ≤ℤ (m *ℤ x +ℤ n *ℤ z) → pos 0 <ℤ y → pos 0 <ℤ d
    → d ≡ v *ℤ z -ℤ x *ℤ y → m ≤ℤ pos 0
first_none =
    follows 7 (λ m n v y x z d.
    m ⊗ v ≐ num (pos 0) ⇒ n ≐ num (pos 0) ⇒ num (pos 0) ≼ m ⊗ x ⊕ n ⊗ z ⇒ num (pos 0) ≺ y ⇒ num (pos 0) ≺ d ⇒ d ≐ v ⊗ z
    ⊖ x ⊗ y ⇒ m ≼ num (pos 0)
    otherwise gap 6 ⊠ over 4 ⊞ over 6 ⊞ eqn 5 m ⊞ gap 2 ⊠ gap 3 ⊞ eqn 0 z ⊞ eqn 1 (z ⊗ y)) tt

both_none : (m n : ℤ) → m ≤ℤ pos 0 → n ≤ℤ pos 0 → (n +ℤ m) ≤ℤ pos 0
both_none m n h k = omega (arith, ints)

-- no direction is on the one side of v and y and on the other of x and z, where y is left, v not right
none_between : (m n v y x z d : ℤ) → pos 0 ≤ℤ m → pos 0 ≤ℤ n → pos 0 ≤ℤ v → pos 0 <ℤ y → pos 0 <ℤ d
    → d ≡ v *ℤ z -ℤ x *ℤ y → (m *ℤ v +ℤ n *ℤ y) ≤ℤ pos 0 → pos 0 ≤ℤ (m *ℤ x +ℤ n *ℤ z) → (m ≤ℤ pos 0) × (n ≤ℤ pos 0)
none_between m n v y x z d hm hn hv hy hd e h k =
    let below = second_none m n v y hm hn hv hy h in
    let none = ≤_antisymm n (pos 0) below hn in
    let alone = ≤_antisymm (m *ℤ v) (pos 0) (first_alone m n v y hm hv none h) (not_negative m v hm hv) in
    (first_none m n v y x z d alone none k hy hd e, below)

-- ---- the turns of a common point x, with the sides at the corner o of both triangles
-- Grassmann and Plücker's relation
relation : (o p q r s : Point) → turn_of o p q *ℤ turn_of o r s ≡ turn_of o p r *ℤ turn_of o q s -ℤ turn_of o p s
    *ℤ turn_of o q r
relation = solve_at 5 0 (λ o p q r s. turn o p q ⊗ turn o r s ≐ turn o p r ⊗ turn o q s ⊖ turn o p s ⊗ turn o q r) tt

-- that relation at the other signs and in the other order
relation_second : (o p q r s : Point) → turn_of o p q *ℤ turn_of o r s ≡ turn_of o q s *ℤ turn_of o p r -ℤ turn_of o p s
    *ℤ turn_of o q r
relation_second = solve_at 5 0 (λ o p q r s. turn o p q ⊗ turn o r s ≐ turn o q s ⊗ turn o p r ⊖ turn o p s
    ⊗ turn o q r) tt

relation_third : (o p q r s : Point) → turn_of o p q *ℤ turn_of o r s ≡ neg_ℤ (turn_of o q s) *ℤ neg_ℤ (turn_of o p r)
    -ℤ neg_ℤ (turn_of o q r) *ℤ neg_ℤ (turn_of o p s)
relation_third = solve_at 5 0 (λ o p q r s. turn o p q ⊗ turn o r s ≐ neg (turn o q s) ⊗ neg (turn o p r)
    ⊖ neg (turn o q r) ⊗ neg (turn o p s)) tt

relation_fourth : (o p q r s : Point) → turn_of o p q *ℤ turn_of o r s ≡ neg_ℤ (turn_of o p r) *ℤ neg_ℤ (turn_of o q s)
    -ℤ neg_ℤ (turn_of o q r) *ℤ neg_ℤ (turn_of o p s)
relation_fourth = solve_at 5 0 (λ o p q r s. turn o p q ⊗ turn o r s ≐ neg (turn o p r) ⊗ neg (turn o q s)
    ⊖ neg (turn o q r) ⊗ neg (turn o p s)) tt

-- x is no more to the right of or, and no more to the left of os
right_of_r : (o p q r x : Point) → pos 0 <ℤ turn_of o p q → pos 0 ≤ℤ turn_of o r x
    → (turn_of q o x *ℤ turn_of o p r +ℤ turn_of o p x *ℤ turn_of o q r) ≤ℤ pos 0
right_of_r = follows_at 5 0 (λ o p q r x. num (pos 0) ≺ turn o p q ⇒ num (pos 0) ≼ turn o r x ⇒ turn q o x ⊗ turn o p r
    ⊕ turn o p x ⊗ turn o q r ≼ num (pos 0) because gap 0 ⊠ gap 1) tt

left_of_s : (o p q s x : Point) → pos 0 <ℤ turn_of o p q → pos 0 ≤ℤ turn_of s o x
    → pos 0 ≤ℤ (turn_of q o x *ℤ turn_of o p s +ℤ turn_of o p x *ℤ turn_of o q s)
left_of_s = follows_at 5 0 (λ o p q s x. num (pos 0) ≺ turn o p q ⇒ num (pos 0) ≼ turn s o x ⇒ num (pos 0) ≼ turn q o x
    ⊗ turn o p s ⊕ turn o p x ⊗ turn o q s because gap 0 ⊠ gap 1) tt

left_of_q : (o q r s x : Point) → pos 0 <ℤ turn_of o r s → pos 0 ≤ℤ turn_of q o x
    → (turn_of o r x *ℤ turn_of o q s +ℤ turn_of s o x *ℤ turn_of o q r) ≤ℤ pos 0
left_of_q = follows_at 5 0 (λ o q r s x. num (pos 0) ≺ turn o r s ⇒ num (pos 0) ≼ turn q o x ⇒ turn o r x ⊗ turn o q s
    ⊕ turn s o x ⊗ turn o q r ≼ num (pos 0) because gap 0 ⊠ gap 1) tt

right_of_p : (o p r s x : Point) → pos 0 <ℤ turn_of o r s → pos 0 ≤ℤ turn_of o p x
    → pos 0 ≤ℤ (turn_of o r x *ℤ turn_of o p s +ℤ turn_of s o x *ℤ turn_of o p r)
right_of_p = follows_at 5 0 (λ o p r s x. num (pos 0) ≺ turn o r s ⇒ num (pos 0) ≼ turn o p x ⇒ num (pos 0) ≼ turn o r x
    ⊗ turn o p s ⊕ turn s o x ⊗ turn o p r because gap 0 ⊠ gap 1) tt

-- with both signs changed, the second weight first
turned_at_most : (m n v y : ℤ) → pos 0 ≤ℤ (m *ℤ v +ℤ n *ℤ y) → (n *ℤ neg_ℤ y +ℤ m *ℤ neg_ℤ v) ≤ℤ pos 0
turned_at_most = follows 4 (λ m n v y. num (pos 0) ≼ m ⊗ v ⊕ n ⊗ y ⇒ n ⊗ neg y ⊕ m ⊗ neg v ≼ num (pos 0) because gap 0)
    tt

turned_at_least : (m n v y : ℤ) → (m *ℤ v +ℤ n *ℤ y) ≤ℤ pos 0 → pos 0 ≤ℤ (n *ℤ neg_ℤ y +ℤ m *ℤ neg_ℤ v)
turned_at_least = follows 4 (λ m n v y. m ⊗ v ⊕ n ⊗ y ≼ num (pos 0) ⇒ num (pos 0) ≼ n ⊗ neg y ⊕ m ⊗ neg v because gap 0)
    tt

neg_positive : (z : ℤ) → z <ℤ pos 0 → pos 0 <ℤ neg_ℤ z
neg_positive z h = omega (arith, ints)

neg_nonneg : (z : ℤ) → z ≤ℤ pos 0 → pos 0 ≤ℤ neg_ℤ z
neg_nonneg z h = omega (arith, ints)

pub meet_by_turns : (o p q r s : Point) → pos 0 <ℤ o.w → pos 0 <ℤ p.w → pos 0 <ℤ q.w → pos 0 <ℤ r.w → pos 0 <ℤ s.w
    → pos 0 <ℤ turn_of o p q → pos 0 <ℤ turn_of o r s
    → IsParted (turn_of o p r) (turn_of o p s) (turn_of o q r) (turn_of o q s)
    → MeetOnlyIn (o ∷ p ∷ q ∷ []) (o ∷ r ∷ s ∷ []) (o ∷ [])
meet_by_turns o p q r s ho hp hq hr hs d d' parted x hx in_t in_u =
    let t = turns_of_mix o p q x ho hp hq hx d in_t in
    let u = turns_of_mix o r s x ho hr hs hx d' in_u in
    go t u parted
  where
    b : ℤ
    b = turn_of q o x

    c : ℤ
    c = turn_of o p x

    e : ℤ
    e = turn_of s o x

    f : ℤ
    f = turn_of o r x

    both : pos 0 <ℤ (turn_of o p q *ℤ turn_of o r s)
    both = mul-positive (turn_of o p q) (turn_of o r s) d d'

    go : (pos 0 ≤ℤ turn_of o p x) × (pos 0 ≤ℤ turn_of p q x) × (pos 0 ≤ℤ turn_of q o x)
        → (pos 0 ≤ℤ turn_of o r x) × (pos 0 ≤ℤ turn_of r s x) × (pos 0 ≤ℤ turn_of s o x)
        → IsParted (turn_of o p r) (turn_of o p s) (turn_of o q r) (turn_of o q s) → IsMix x (o ∷ [])
    go t u (inl (left, inr more)) =
        let z = none_between b c (turn_of o p r) (turn_of o q r) (turn_of o p s) (turn_of o q s)
        (turn_of o p q *ℤ turn_of o r s) t.2 t.0 more left both (relation o p q r s) (right_of_r o p q r x d u.0)
        (left_of_s o p q s x d u.2) in
        corner_of o p q x d t.2 t.0 (both_none c b z.1 z.0)
    go t u (inl (left, inl more)) =
        let z = none_between f e (turn_of o q s) (turn_of o q r) (turn_of o p s) (turn_of o p r)
        (turn_of o p q *ℤ turn_of o r s) u.0 u.2 more left both (relation_second o p q r s)
        (left_of_q o q r s x d' t.2) (right_of_p o p r s x d' t.0) in
        corner_of o r s x d' u.2 u.0 (both_none f e z.0 z.1)
    go t u (inr (right, inr more)) =
        let z = none_between c b (neg_ℤ (turn_of o q s)) (neg_ℤ (turn_of o p s)) (neg_ℤ (turn_of o q r))
        (neg_ℤ (turn_of o p r)) (turn_of o p q *ℤ turn_of o r s) t.0 t.2 (neg_nonneg (turn_of o q s) more)
        (neg_positive (turn_of o p s) right) both (relation_third o p q r s)
        (turned_at_most b c (turn_of o p s) (turn_of o q s) (left_of_s o p q s x d u.2))
        (turned_at_least b c (turn_of o p r) (turn_of o q r) (right_of_r o p q r x d u.0)) in
        corner_of o p q x d t.2 t.0 (both_none c b z.0 z.1)
    go t u (inr (right, inl more)) =
        let z = none_between e f (neg_ℤ (turn_of o p r)) (neg_ℤ (turn_of o p s)) (neg_ℤ (turn_of o q r))
        (neg_ℤ (turn_of o q s)) (turn_of o p q *ℤ turn_of o r s) u.2 u.0 (neg_nonneg (turn_of o p r) more)
        (neg_positive (turn_of o p s) right) both (relation_fourth o p q r s)
        (turned_at_most f e (turn_of o p s) (turn_of o p r) (right_of_p o p r s x d' t.0))
        (turned_at_least f e (turn_of o q s) (turn_of o q r) (left_of_q o q r s x d' t.2)) in
        corner_of o r s x d' u.2 u.0 (both_none f e z.1 z.0)
