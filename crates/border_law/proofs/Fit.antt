-- A bordered triangulation is sound: by where a common point of two triangles is in each of them.
use Rattle.std.proofs.Common.{◌≡◌, ◌≢◌, ◌⊎◌, inl, inr, ℕ, ◌<◌, ◌≤◌, ℤ, pos, ◌+ℤ◌, ◌*ℤ◌, ◌≤ℤ◌, ◌<ℤ◌, neg_ℤ, negsuc}
use Rattle.std.proofs.Common.{List, [], ◌∷◌, length, map, refl, sym, ◌∙◌, subst, arith, true}
use Rattle.std.proofs.lemmas.Int.{ints}
use Rattle.std.proofs.lemmas.Bool.Decides.{eqb_tells}
use Rattle.integer_ring.proofs.Ring.{num, neg, ◌⊕◌, ◌⊗◌}
use Rattle.integer_ring.proofs.Order.{≤_of_<}
use Rattle.integer_ring.proofs.Claims.{◌≐◌, ◌≺◌, gap, over, eqn, ◌⊞◌, ◌⊠◌, ◌otherwise◌, ◌⇒◌, follows}
use Rattle.plain_laws.proofs.Order.{opposite}
use Rattle.plane_base.specs.Plane.{Point, turn_of, IsMix}
use Rattle.plane_base.proofs.MixLaws.Points.{turn, solve_at}
use Rattle.plane_base.proofs.MixLaws.Turns.{turn_swap, turn_twice, turn_cycle}
use Rattle.plane_base.proofs.TriangleLaws.CommonPoints.{mix_of_side}
use Rattle.tin_base.specs.declared.frames.Frame.{Frame}
use Rattle.tin_base.specs.Triangulation.{Triangulation, place, corner_at, numbers_of}
use Rattle.tin_base.specs.Soundness.{has, common, common_of}
use Rattle.tin_base.proofs.FrameImages.Weights.{HasAll, common_in_first, common_in_second}
use Rattle.tin_base.proofs.FrameImages.Alike.{alike_of, alike_in, alike_more}
use Rattle.border_law.specs.Borders.{IsFrom, Mates, IsBordered, BorderedTrianglesFit, BorderedIsSound}
use Rattle.border_law.proofs.Signs.{nonneg_zero, not_zero}
use Rattle.border_law.proofs.Rows.{next_from, Net, MeetsAt, Partner, partner_or, above, turned, row_of, left_of_mix}
use Rattle.border_law.proofs.Inner.{Large, IsInner, moved, near, near_inner, both, not_both_inner}
use Rattle.border_law.proofs.PointKinds.{Kind, inside, on_side, at_corner, kind_of, Middle, middle, into, kept_left}
use Rattle.border_law.proofs.PointKinds.{moved-w, Beside, beside}
use Rattle.border_law.proofs.Members.{first_has, one_from, one_of_two, all_common, all_through}
use Rattle.border_law.proofs.Round.{sum_of, one_place_one_corner, second_mix}

-- a point is a mix of corners that both triangles have
record Shared (rows : ℕ → List ℕ) (at : ℕ → Point) (t u : ℕ) (p : Point) : Type 0 where
  numbers : List ℕ
  in_t : HasAll (rows t) numbers
  in_u : HasAll (rows u) numbers
  mix : IsMix p (map at numbers)

shared_back : {rows : ℕ → List ℕ} {at : ℕ → Point} {t u : ℕ} {p : Point} → Shared rows at u t p → Shared rows at t u p
shared_back s = record { numbers = s.numbers; in_t = s.in_u; in_u = s.in_t; mix = s.mix }

one_positive : pos 0 <ℤ pos 1
one_positive = omega (arith, ints)

same_number : (m : ℕ) → m ≤ m
same_number m = omega arith

-- ---- a point inside the one triangle
not_inside : {rows : ℕ → List ℕ} {at : ℕ → Point} {n : ℕ} → Net rows at n → (t u a b c : ℕ) (p : Point) → t ≢ u
    → t < n → u < n → pos 0 <ℤ p.w → IsFrom (rows t) a b c → IsInner p (at a) (at b) (at c)
    → IsMix p (map at (rows u)) → ⊥
not_inside {rows} {at} {n} net t u a b c p differ ht hu hp from inner in_u =
    let r = row_of at (rows u) (net.positive u hu) in
    let m = middle (at r.i) (at r.j) (at r.k) (pos 1) (pos 1) (pos 1) (h r.i) (h r.j) (h r.k)
    (turned net u r.i r.j r.k hu r.is) one_positive one_positive one_positive in
    let close = near_inner p m.point (at a) (at b) (at c) inner in
    not_both_inner net t u a b c r.i r.j r.k differ ht hu from r.is (moved close.0 p m.point)
    (moved-w close.0 p m.point hp m.w) (close.1 close.0 (same_number close.0))
    (into p m (left_of_mix net u r.i r.j r.k hu r.is p hp in_u) close.0)
  where
    h : (k : ℕ) → pos 0 <ℤ (at k).w
    h = above at net.one

-- ---- a point on a side of the one triangle
-- the turns at the point with the other two sides of the triangle on the other side
across_first : (a b c g p : Point) → turn_of a b c *ℤ turn_of a g p ≡ turn_of c a p *ℤ turn_of b a g
    +ℤ turn_of a b p *ℤ turn_of a g c
across_first = solve_at 5 0 (λ a b c g p. turn a b c ⊗ turn a g p ≐ turn c a p ⊗ turn b a g ⊕ turn a b p ⊗ turn a g c) tt

across_last : (a b c g p : Point) → turn_of a b c *ℤ turn_of g b p ≡ turn_of b c p *ℤ turn_of b a g
    +ℤ turn_of a b p *ℤ turn_of g b c
across_last = solve_at 5 0 (λ a b c g p. turn a b c ⊗ turn g b p ≐ turn b c p ⊗ turn b a g ⊕ turn a b p ⊗ turn g b c) tt

across : (d x s e z y : ℤ) → pos 0 <ℤ d → pos 0 <ℤ s → pos 0 <ℤ e → z ≡ pos 0 → d *ℤ x ≡ s *ℤ e +ℤ z *ℤ y → pos 0 <ℤ x
across = follows 6 (λ d x s e z y. num (pos 0) ≺ d ⇒ num (pos 0) ≺ s ⇒ num (pos 0) ≺ e ⇒ z ≐ num (pos 0)
    ⇒ d ⊗ x ≐ s ⊗ e ⊕ z ⊗ y ⇒ num (pos 0) ≺ x
    otherwise gap 0 ⊠ gap 5 ⊞ over 1 ⊠ gap 2 ⊞ over 2 ⊞ eqn 4 (num (negsuc 0)) ⊞ eqn 3 (neg y)) tt

opposite_zero : (y z : ℤ) → y ≡ neg_ℤ z → y ≡ pos 0 → pos 0 ≤ℤ z
opposite_zero y z e h = omega (arith, ints)

record OnSide (rows : ℕ → List ℕ) (at : ℕ → Point) (n t u a b c : ℕ) (p : Point) : Type 0 where
  differ : t ≢ u
  t_below : t < n
  u_below : u < n
  w : pos 0 <ℤ p.w
  from : IsFrom (rows t) a b c
  on : turn_of (at a) (at b) p ≡ pos 0
  second : pos 0 <ℤ turn_of (at b) (at c) p
  third : pos 0 <ℤ turn_of (at c) (at a) p
  inside : IsMix p (map at (rows u))

mix_on_side : {rows : ℕ → List ℕ} {at : ℕ → Point} {n t u a b c : ℕ} {p : Point} → Net rows at n
    → OnSide rows at n t u a b c p → IsMix p (at a ∷ at b ∷ [])
mix_on_side {rows} {at} {n} {t} {u} {a} {b} {c} {p} net s =
    mix_of_side (at a) (at b) (at c) p (above at net.one a) (above at net.one b) s.w
    (turned net t a b c s.t_below s.from) s.on
    (≤_of_< (pos 0) (turn_of (at b) (at c) p) s.second) (≤_of_< (pos 0) (turn_of (at c) (at a) p) s.third)

two_in : (ns : List ℕ) (a b c : ℕ) → IsFrom ns a b c → HasAll ns (a ∷ b ∷ [])
two_in ns a b c from = (first_has ns a b c from, (first_has ns b c a (next_from ns a b c from), tt))

two_through : (ns : List ℕ) (a b c k : ℕ) → IsFrom ns a b c → has (a ∷ b ∷ []) k ≡ true → has ns k ≡ true
two_through ns a b c k from h = grind (arith, one_of_two, first_has, next_from)

-- the triangle on the other side is the only other that has the point
only_partner : {rows : ℕ → List ℕ} {at : ℕ → Point} {n t u a b c : ℕ} {p : Point} → (net : Net rows at n)
    → OnSide rows at n t u a b c p → (q : Partner rows net.mate n t a b) → q.number ≢ u → ⊥
only_partner {rows} {at} {n} {t} {u} {a} {b} {c} {p} net s q other = go off.side
  where
    h : (k : ℕ) → pos 0 <ℤ (at k).w
    h = above at net.one

    i : ℕ
    i = (row_of at (rows u) (net.positive u s.u_below)).i

    j : ℕ
    j = (row_of at (rows u) (net.positive u s.u_below)).j

    k : ℕ
    k = (row_of at (rows u) (net.positive u s.u_below)).k

    row : IsFrom (rows u) i j k
    row = (row_of at (rows u) (net.positive u s.u_below)).is

    turns : pos 0 <ℤ turn_of (at a) (at b) (at c)
    turns = turned net t a b c s.t_below s.from

    back : pos 0 <ℤ turn_of (at b) (at a) (at q.third)
    back = turned net q.number b a q.third q.below q.from

    off : Beside (at a) (at b) (at i) (at j) (at k)
    off = beside (at a) (at b) (at c) (at i) (at j) (at k) (h i) (h j) (h k) turns
        (turned net u i j k s.u_below row)

    m : Middle (at i) (at j) (at k)
    m = off.middle

    in_u : (many : ℕ) → IsInner (moved many p m.point) (at i) (at j) (at k)
    in_u many = into p m (left_of_mix net u i j k s.u_below row p s.w s.inside) many

    left : pos 0 <ℤ turn_of (at a) (at b) m.point → ⊥
    left side =
        let close = both (near (at b) (at c) p m.point s.second) (near (at c) (at a) p m.point s.third) in
        let there = close.1 close.0 (same_number close.0) in
        not_both_inner net t u a b c i j k s.differ s.t_below s.u_below s.from row (moved close.0 p m.point)
        (moved-w close.0 p m.point s.w m.w) (grind (arith, kept_left, nonneg_zero)) (in_u close.0)

    right : turn_of (at a) (at b) m.point <ℤ pos 0 → ⊥
    right side =
        let first = across (turn_of (at a) (at b) (at c)) (turn_of (at a) (at q.third) p) (turn_of (at c) (at a) p)
        (turn_of (at b) (at a) (at q.third)) (turn_of (at a) (at b) p) (turn_of (at a) (at q.third) (at c)) turns
        s.third back s.on (across_first (at a) (at b) (at c) (at q.third) p) in
        let last = across (turn_of (at a) (at b) (at c)) (turn_of (at q.third) (at b) p) (turn_of (at b) (at c) p)
        (turn_of (at b) (at a) (at q.third)) (turn_of (at a) (at b) p) (turn_of (at q.third) (at b) (at c)) turns
        s.second back s.on (across_last (at a) (at b) (at c) (at q.third) p) in
        let close = both (near (at a) (at q.third) p m.point first) (near (at q.third) (at b) p m.point last) in
        let there = close.1 close.0 (same_number close.0) in
        not_both_inner net q.number u b a q.third i j k other q.below s.u_below q.from row (moved close.0 p m.point)
        (moved-w close.0 p m.point s.w m.w)
        (grind (arith, kept_left, opposite_zero, turn_swap, opposite)) (in_u close.0)

    go : (pos 0 <ℤ turn_of (at a) (at b) m.point) ⊎ (turn_of (at a) (at b) m.point <ℤ pos 0) → ⊥
    go (inl side) = left side
    go (inr side) = right side

shared_side : {rows : ℕ → List ℕ} {at : ℕ → Point} {n t u a b c : ℕ} {p : Point} → Net rows at n
    → OnSide rows at n t u a b c p → Shared rows at t u p
shared_side {rows} {at} {n} {t} {u} {a} {b} {c} {p} net s =
    go (partner_or net t a b s.t_below (c, s.from))
  where
    go : Partner rows net.mate n t a b ⊎ ((v : ℕ) → t ≢ v → v < n → MeetsAt rows at a b v) → Shared rows at t u p
    go (inr border) =
        let met = border u s.differ s.u_below in
        record {
          numbers = common (a ∷ b ∷ []) (rows u);
          in_t = all_through (a ∷ b ∷ []) (rows t) (common (a ∷ b ∷ []) (rows u))
              (λ k h. two_through (rows t) a b c k s.from h) (common_in_first (a ∷ b ∷ []) (rows u));
          in_u = common_in_second (a ∷ b ∷ []) (rows u);
          mix = met.1 p s.w (mix_on_side net s) s.inside;
        }
    go (inl q) = elim (eqb_tells q.number u) [
      | inl same ↦ joined (subst (λ (k : ℕ). IsFrom (rows k) b a q.third) same.1 q.from)
      | inr other ↦ absurd (only_partner net s q other.1)
    ]
      where
        joined : IsFrom (rows u) b a q.third → Shared rows at t u p
        joined from =
            let there = two_in (rows u) b a q.third from in
            record {
              numbers = a ∷ b ∷ [];
              in_t = two_in (rows t) a b c s.from;
              in_u = (there.1.0, (there.0, tt));
              mix = mix_on_side net s;
            }

-- ---- each common point
shared : {rows : ℕ → List ℕ} {at : ℕ → Point} {n : ℕ} → Net rows at n → (t u : ℕ) (p : Point) → t ≢ u → t < n → u < n
    → pos 0 <ℤ p.w → IsMix p (map at (rows t)) → IsMix p (map at (rows u)) → Shared rows at t u p
shared {rows} {at} {n} net t u p differ ht hu hp in_t in_u = go (kind_of net t ht p hp in_t) (kind_of net u hu p hp in_u)
  where
    back : u ≢ t
    back e = differ (sym e)

    go : Kind rows at t p → Kind rows at u p → Shared rows at t u p
    go (inside a b c from inner) kind = absurd (not_inside net t u a b c p differ ht hu hp from inner in_u)
    go kind (inside d e f from inner) = absurd (not_inside net u t d e f p back hu ht hp from inner in_t)
    go (on_side a b c from on second third) kind = shared_side net (record {
      differ = differ;
      t_below = ht;
      u_below = hu;
      w = hp;
      from = from;
      on = on;
      second = second;
      third = third;
      inside = in_u;
    })
    go kind (on_side d e f from on second third) = shared_back (shared_side net (record {
      differ = back;
      t_below = hu;
      u_below = ht;
      w = hp;
      from = from;
      on = on;
      second = second;
      third = third;
      inside = in_t;
    }))
    go (at_corner a b c from here) (at_corner d e f other there) = elim (eqb_tells a d) [
      | inl same ↦ record {
        numbers = a ∷ a ∷ [];
        in_t = (first_has (rows t) a b c from, (first_has (rows t) a b c from, tt));
        in_u = (of_u same.1, (of_u same.1, tt));
        mix = second_mix p (at a) (at a) here;
      }
      | inr apart ↦ absurd (one_place_one_corner net t a b c u d e f p hp ht hu from other in_t in_u here there apart.1)
    ]
      where
        of_u : a ≡ d → has (rows u) a ≡ true
        of_u same = subst (λ (k : ℕ). has (rows u) k ≡ true) (sym same) (first_has (rows u) d e f other)

-- ---- no three corners in common
few : (a b c : ℕ) (us : List ℕ) → (has us a ≡ true → has us b ≡ true → has us c ≡ true → ⊥)
    → length (common (a ∷ b ∷ c ∷ []) us) ≤ 2
few a b c us not_all = grind arith

turned_over : (y z : ℤ) → y ≡ neg_ℤ z → pos 0 <ℤ y → pos 0 <ℤ z → ⊥
turned_over y z e h k = absurd (omega (arith, ints))

-- two triangles with a side in one direction overlap
same_side : {rows : ℕ → List ℕ} {at : ℕ → Point} {n : ℕ} → Net rows at n → (t u a b c d : ℕ) → t ≢ u → t < n → u < n
    → IsFrom (rows t) a b c → IsFrom (rows u) a b d → ⊥
same_side {rows} {at} {n} net t u a b c d differ ht hu from other =
    not_both_inner net t u a b c a b d differ ht hu from other point
    (moved-w many half (at c) (add (at a).w (at b).w (h a) (h b)) (h c))
    (record { first = over_c; second = there.0.0; third = there.0.1 })
    (record { first = over_c; second = there.1.0; third = there.1.1 })
  where
    h : (k : ℕ) → pos 0 <ℤ (at k).w
    h = above at net.one

    add : (v w : ℤ) → pos 0 <ℤ v → pos 0 <ℤ w → pos 0 <ℤ (v +ℤ w)
    add v w h k = omega (arith, ints)

    turns : pos 0 <ℤ turn_of (at a) (at b) (at c)
    turns = turned net t a b c ht from

    half : Point
    half = sum_of (at a) (at b)

    on : (x y : Point) → turn_of x y (sum_of x y) ≡ pos 0
    on = solve_at 2 0 (λ x y. turn x y (record { x = x.x ⊕ y.x; y = x.y ⊕ y.y; w = x.w ⊕ y.w }) ≐ num (pos 0)) tt

    after : (x y z : Point) → turn_of x y z ≡ turn_of y z (sum_of x y)
    after = solve_at 3 0 (λ x y z. turn x y z ≐ turn y z (record { x = x.x ⊕ y.x; y = x.y ⊕ y.y; w = x.w ⊕ y.w })) tt

    before : (x y z : Point) → turn_of x y z ≡ turn_of z x (sum_of x y)
    before = solve_at 3 0 (λ x y z. turn x y z ≐ turn z x (record { x = x.x ⊕ y.x; y = x.y ⊕ y.y; w = x.w ⊕ y.w })) tt

    positive : (y z : ℤ) → y ≡ z → pos 0 <ℤ y → pos 0 <ℤ z
    positive y z e k = subst (λ (m : ℤ). pos 0 <ℤ m) e k

    sides : (k : ℕ) → pos 0 <ℤ turn_of (at a) (at b) (at k)
        → Large (λ m. (pos 0 <ℤ turn_of (at b) (at k) (moved m half (at c)))
        × (pos 0 <ℤ turn_of (at k) (at a) (moved m half (at c))))
    sides k d = both
        (near (at b) (at k) half (at c) (grind (arith, positive, half, after)))
        (near (at k) (at a) half (at c) (grind (arith, positive, half, before)))

    all : Large (λ m. ((pos 0 <ℤ turn_of (at b) (at c) (moved m half (at c)))
        × (pos 0 <ℤ turn_of (at c) (at a) (moved m half (at c))))
        × ((pos 0 <ℤ turn_of (at b) (at d) (moved m half (at c)))
        × (pos 0 <ℤ turn_of (at d) (at a) (moved m half (at c)))))
    all = both (sides c turns) (sides d (turned net u a b d hu other))

    many : ℕ
    many = all.0

    point : Point
    point = moved many half (at c)

    there : ((pos 0 <ℤ turn_of (at b) (at c) (moved many half (at c)))
        × (pos 0 <ℤ turn_of (at c) (at a) (moved many half (at c))))
        × ((pos 0 <ℤ turn_of (at b) (at d) (moved many half (at c)))
        × (pos 0 <ℤ turn_of (at d) (at a) (moved many half (at c))))
    there = all.1 many (same_number many)

    over_c : pos 0 <ℤ turn_of (at a) (at b) (moved many half (at c))
    over_c = kept_left (at a) (at b) half (at c) many (nonneg_zero (turn_of (at a) (at b) half) (on (at a) (at b))) turns

-- the second triangle, counted from a corner that it has
record FromCorner (ns : List ℕ) (a : ℕ) : Type 0 where
  y : ℕ
  z : ℕ
  from : IsFrom ns a y z

from_corner : (ns : List ℕ) (d e f a : ℕ) → IsFrom ns d e f → has ns a ≡ true → FromCorner ns a
from_corner ns d e f a from h =
    grind (arith, one_from ns d e f a from h, next_from ns d e f from, next_from ns e f d (next_from ns d e f from))

not_three : {rows : ℕ → List ℕ} {at : ℕ → Point} {n : ℕ} → Net rows at n → (t u a b c : ℕ) → t ≢ u → t < n → u < n
    → IsFrom (rows t) a b c → has (rows u) a ≡ true → has (rows u) b ≡ true → has (rows u) c ≡ true → ⊥
not_three {rows} {at} {n} net t u a b c differ ht hu from in_a in_b in_c =
    let r = row_of at (rows u) (net.positive u hu) in
    let s = from_corner (rows u) r.i r.j r.k a r.is in_a in
    go s (one_from (rows u) a s.y s.z b s.from in_b) (one_from (rows u) a s.y s.z c s.from in_c)
  where
    turns : pos 0 <ℤ turn_of (at a) (at b) (at c)
    turns = turned net t a b c ht from

    a_is_b : a ≡ b → ⊥
    a_is_b e = grind (arith, not_zero, turns, turn_twice)

    a_is_c : a ≡ c → ⊥
    a_is_c e = grind (arith, not_zero, turns, turn_cycle, turn_twice)

    b_is_c : b ≡ c → ⊥
    b_is_c e = grind (arith, not_zero, turns, turn_cycle, turn_twice)

    swap : (x y z : Point) → turn_of x y z ≡ neg_ℤ (turn_of x z y)
    swap = solve_at 3 0 (λ x y z. turn x y z ≐ neg (turn x z y)) tt

    go : (s : FromCorner (rows u) a) → (a ≡ b) ⊎ ((s.y ≡ b) ⊎ (s.z ≡ b)) → (a ≡ c) ⊎ ((s.y ≡ c) ⊎ (s.z ≡ c)) → ⊥
    go s (inl e) other = a_is_b e
    go s (inr (inl e)) other =
        same_side net t u a b c s.z differ ht hu from (subst (λ (k : ℕ). IsFrom (rows u) a k s.z) e s.from)
    go s (inr (inr e)) (inl f) = a_is_c f
    go s (inr (inr e)) (inr (inr f)) = b_is_c (sym e ∙ f)
    go s (inr (inr e)) (inr (inl f)) = turned_over (turn_of (at a) (at b) (at c)) (turn_of (at a) (at c) (at b))
        (swap (at a) (at b) (at c)) turns (turned net u a c b hu
        (subst (λ (k : ℕ). IsFrom (rows u) a k b) f (subst (λ (k : ℕ). IsFrom (rows u) a s.y k) e s.from)))

two_common : {rows : ℕ → List ℕ} {at : ℕ → Point} {n : ℕ} → Net rows at n → (t u : ℕ) → t ≢ u → t < n → u < n
    → length (common (rows t) (rows u)) ≤ 2
two_common {rows} {at} {n} net t u differ ht hu =
    let r = row_of at (rows t) (net.positive t ht) in go r.i r.j r.k r.is
  where
    listed : (a b c : ℕ) → rows t ≡ a ∷ b ∷ c ∷ [] → length (common (rows t) (rows u)) ≤ 2
    listed a b c e = subst (λ (ns : List ℕ). length (common ns (rows u)) ≤ 2) (sym e)
        (few a b c (rows u) (not_three net t u a b c differ ht hu (inl e)))

    go : (i j k : ℕ) → IsFrom (rows t) i j k → length (common (rows t) (rows u)) ≤ 2
    go i j k (inl e) = listed i j k e
    go i j k (inr (inl e)) = listed k i j e
    go i j k (inr (inr e)) = listed j k i e

-- ---- the laws
net_of : (tin : Triangulation) (mate : Mates) (frame : Frame) → IsBordered tin mate frame
    → Net (numbers_of tin) (λ k. place frame (corner_at tin k)) (length tin.triangles)
net_of tin mate frame b = record {
  mate = mate;
  one = λ k. refl;
  positive = b.positive;
  opposite = λ t u i j ht side is. b.matching.opposite t u i j (ht, side) is;
  back = λ t u i j ht side is. b.matching.back t u i j (ht, side) is;
  border = λ t u i j differ ht hu side none.
      let met = b.border t u i j differ hu ((ht, side), none) in (met.one, met.meet);
}

pub bordered_triangles_fit : BorderedTrianglesFit
bordered_triangles_fit tin mate frame b t u differ ht hu = record {
  two_common = two_common (net_of tin mate frame b) t u differ ht hu;
  meet = λ p hp in_t in_u.
      let s = shared (net_of tin mate frame b) t u p differ ht hu hp in_t in_u in
      let q = alike_of tin frame s.numbers p s.mix in
      alike_in tin frame (common_of tin t u) p q.0
      (alike_more tin frame (common_of tin t u) s.numbers p q.0
      (all_common (numbers_of tin t) (numbers_of tin u) s.numbers s.in_t s.in_u) q.2);
}

pub bordered_is_sound : BorderedIsSound
bordered_is_sound tin mate bordered = record {
  positive = λ frame t ht. (bordered frame).positive t ht;
  fit = λ frame t u differ ht hu. bordered_triangles_fit tin mate frame (bordered frame) t u differ ht hu;
}
