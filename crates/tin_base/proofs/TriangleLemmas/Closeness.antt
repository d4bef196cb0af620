-- Points of source triangles are near each other, as the corners are.
use Rattle.std.proofs.Common.{◌≡◌, ℕ, suc, ◌<◌, ℤ, pos, neg_ℤ, ◌+ℤ◌, ◌-ℤ◌, ◌*ℤ◌, ◌≤ℤ◌, ◌<ℤ◌, List, [], ◌∷◌, length}
use Rattle.std.proofs.Common.{get_or, arith}
use lib.Signed.{lt_z_yes}
use Rattle.integer_ring.proofs.Ring.{num, neg, ◌⊕◌, ◌⊖◌, ◌⊗◌}
use Rattle.integer_ring.proofs.Order.{nonneg_pos}
use Rattle.integer_ring.proofs.Claims.{◌≐◌, ◌≼◌, ◌≺◌, none, gap, over, eqn, ◌⊞◌, ◌⊠◌, ◌because◌, ◌otherwise◌, ◌⇒◌}
use Rattle.integer_ring.proofs.Claims.{follows}
use Rattle.plane_base.specs.Plane.{Point, weighted_sum, IsMix, whole, IsNear}
use Rattle.plane_base.specs.Laws.{ArePlaces}
use Rattle.plane_base.specs.declared.shapes.Pt.{Pt}
use Rattle.plane_base.specs.declared.shapes.TheConstants.{SPAN}
use Rattle.plane_base.proofs.MixLaws.Mixes.{weighed-place}
use Rattle.tin_base.specs.declared.frames.Frame.{Frame}
use Rattle.tin_base.specs.declared.frames.Frame.TheVariants.{Source}
use Rattle.tin_base.specs.Triangulation.{Triangulation, place, corner_at, numbers_of, places}
use Rattle.tin_base.specs.Images.{IsInSome}
use Rattle.tin_base.specs.Limits.{IsWithinLimits}

one : pos 0 <ℤ pos 1
one = lt_z_yes tt

-- the places of corners stand for places
pub places_stand : (tin : Triangulation) (frame : Frame) (ns : List ℕ) → ArePlaces (places tin frame ns)
places_stand tin frame [] = tt
places_stand tin frame (n ∷ ns) = (one, places_stand tin frame ns)

-- a number of a point, and a bound on how far each point of a list is above and below q: a·x + b·y of it, less q times
-- w
record IsReach (a b q m : ℤ) (p : Point) : Type 0 where
  above : (a *ℤ p.x +ℤ b *ℤ p.y -ℤ q *ℤ p.w) ≤ℤ (m *ℤ p.w)

AreInReach : ℤ → ℤ → ℤ → ℤ → List Point → Type 0
AreInReach a b q m [] = Unit {0}
AreInReach a b q m (p ∷ ps) = IsReach a b q m p × AreInReach a b q m ps

nothing : (a b q m : ℤ) → (a *ℤ pos 0 +ℤ b *ℤ pos 0 -ℤ q *ℤ pos 0) ≤ℤ (m *ℤ pos 0)
nothing = follows 4 (λ a b q m. a ⊗ num (pos 0) ⊕ b ⊗ num (pos 0) ⊖ q ⊗ num (pos 0) ≼ m ⊗ num (pos 0) because none) tt

more : (a b q m k px py pw rx ry rw : ℤ) → pos 0 ≤ℤ k → (a *ℤ px +ℤ b *ℤ py -ℤ q *ℤ pw) ≤ℤ (m *ℤ pw)
    → (a *ℤ rx +ℤ b *ℤ ry -ℤ q *ℤ rw) ≤ℤ (m *ℤ rw)
    → (a *ℤ (k *ℤ px +ℤ rx) +ℤ b *ℤ (k *ℤ py +ℤ ry) -ℤ q *ℤ (k *ℤ pw +ℤ rw)) ≤ℤ (m *ℤ (k *ℤ pw +ℤ rw))
more =
    follows 11 (λ a b q m k px py pw rx ry rw. num (pos 0) ≼ k ⇒ a ⊗ px ⊕ b ⊗ py ⊖ q ⊗ pw ≼ m ⊗ pw ⇒ a ⊗ rx ⊕ b ⊗ ry ⊖ q
    ⊗ rw ≼ m ⊗ rw
    ⇒ a ⊗ (k ⊗ px ⊕ rx) ⊕ b ⊗ (k ⊗ py ⊕ ry) ⊖ q ⊗ (k ⊗ pw ⊕ rw) ≼ m ⊗ (k ⊗ pw ⊕ rw) because gap 0 ⊠ gap 1 ⊞ gap 2) tt

mix_in_reach : (a b q m : ℤ) (ks : List ℕ) (ps : List Point) → AreInReach a b q m ps → IsReach a b q m (weighted_sum ks ps)
unfolding AreInReach
mix_in_reach a b q m (k ∷ ks) (p ∷ ps) h =
    let first = h.0 in let rest = mix_in_reach a b q m ks ps h.1 in let r = weighted_sum ks ps in
    record { above = more a b q m (pos k) p.x p.y p.w r.x r.y r.w (nonneg_pos k) first.above rest.above }
mix_in_reach a b q m ks ps h = record { above = nothing a b q m }

-- a whole point that is in the place of one in reach
whole_in_reach : (a b q m zx zy x y w : ℤ) → pos 0 <ℤ w → zx *ℤ w ≡ x *ℤ pos 1 → zy *ℤ w ≡ y *ℤ pos 1
    → (a *ℤ x +ℤ b *ℤ y -ℤ q *ℤ w) ≤ℤ (m *ℤ w) → (a *ℤ zx +ℤ b *ℤ zy -ℤ q) ≤ℤ m
whole_in_reach =
    follows 9 (λ a b q m zx zy x y w. num (pos 0) ≺ w ⇒ zx ⊗ w ≐ x ⊗ num (pos 1) ⇒ zy ⊗ w ≐ y ⊗ num (pos 1) ⇒ a ⊗ x ⊕ b
    ⊗ y ⊖ q ⊗ w ≼ m ⊗ w ⇒ a ⊗ zx ⊕ b ⊗ zy ⊖ q ≼ m
    otherwise over 4 ⊠ gap 0 ⊞ over 0 ⊞ gap 3 ⊞ eqn 1 a ⊞ eqn 2 b) tt

mix_whole : (a b q m : ℤ) (z : Pt) (ps : List Point) → ArePlaces ps → AreInReach a b q m ps → IsMix (whole z) ps
    → (a *ℤ z.x +ℤ b *ℤ z.y -ℤ q) ≤ℤ m
mix_whole a b q m z ps stand h mix =
    let r = weighted_sum mix.0 ps in let reach = mix_in_reach a b q m mix.0 ps h in
    whole_in_reach a b q m z.x z.y r.x r.y r.w (weighed-place mix.0 ps mix.1 stand mix.2) mix.3.0 mix.3.1 reach.above

-- on one direction no corner is further than m above another
AreClose : Triangulation → ℤ → ℤ → ℤ → Type 0
AreClose tin a b m =
    (i j : ℕ) → i < length tin.corners → j < length tin.corners
    → (a *ℤ (place Source (corner_at tin i)).x +ℤ b *ℤ (place Source (corner_at tin i)).y
    -ℤ (a *ℤ (place Source (corner_at tin j)).x +ℤ b *ℤ (place Source (corner_at tin j)).y)) ≤ℤ m

times_one : (z q m : ℤ) → (z -ℤ q) ≤ℤ m → (z -ℤ q *ℤ pos 1) ≤ℤ (m *ℤ pos 1)
times_one = follows 3 (λ z q m. z ⊖ q ≼ m ⇒ z ⊖ q ⊗ num (pos 1) ≼ m ⊗ num (pos 1) because gap 0) tt

-- corners of numbers in range, each of which is in reach
corners_in_reach : (tin : Triangulation) (a b q m : ℤ) (ns : List ℕ)
    → ((i : ℕ) → i < length tin.corners → (a *ℤ (place Source (corner_at tin i)).x +ℤ b
    *ℤ (place Source (corner_at tin i)).y -ℤ q) ≤ℤ m)
    → ((k : ℕ) → k < length ns → get_or ns k 0 < length tin.corners) → AreInReach a b q m (places tin Source ns)
unfolding AreInReach
corners_in_reach tin a b q m [] each range = tt
corners_in_reach tin a b q m (n ∷ ns) each range =
    let c = place Source (corner_at tin n) in (
      record { above = times_one (a *ℤ c.x +ℤ b *ℤ c.y) q m (each n (range 0 (omega arith))) },
      corners_in_reach tin a b
          q m ns each (λ k h. range (suc k) (omega arith)),
    )

numbers_range : (tin : Triangulation) (t : ℕ) → IsWithinLimits tin → t < length tin.triangles → (k : ℕ)
    → k < length (numbers_of tin t) → get_or (numbers_of tin t) k 0 < length tin.corners
numbers_range tin t limits ht k h = limits.in_range t ht k 0 h

-- the other way round
turned_reach : (a b cx cy qx qy m : ℤ) → (a *ℤ qx +ℤ b *ℤ qy -ℤ (a *ℤ cx +ℤ b *ℤ cy)) ≤ℤ m
    → (neg_ℤ a *ℤ cx +ℤ neg_ℤ b *ℤ cy -ℤ neg_ℤ (a *ℤ qx +ℤ b *ℤ qy)) ≤ℤ m
turned_reach = follows 7 (λ a b cx cy qx qy m. a ⊗ qx ⊕ b ⊗ qy ⊖ (a ⊗ cx ⊕ b ⊗ cy) ≼ m ⇒ neg a ⊗ cx ⊕ neg b ⊗ cy
    ⊖ neg (a ⊗ qx ⊕ b ⊗ qy) ≼ m because gap 0) tt

back_reach : (a b px py qx qy m : ℤ) → (neg_ℤ a *ℤ qx +ℤ neg_ℤ b *ℤ qy -ℤ neg_ℤ (a *ℤ px +ℤ b *ℤ py)) ≤ℤ m
    → (a *ℤ px +ℤ b *ℤ py -ℤ (a *ℤ qx +ℤ b *ℤ qy)) ≤ℤ m
back_reach = follows 7 (λ a b px py qx qy m. neg a ⊗ qx ⊕ neg b ⊗ qy ⊖ neg (a ⊗ px ⊕ b ⊗ py) ≼ m ⇒ a ⊗ px ⊕ b ⊗ py
    ⊖ (a ⊗ qx ⊕ b ⊗ qy) ≼ m because gap 0) tt

points_close : (tin : Triangulation) (a b m : ℤ) (p q : Pt) → IsWithinLimits tin → AreClose tin a b m
    → IsInSome tin Source (whole p) → IsInSome tin Source (whole q)
    → (a *ℤ p.x +ℤ b *ℤ p.y -ℤ (a *ℤ q.x +ℤ b *ℤ q.y)) ≤ℤ m
unfolding AreClose
points_close tin a b m p q limits close in_p in_q =
    let first : (j : ℕ) → j < length tin.corners
    → (a *ℤ p.x +ℤ b *ℤ p.y -ℤ (a *ℤ (place Source (corner_at tin j)).x +ℤ b *ℤ (place Source (corner_at tin j)).y))
    ≤ℤ m =
    λ j hj. mix_whole a b (a *ℤ (place Source (corner_at tin j)).x +ℤ b *ℤ (place Source (corner_at tin j)).y) m p
    (places tin Source (numbers_of tin in_p.0)) (places_stand tin Source (numbers_of tin in_p.0))
    (corners_in_reach tin a b (a *ℤ (place Source (corner_at tin j)).x +ℤ b *ℤ (place Source (corner_at tin j)).y) m
    (numbers_of tin in_p.0) (λ i hi. close i j hi hj) (numbers_range tin in_p.0 limits in_p.1)) in_p.2 in
    back_reach a b p.x p.y q.x q.y m
    (mix_whole (neg_ℤ a) (neg_ℤ b) (neg_ℤ (a *ℤ p.x +ℤ b *ℤ p.y)) m q (places tin Source (numbers_of tin in_q.0))
    (places_stand tin Source (numbers_of tin in_q.0))
    (corners_in_reach tin (neg_ℤ a) (neg_ℤ b) (neg_ℤ (a *ℤ p.x +ℤ b *ℤ p.y)) m (numbers_of tin in_q.0)
    (λ j hj. turned_reach a b (place Source (corner_at tin j)).x (place Source (corner_at tin j)).y p.x p.y m
    (first j hj)) (numbers_range tin in_q.0 limits in_q.1)) in_q.2)

x_to : (cx cy dx dy s : ℤ) → (cx -ℤ dx) <ℤ s
    → (pos 1 *ℤ cx +ℤ pos 0 *ℤ cy -ℤ (pos 1 *ℤ dx +ℤ pos 0 *ℤ dy)) ≤ℤ (s -ℤ pos 1)
x_to = follows 5 (λ cx cy dx dy s. cx ⊖ dx ≺ s ⇒ num (pos 1) ⊗ cx ⊕ num (pos 0) ⊗ cy
    ⊖ (num (pos 1) ⊗ dx ⊕ num (pos 0) ⊗ dy) ≼ s ⊖ num (pos 1) because over 0) tt

x_of : (cx cy dx dy s : ℤ) → (pos 1 *ℤ cx +ℤ pos 0 *ℤ cy -ℤ (pos 1 *ℤ dx +ℤ pos 0 *ℤ dy)) ≤ℤ (s -ℤ pos 1)
    → (cx -ℤ dx) <ℤ s
x_of = follows 5 (λ cx cy dx dy s. num (pos 1) ⊗ cx ⊕ num (pos 0) ⊗ cy ⊖ (num (pos 1) ⊗ dx ⊕ num (pos 0) ⊗ dy) ≼ s
    ⊖ num (pos 1) ⇒ cx ⊖ dx ≺ s because gap 0) tt

y_to : (cx cy dx dy s : ℤ) → (cy -ℤ dy) <ℤ s
    → (pos 0 *ℤ cx +ℤ pos 1 *ℤ cy -ℤ (pos 0 *ℤ dx +ℤ pos 1 *ℤ dy)) ≤ℤ (s -ℤ pos 1)
y_to = follows 5 (λ cx cy dx dy s. cy ⊖ dy ≺ s ⇒ num (pos 0) ⊗ cx ⊕ num (pos 1) ⊗ cy
    ⊖ (num (pos 0) ⊗ dx ⊕ num (pos 1) ⊗ dy) ≼ s ⊖ num (pos 1) because over 0) tt

y_of : (cx cy dx dy s : ℤ) → (pos 0 *ℤ cx +ℤ pos 1 *ℤ cy -ℤ (pos 0 *ℤ dx +ℤ pos 1 *ℤ dy)) ≤ℤ (s -ℤ pos 1)
    → (cy -ℤ dy) <ℤ s
y_of = follows 5 (λ cx cy dx dy s. num (pos 0) ⊗ cx ⊕ num (pos 1) ⊗ cy ⊖ (num (pos 0) ⊗ dx ⊕ num (pos 1) ⊗ dy) ≼ s
    ⊖ num (pos 1) ⇒ cy ⊖ dy ≺ s because gap 0) tt

-- two whole points of source triangles
pub near_inside : (tin : Triangulation) (p q : Pt) → IsWithinLimits tin → IsInSome tin Source (whole p)
    → IsInSome tin Source (whole q) → IsNear p q
unfolding AreClose
near_inside tin p q limits in_p in_q = (
  x_near p q in_p in_q,
  x_near q p in_q in_p,
  y_near p q in_p in_q,
  y_near q p
      in_q in_p,
)
  where
    x_close : AreClose tin (pos 1) (pos 0) (SPAN -ℤ pos 1)
    x_close = λ i j hi hj. x_to (place Source (corner_at tin i)).x (place Source (corner_at tin i)).y
        (place Source (corner_at tin j)).x (place Source (corner_at tin j)).y SPAN (limits.near Source i j hi hj).0

    y_close : AreClose tin (pos 0) (pos 1) (SPAN -ℤ pos 1)
    y_close = λ i j hi hj. y_to (place Source (corner_at tin i)).x (place Source (corner_at tin i)).y
        (place Source (corner_at tin j)).x (place Source (corner_at tin j)).y SPAN (limits.near Source i j hi hj).1

    x_near : (p q : Pt) → IsInSome tin Source (whole p) → IsInSome tin Source (whole q) → (p.x -ℤ q.x) <ℤ SPAN
    x_near p q h k = x_of p.x p.y q.x q.y SPAN (points_close tin (pos 1) (pos 0) (SPAN -ℤ pos 1) p q limits x_close h k)

    y_near : (p q : Pt) → IsInSome tin Source (whole p) → IsInSome tin Source (whole q) → (p.y -ℤ q.y) <ℤ SPAN
    y_near p q h k = y_of p.x p.y q.x q.y SPAN (points_close tin (pos 0) (pos 1) (SPAN -ℤ pos 1) p q limits y_close h k)
