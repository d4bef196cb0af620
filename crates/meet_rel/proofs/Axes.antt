-- Two segments between whole points of one line, by their numbers on an axis on which these are not all the same.
use Rattle.std.proofs.Common.{◌≡◌, ◌⊎◌, inl, inr, ℤ, pos, neg_ℤ, negsuc, ◌+ℤ◌, ◌-ℤ◌, ◌*ℤ◌, ◌≤ℤ◌, ◌<ℤ◌, sym, ◌∙◌}
use Rattle.std.proofs.Common.{subst, refl, arith}
use Rattle.std.proofs.lemmas.Int.{ints, clamps}
use Rattle.std.specs.Int.{int_min, int_max}
use Rattle.integer_ring.proofs.Ring.{num, neg, ◌⊕◌, ◌⊖◌, ◌⊗◌}
use Rattle.integer_ring.proofs.Order.{≤_or_>, ≤_of_<}
use Rattle.integer_ring.proofs.Claims.{◌≐◌, ◌≼◌, ◌≺◌, gap, over, eqn, ◌⊞◌, ◌because◌, ◌⇒◌, follows, solve}
use lib.Signed.{lt_z_yes}
use Rattle.plane_base.specs.Plane.{Point, turn_of, whole}
use Rattle.plane_base.specs.declared.shapes.Pt.{Pt}
use Rattle.plane_base.proofs.MixLaws.Points.{turn, solve_at}
use Rattle.plane_base.proofs.MixLaws.Turns.{turn_cycle, turn_swap}
use Rattle.tin_base.specs.declared.relations.Rel.{Rel}
use Rattle.tin_base.specs.declared.relations.Rel.TheVariants.{Apart, Touching, Crossing, Overlapping}
use Rattle.tin_base.specs.Relations.{HaveRelation}
use Rattle.meet_rel.specs.Signs.{IsRelFromTo, DoSpansMeet, AreOnOneLine}
use Rattle.meet_rel.proofs.Alike.{first_turned, second_turned}
use Rattle.meet_rel.proofs.Scale.{Scale, IsOn, share, IsUpTo}
use Rattle.meet_rel.proofs.Spans.{AreSpans, apart, touching, overlapping}

-- a whole point of the line with its number on the axis
pub record IsAt (s : Scale) (p : Pt) (n : ℤ) : Type 0 where
  pub on : IsOn s (whole p)
  pub number : share s (whole p) ≡ n

up_to : (s t m n : ℤ) → s ≡ m → t ≡ n → m ≤ℤ n → (s *ℤ pos 1) ≤ℤ (t *ℤ pos 1)
up_to = follows 4 (λ s t m n. s ≐ m ⇒ t ≐ n ⇒ m ≼ n ⇒ s ⊗ num (pos 1) ≼ t
    ⊗ num (pos 1) because gap 2 ⊞ eqn 0 (num (pos 1)) ⊞ eqn 1 (num (negsuc 0))) tt

less : (s t m n : ℤ) → s ≡ m → t ≡ n → m <ℤ n → (s *ℤ pos 1) <ℤ (t *ℤ pos 1)
less = follows 4 (λ s t m n. s ≐ m ⇒ t ≐ n ⇒ m ≺ n ⇒ s ⊗ num (pos 1) ≺ t
    ⊗ num (pos 1) because over 2 ⊞ eqn 0 (num (pos 1)) ⊞ eqn 1 (num (negsuc 0))) tt

even : (s t m n : ℤ) → s ≡ m → t ≡ n → m ≡ n → s *ℤ pos 1 ≡ t *ℤ pos 1
even = follows 4 (λ s t m n. s ≐ m ⇒ t ≐ n ⇒ m ≐ n ⇒ s ⊗ num (pos 1) ≐ t
    ⊗ num (pos 1) because eqn 2 (num (pos 1)) ⊞ eqn 0 (num (pos 1)) ⊞ eqn 1 (num (negsuc 0))) tt

goes_on : (s : Scale) (p q : Pt) (m n : ℤ) → IsAt s p m → IsAt s q n → m ≤ℤ n → IsUpTo s (whole p) (whole q)
goes_on s p q m n a b h = record { order = up_to (share s (whole p)) (share s (whole q)) m n a.number b.number h }

-- by the numbers of the later first point and of the earlier last point
by_numbers : (s : Scale) (p q e f first last : Pt) (m n : ℤ)
    → AreSpans s (whole p) (whole q) (whole e) (whole f) (whole first) (whole last) → IsAt s first m → IsAt s last n
    → (relation : Rel) → IsRelFromTo relation m n → HaveRelation relation (whole p) (whole q) (whole e) (whole f)
by_numbers s p q e f first last m n a at_m at_n Apart h =
    apart s (whole p) (whole q) (whole e) (whole f) (whole first) (whole last) a
    (record { order = less (share s (whole last)) (share s (whole first)) n m at_n.number at_m.number h })
by_numbers s p q e f first last m n a at_m at_n Touching h =
    touching s (whole p) (whole q) (whole e) (whole f) (whole first) (whole last) a
    (record { even = even (share s (whole first)) (share s (whole last)) m n at_m.number at_n.number h })
by_numbers s p q e f first last m n a at_m at_n Crossing h = absurd h
by_numbers s p q e f first last m n a at_m at_n Overlapping h =
    overlapping s (whole p) (whole q) (whole e) (whole f) (whole first) (whole last) a
    (record { order = less (share s (whole first)) (share s (whole last)) m n at_m.number at_n.number h })

-- ---- lesser and greater
min_first : (a b : ℤ) → a ≤ℤ b → int_min a b ≡ a
min_first a b h = omega (arith, ints, clamps)

min_last : (a b : ℤ) → b ≤ℤ a → int_min a b ≡ b
min_last a b h = omega (arith, ints, clamps)

max_first : (a b : ℤ) → b ≤ℤ a → int_max a b ≡ a
max_first a b h = omega (arith, ints, clamps)

max_last : (a b : ℤ) → a ≤ℤ b → int_max a b ≡ b
max_last a b h = omega (arith, ints, clamps)

itself : (a : ℤ) → a ≤ℤ a
itself a = omega (arith, ints)

-- both segments go on
sorted : (s : Scale) (p q e f : Pt) (a b c d : ℤ) → IsAt s p a → IsAt s q b → IsAt s e c → IsAt s f d → a ≤ℤ b → c ≤ℤ d
    → (relation : Rel) → IsRelFromTo relation (int_max a c) (int_min b d)
    → HaveRelation relation (whole p) (whole q) (whole e) (whole f)
sorted s p q e f a b c d hp hq he hf ab cd relation h = go (≤_or_> a c) (≤_or_> b d)
  where
    by : (first last : Pt) (m n : ℤ) → IsAt s first m → IsAt s last n
        → (whole first ≡ whole p) ⊎ (whole first ≡ whole e) → (whole last ≡ whole q) ⊎ (whole last ≡ whole f) → a ≤ℤ m
        → c ≤ℤ m → n ≤ℤ b → n ≤ℤ d → int_max a c ≡ m → int_min b d ≡ n
        → HaveRelation relation (whole p) (whole q) (whole e) (whole f)
    by first last m n at_m at_n one one' am cm nb nd i j =
        by_numbers s p q e f first last m n (record {
          on_p = hp.on;
          on_q = hq.on;
          on_e = he.on;
          on_f = hf.on;
          pq = goes_on s p q a b hp hq ab;
          ef = goes_on s e f c d he hf cd;
          first_one = one;
          last_one = one';
          from_p = goes_on s p first a m hp at_m am;
          from_e = goes_on s e first c m he at_m cm;
          to_q = goes_on s last q n b at_n hq nb;
          to_f = goes_on s last f n d at_n hf nd;
        }) at_m at_n relation (subst (λ (z : ℤ). IsRelFromTo relation m z) j
        (subst (λ (z : ℤ). IsRelFromTo relation z (int_min b d)) i h))

    go : (a ≤ℤ c) ⊎ (c <ℤ a) → (b ≤ℤ d) ⊎ (d <ℤ b) → HaveRelation relation (whole p) (whole q) (whole e) (whole f)
    go (inl k) (inl l) = by e q c b he hq (inr refl) (inl refl) k (itself c) (itself b) l (max_last a c k)
        (min_first b d l)
    go (inl k) (inr l) = by e f c d he hf (inr refl) (inr refl) k (itself c) (≤_of_< d b l) (itself d) (max_last a c k)
        (min_last b d (≤_of_< d b l))
    go (inr k) (inl l) = by p q a b hp hq (inl refl) (inl refl) (itself a) (≤_of_< c a k) (itself b) l
        (max_first a c (≤_of_< c a k)) (min_first b d l)
    go (inr k) (inr l) = by p f a d hp hf (inl refl) (inr refl) (itself a) (≤_of_< c a k) (≤_of_< d b l) (itself d)
        (max_first a c (≤_of_< c a k)) (min_last b d (≤_of_< d b l))

-- and in whatever directions they go
by_axis : (s : Scale) (p q e f : Pt) (a b c d : ℤ) → IsAt s p a → IsAt s q b → IsAt s e c → IsAt s f d
    → (relation : Rel) → DoSpansMeet relation a b c d → HaveRelation relation (whole p) (whole q) (whole e) (whole f)
by_axis s p q e f a b c d hp hq he hf relation h = go (≤_or_> a b) (≤_or_> c d)
  where
    with : (m n k l : ℤ) → int_min a b ≡ m → int_max a b ≡ n → int_min c d ≡ k → int_max c d ≡ l
        → IsRelFromTo relation (int_max m k) (int_min n l)
    with m n k l em en ek el = grind arith

    go : (a ≤ℤ b) ⊎ (b <ℤ a) → (c ≤ℤ d) ⊎ (d <ℤ c) → HaveRelation relation (whole p) (whole q) (whole e) (whole f)
    go (inl x) (inl y) = sorted s p q e f a b c d hp hq he hf x y relation
        (with a b c d (min_first a b x) (max_last a b x) (min_first c d y) (max_last c d y))
    go (inl x) (inr y') =
        let y : d ≤ℤ c = ≤_of_< d c y' in
        second_turned (whole p) (whole q) (whole f) (whole e) relation
        (sorted s p q f e a b d c hp hq hf he x y relation
        (with a b d c (min_first a b x) (max_last a b x) (min_last c d y) (max_first c d y)))
    go (inr x') (inl y) =
        let x : b ≤ℤ a = ≤_of_< b a x' in
        first_turned (whole q) (whole p) (whole e) (whole f) relation
        (sorted s q p e f b a c d hq hp he hf x y relation
        (with b a c d (min_last a b x) (max_first a b x) (min_first c d y) (max_last c d y)))
    go (inr x') (inr y') =
        let x : b ≤ℤ a = ≤_of_< b a x' in let y : d ≤ℤ c = ≤_of_< d c y' in
        first_turned (whole q) (whole p) (whole e) (whole f) relation
        (second_turned (whole q) (whole p) (whole f) (whole e) relation
        (sorted s q p f e b a d c hq hp hf he x y relation
        (with b a d c (min_last a b x) (max_first a b x) (min_last c d y) (max_first c d y))))

-- ---- the two axes
one : pos 0 <ℤ pos 1
one = lt_z_yes tt

first_number : (x y : ℤ) → pos 1 *ℤ x +ℤ pos 0 *ℤ y ≡ x
first_number = solve 2 (λ x y. num (pos 1) ⊗ x ⊕ num (pos 0) ⊗ y ≐ x) tt

second_number : (x y : ℤ) → pos 0 *ℤ x +ℤ pos 1 *ℤ y ≡ y
second_number = solve 2 (λ x y. num (pos 0) ⊗ x ⊕ num (pos 1) ⊗ y ≐ y) tt

-- the line through two points of different first numbers
across : (u v : Pt) → (u.x ≡ v.x → ⊥) → Scale
across u v differ = record {
  u = u;
  v = v;
  dx = pos 1;
  dy = pos 0;
  tells =
      λ z. differ (same u.x v.x (sym (first_number (v.x -ℤ u.x) (v.y -ℤ u.y)) ∙ z));
}
  where
    same : (a b : ℤ) → b -ℤ a ≡ pos 0 → a ≡ b
    same a b h = omega (arith, ints)

at_first : (u v p : Pt) (differ : u.x ≡ v.x → ⊥) → turn_of (whole u) (whole v) (whole p) ≡ pos 0
    → IsAt (across u v differ) p p.x
unfolding across
at_first u v p differ z = record { on = record { line = z; positive = one }; number = first_number p.x p.y }

turn_first : (a b : Point) → turn_of a b a ≡ pos 0
turn_first = solve_at 2 0 (λ a b. turn a b a ≐ num (pos 0)) tt

turn_last : (a b : Point) → turn_of a b b ≡ pos 0
turn_last = solve_at 2 0 (λ a b. turn a b b ≐ num (pos 0)) tt

negated : (z : ℤ) → z ≡ pos 0 → neg_ℤ z ≡ pos 0
negated = follows 1 (λ z. z ≐ num (pos 0) ⇒ neg z ≐ num (pos 0) because eqn 0 (num (negsuc 0))) tt

pub same_or_not : (a b : ℤ) → (a ≡ b) ⊎ (a ≡ b → ⊥)
same_or_not a b = grind (arith, ≤_or_>)

pub by_first : (a b c d : Pt) → AreOnOneLine a b c d → (a.x ≡ b.x → b.x ≡ c.x → c.x ≡ d.x → ⊥) → (relation : Rel)
    → DoSpansMeet relation a.x b.x c.x d.x → HaveRelation relation (whole a) (whole b) (whole c) (whole d)
by_first a b c d l differ relation h = go (same_or_not a.x b.x) (same_or_not c.x d.x)
  where
    turned : turn_of (whole a) (whole c) (whole b) ≡ pos 0
    turned = turn_cycle (whole a) (whole c) (whole b) ∙ turn_cycle (whole c) (whole b) (whole a)
        ∙ turn_swap (whole b) (whole a) (whole c) ∙ negated (turn_of (whole a) (whole b) (whole c)) l.of_c

    go : (a.x ≡ b.x) ⊎ (a.x ≡ b.x → ⊥) → (c.x ≡ d.x) ⊎ (c.x ≡ d.x → ⊥)
        → HaveRelation relation (whole a) (whole b) (whole c) (whole d)
    go (inr k) m =
        by_axis (across a b k) a b c d a.x b.x c.x d.x
        (at_first a b a k (turn_first (whole a) (whole b))) (at_first a b b k (turn_last (whole a) (whole b)))
        (at_first a b c k l.of_c) (at_first a b d k l.of_d) relation h
    go (inl k) (inr m) =
        by_axis (across c d m) a b c d a.x b.x c.x d.x
        (at_first c d a m l.of_a) (at_first c d b m l.of_b) (at_first c d c m (turn_first (whole c) (whole d)))
        (at_first c d d m (turn_last (whole c) (whole d))) relation h
    go (inl k) (inl m) =
        let apart_x : a.x ≡ c.x → ⊥ = λ e. differ k (sym k ∙ e) m in
        by_axis (across a c apart_x) a b c d a.x b.x c.x d.x
        (at_first a c a apart_x (turn_first (whole a) (whole c))) (at_first a c b apart_x turned)
        (at_first a c c apart_x (turn_last (whole a) (whole c)))
        (at_first a c d apart_x (turn_cycle (whole a) (whole c) (whole d) ∙ l.of_a)) relation h

-- the line of all points with the first number of u
upright : (u : Pt) → Scale
upright u = record {
  u = u;
  v = record { x = u.x; y = u.y +ℤ pos 1 };
  dx = pos 0;
  dy = pos 1;
  tells =
      λ z. no u.x u.y z;
}
  where
    no : (x y : ℤ) → pos 0 *ℤ (x -ℤ x) +ℤ pos 1 *ℤ (y +ℤ pos 1 -ℤ y) ≡ pos 0 → ⊥
    no x y z = differ (sym (solve 2 (λ x y. num (pos 0) ⊗ (x ⊖ x) ⊕ num (pos 1) ⊗ (y ⊕ num (pos 1) ⊖ y) ≐ num (pos 1))
        tt x y) ∙ z)
      where
        differ : pos 1 ≡ pos 0 → ⊥
        differ e = absurd (omega (arith, ints))

upright_turn : (ux uy px py : ℤ) → ux ≡ px
    → turn_of (record { x = ux; y = uy; w = pos 1 }) (record { x = ux; y = uy +ℤ pos 1; w = pos 1 })
    (record { x = px; y = py; w = pos 1 }) ≡ pos 0
upright_turn =
    follows 4 (λ ux uy px py. ux ≐ px ⇒ turn (record { x = ux; y = uy; w = num (pos 1) })
    (record { x = ux; y = uy ⊕ num (pos 1); w = num (pos 1) }) (record { x = px; y = py; w = num (pos 1) })
    ≐ num (pos 0)
    because eqn 0 (num (pos 1))) tt

at_second : (u p : Pt) → u.x ≡ p.x → IsAt (upright u) p p.y
unfolding upright
at_second u p e = record {
  on = record { line = upright_turn u.x u.y p.x p.y e; positive = one };
  number =
      second_number p.x p.y;
}

pub by_second : (a b c d : Pt) → a.x ≡ b.x → b.x ≡ c.x → c.x ≡ d.x → (relation : Rel)
    → DoSpansMeet relation a.y b.y c.y d.y → HaveRelation relation (whole a) (whole b) (whole c) (whole d)
by_second a b c d e f g relation h = by_axis (upright a) a b c d a.y b.y c.y d.y (at_second a a refl) (at_second a b e)
    (at_second a c (e ∙ f)) (at_second a d (e ∙ f ∙ g)) relation h
