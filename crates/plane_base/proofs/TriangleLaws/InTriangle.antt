-- A point is a mix of the three corners of a triangle of positive turn exactly where its turns with the three sides are
-- not negative.
use Rattle.std.proofs.Common.{◌≡◌, ◌↔◌, ℕ, ◌<◌, ℤ, pos, ◌+ℤ◌, ◌*ℤ◌, ◌≤ℤ◌, ◌<ℤ◌, List, [], ◌∷◌, length, sum}
use Rattle.std.proofs.Common.{Bool, IsTrue, ◌∙◌, ap, refl, arith}
use Rattle.std.proofs.lemmas.Int.{ints}
use Rattle.integer_ring.proofs.Ring.{num, ◌⊕◌, ◌⊖◌, ◌⊗◌}
use Rattle.integer_ring.proofs.Order.{nonneg_pos, to_nat}
use Rattle.integer_ring.proofs.Claims.{◌≐◌, ◌≼◌, ◌≺◌, gap, over, eqn, ◌⊞◌, ◌⊠◌, ◌because◌, ◌otherwise◌, ◌⇒◌}
use Rattle.plane_base.specs.Plane.{Point, Same, turn_of, weighted_sum, IsMix, whole, holds_of}
use Rattle.plane_base.specs.declared.shapes.Pt.{Pt}
use Rattle.plane_base.specs.declared.shapes.Tri.{Tri}
use lib.Signed.{lt_z_yes}
use Rattle.plane_base.proofs.MixLaws.Points.{turn, follows_at, three}
use Rattle.plane_base.proofs.MixLaws.Turns.{turn_same, turn_mix, turn_cycle}
use Rattle.plain_laws.proofs.Weights.{three_positive}

-- the mix of three points
abbrev of_three : ℕ → ℕ → ℕ → Point → Point → Point → Point
of_three k l m a b c = weighted_sum (k ∷ l ∷ m ∷ []) (a ∷ b ∷ c ∷ [])

three_weights : (ks : List ℕ) → length ks ≡ 3 → (k : ℕ) × (l : ℕ) × (m : ℕ) × (ks ≡ k ∷ l ∷ m ∷ [])
three_weights (k ∷ l ∷ m ∷ []) e = (k, l, m, refl)
three_weights ks e = absurd (omega arith)

-- ---- from weights to turns

mix_positive : (a b c : Point) (k l m : ℤ) → pos 0 ≤ℤ k → pos 0 ≤ℤ l → pos 0 ≤ℤ m → pos 0 <ℤ (k +ℤ l +ℤ m)
    → pos 0 <ℤ a.w → pos 0 <ℤ b.w → pos 0 <ℤ c.w → pos 0 <ℤ (k *ℤ a.w +ℤ (l *ℤ b.w +ℤ (m *ℤ c.w +ℤ pos 0)))
mix_positive =
    follows_at 3 3 (λ a b c k l m.
    num (pos 0) ≼ k ⇒ num (pos 0) ≼ l ⇒ num (pos 0) ≼ m ⇒ num (pos 0) ≺ k ⊕ l
    ⊕ m ⇒ num (pos 0) ≺ a.w ⇒ num (pos 0) ≺ b.w ⇒ num (pos 0) ≺ c.w
    ⇒ num (pos 0) ≺ (three k l m a b c).w because gap 0 ⊠ over 4 ⊞ gap 1 ⊠ over 5 ⊞ gap 2 ⊠ over 6 ⊞ over 3) tt

-- t is not negative where s·t = v·(k·d), with s and v positive and k and d not negative
sign_of : (s t v k d : ℤ) → pos 0 <ℤ s → pos 0 <ℤ v → pos 0 ≤ℤ k → pos 0 <ℤ d → s *ℤ t ≡ v *ℤ (k *ℤ d) → pos 0 ≤ℤ t
sign_of = grind arith

-- the turn of a side at a mix
turn_at : (a b c p : Point) (k l m : ℕ) → Same p (of_three k l m a b c)
    → (of_three k l m a b c).w *ℤ turn_of a b p ≡ p.w *ℤ (pos m *ℤ turn_of a b c)
turn_at a b c p k l m s = turn_same a b p (of_three k l m a b c) s ∙ ap (λ z. p.w *ℤ z) (turn_mix a b c k l m)

-- the same mix, with the corners one place on
turned : (a b c p : Point) (k l m : ℕ) → Same p (of_three k l m a b c) → Same p (of_three l m k b c a)
turned a b c p k l m s = (
  follows_at 4 3 (λ a b c p k l m. p.x ⊗ (three k l m a b c).w ≐ (three k l m a b c).x ⊗ p.w ⇒ p.x
      ⊗ (three l m k b c a).w ≐ (three l m k b c a).x ⊗ p.w because eqn 0 (num (pos 1))) tt a b c p (pos k) (pos l)
      (pos m) s.0,
  follows_at 4 3 (λ a b c p k l m. p.y ⊗ (three k l m a b c).w ≐ (three k l m a b c).y ⊗ p.w ⇒ p.y
      ⊗ (three l m k b c a).w ≐ (three l m k b c a).y ⊗ p.w because eqn 0 (num (pos 1))) tt a b c p (pos k) (pos l)
      (pos m) s.1,
)

side : (a b c p : Point) → pos 0 <ℤ a.w → pos 0 <ℤ b.w → pos 0 <ℤ c.w → pos 0 <ℤ p.w → pos 0 <ℤ turn_of a b c
    → (k l m : ℕ) → 0 < sum (k ∷ l ∷ m ∷ []) → Same p (of_three k l m a b c) → pos 0 ≤ℤ turn_of a b p
side a b c p ha hb hc hp d k l m h s =
    sign_of (of_three k l m a b c).w (turn_of a b p) p.w (pos m) (turn_of a b c)
    (mix_positive a b c (pos k) (pos l) (pos m) (nonneg_pos k) (nonneg_pos l) (nonneg_pos m) (three_positive k l m h) ha
    hb hc)
    hp (nonneg_pos m) d (turn_at a b c p k l m s)

pub turns_of_mix : (a b c p : Point) → pos 0 <ℤ a.w → pos 0 <ℤ b.w → pos 0 <ℤ c.w → pos 0 <ℤ p.w
    → pos 0 <ℤ turn_of a b c → IsMix p (a ∷ b ∷ c ∷ [])
    → (pos 0 ≤ℤ turn_of a b p) × (pos 0 ≤ℤ turn_of b c p) × (pos 0 ≤ℤ turn_of c a p)
turns_of_mix a b c p ha hb hc hp d mix = grind (arith, three_weights, turned, side, turn_cycle)

-- ---- from turns to weights: the turns themselves
same_x : (a b c p : Point) (k l m : ℤ) → turn_of b c p ≡ k → turn_of c a p ≡ l → turn_of a b p ≡ m
    → p.x *ℤ (k *ℤ a.w +ℤ (l *ℤ b.w +ℤ (m *ℤ c.w +ℤ pos 0))) ≡ (k *ℤ a.x +ℤ (l *ℤ b.x +ℤ (m *ℤ c.x +ℤ pos 0))) *ℤ p.w
same_x =
    follows_at 4 3 (λ a b c p k l m. turn b c p ≐ k ⇒ turn c a p ≐ l ⇒ turn a b p ≐ m ⇒ p.x ⊗ (three k l m a b c).w
    ≐ (three k l m a b c).x ⊗ p.w
    because eqn 0 (a.x ⊗ p.w ⊖ p.x ⊗ a.w) ⊞ eqn 1 (b.x ⊗ p.w ⊖ p.x ⊗ b.w) ⊞ eqn 2 (c.x ⊗ p.w ⊖ p.x ⊗ c.w)) tt

same_y : (a b c p : Point) (k l m : ℤ) → turn_of b c p ≡ k → turn_of c a p ≡ l → turn_of a b p ≡ m
    → p.y *ℤ (k *ℤ a.w +ℤ (l *ℤ b.w +ℤ (m *ℤ c.w +ℤ pos 0))) ≡ (k *ℤ a.y +ℤ (l *ℤ b.y +ℤ (m *ℤ c.y +ℤ pos 0))) *ℤ p.w
same_y =
    follows_at 4 3 (λ a b c p k l m. turn b c p ≐ k ⇒ turn c a p ≐ l ⇒ turn a b p ≐ m ⇒ p.y ⊗ (three k l m a b c).w
    ≐ (three k l m a b c).y ⊗ p.w
    because eqn 0 (a.y ⊗ p.w ⊖ p.y ⊗ a.w) ⊞ eqn 1 (b.y ⊗ p.w ⊖ p.y ⊗ b.w) ⊞ eqn 2 (c.y ⊗ p.w ⊖ p.y ⊗ c.w)) tt

not_all_zero : (a b c p : Point) (k l m : ℤ) → turn_of b c p ≡ k → turn_of c a p ≡ l → turn_of a b p ≡ m → pos 0 <ℤ a.w
    → pos 0 <ℤ b.w → pos 0 <ℤ c.w → pos 0 <ℤ p.w → pos 0 <ℤ turn_of a b c → pos 0 ≤ℤ k → pos 0 ≤ℤ l → pos 0 ≤ℤ m
    → pos 0 <ℤ (k +ℤ l +ℤ m)
not_all_zero =
    follows_at 4 3 (λ a b c p k l m. turn b c p ≐ k ⇒ turn c a p ≐ l ⇒ turn a b p ≐ m
    ⇒ num (pos 0) ≺ a.w ⇒ num (pos 0) ≺ b.w ⇒ num (pos 0) ≺ c.w ⇒ num (pos 0) ≺ p.w ⇒ num (pos 0) ≺ turn a b c
    ⇒ num (pos 0) ≼ k ⇒ num (pos 0) ≼ l ⇒ num (pos 0) ≼ m ⇒ num (pos 0) ≺ k ⊕ l ⊕ m
    otherwise gap 11 ⊠ (gap 3 ⊞ gap 4 ⊞ gap 5)
    ⊞ gap 8 ⊠ (gap 4 ⊞ gap 5) ⊞ gap 9 ⊠ (gap 3 ⊞ gap 5) ⊞ gap 10 ⊠ (gap 3 ⊞ gap 4)
    ⊞ eqn 0 a.w ⊞ eqn 1 b.w ⊞ eqn 2 c.w
    ⊞ over 7 ⊠ gap 6 ⊞ over 6) tt

a_weight : (k l m : ℕ) → pos 0 <ℤ (pos k +ℤ pos l +ℤ pos m) → 0 < sum (k ∷ l ∷ m ∷ [])
a_weight k l m h = omega (arith, ints)

pub mix_of_turns : (a b c p : Point) → pos 0 <ℤ a.w → pos 0 <ℤ b.w → pos 0 <ℤ c.w → pos 0 <ℤ p.w
    → pos 0 <ℤ turn_of a b c → pos 0 ≤ℤ turn_of a b p → pos 0 ≤ℤ turn_of b c p → pos 0 ≤ℤ turn_of c a p
    → IsMix p (a ∷ b ∷ c ∷ [])
mix_of_turns a b c p ha hb hc hp d tc ta tb =
    go (to_nat (turn_of b c p) ta) (to_nat (turn_of c a p) tb) (to_nat (turn_of a b p) tc)
  where
    go : (k : ℕ) × (turn_of b c p ≡ pos k) → (l : ℕ) × (turn_of c a p ≡ pos l) → (m : ℕ) × (turn_of a b p ≡ pos m)
        → IsMix p (a ∷ b ∷ c ∷ [])
    go k l m = (
      k.0 ∷ l.0 ∷ m.0 ∷ [],
      refl,
      a_weight k.0 l.0 m.0 (not_all_zero a b c p (pos k.0) (pos l.0) (pos m.0) k.1 l.1 m.1 ha hb hc hp d
          (nonneg_pos k.0) (nonneg_pos l.0) (nonneg_pos m.0)),
      (
        same_x a b c p (pos k.0) (pos l.0) (pos m.0) k.1 l.1 m.1,
        same_y a b c p (pos k.0) (pos l.0) (pos m.0) k.1 l.1
            m.1,
      ),
    )

-- for whole points
holds_iff : (t : Tri) (p : Pt) → pos 0 <ℤ turn_of (whole t.a) (whole t.b) (whole t.c)
    → holds_of t p ↔ ((pos 0 ≤ℤ turn_of (whole t.a) (whole t.b) (whole p))
    × (pos 0 ≤ℤ turn_of (whole t.b) (whole t.c) (whole p)) × (pos 0 ≤ℤ turn_of (whole t.c) (whole t.a) (whole p)))
holds_iff t p d =
    let w : pos 0 <ℤ pos 1 = lt_z_yes tt in (
      λ h. turns_of_mix (whole t.a) (whole t.b) (whole t.c) (whole p) w w w w d h,
      λ h. mix_of_turns (whole t.a) (whole t.b) (whole t.c) (whole p) w w w w d h.0 h.1 h.2,
    )

-- as the code tests it: u, v and w are the three turns, and the answer r is whether none is negative
pub holds_by_tests : (t : Tri) (p : Pt) (u v w : ℤ) (r : Bool) → pos 0 <ℤ turn_of (whole t.a) (whole t.b) (whole t.c)
    → u ≡ turn_of (whole t.a) (whole t.b) (whole p) → v ≡ turn_of (whole t.b) (whole t.c) (whole p)
    → w ≡ turn_of (whole t.c) (whole t.a) (whole p) → IsTrue r ↔ ((pos 0 ≤ℤ u) × (pos 0 ≤ℤ v) × (pos 0 ≤ℤ w))
    → IsTrue r ↔ holds_of t p
holds_by_tests t p u v w r d eu ev ew e = grind (arith, holds_iff)
