-- A segment and a triangle meet in a closed interval of parameters, for points with denominators.
use Rattle.std.proofs.Common.{◌↔◌, ◌⊎◌, inl, inr, ℤ, pos, ◌+ℤ◌, ◌-ℤ◌, ◌*ℤ◌, ◌≤ℤ◌, ◌<ℤ◌, neg_ℤ, [], ◌∷◌, sym, subst}
use lib.Signed.{lt_z_yes, le_z_yes}
use Rattle.integer_ring.proofs.Ring.{num, neg, ◌⊕◌, ◌⊖◌, ◌⊗◌}
use Rattle.integer_ring.proofs.Order.{≤_or_>, ≤_of_<}
use Rattle.integer_ring.proofs.Signs.{frac-≤_trans}
use Rattle.integer_ring.proofs.Claims.{◌≼◌, ◌≺◌, never, gap, over, ◌⊞◌, ◌⊠◌, ◌because◌, ◌otherwise◌, ◌⇒◌, follows}
use Rattle.plane_base.specs.Plane.{Point, turn_of, IsMix, along}
use Rattle.plane_base.specs.InsideCourses.{value_at}
use Rattle.plane_base.specs.Slices.{IsParam}
use Rattle.plane_base.specs.Laws.{ArePlaces, AreFromTo, SegmentsMeetInIntervals}
use Rattle.plane_base.proofs.MixLaws.Along.{turn_along, rises, falls}
use Rattle.plane_base.proofs.TriangleLaws.InTriangle.{turns_of_mix, mix_of_turns}

-- the parameters x/d for which a fact holds are those from k/l to m/n
record Interval (P : ℤ → ℤ → Type 0) : Type 0 where
  k : ℤ
  l : ℤ
  m : ℤ
  n : ℤ
  first : IsParam k l
  last : IsParam m n
  order : (k *ℤ n) ≤ℤ (m *ℤ l)
  between : (x d : ℤ) → IsParam x d → P x d ↔ (((k *ℤ d) ≤ℤ (x *ℤ l)) × ((x *ℤ n) ≤ℤ (m *ℤ d)))

abbrev Some : (ℤ → ℤ → Type 0) → Type 0
Some P = ((x d : ℤ) → IsParam x d → P x d → ⊥) ⊎ Interval P

abbrev IsLeft : ℤ → ℤ → ℤ → ℤ → Type 0
IsLeft u v x d = pos 0 ≤ℤ value_at u v x d

-- ---- a number that goes up from u to v, in an interval from k/l to m/n
left_up : (u v k l x d : ℤ) → pos 0 <ℤ l → pos 0 <ℤ d → u ≤ℤ v → IsLeft u v k l → (k *ℤ d) ≤ℤ (x *ℤ l) → IsLeft u v x d
left_up =
    follows 6 (λ u v k l x d. num (pos 0) ≺ l ⇒ num (pos 0) ≺ d ⇒ u ≼ v ⇒ num (pos 0) ≼ (l ⊖ k) ⊗ u ⊕ k ⊗ v ⇒ k ⊗ d ≼ x
    ⊗ l ⇒ num (pos 0) ≼ (d ⊖ x) ⊗ u ⊕ x ⊗ v
    otherwise over 5 ⊠ gap 0 ⊞ gap 1 ⊠ gap 3 ⊞ gap 2 ⊠ gap 4 ⊞ over 0) tt

never_up : (u v m n x d : ℤ) → pos 0 <ℤ n → pos 0 <ℤ d → u ≤ℤ v → value_at u v m n <ℤ pos 0 → (x *ℤ n) ≤ℤ (m *ℤ d)
    → IsLeft u v x d → ⊥
never_up =
    follows 6 (λ u v m n x d. num (pos 0) ≺ n ⇒ num (pos 0) ≺ d ⇒ u ≼ v ⇒ (n ⊖ m) ⊗ u ⊕ m ⊗ v ≺ num (pos 0) ⇒ x ⊗ n ≼ m
    ⊗ d ⇒ num (pos 0) ≼ (d ⊖ x) ⊗ u ⊕ x ⊗ v ⇒ never
    because gap 5 ⊠ gap 0 ⊞ gap 2 ⊠ gap 4 ⊞ over 3 ⊠ gap 1 ⊞ over 1) tt

up_from_below : (u v k l : ℤ) → pos 0 <ℤ l → pos 0 ≤ℤ k → u ≤ℤ v → value_at u v k l <ℤ pos 0 → pos 0 ≤ℤ neg_ℤ u
up_from_below =
    follows 4 (λ u v k l. num (pos 0) ≺ l ⇒ num (pos 0) ≼ k ⇒ u ≼ v ⇒ (l ⊖ k) ⊗ u ⊕ k
    ⊗ v ≺ num (pos 0) ⇒ num (pos 0) ≼ neg u
    otherwise gap 1 ⊠ gap 2 ⊞ gap 0 ⊠ gap 4 ⊞ over 3) tt

up_to_above : (u v m n : ℤ) → pos 0 <ℤ n → m ≤ℤ n → u ≤ℤ v → IsLeft u v m n → neg_ℤ u ≤ℤ (v -ℤ u)
up_to_above =
    follows 4 (λ u v m n. num (pos 0) ≺ n ⇒ m ≼ n ⇒ u ≼ v ⇒ num (pos 0) ≼ (n ⊖ m) ⊗ u ⊕ m ⊗ v ⇒ neg u ≼ v ⊖ u
    otherwise gap 3 ⊞ gap 1 ⊠ gap 2 ⊞ over 4 ⊠ gap 0 ⊞ over 0) tt

up_strictly : (u v k l m n : ℤ) → pos 0 <ℤ l → pos 0 <ℤ n → (k *ℤ n) ≤ℤ (m *ℤ l) → value_at u v k l <ℤ pos 0
    → IsLeft u v m n → pos 0 <ℤ (v -ℤ u)
up_strictly =
    follows 6 (λ u v k l m n. num (pos 0) ≺ l ⇒ num (pos 0) ≺ n ⇒ k ⊗ n ≼ m ⊗ l ⇒ (l ⊖ k) ⊗ u ⊕ k
    ⊗ v ≺ num (pos 0) ⇒ num (pos 0) ≼ (n ⊖ m) ⊗ u ⊕ m ⊗ v ⇒ num (pos 0) ≺ v ⊖ u
    otherwise gap 4 ⊠ gap 0 ⊞ over 3 ⊠ gap 1 ⊞ gap 5 ⊠ gap 2 ⊞ over 1) tt

below_zero_up : (u v k l : ℤ) → value_at u v k l <ℤ pos 0 → (k *ℤ (v -ℤ u)) ≤ℤ (neg_ℤ u *ℤ l)
below_zero_up = follows 4 (λ u v k l. (l ⊖ k) ⊗ u ⊕ k ⊗ v ≺ num (pos 0) ⇒ k ⊗ (v ⊖ u) ≼ neg u ⊗ l because gap 0) tt

cut_up : (P : ℤ → ℤ → Type 0) (u v : ℤ) → u ≤ℤ v → Interval P → Some (λ x d. P x d × IsLeft u v x d)
cut_up P u v up i = go (≤_or_> (pos 0) (value_at u v i.k i.l)) (≤_or_> (pos 0) (value_at u v i.m i.n))
  where
    go : IsLeft u v i.k i.l ⊎ (value_at u v i.k i.l <ℤ pos 0) → IsLeft u v i.m i.n ⊎ (value_at u v i.m i.n <ℤ pos 0)
        → Some (λ x d. P x d × IsLeft u v x d)
    go (inl left) h = inr (record {
      k = i.k;
      l = i.l;
      m = i.m;
      n = i.n;
      first = i.first;
      last = i.last;
      order = i.order;
      between = λ x d p. (
        λ q. (i.between x d p).0 q.0,
        λ b.
            ((i.between x d p).1 b, left_up u v i.k i.l x d i.first.0 p.0 up left b.0),
      );
    })
    go (inr right) (inr below) = inl (λ x d p q. never_up u v i.m i.n x d i.last.0 p.0 up below
        ((i.between x d p).0 q.0).1 q.1)
    go (inr right) (inl left) =
        let strictly = up_strictly u v i.k i.l i.m i.n i.first.0 i.last.0 i.order right left in
        inr (record {
          k = neg_ℤ u;
          l = v -ℤ u;
          m = i.m;
          n = i.n;
          first = (
            strictly,
            up_from_below u v i.k i.l i.first.0 i.first.1 up right,
            up_to_above u v i.m i.n i.last.0
                i.last.2 up left,
          );
          last = i.last;
          order = (rises u v i.m i.n).0 left;
          between = λ x d p. (
            λ q. ((rises u v x d).0 q.1, ((i.between x d p).0 q.0).1),
            λ b. (
              (i.between x d p).1 (
                frac-≤_trans i.k i.l (neg_ℤ u) (v -ℤ u) x d i.first.0 strictly p.0
                    (below_zero_up u v i.k i.l right) b.0,
                b.1,
              ),
              (rises u v x d).1 b.0,
            ),
          );
        })

-- ---- and one that goes down
left_down : (u v m n x d : ℤ) → pos 0 <ℤ n → pos 0 <ℤ d → v ≤ℤ u → IsLeft u v m n → (x *ℤ n) ≤ℤ (m *ℤ d)
    → IsLeft u v x d
left_down =
    follows 6 (λ u v m n x d. num (pos 0) ≺ n ⇒ num (pos 0) ≺ d ⇒ v ≼ u ⇒ num (pos 0) ≼ (n ⊖ m) ⊗ u ⊕ m ⊗ v ⇒ x ⊗ n ≼ m
    ⊗ d ⇒ num (pos 0) ≼ (d ⊖ x) ⊗ u ⊕ x ⊗ v
    otherwise over 5 ⊠ gap 0 ⊞ gap 1 ⊠ gap 3 ⊞ gap 2 ⊠ gap 4 ⊞ over 0) tt

never_down : (u v k l x d : ℤ) → pos 0 <ℤ l → pos 0 <ℤ d → v ≤ℤ u → value_at u v k l <ℤ pos 0 → (k *ℤ d) ≤ℤ (x *ℤ l)
    → IsLeft u v x d → ⊥
never_down =
    follows 6 (λ u v k l x d. num (pos 0) ≺ l ⇒ num (pos 0) ≺ d ⇒ v ≼ u ⇒ (l ⊖ k) ⊗ u ⊕ k ⊗ v ≺ num (pos 0) ⇒ k ⊗ d ≼ x
    ⊗ l ⇒ num (pos 0) ≼ (d ⊖ x) ⊗ u ⊕ x ⊗ v ⇒ never
    because gap 5 ⊠ gap 0 ⊞ gap 2 ⊠ gap 4 ⊞ over 3 ⊠ gap 1 ⊞ over 1) tt

down_from_above : (u v k l : ℤ) → pos 0 <ℤ l → pos 0 ≤ℤ k → v ≤ℤ u → IsLeft u v k l → pos 0 ≤ℤ u
down_from_above =
    follows 4 (λ u v k l. num (pos 0) ≺ l ⇒ num (pos 0) ≼ k ⇒ v ≼ u ⇒ num (pos 0) ≼ (l ⊖ k) ⊗ u ⊕ k
    ⊗ v ⇒ num (pos 0) ≼ u
    otherwise gap 3 ⊞ gap 1 ⊠ gap 2 ⊞ over 4 ⊠ gap 0 ⊞ over 0) tt

down_to_below : (u v m n : ℤ) → pos 0 <ℤ n → m ≤ℤ n → v ≤ℤ u → value_at u v m n <ℤ pos 0 → u ≤ℤ (u -ℤ v)
down_to_below =
    follows 4 (λ u v m n. num (pos 0) ≺ n ⇒ m ≼ n ⇒ v ≼ u ⇒ (n ⊖ m) ⊗ u ⊕ m ⊗ v ≺ num (pos 0) ⇒ u ≼ u ⊖ v
    otherwise gap 0 ⊠ gap 4 ⊞ gap 1 ⊠ gap 2 ⊞ over 3) tt

below_zero_down : (u v m n : ℤ) → value_at u v m n <ℤ pos 0 → (u *ℤ n) ≤ℤ (m *ℤ (u -ℤ v))
below_zero_down = follows 4 (λ u v m n. (n ⊖ m) ⊗ u ⊕ m ⊗ v ≺ num (pos 0) ⇒ u ⊗ n ≼ m ⊗ (u ⊖ v) because gap 0) tt

down_strictly : (u v : ℤ) → v <ℤ u → pos 0 <ℤ (u -ℤ v)
down_strictly = follows 2 (λ u v. v ≺ u ⇒ num (pos 0) ≺ u ⊖ v because over 0) tt

cut_down : (P : ℤ → ℤ → Type 0) (u v : ℤ) → v <ℤ u → Interval P → Some (λ x d. P x d × IsLeft u v x d)
cut_down P u v down i = go (≤_or_> (pos 0) (value_at u v i.k i.l)) (≤_or_> (pos 0) (value_at u v i.m i.n))
  where
    weakly : v ≤ℤ u
    weakly = ≤_of_< v u down

    go : IsLeft u v i.k i.l ⊎ (value_at u v i.k i.l <ℤ pos 0) → IsLeft u v i.m i.n ⊎ (value_at u v i.m i.n <ℤ pos 0)
        → Some (λ x d. P x d × IsLeft u v x d)
    go h (inl left) = inr (record {
      k = i.k;
      l = i.l;
      m = i.m;
      n = i.n;
      first = i.first;
      last = i.last;
      order = i.order;
      between = λ x d p. (
        λ q. (i.between x d p).0 q.0,
        λ b.
            ((i.between x d p).1 b, left_down u v i.m i.n x d i.last.0 p.0 weakly left b.1),
      );
    })
    go (inr below) (inr right) = inl (λ x d p q. never_down u v i.k i.l x d i.first.0 p.0 weakly below
        ((i.between x d p).0 q.0).0 q.1)
    go (inl left) (inr right) =
        let strictly = down_strictly u v down in
        inr (record {
          k = i.k;
          l = i.l;
          m = u;
          n = u -ℤ v;
          first = i.first;
          last = (
            strictly,
            down_from_above u v i.k i.l i.first.0 i.first.1 weakly left,
            down_to_below u v i.m i.n
                i.last.0 i.last.2 weakly right,
          );
          order = (falls u v i.k i.l).0 left;
          between = λ x d p. (
            λ q. (((i.between x d p).0 q.0).0, (falls u v x d).0 q.1),
            λ b. (
              (i.between x d p).1 (
                b.0,
                frac-≤_trans x d u (u -ℤ v) i.m i.n p.0 strictly i.last.0 b.1
                    (below_zero_down u v i.m i.n right),
              ),
              (falls u v x d).1 b.1,
            ),
          );
        })

-- ---- cut once more
cut : (P : ℤ → ℤ → Type 0) (u v : ℤ) → Interval P → Some (λ x d. P x d × IsLeft u v x d)
cut P u v i = go (≤_or_> u v)
  where
    go : (u ≤ℤ v) ⊎ (v <ℤ u) → Some (λ x d. P x d × IsLeft u v x d)
    go (inl up) = cut_up P u v up i
    go (inr down) = cut_down P u v down i

cut_some : (P : ℤ → ℤ → Type 0) (u v : ℤ) → Some P → Some (λ x d. P x d × IsLeft u v x d)
cut_some P u v (inl none) = inl (λ x d p q. none x d p q.0)
cut_some P u v (inr i) = cut P u v i

-- the whole way
whole_way : Interval (λ x d. Unit {0})
whole_way =
    record {
      k = pos 0;
      l = pos 1;
      m = pos 1;
      n = pos 1;
      first = (lt_z_yes tt, le_z_yes tt, le_z_yes tt);
      last = (lt_z_yes tt, le_z_yes tt, le_z_yes tt);
      order = le_z_yes tt;
      between = λ x d p. (
        λ _. (
          follows 2 (λ x d. num (pos 0) ≼ x ⇒ num (pos 0) ⊗ d ≼ x ⊗ num (pos 1) because gap 0) tt x d p.1,
          follows 2 (λ x d. x ≼ d ⇒ x ⊗ num (pos 1) ≼ num (pos 1) ⊗ d because gap 0) tt x d p.2,
        ),
        λ _. tt,
      );
    }

-- the same parameters, by another fact
for_same : (P Q : ℤ → ℤ → Type 0) → ((x d : ℤ) → IsParam x d → Q x d ↔ P x d) → Some P → Some Q
for_same P Q e (inl none) = inl (λ x d p q. none x d p ((e x d p).0 q))
for_same P Q e (inr i) = inr (record {
  k = i.k;
  l = i.l;
  m = i.m;
  n = i.n;
  first = i.first;
  last = i.last;
  order = i.order;
  between = λ x d p. (λ q. (i.between x d p).0 ((e x d p).0 q), λ b. (e x d p).1 ((i.between x d p).1 b));
})

-- ---- the three sides
abbrev NonNeg : ℤ → Type 0
NonNeg z = pos 0 ≤ℤ z

along-place : (v w n d : ℤ) → pos 0 <ℤ v → pos 0 <ℤ w → pos 0 <ℤ d → pos 0 ≤ℤ n → n ≤ℤ d
    → pos 0 <ℤ ((d -ℤ n) *ℤ v +ℤ n *ℤ w)
along-place =
    follows 4 (λ v w n d. num (pos 0) ≺ v ⇒ num (pos 0) ≺ w ⇒ num (pos 0) ≺ d ⇒ num (pos 0) ≼ n ⇒ n ≼ d ⇒ num (pos 0) ≺
    (d ⊖ n) ⊗ v ⊕ n ⊗ w
    because gap 4 ⊠ over 0 ⊞ gap 3 ⊠ over 1 ⊞ over 2) tt

abbrev LeftOf : Point → Point → Point → Point → ℤ → ℤ → Type 0
LeftOf a b p q x d = IsLeft (turn_of a b p) (turn_of a b q) x d

abbrev LeftOfAll : Point → Point → Point → Point → Point → ℤ → ℤ → Type 0
LeftOfAll a b c p q x d = ((Unit {0} × LeftOf a b p q x d) × LeftOf b c p q x d) × LeftOf c a p q x d

in_iff_left : (a b c p q : Point) (x d : ℤ) → ArePlaces (a ∷ b ∷ c ∷ p ∷ q ∷ []) → pos 0 <ℤ turn_of a b c → IsParam x d
    → IsMix (along p q x d) (a ∷ b ∷ c ∷ []) ↔ LeftOfAll a b c p q x d
in_iff_left a b c p q x d h positive param =
    let r = along p q x d in
    let place = along-place p.w q.w x d h.1.1.1.0 h.1.1.1.1.0 param.0 param.1 param.2 in
    let e0 = turn_along a b p q x d in let e1 = turn_along b c p q x d in let e2 = turn_along c a p q x d in (
      λ m. let t = turns_of_mix a b c r h.0 h.1.0 h.1.1.0 place positive
          m in (((tt, subst NonNeg e0 t.0), subst NonNeg e1 t.1), subst NonNeg e2 t.2),
      λ l. mix_of_turns a b c r h.0 h.1.0 h.1.1.0 place positive (subst NonNeg (sym e0) l.0.0.1)
          (subst NonNeg (sym e1) l.0.1) (subst NonNeg (sym e2) l.1),
    )

some_left : (a b c p q : Point) → Some (λ x d. LeftOfAll a b c p q x d)
some_left a b c p q =
    cut_some (λ x d. (Unit {0} × LeftOf a b p q x d) × LeftOf b c p q x d) (turn_of c a p) (turn_of c a q)
    (cut_some (λ x d. Unit {0} × LeftOf a b p q x d) (turn_of b c p) (turn_of b c q)
    (cut (λ x d. Unit {0}) (turn_of a b p) (turn_of a b q) whole_way))

pub segments_meet_in_intervals : SegmentsMeetInIntervals
segments_meet_in_intervals a b c p q h positive =
    told (for_same (λ x d. LeftOfAll a b c p q x d) (λ x d. IsMix (along p q x d) (a ∷ b ∷ c ∷ []))
    (λ x d param. in_iff_left a b c p q x d h positive param) (some_left a b c p q))
  where
    told : Some (λ x d. IsMix (along p q x d) (a ∷ b ∷ c ∷ []))
        → ((n d : ℤ) → IsParam n d → IsMix (along p q n d) (a ∷ b ∷ c ∷ []) → ⊥) ⊎ AreFromTo a b c p q
    told (inl none) = inl none
    told (inr i) = inr (record {
      least = i.k;
      least_of = i.l;
      greatest = i.m;
      greatest_of = i.n;
      first = i.first;
      last =
          i.last;
      order = i.order;
      between = i.between;
    })
