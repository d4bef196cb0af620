-- On the way from a point to another, where each point is in some triangle, some triangle has the first point and a
-- point further on. Near the first point each side is on one hand all along, and so each triangle has all of the way or
-- none. How near is a natural number n: the points k·p + l·q with n·l ≤ k.
use Rattle.std.proofs.Common.{◌≡◌, ◌⊎◌, inl, inr, ℕ, suc, zero, ◌+◌, ◌*◌, ◌<◌, ◌≤◌, ℤ, pos, ◌+ℤ◌, ◌-ℤ◌, ◌*ℤ◌, ◌≤ℤ◌}
use Rattle.std.proofs.Common.{◌<ℤ◌, List, [], ◌∷◌, length, subst, arith}
use Rattle.std.proofs.lemmas.Int.{ints}
use Rattle.integer_ring.proofs.Ring.{num, ◌⊕◌, ◌⊖◌, ◌⊗◌}
use Rattle.integer_ring.proofs.Order.{nonneg_pos, ≤_or_>, ≤_antisymm}
use Rattle.integer_ring.proofs.Claims.{◌≐◌, ◌≼◌, ◌≺◌, gap, over, ◌⊞◌, ◌⊠◌, ◌because◌, ◌⇒◌, follows}
use lib.Signed.{lt_z_yes}
use Rattle.plane_base.specs.Plane.{Point, turn_of, IsMix}
use Rattle.plane_base.proofs.MixLaws.Points.{turn, plus, nothing, solve_at}
use Rattle.plane_base.proofs.TriangleLaws.InTriangle.{turns_of_mix, mix_of_turns}
use Rattle.plane_base.proofs.MixLaws.Mixes.{same_refl, mixed, between-w, weights_between}
use Rattle.tin_base.specs.declared.frames.Frame.{Frame}
use Rattle.tin_base.specs.Triangulation.{Triangulation, numbers_of, places, IsInTriangle}
use Rattle.tin_base.specs.Soundness.{turn_of_three}
use Rattle.tin_base.specs.Images.{IsInSome}
use Rattle.tin_base.specs.Relations.{IsBetween}
use Rattle.plain_laws.proofs.Weights.{lift}

-- ---- a value that goes from u to v: near u it has one sign all along
abbrev IsNearFirst : ℕ → ℕ → ℕ → Type 0
IsNearFirst n k l = n * l ≤ k

abbrev IsPositiveNear : ℕ → ℤ → ℤ → Type 0
IsPositiveNear n u v = (k l : ℕ) → IsNearFirst n k l → pos 0 ≤ℤ (pos k *ℤ u +ℤ pos l *ℤ v)

abbrev IsNegativeNear : ℕ → ℤ → ℤ → Type 0
IsNegativeNear n u v = (k l : ℕ) → IsNearFirst n k l → 0 < l → (pos k *ℤ u +ℤ pos l *ℤ v) <ℤ pos 0

near_in_z : (n k l : ℕ) → n * l ≤ k → (pos n *ℤ pos l) ≤ℤ pos k
near_in_z n k l h = let m : pos (n * l) ≤ℤ pos k = omega (arith, ints) in m

above_in_z : (l : ℕ) → 0 < l → pos 0 <ℤ pos l
above_in_z l h = omega (arith, ints)

kept_where_above : (u v : ℤ) (n : ℕ) → pos 0 <ℤ u → pos 0 ≤ℤ (pos n +ℤ v) → IsPositiveNear n u v
kept_where_above u v n hu hv k l near =
    follows 5 (λ u v n k l. num (pos 0) ≺ u ⇒ num (pos 0) ≼ n ⊕ v ⇒ num (pos 0) ≼ n ⇒ num (pos 0) ≼ l ⇒ n
    ⊗ l ≼ k ⇒ num (pos 0) ≼ k ⊗ u ⊕ l ⊗ v
    because gap 4 ⊠ gap 0 ⊞ gap 2 ⊠ gap 3 ⊠ over 0 ⊞ gap 3 ⊠ gap 1) tt u v (pos n) (pos k) (pos l) hu hv (nonneg_pos n)
    (nonneg_pos l) (near_in_z n k l near)

kept_where_zero : (u v : ℤ) → u ≡ pos 0 → pos 0 ≤ℤ v → IsPositiveNear 0 u v
kept_where_zero u v e hv k l near = grind (arith, nonneg_pos)

lost_where_zero : (u v : ℤ) → u ≡ pos 0 → v <ℤ pos 0 → IsNegativeNear 0 u v
lost_where_zero u v e hv k l near some = grind (arith, above_in_z)

lost_where_below : (u v : ℤ) (n : ℕ) → u <ℤ pos 0 → pos 0 ≤ℤ (pos n +ℤ (pos 0 -ℤ v -ℤ pos 1)) → IsNegativeNear n u v
lost_where_below u v n hu hv k l near some =
    follows 5 (λ u v n k l. u ≺ num (pos 0) ⇒ num (pos 0) ≼ n
    ⊕ (num (pos 0) ⊖ v ⊖ num (pos 1)) ⇒ num (pos 0) ≼ n ⇒ num (pos 0) ≺ l ⇒ n ⊗ l ≼ k ⇒ k ⊗ u ⊕ l ⊗ v ≺ num (pos 0)
    because gap 4 ⊠ gap 0 ⊞ gap 2 ⊠ gap 3 ⊠ over 0 ⊞ gap 3 ⊠ gap 1 ⊞ over 3) tt u v (pos n) (pos k) (pos l) hu hv
    (nonneg_pos n) (above_in_z l some) (near_in_z n k l near)

-- one side
record Side (u v : ℤ) : Type 0 where
  n : ℕ
  one_sign : IsPositiveNear n u v ⊎ IsNegativeNear n u v

side : (u v : ℤ) → Side u v
side u v = go (≤_or_> u (pos 0)) (≤_or_> (pos 0) u) (≤_or_> (pos 0) v)
  where
    go : (u ≤ℤ pos 0) ⊎ (pos 0 <ℤ u) → (pos 0 ≤ℤ u) ⊎ (u <ℤ pos 0) → (pos 0 ≤ℤ v) ⊎ (v <ℤ pos 0) → Side u v
    go (inr h) y z = let f = lift v in record { n = f.0; one_sign = inl (kept_where_above u v f.0 h f.1) }
    go (inl h) (inr k) z = let f = lift (pos 0 -ℤ v -ℤ pos 1) in record {
      n = f.0;
      one_sign =
          inr (lost_where_below u v f.0 k f.1);
    }
    go (inl h) (inl k) (inl j) = record { n = 0; one_sign = inl (kept_where_zero u v (≤_antisymm u (pos 0) h k) j) }
    go (inl h) (inl k) (inr j) = record { n = 0; one_sign = inr (lost_where_zero u v (≤_antisymm u (pos 0) h k) j) }

-- nearer than the sum is nearer than each
nearer_first : (m n k l : ℕ) → (m + n) * l ≤ k → m * l ≤ k
nearer_first m n k l h = omega arith

nearer_second : (m n k l : ℕ) → (m + n) * l ≤ k → n * l ≤ k
nearer_second m n k l h = omega arith

-- ---- one triangle
abbrev HasAllNear : Point → Point → List Point → ℕ → Type 0
HasAllNear p q corners n = (k l : ℕ) → 0 < k → n * l ≤ k → IsMix (mixed k l p q) corners

abbrev HasNoneNear : Point → Point → List Point → ℕ → Type 0
HasNoneNear p q corners n = (k l : ℕ) → 0 < k → 0 < l → n * l ≤ k → IsMix (mixed k l p q) corners → ⊥

pub turn_mixed : (a b p q : Point) (k l : ℕ)
    → pos k *ℤ turn_of a b p +ℤ pos l *ℤ turn_of a b q ≡ turn_of a b (mixed k l p q)
turn_mixed a b p q k l = solve_at 4 2 (λ a b p q k l. k ⊗ turn a b p ⊕ l ⊗ turn a b q
    ≐ turn a b (plus k p (plus l q nothing))) tt a b p q (pos k) (pos l)

some_k : (k l : ℕ) → 0 < k → 0 < k + l
some_k k l h = omega arith

mixed_positive : (p q : Point) (k l : ℕ) → pos 0 <ℤ p.w → pos 0 <ℤ q.w → 0 < k → pos 0 <ℤ (mixed k l p q).w
mixed_positive p q k l hp hq h = between-w p q (mixed k l p q)
    (record { k = k; l = l; some = some_k k l h; same = same_refl (mixed k l p q) }) hp hq

record Near (p q : Point) (corners : List Point) : Type 0 where
  n : ℕ
  all_or_none : HasAllNear p q corners n ⊎ HasNoneNear p q corners n

contrary : (z : ℤ) → pos 0 ≤ℤ z → z <ℤ pos 0 → ⊥
contrary z h k = absurd (omega (arith, ints))

one_triangle : (a b c p q : Point) → pos 0 <ℤ a.w → pos 0 <ℤ b.w → pos 0 <ℤ c.w → pos 0 <ℤ p.w → pos 0 <ℤ q.w
    → pos 0 <ℤ turn_of a b c → Near p q (a ∷ b ∷ c ∷ [])
one_triangle a b c p q ha hb hc hp hq d = go (side (turn_of a b p) (turn_of a b q))
    (side (turn_of b c p) (turn_of b c q)) (side (turn_of c a p) (turn_of c a q))
  where
    kept : (e f : Point) (n k l : ℕ) → IsPositiveNear n (turn_of e f p) (turn_of e f q) → n * l ≤ k
        → pos 0 ≤ℤ turn_of e f (mixed k l p q)
    kept e f n k l h near = subst (λ (z : ℤ). pos 0 ≤ℤ z) (turn_mixed e f p q k l) (h k l near)

    lost : (e f : Point) (n k l : ℕ) → IsNegativeNear n (turn_of e f p) (turn_of e f q) → 0 < l → n * l ≤ k
        → turn_of e f (mixed k l p q) <ℤ pos 0
    lost e f n k l h some near = subst (λ (z : ℤ). z <ℤ pos 0) (turn_mixed e f p q k l) (h k l near some)

    turns : (k l : ℕ) → 0 < k → IsMix (mixed k l p q) (a ∷ b ∷ c ∷ [])
        → (pos 0 ≤ℤ turn_of a b (mixed k l p q)) × (pos 0 ≤ℤ turn_of b c (mixed k l p q))
        × (pos 0 ≤ℤ turn_of c a (mixed k l p q))
    turns k l h m = turns_of_mix a b c (mixed k l p q) ha hb hc (mixed_positive p q k l hp hq h) d m

    pick : (x y z : ℕ) → IsPositiveNear x (turn_of a b p) (turn_of a b q)
        ⊎ IsNegativeNear x (turn_of a b p) (turn_of a b q)
        → IsPositiveNear y (turn_of b c p) (turn_of b c q) ⊎ IsNegativeNear y (turn_of b c p) (turn_of b c q)
        → IsPositiveNear z (turn_of c a p) (turn_of c a q) ⊎ IsNegativeNear z (turn_of c a p) (turn_of c a q)
        → Near p q (a ∷ b ∷ c ∷ [])
    pick x y z (inl h) (inl i) (inl j) =
        record {
          n = x + y + z;
          all_or_none = inl (λ k l some near.
              mix_of_turns a b c (mixed k l p q) ha hb hc (mixed_positive p q k l hp hq some) d
              (kept a b x k l h (nearer_first x y k l (nearer_first (x + y) z k l near)))
              (kept b c y k l i (nearer_second x y k l (nearer_first (x + y) z k l near)))
              (kept c a z k l j (nearer_second (x + y) z k l near)));
        }
    pick x y z (inr h) i j = record {
      n = x;
      all_or_none =
          inr (λ k l some some' near m. contrary _ (turns k l some m).0 (lost a b x k l h some' near));
    }
    pick x y z (inl h) (inr i) j = record {
      n = y;
      all_or_none =
          inr (λ k l some some' near m. contrary _ (turns k l some m).1 (lost b c y k l i some' near));
    }
    pick x y z (inl h) (inl i) (inr j) = record {
      n = z;
      all_or_none =
          inr (λ k l some some' near m. contrary _ (turns k l some m).2 (lost c a z k l j some' near));
    }

    go : Side (turn_of a b p) (turn_of a b q) → Side (turn_of b c p) (turn_of b c q)
        → Side (turn_of c a p) (turn_of c a q) → Near p q (a ∷ b ∷ c ∷ [])
    go r s t = pick r.n s.n t.n r.one_sign s.one_sign t.one_sign

-- ---- the triangles below m
abbrev pub IsSteady : Triangulation → Frame → Type 0
IsSteady tin frame = (t : ℕ) → t < length tin.triangles → pos 0 <ℤ turn_of_three (places tin frame (numbers_of tin t))

one : pos 0 <ℤ pos 1
one = lt_z_yes tt

near_places : (tin : Triangulation) (frame : Frame) (ns : List ℕ) (p q : Point) → pos 0 <ℤ p.w → pos 0 <ℤ q.w
    → pos 0 <ℤ turn_of_three (places tin frame ns) → Near p q (places tin frame ns)
near_places tin frame (a ∷ b ∷ c ∷ []) p q hp hq d = grind (arith, one_triangle, one)
near_places tin frame ns p q hp hq d = absurd d.lt

-- some triangle has all of the way near p, or none below m has any of it
record Found (tin : Triangulation) (frame : Frame) (p q : Point) (m : ℕ) : Type 0 where
  n : ℕ
  found : ((t : ℕ) × (t < length tin.triangles) × HasAllNear p q (places tin frame (numbers_of tin t)) n)
      ⊎ ((t : ℕ) → t < m → HasNoneNear p q (places tin frame (numbers_of tin t)) n)

none_yet : (tin : Triangulation) (frame : Frame) (p q : Point) → Found tin frame p q 0
none_yet tin frame p q = record { n = 0; found = inr (λ t h. absurd (omega arith)) }

look : (tin : Triangulation) (frame : Frame) (p q : Point) (m : ℕ) → m < length tin.triangles
    → Near p q (places tin frame (numbers_of tin m)) → Found tin frame p q m → Found tin frame p q (suc m)
look tin frame p q m hm near before = go before.found near.all_or_none
  where
    last : (t : ℕ) → t < suc m → (t < m) ⊎ (t ≡ m)
    last t h = grind arith

    go : ((t : ℕ) × (t < length tin.triangles) × HasAllNear p q (places tin frame (numbers_of tin t)) before.n)
        ⊎ ((t : ℕ) → t < m → HasNoneNear p q (places tin frame (numbers_of tin t)) before.n)
        → HasAllNear p q (places tin frame (numbers_of tin m)) near.n
        ⊎ HasNoneNear p q (places tin frame (numbers_of tin m)) near.n → Found tin frame p q (suc m)
    go (inl h) y = record { n = before.n; found = inl h }
    go (inr h) (inl all) = record { n = near.n; found = inl (m, hm, all) }
    go (inr h) (inr none) = record {
      n = before.n + near.n;
      found =
          inr (λ t below k l some some' close. pick t k l some some' close (last t below));
    }
      where
        pick : (t k l : ℕ) → 0 < k → 0 < l → (before.n + near.n) * l ≤ k → (t < m) ⊎ (t ≡ m)
            → IsMix (mixed k l p q) (places tin frame (numbers_of tin t)) → ⊥
        pick t k l some some' close (inl below) = h t below k l some some' (nearer_first before.n near.n k l close)
        pick t k l some some' close (inr e) = λ in_t. none k l some some' (nearer_second before.n near.n k l close)
            (subst (λ (j : ℕ). IsMix (mixed k l p q) (places tin frame (numbers_of tin j))) e in_t)

look_at : (tin : Triangulation) (frame : Frame) (p q : Point) (m : ℕ) → m ≤ length tin.triangles → IsSteady tin frame
    → pos 0 <ℤ p.w → pos 0 <ℤ q.w → Found tin frame p q m
look_at tin frame p q zero h steady hp hq = none_yet tin frame p q
look_at tin frame p q (suc m) h steady hp hq =
    grind (arith, look, near_places, (look_at tin frame p q m (omega arith) steady hp hq))

-- ---- some triangle has p and a point further on
pub record StepsOn (tin : Triangulation) (frame : Frame) (p q : Point) : Type 0 where
  pub triangle : ℕ
  pub in_range : triangle < length tin.triangles
  pub n : ℕ
  -- the triangle has p, and the point (n + 1)·p + q
  pub has_first : IsInTriangle tin frame triangle (mixed 1 0 p q)
  pub has_next : IsInTriangle tin frame triangle (mixed (n + 1) 1 p q)

pub steps_on : (tin : Triangulation) (frame : Frame) (p q : Point) → IsSteady tin frame → pos 0 <ℤ p.w → pos 0 <ℤ q.w
    → ((r : Point) → pos 0 <ℤ r.w → IsBetween p q r → IsInSome tin frame r) → StepsOn tin frame p q
steps_on tin frame p q steady hp hq inside =
    go (look_at tin frame p q (length tin.triangles) (omega arith) steady hp hq)
  where
    next : (n : ℕ) → IsInSome tin frame (mixed (n + 1) 1 p q)
    next n =
        inside (mixed (n + 1) 1 p q) (mixed_positive p q (n + 1) 1 hp hq (omega arith))
        (weights_between p q (mixed (n + 1) 1 p q)
        (record { k = n + 1; l = 1; some = omega arith; same = same_refl (mixed (n + 1) 1 p q) }))

    pick : (n : ℕ) → ((t : ℕ) × (t < length tin.triangles) × HasAllNear p q (places tin frame (numbers_of tin t)) n)
        ⊎ ((t : ℕ) → t < length tin.triangles → HasNoneNear p q (places tin frame (numbers_of tin t)) n)
        → StepsOn tin frame p q
    pick n (inl h) = record {
      triangle = h.0;
      in_range = h.1;
      n = n;
      has_first =
          h.2 1 0 (omega arith) (omega arith);
      has_next = h.2 (n + 1) 1 (omega arith) (omega arith);
    }
    pick n (inr none) = let i = next n in absurd (none i.0 i.1 (n + 1) 1 (omega arith) (omega arith) (omega arith) i.2)

    go : Found tin frame p q (length tin.triangles) → StepsOn tin frame p q
    go f = pick f.n f.found
