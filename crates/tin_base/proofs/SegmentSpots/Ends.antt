-- Where a triangle has a point of a segment, there is a last such point; and a first one, which is the last from the
-- other end.
use Rattle.std.proofs.Common.{◌≡◌, ◌⊎◌, inl, inr, ℕ, ◌+◌, ◌*◌, ◌<◌, ◌≤◌, ℤ, pos, ◌+ℤ◌, ◌*ℤ◌, ◌≤ℤ◌, ◌<ℤ◌, neg_ℤ, sym}
use Rattle.std.proofs.Common.{arith}
use Rattle.std.proofs.lemmas.Int.{ints}
use Rattle.integer_ring.proofs.Ring.{num, neg, ◌⊕◌, ◌⊗◌}
use Rattle.integer_ring.proofs.Order.{nonneg_pos, ≤_or_>, to_nat}
use Rattle.integer_ring.proofs.Claims.{◌≐◌, ◌≼◌, ◌≺◌, gap, over, eqn, ◌⊞◌, ◌⊠◌, ◌because◌, ◌otherwise◌, ◌⇒◌, follows}
use Rattle.tin_base.specs.Segments.{Spot, at_b, IsBefore, IsNotAfter, IsSameSpot}
use Rattle.plain_laws.proofs.Weights.{two_positive}
use Rattle.plain_laws.proofs.Order.{at_most_of_equal, equal_of_both}

-- ---- the order of spots, in ℕ: fractions by cross multiplication
abbrev pub IsSpot : Spot → Type 0
IsSpot s = 0 < s.of_a + s.of_b

in_z : (m n : ℕ) → m ≤ n → pos m ≤ℤ pos n
in_z m n h = omega (arith, ints)

pub out_z : (m n : ℕ) → pos m ≤ℤ pos n → m ≤ n
out_z m n h = omega (arith, ints)

-- b/a ≤ d/c and d/c ≤ f/e
trans_z : (a b c d e f : ℤ) → pos 0 ≤ℤ a → pos 0 ≤ℤ e → pos 0 ≤ℤ c → pos 0 ≤ℤ d → pos 0 ≤ℤ b → pos 0 ≤ℤ f
    → pos 0 <ℤ (c +ℤ d) → (b *ℤ c) ≤ℤ (d *ℤ a) → (d *ℤ e) ≤ℤ (f *ℤ c) → (b *ℤ e) ≤ℤ (f *ℤ a)
trans_z =
    follows 6 (λ a b c d e f. num (pos 0) ≼ a ⇒ num (pos 0) ≼ e ⇒ num (pos 0) ≼ c ⇒ num (pos 0) ≼ d ⇒ num (pos 0) ≼ b ⇒
    num (pos 0) ≼ f ⇒ num (pos 0) ≺ c ⊕ d ⇒ b ⊗ c ≼ d ⊗ a ⇒ d ⊗ e ≼ f ⊗ c ⇒ b ⊗ e ≼ f ⊗ a
    otherwise gap 7 ⊠ gap 1 ⊞ gap 8 ⊠ gap 0 ⊞ gap 8 ⊠ gap 4 ⊞ gap 7 ⊠ gap 5 ⊞ over 9 ⊠ gap 6 ⊞ over 6) tt

pub no_later_trans : (s t u : Spot) → IsSpot t → IsNotAfter s t → IsNotAfter t u → IsNotAfter s u
no_later_trans s t u some h k =
    out_z (s.of_b * u.of_a) (u.of_b * s.of_a)
    (trans_z (pos s.of_a) (pos s.of_b) (pos t.of_a) (pos t.of_b) (pos u.of_a) (pos u.of_b)
    (nonneg_pos s.of_a) (nonneg_pos u.of_a) (nonneg_pos t.of_a) (nonneg_pos t.of_b) (nonneg_pos s.of_b)
    (nonneg_pos u.of_b) (two_positive t.of_a t.of_b some)
    (in_z (s.of_b * t.of_a) (t.of_b * s.of_a) h) (in_z (t.of_b * u.of_a) (u.of_b * t.of_a) k))

less_or : (m n : ℕ) → (m < n) ⊎ (n ≤ m)
less_or m n = grind arith

pub before_or : (s t : Spot) → IsBefore s t ⊎ IsNotAfter t s
before_or s t = less_or (s.of_b * t.of_a) (t.of_b * s.of_a)

not_less : (m n : ℕ) → m < n → n ≤ m → ⊥
not_less m n h k = absurd (omega arith)

pub not_both : (s t : Spot) → IsBefore s t → IsNotAfter t s → ⊥
not_both s t h k = not_less (s.of_b * t.of_a) (t.of_b * s.of_a) h k

less_le : (m n : ℕ) → m < n → m ≤ n
less_le m n h = omega arith

pub no_later : (s t : Spot) → IsBefore s t → IsNotAfter s t
no_later s t h = less_le (s.of_b * t.of_a) (t.of_b * s.of_a) h

-- one spot twice
pub up_to_same : (s t : Spot) → IsSameSpot s t → IsNotAfter s t
up_to_same s t e = at_most_of_equal (s.of_b * t.of_a) (t.of_b * s.of_a) e

pub from_same : (s t : Spot) → IsSameSpot s t → IsNotAfter t s
from_same s t e = at_most_of_equal (t.of_b * s.of_a) (s.of_b * t.of_a) (sym e)

pub same_of : (s t : Spot) → IsNotAfter s t → IsNotAfter t s → IsSameSpot s t
same_of s t h k = equal_of_both (s.of_b * t.of_a) (t.of_b * s.of_a) h k

pub before_trans_right : (s t u : Spot) → IsSpot u → IsBefore s t → IsNotAfter t u → IsBefore s u
before_trans_right s t u some h k = grind (arith, before_or, not_both, no_later_trans)

pub before_trans_left : (s t u : Spot) → IsSpot s → IsNotAfter s t → IsBefore t u → IsBefore s u
before_trans_left s t u some h k = grind (arith, before_or, not_both, no_later_trans)

-- ---- the last spot of some spots, from r on
pub record Last (P : Spot → Type 0) (r : Spot) : Type 0 where
  pub spot : Spot
  pub some : IsSpot spot
  pub from : IsNotAfter r spot
  pub upto : (s : Spot) → IsSpot s → IsNotAfter r s → IsNotAfter s spot → P s
  pub only : (s : Spot) → IsSpot s → P s → IsNotAfter s spot

last_both : (P Q : Spot → Type 0) (r : Spot) → Last P r → Last Q r → Last (λ s. P s × Q s) r
last_both P Q r f g = grind (arith, before_or, no_later_trans, no_later)

-- ---- a value that goes from u at a to v at b
abbrev pub IsKeptAt : ℤ → ℤ → Spot → Type 0
IsKeptAt u v s = pos 0 ≤ℤ (pos s.of_a *ℤ u +ℤ pos s.of_b *ℤ v)

-- where v is not negative: up to b
kept_up : (u v r q s t : ℤ) → pos 0 ≤ℤ v → pos 0 ≤ℤ r → pos 0 ≤ℤ q → pos 0 ≤ℤ s → pos 0 ≤ℤ t → pos 0 <ℤ (r +ℤ q)
    → pos 0 ≤ℤ (r *ℤ u +ℤ q *ℤ v) → (q *ℤ s) ≤ℤ (t *ℤ r) → pos 0 ≤ℤ (s *ℤ u +ℤ t *ℤ v)
kept_up u v r q s t hv hr hq hs ht some kept order = go (≤_or_> (pos 0) u)
  where
    go : (pos 0 ≤ℤ u) ⊎ (u <ℤ pos 0) → pos 0 ≤ℤ (s *ℤ u +ℤ t *ℤ v)
    go (inl hu) = grind arith
    go (inr hu) =
        follows 6 (λ u v r q s t. u ≺ num (pos 0) ⇒ num (pos 0) ≼ v ⇒ num (pos 0) ≼ s ⇒ num (pos 0) ≼ t ⇒ num (pos 0) ≺
        r ⊕ q ⇒ num (pos 0) ≼ r ⊗ u ⊕ q ⊗ v ⇒ q ⊗ s ≼ t ⊗ r ⇒ num (pos 0) ≼ s ⊗ u ⊕ t ⊗ v
        otherwise gap 2 ⊠ gap 5 ⊞ gap 1 ⊠ gap 6 ⊞ gap 3 ⊠ gap 5 ⊞ gap 0 ⊠ gap 6 ⊞ over 7 ⊠ gap 4 ⊞ over 4) tt u v r q s
        t hu hv hs ht some kept order

last_up : (u v : ℤ) (r : Spot) → IsSpot r → pos 0 ≤ℤ v → IsKeptAt u v r → Last (IsKeptAt u v) r
last_up u v r some hv kept =
    record {
      spot = at_b;
      some = omega arith;
      from = omega arith;
      upto = λ s some_s order _. kept_up u v (pos r.of_a) (pos r.of_b) (pos s.of_a) (pos s.of_b) hv (nonneg_pos r.of_a)
          (nonneg_pos r.of_b) (nonneg_pos s.of_a) (nonneg_pos s.of_b) (two_positive r.of_a r.of_b some) kept
          (in_z (r.of_b * s.of_a) (s.of_b * r.of_a) order);
      only = λ s some_s m. omega arith;
    }

-- where v is negative: up to the spot with the weights -v and u
start_up : (u v r q : ℤ) → v <ℤ pos 0 → pos 0 ≤ℤ r → pos 0 ≤ℤ q → pos 0 <ℤ (r +ℤ q) → pos 0 ≤ℤ (r *ℤ u +ℤ q *ℤ v)
    → pos 0 ≤ℤ u
start_up = grind arith

down_to : (u v n m s t : ℤ) → u ≡ n → neg_ℤ v ≡ m → (t *ℤ m) ≤ℤ (n *ℤ s) → pos 0 ≤ℤ (s *ℤ u +ℤ t *ℤ v)
down_to = follows 6 (λ u v n m s t. u ≐ n ⇒ neg v ≐ m ⇒ t ⊗ m ≼ n ⊗ s ⇒ num (pos 0) ≼ s ⊗ u ⊕ t
    ⊗ v because gap 2 ⊞ eqn 0 (neg s) ⊞ eqn 1 t) tt

down_from : (u v n m s t : ℤ) → u ≡ n → neg_ℤ v ≡ m → pos 0 ≤ℤ (s *ℤ u +ℤ t *ℤ v) → (t *ℤ m) ≤ℤ (n *ℤ s)
down_from = follows 6 (λ u v n m s t. u ≐ n ⇒ neg v ≐ m ⇒ num (pos 0) ≼ s ⊗ u ⊕ t ⊗ v ⇒ t ⊗ m ≼ n
    ⊗ s because gap 2 ⊞ eqn 0 s ⊞ eqn 1 (neg t)) tt

some_down : (v : ℤ) (m n : ℕ) → v <ℤ pos 0 → neg_ℤ v ≡ pos m → 0 < m + n
some_down v m n h e = omega (arith, ints)

last_down : (u v : ℤ) (r : Spot) → IsSpot r → v <ℤ pos 0 → IsKeptAt u v r → Last (IsKeptAt u v) r
last_down u v r some hv kept = go (to_nat u
    (start_up u v (pos r.of_a) (pos r.of_b) hv (nonneg_pos r.of_a) (nonneg_pos r.of_b) (two_positive r.of_a r.of_b some)
    kept)) (to_nat (neg_ℤ v) (down hv))
  where
    down : v <ℤ pos 0 → pos 0 ≤ℤ neg_ℤ v
    down h = omega (arith, ints)

    go : (n : ℕ) × (u ≡ pos n) → (m : ℕ) × (neg_ℤ v ≡ pos m) → Last (IsKeptAt u v) r
    go n m =
        record {
          spot = record { of_a = m.0; of_b = n.0 };
          some = some_down v m.0 n.0 hv m.1;
          from = out_z (r.of_b * m.0) (n.0 * r.of_a)
              (down_from u v (pos n.0) (pos m.0) (pos r.of_a) (pos r.of_b) n.1 m.1 kept);
          upto = λ s some_s _ order. down_to u v (pos n.0) (pos m.0) (pos s.of_a) (pos s.of_b) n.1 m.1
              (in_z (s.of_b * m.0) (n.0 * s.of_a) order);
          only = λ s some_s k. out_z (s.of_b * m.0) (n.0 * s.of_a)
              (down_from u v (pos n.0) (pos m.0) (pos s.of_a) (pos s.of_b) n.1 m.1 k);
        }

last_kept : (u v : ℤ) (r : Spot) → IsSpot r → IsKeptAt u v r → Last (IsKeptAt u v) r
last_kept u v r some kept = grind (arith, ≤_or_>, last_up, last_down)

abbrev pub AreKeptAt : ℤ → ℤ → ℤ → ℤ → ℤ → ℤ → Spot → Type 0
AreKeptAt u v w x y z s = IsKeptAt u v s × (IsKeptAt w x s × IsKeptAt y z s)

pub last_of_three : (u v w x y z : ℤ) (r : Spot) → IsSpot r → AreKeptAt u v w x y z r → Last (AreKeptAt u v w x y z) r
last_of_three u v w x y z r some k = last_both (IsKeptAt u v) (λ s. IsKeptAt w x s × IsKeptAt y z s) r
    (last_kept u v r some k.0) (last_both (IsKeptAt w x) (IsKeptAt y z) r (last_kept w x r some (k.1).0)
    (last_kept y z r some (k.1).1))

-- ---- seen from the other end
abbrev pub mirrored : Spot → Spot
mirrored s = record { of_a = s.of_b; of_b = s.of_a }

pub mirror_later : (s t : Spot) → IsNotAfter s t → IsNotAfter (mirrored t) (mirrored s)
mirror_later s t h = grind arith

mirror_kept : (u v s t : ℤ) → pos 0 ≤ℤ (s *ℤ u +ℤ t *ℤ v) → pos 0 ≤ℤ (t *ℤ v +ℤ s *ℤ u)
mirror_kept = follows 4 (λ u v s t. num (pos 0) ≼ s ⊗ u ⊕ t ⊗ v ⇒ num (pos 0) ≼ t ⊗ v ⊕ s ⊗ u because gap 0) tt

pub mirror_three : (u v w x y z : ℤ) (s : Spot) → AreKeptAt u v w x y z s → AreKeptAt v u x w z y (mirrored s)
mirror_three u v w x y z s k = grind (arith, mirror_kept)
