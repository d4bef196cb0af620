-- The three corners of a triangle with positive turn are different ones.
use Rattle.std.proofs.Common.{◌≡◌, ◌≢◌, ℕ, zero, suc, ◌<◌, ℤ, pos, ◌<ℤ◌, true, List, [], ◌∷◌}
use Rattle.std.proofs.Common.{length, get_or, All, refl, sym, ◌∙◌, subst, arith}
use Rattle.plane_base.specs.Plane.{Point, turn_of}
use Rattle.plane_base.proofs.MixLaws.Turns.{turn_cycle, turn_twice}
use Rattle.tin_base.specs.declared.frames.Frame.TheVariants.{Source}
use Rattle.tin_base.specs.Triangulation.{Triangulation, place, corner_at, numbers_of, places}
use Rattle.tin_base.specs.Soundness.{turn_of_three, has, IsSound}
use Rattle.tin_base.specs.Limits.{IsWithinLimits}
use Rattle.tin_base.proofs.TriangleLemmas.Members.{has_first, has_second, has_third}
use Rattle.std.proofs.lemmas.Int.{ints}

pub not_zero : (z : ℤ) → pos 0 <ℤ z → z ≡ pos 0 → ⊥
not_zero z h e = absurd (omega (arith, ints))

-- a triangle's three corners
pub record Numbered (tin : Triangulation) (ns : List ℕ) : Type 0 where
  pub i : ℕ
  pub j : ℕ
  pub k : ℕ
  pub is : ns ≡ i ∷ j ∷ k ∷ []
  pub ij : i ≢ j
  pub ik : i ≢ k
  pub jk : j ≢ k
  pub first : i < length tin.corners
  pub second : j < length tin.corners
  pub third : k < length tin.corners
  pub positive : pos 0 <ℤ turn_of (place Source (corner_at tin i)) (place Source (corner_at tin j))
      (place Source (corner_at tin k))

numbered_list : (tin : Triangulation) (ns : List ℕ) → length ns ≡ 3 → All (λ n. n < length tin.corners) ns
    → pos 0 <ℤ turn_of_three (places tin Source ns) → Numbered tin ns
numbered_list tin [] e below t = absurd (omega arith)
numbered_list tin (i ∷ []) e below t = absurd (omega arith)
numbered_list tin (i ∷ j ∷ []) e below t = absurd (omega arith)
numbered_list tin (i ∷ j ∷ k ∷ l ∷ ns) e below t = absurd (omega arith)
numbered_list tin (i ∷ j ∷ k ∷ []) e below t =
    record {
      i = i;
      j = j;
      k = k;
      is = refl;
      ij = λ s. not_zero (turn_of (at i) (at j) (at k)) t
          (subst (λ (n : ℕ). turn_of (at i) (at n) (at k) ≡ pos 0) s (turn_twice (at i) (at k)));
      ik = λ s. not_zero (turn_of (at i) (at j) (at k)) t
          (subst (λ (n : ℕ). turn_of (at i) (at j) (at n) ≡ pos 0) s
          (sym (turn_cycle (at i) (at i) (at j)) ∙ turn_twice (at i) (at j)));
      jk = λ s. not_zero (turn_of (at i) (at j) (at k)) t
          (subst (λ (n : ℕ). turn_of (at i) (at j) (at n) ≡ pos 0) s
          (turn_cycle (at i) (at j) (at j) ∙ turn_twice (at j) (at i)));
      first = below 0 0 (omega arith);
      second = below 1 0 (omega arith);
      third = below 2 0 (omega arith);
      positive = t;
    }
  where
    at : ℕ → Point
    at n = place Source (corner_at tin n)

pub numbered : (tin : Triangulation) (t : ℕ) → IsWithinLimits tin → IsSound tin → t < length tin.triangles
    → Numbered tin (numbers_of tin t)
numbered tin t limits sound ht = numbered_list tin (numbers_of tin t) (limits.three t ht) (limits.in_range t ht)
    (sound.positive Source t ht)

-- the corners as they are read
pub read_differ : (tin : Triangulation) (t m n : ℕ) → IsWithinLimits tin → IsSound tin → t < length tin.triangles
    → m < 3 → n < 3 → m ≢ n → get_or (numbers_of tin t) m 0 ≢ get_or (numbers_of tin t) n 0
read_differ tin t m n limits sound ht hm hn differ = go (numbered tin t limits sound ht)
  where
    at_least : (i j k m n : ℕ) → i ≢ j → i ≢ k → j ≢ k → m < 3 → n < 3 → m ≢ n
        → get_or (i ∷ j ∷ k ∷ []) m 0 ≢ get_or (i ∷ j ∷ k ∷ []) n 0
    at_least i j k zero zero ij ik jk hm hn d = λ _. d refl
    at_least i j k zero (suc zero) ij ik jk hm hn d = ij
    at_least i j k zero (suc (suc zero)) ij ik jk hm hn d = ik
    at_least i j k (suc zero) zero ij ik jk hm hn d = λ e. ij (sym e)
    at_least i j k (suc zero) (suc zero) ij ik jk hm hn d = λ _. d refl
    at_least i j k (suc zero) (suc (suc zero)) ij ik jk hm hn d = jk
    at_least i j k (suc (suc zero)) zero ij ik jk hm hn d = λ e. ik (sym e)
    at_least i j k (suc (suc zero)) (suc zero) ij ik jk hm hn d = λ e. jk (sym e)
    at_least i j k (suc (suc zero)) (suc (suc zero)) ij ik jk hm hn d = λ _. d refl
    at_least i j k m n ij ik jk hm hn d = absurd (omega arith)

    go : Numbered tin (numbers_of tin t) → get_or (numbers_of tin t) m 0 ≢ get_or (numbers_of tin t) n 0
    go s = subst (λ (ns : List ℕ). get_or ns m 0 ≢ get_or ns n 0) (sym s.is)
        (at_least s.i s.j s.k m n s.ij s.ik s.jk hm hn differ)

-- the list of the three, as they are read
pub three_read : (tin : Triangulation) (t : ℕ) → IsWithinLimits tin → IsSound tin → t < length tin.triangles
    → numbers_of tin t ≡ get_or (numbers_of tin t) 0 0 ∷ get_or (numbers_of tin t) 1 0 ∷ get_or (numbers_of tin t) 2 0
    ∷ []
three_read tin t limits sound ht = go (numbered tin t limits sound ht)
  where
    go : Numbered tin (numbers_of tin t) → numbers_of tin t ≡ get_or (numbers_of tin t) 0 0
        ∷ get_or (numbers_of tin t) 1 0 ∷ get_or (numbers_of tin t) 2 0 ∷ []
    go s = subst (λ (ns : List ℕ). ns ≡ get_or ns 0 0 ∷ get_or ns 1 0 ∷ get_or ns 2 0 ∷ []) (sym s.is) refl

pub own : (tin : Triangulation) (t k : ℕ) → IsWithinLimits tin → IsSound tin → t < length tin.triangles → k < 3
    → has (numbers_of tin t) (get_or (numbers_of tin t) k 0) ≡ true
own tin t k limits sound ht hk = go (numbered tin t limits sound ht)
  where
    each : (i j l k : ℕ) → k < 3 → has (i ∷ j ∷ l ∷ []) (get_or (i ∷ j ∷ l ∷ []) k 0) ≡ true
    each i j l zero h = has_first i j l
    each i j l (suc zero) h = has_second i j l
    each i j l (suc (suc zero)) h = has_third i j l
    each i j l (suc (suc (suc k))) h = absurd (omega arith)

    go : Numbered tin (numbers_of tin t) → has (numbers_of tin t) (get_or (numbers_of tin t) k 0) ≡ true
    go s = subst (λ (ns : List ℕ). has ns (get_or ns k 0) ≡ true) (sym s.is) (each s.i s.j s.k k hk)
