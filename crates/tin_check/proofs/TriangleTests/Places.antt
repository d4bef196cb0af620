-- Mixes of some corners as mixes of more, and the points of a side by their parameter.
use Rattle.std.proofs.Common.{◌≡◌, ℕ, ◌+◌, ◌<◌, ℤ, pos, ◌+ℤ◌, ◌-ℤ◌, ◌*ℤ◌, ◌<ℤ◌, List, [], ◌∷◌, length, sum, subst, refl}
use Rattle.std.proofs.Common.{arith}
use Rattle.std.proofs.lemmas.Int.{ints}
use Rattle.integer_ring.proofs.Ring.{num, ◌⊕◌, ◌⊖◌, ◌⊗◌}
use Rattle.integer_ring.proofs.Claims.{◌≐◌, eqn, ◌⊞◌, ◌because◌, ◌⇒◌, follows, solve}
use Rattle.integer_ring.proofs.Order.{to_nat, ≤-to-nonneg}
use Rattle.plane_base.specs.Plane.{Point, Same, weighted_sum, IsMix, along}
use Rattle.plane_base.proofs.MixLaws.Points.{plus, nothing, solve_at}
use Rattle.plane_base.specs.Slices.{IsParam}
use Rattle.plane_base.proofs.MixLaws.Mixes.{same_moved, Between, between_weights, weights_between}
use Rattle.plain_laws.proofs.Weights.{no_third, no_first}

pub side_ab_in : (p a b c : Point) → IsMix p (a ∷ b ∷ []) → IsMix p (a ∷ b ∷ c ∷ [])
side_ab_in p a b c m =
    let s = between_weights a b p m in
    let k = pos s.k in let l = pos s.l in
    let h : 0 < s.k + s.l = s.some in (
      s.k ∷ s.l ∷ 0 ∷ [],
      refl,
      omega arith,
      same_moved p (weighted_sum (s.k ∷ s.l ∷ []) (a ∷ b ∷ [])) (weighted_sum (s.k ∷ s.l ∷ 0 ∷ []) (a ∷ b ∷ c ∷ []))
          (no_third k l a.x b.x c.x) (no_third k l a.y b.y c.y) (no_third k l a.w b.w c.w) s.same,
    )

pub side_bc_in : (p a b c : Point) → IsMix p (b ∷ c ∷ []) → IsMix p (a ∷ b ∷ c ∷ [])
side_bc_in p a b c m =
    let s = between_weights b c p m in
    let k = pos s.k in let l = pos s.l in
    let h : 0 < s.k + s.l = s.some in (
      0 ∷ s.k ∷ s.l ∷ [],
      refl,
      omega arith,
      same_moved p (weighted_sum (s.k ∷ s.l ∷ []) (b ∷ c ∷ [])) (weighted_sum (0 ∷ s.k ∷ s.l ∷ []) (a ∷ b ∷ c ∷ []))
          (no_first k l a.x b.x c.x) (no_first k l a.y b.y c.y) (no_first k l a.w b.w c.w) s.same,
    )

-- a triangle's corners may be counted from the next one on
next_first : (k l m a b c : ℤ) → k *ℤ a +ℤ (l *ℤ b +ℤ (m *ℤ c +ℤ pos 0)) ≡ l *ℤ b +ℤ (m *ℤ c +ℤ (k *ℤ a +ℤ pos 0))
next_first = solve 6 (λ k l m a b c. k ⊗ a ⊕ (l ⊗ b ⊕ (m ⊗ c ⊕ num (pos 0))) ≐ l ⊗ b ⊕ (m ⊗ c ⊕ (k ⊗ a ⊕ num (pos 0))))
    tt

pub data Three (ks : List ℕ) : Type 0 where
  three : (k l m : ℕ) → ks ≡ k ∷ l ∷ m ∷ [] → Three ks

pub three_weights : (ks : List ℕ) → length ks ≡ 3 → Three ks
three_weights [] e = absurd (omega arith)
three_weights (k ∷ []) e = absurd (omega arith)
three_weights (k ∷ l ∷ []) e = absurd (omega arith)
three_weights (k ∷ l ∷ m ∷ []) e = three k l m refl
three_weights (k ∷ l ∷ m ∷ n ∷ ks) e = absurd (omega arith)

pub mix_next : (p a b c : Point) → IsMix p (a ∷ b ∷ c ∷ []) → IsMix p (b ∷ c ∷ a ∷ [])
mix_next p a b c m = go m.0 (three_weights m.0 m.1) m.2 m.3
  where
    go : (ks : List ℕ) → Three ks → 0 < sum ks → Same p (weighted_sum ks (a ∷ b ∷ c ∷ [])) → IsMix p (b ∷ c ∷ a ∷ [])
    go ks (three k l n e) h s =
        let h' : 0 < sum (k ∷ l ∷ n ∷ []) = subst (λ (xs : List ℕ). 0 < sum xs) e h in
        let s' : Same p (weighted_sum (k ∷ l ∷ n ∷ []) (a ∷ b ∷ c ∷ [])) =
        subst (λ (xs : List ℕ). Same p (weighted_sum xs (a ∷ b ∷ c ∷ []))) e s in (
          l ∷ n ∷ k ∷ [],
          refl,
          omega arith,
          same_moved p (weighted_sum (k ∷ l ∷ n ∷ []) (a ∷ b ∷ c ∷ [])) (weighted_sum (l ∷ n ∷ k ∷ []) (b ∷ c ∷ a ∷ []))
              (next_first (pos k) (pos l) (pos n) a.x b.x c.x) (next_first (pos k) (pos l) (pos n) a.y b.y c.y)
              (next_first (pos k) (pos l) (pos n) a.w b.w c.w) s',
        )

pub side_ca_in : (p a b c : Point) → IsMix p (c ∷ a ∷ []) → IsMix p (a ∷ b ∷ c ∷ [])
side_ca_in p a b c m = mix_next p c a b (side_ab_in p c a b m)

-- the corners themselves
pub first_in : (a b c : Point) → IsMix a (a ∷ b ∷ c ∷ [])
first_in a b c = (
  1 ∷ 0 ∷ 0 ∷ [],
  refl,
  omega arith,
  (
    solve_at 3 0 (λ a b c. a.x ⊗ (plus (num (pos 1)) a (plus (num (pos 0)) b (plus (num (pos 0)) c nothing))).w
        ≐ (plus (num (pos 1)) a (plus (num (pos 0)) b (plus (num (pos 0)) c nothing))).x ⊗ a.w) tt a b c,
    solve_at 3 0 (λ a b c. a.y ⊗ (plus (num (pos 1)) a (plus (num (pos 0)) b (plus (num (pos 0)) c nothing))).w
        ≐ (plus (num (pos 1)) a (plus (num (pos 0)) b (plus (num (pos 0)) c nothing))).y ⊗ a.w) tt a b c,
  ),
)

-- ---- sides by their parameters
by_parameter : (k l a b : ℤ) → k *ℤ a +ℤ (l *ℤ b +ℤ pos 0) ≡ (k +ℤ l -ℤ l) *ℤ a +ℤ l *ℤ b
by_parameter = solve 4 (λ k l a b. k ⊗ a ⊕ (l ⊗ b ⊕ num (pos 0)) ≐ (k ⊕ l ⊖ l) ⊗ a ⊕ l ⊗ b) tt

param_of : (k l : ℕ) → 0 < k + l → IsParam (pos l) (pos k +ℤ pos l)
param_of k l h = (omega (arith, ints), omega (arith, ints), omega (arith, ints))

-- a point of a segment is the one at some parameter
pub side_along : (p a b : Point) (s : Between a b p)
    → IsParam (pos s.l) (pos s.k +ℤ pos s.l) × Same p (along a b (pos s.l) (pos s.k +ℤ pos s.l))
side_along p a b s =
    let k = pos s.k in let l = pos s.l in (
      param_of s.k s.l s.some,
      same_moved p (weighted_sum (s.k ∷ s.l ∷ []) (a ∷ b ∷ [])) (along a b l (k +ℤ l)) (by_parameter k l a.x b.x)
          (by_parameter k l a.y b.y) (by_parameter k l a.w b.w) s.same,
    )

some_part : (k l : ℕ) (n d : ℤ) → d -ℤ n ≡ pos k → n ≡ pos l → pos 0 <ℤ d → 0 < k + l
some_part k l n d e f h = omega (arith, ints)

by_weights : (k l a b n d v w : ℤ) → d -ℤ n ≡ k → n ≡ l
    → ((d -ℤ n) *ℤ a +ℤ n *ℤ b) *ℤ (k *ℤ v +ℤ (l *ℤ w +ℤ pos 0)) ≡ (k *ℤ a +ℤ (l *ℤ b +ℤ pos 0))
    *ℤ ((d -ℤ n) *ℤ v +ℤ n *ℤ w)
by_weights =
    follows 8 (λ k l a b n d v w. d ⊖ n ≐ k ⇒ n ≐ l ⇒ ((d ⊖ n) ⊗ a ⊕ n ⊗ b) ⊗ (k ⊗ v ⊕ (l ⊗ w ⊕ num (pos 0)))
    ≐ (k ⊗ a ⊕ (l ⊗ b ⊕ num (pos 0))) ⊗ ((d ⊖ n) ⊗ v ⊕ n ⊗ w)
    because eqn 0 (n ⊗ (a ⊗ w ⊖ b ⊗ v)) ⊞ eqn 1 ((d ⊖ n) ⊗ (b ⊗ v ⊖ a ⊗ w))) tt

pub along_side : (a b : Point) (n d : ℤ) → IsParam n d → IsMix (along a b n d) (a ∷ b ∷ [])
along_side a b n d h = go (to_nat (d -ℤ n) (≤-to-nonneg n d h.2)) (to_nat n h.1)
  where
    go : (k : ℕ) × (d -ℤ n ≡ pos k) → (l : ℕ) × (n ≡ pos l) → IsMix (along a b n d) (a ∷ b ∷ [])
    go k l =
        weights_between a b (along a b n d) (record {
          k = k.0;
          l = l.0;
          some = some_part k.0 l.0 n d k.1 l.1 h.0;
          same = (
            by_weights (pos k.0) (pos l.0) a.x b.x n d a.w b.w k.1 l.1,
            by_weights (pos k.0) (pos l.0) a.y b.y n d
                a.w b.w k.1 l.1,
          );
        })
