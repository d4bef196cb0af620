-- Mixes of two mixes of corners: the same in both frames.
use Rattle.std.proofs.Common.{◌≡◌, ℕ, ◌+◌, ◌*◌, ◌<◌, ℤ, pos, ◌+ℤ◌, ◌*ℤ◌, ◌≤ℤ◌, ◌<ℤ◌, List, [], ◌∷◌, length, map, sum}
use Rattle.std.proofs.Common.{sym, ◌∙◌, subst, arith}
use Rattle.std.proofs.lemmas.Int.{ints}
use Rattle.integer_ring.proofs.Ring.{num, ◌⊕◌, ◌⊗◌}
use Rattle.integer_ring.proofs.Order.{nonneg_pos, to_nat, ≤_of_<}
use Rattle.integer_ring.proofs.Claims.{◌≐◌, ◌≺◌, ◌≼◌, gap, over, eqn, ◌⊞◌, ◌⊠◌, ◌because◌, ◌⇒◌, follows}
use Rattle.plane_base.specs.Plane.{Point, Same, weighted_sum}
use Rattle.plane_base.proofs.MixLaws.Mixes.{same_sym, same_trans, same_refl, same_moved, combined, combined-length}
use Rattle.plane_base.proofs.MixLaws.Mixes.{combined-sum}
pub use Rattle.plane_base.proofs.MixLaws.Mixes.{Between, mixed, between_weights, weights_between, between-w}
use Rattle.tin_base.specs.declared.frames.Frame.{Frame}
use Rattle.tin_base.specs.Triangulation.{Triangulation, other, place, corner_at, places}
use Rattle.tin_base.specs.Images.{AreLikeMixes}
use Rattle.tin_base.specs.Relations.{IsBetween}
use Rattle.tin_base.proofs.FrameImages.Weights.{total, weighed-x, weighed-y, weighed-w}
use Rattle.tin_base.proofs.FrameImages.Alike.{mix-w}
use Rattle.plain_laws.proofs.Weights.{two_positive}

-- ---- the ends of a segment may stand for others of the same places
-- in x: the ends a/v and b/w stand for c/s and d/t
one_place : (k l a b v w c d s t : ℤ) → a *ℤ s ≡ c *ℤ v → b *ℤ t ≡ d *ℤ w
    → (k *ℤ a +ℤ (l *ℤ b +ℤ pos 0)) *ℤ (k *ℤ v *ℤ t *ℤ s +ℤ (l *ℤ w *ℤ s *ℤ t +ℤ pos 0))
    ≡ (k *ℤ v *ℤ t *ℤ c +ℤ (l *ℤ w *ℤ s *ℤ d +ℤ pos 0)) *ℤ (k *ℤ v +ℤ (l *ℤ w +ℤ pos 0))
one_place =
    follows 10 (λ k l a b v w c d s t. a ⊗ s ≐ c ⊗ v ⇒ b ⊗ t ≐ d ⊗ w
    ⇒ (k ⊗ a ⊕ (l ⊗ b ⊕ num (pos 0))) ⊗ (k ⊗ v ⊗ t ⊗ s ⊕ (l ⊗ w ⊗ s ⊗ t ⊕ num (pos 0)))
    ≐ (k ⊗ v ⊗ t ⊗ c ⊕ (l ⊗ w ⊗ s ⊗ d ⊕ num (pos 0))) ⊗ (k ⊗ v ⊕ (l ⊗ w ⊕ num (pos 0)))
    because eqn 0 ((k ⊗ v ⊕ l ⊗ w) ⊗ k ⊗ t) ⊞ eqn 1 ((k ⊗ v ⊕ l ⊗ w) ⊗ l ⊗ s)) tt

-- in x, with the weights written by names of the w
one_axis : (k l a b v w c d s t v' w' s' t' : ℤ) → v ≡ v' → w ≡ w' → s ≡ s' → t ≡ t' → a *ℤ s ≡ c *ℤ v → b *ℤ t ≡ d *ℤ w
    → (k *ℤ a +ℤ (l *ℤ b +ℤ pos 0)) *ℤ (k *ℤ v' *ℤ t' *ℤ s +ℤ (l *ℤ w' *ℤ s' *ℤ t +ℤ pos 0))
    ≡ (k *ℤ v' *ℤ t' *ℤ c +ℤ (l *ℤ w' *ℤ s' *ℤ d +ℤ pos 0)) *ℤ (k *ℤ v +ℤ (l *ℤ w +ℤ pos 0))
one_axis k l a b v w c d s t v' w' s' t' ev ew es et h j =
    let goal = λ (v0 w0 s0 t0 : ℤ). (k *ℤ a +ℤ (l *ℤ b +ℤ pos 0))
    *ℤ (k *ℤ v0 *ℤ t0 *ℤ s +ℤ (l *ℤ w0 *ℤ s0 *ℤ t +ℤ pos 0)) ≡ (k *ℤ v0 *ℤ t0 *ℤ c +ℤ (l *ℤ w0 *ℤ s0 *ℤ d +ℤ pos 0))
    *ℤ (k *ℤ v +ℤ (l *ℤ w +ℤ pos 0)) in
    subst (λ (z : ℤ). goal z w' s' t') ev (subst (λ (z : ℤ). goal v z s' t') ew
    (subst (λ (z : ℤ). goal v w z t') es (subst (λ (z : ℤ). goal v w s z) et (one_place k l a b v w c d s t h j))))

weights_positive : (k l v w s t : ℤ) → pos 0 ≤ℤ k → pos 0 ≤ℤ l → pos 0 <ℤ (k +ℤ l) → pos 0 <ℤ v → pos 0 <ℤ w
    → pos 0 <ℤ s → pos 0 <ℤ t → pos 0 <ℤ (k *ℤ v *ℤ t +ℤ l *ℤ w *ℤ s)
weights_positive =
    follows 6 (λ k l v w s t. num (pos 0) ≼ k ⇒ num (pos 0) ≼ l ⇒ num (pos 0) ≺ k
    ⊕ l ⇒ num (pos 0) ≺ v ⇒ num (pos 0) ≺ w ⇒ num (pos 0) ≺ s ⇒ num (pos 0) ≺ t
    ⇒ num (pos 0) ≺ k ⊗ v ⊗ t ⊕ l ⊗ w ⊗ s
    because gap 0 ⊠ (over 3 ⊠ gap 6 ⊞ over 6) ⊞ gap 1 ⊠ (over 4 ⊠ gap 5 ⊞ over 5) ⊞ over 2) tt

below_pos : (n : ℕ) → pos 0 <ℤ pos n → 0 < n
below_pos n h = omega (arith, ints)

-- as numbers: the w of p, q, of u and of v
remixed : (p q u v r : Point) (pw qw uw vw : ℕ) → p.w ≡ pos pw → q.w ≡ pos qw → u.w ≡ pos uw → v.w ≡ pos vw
    → pos 0 <ℤ p.w → pos 0 <ℤ q.w → pos 0 <ℤ u.w → pos 0 <ℤ v.w → Same p u → Same q v → Between p q r → Between u v r
remixed p q u v r pw qw uw vw ep eq eu ev hp hq hu hv same_p same_q b =
    let m = b.k * pw * vw in
    let n = b.l * qw * uw in
    let some : 0 < m + n =
    below_pos (m + n) (weights_positive (pos b.k) (pos b.l) (pos pw) (pos qw) (pos uw) (pos vw) (nonneg_pos b.k)
    (nonneg_pos b.l) (two_positive b.k b.l b.some)
    (subst (λ (z : ℤ). pos 0 <ℤ z) ep hp) (subst (λ (z : ℤ). pos 0 <ℤ z) eq hq) (subst (λ (z : ℤ). pos 0 <ℤ z) eu hu)
    (subst (λ (z : ℤ). pos 0 <ℤ z) ev hv)) in
    record {
      k = m;
      l = n;
      some = some;
      same = same_trans r (mixed b.k b.l p q) (mixed m n u v) (between-w p q r b hp hq) b.same (
        one_axis (pos b.k) (pos b.l) p.x q.x p.w q.w u.x v.x u.w v.w (pos pw) (pos qw) (pos uw) (pos vw) ep eq eu ev
            same_p.0 same_q.0,
        one_axis (pos b.k) (pos b.l) p.y q.y p.w q.w u.y v.y u.w v.w (pos pw) (pos qw) (pos uw) (pos vw) ep eq eu ev
            same_p.1 same_q.1,
      );
    }

natural : (z : ℤ) → pos 0 <ℤ z → (n : ℕ) × (z ≡ pos n)
natural z h = to_nat z (≤_of_< (pos 0) z h)

remix : (p q u v r : Point) → pos 0 <ℤ p.w → pos 0 <ℤ q.w → pos 0 <ℤ u.w → pos 0 <ℤ v.w → Same p u → Same q v
    → Between p q r → Between u v r
remix p q u v r hp hq hu hv same_p same_q b =
    let a = natural p.w hp in let c = natural q.w hq in let d = natural u.w hu in let e = natural v.w hv in
    remixed p q u v r a.0 c.0 d.0 e.0 a.1 c.1 d.1 e.1 hp hq hu hv same_p same_q b

-- ---- mixes of two mixes of corners
one_total : (m n k l v s t r : ℤ) → r ≡ m *ℤ s +ℤ (n *ℤ t +ℤ pos 0)
    → (m *ℤ k +ℤ n *ℤ l) *ℤ v +ℤ r ≡ m *ℤ (k *ℤ v +ℤ s) +ℤ (n *ℤ (l *ℤ v +ℤ t) +ℤ pos 0)
one_total =
    follows 8 (λ m n k l v s t r. r ≐ m ⊗ s ⊕ (n ⊗ t ⊕ num (pos 0)) ⇒ (m ⊗ k ⊕ n ⊗ l) ⊗ v ⊕ r ≐ m ⊗ (k ⊗ v ⊕ s)
    ⊕ (n ⊗ (l ⊗ v ⊕ t) ⊕ num (pos 0)) because eqn 0 (num (pos 1))) tt

no_total : (m n : ℤ) → pos 0 ≡ m *ℤ pos 0 +ℤ (n *ℤ pos 0 +ℤ pos 0)
no_total = follows 2 (λ m n. num (pos 0) ≐ m ⊗ num (pos 0)
    ⊕ (n ⊗ num (pos 0) ⊕ num (pos 0)) because eqn 0 (num (pos 0))) tt

combined-total : (value : ℕ → ℤ) (m n : ℕ) (ks ls ns : List ℕ) → length ks ≡ length ns → length ls ≡ length ns
    → total value (combined m n ks ls) ns ≡ pos m *ℤ total value ks ns +ℤ (pos n *ℤ total value ls ns +ℤ pos 0)
unfolding combined
combined-total value m n [] [] ns e f = no_total (pos m) (pos n)
combined-total value m n (k ∷ ks) (l ∷ ls) (j ∷ ns) e f =
    one_total (pos m) (pos n) (pos k) (pos l) (value j) (total value ks ns) (total value ls ns)
    (total value (combined m n ks ls) ns) (combined-total value m n ks ls ns (omega arith) (omega arith))
combined-total _ m n _ _ ns e f = absurd (omega arith)

-- the mix of two mixes, in one frame
combined_same : (at : ℕ → Point) (m n : ℕ) (ks ls ns : List ℕ) (r : Point) → length ks ≡ length ns
    → length ls ≡ length ns → Same r (mixed m n (weighted_sum ks (map at ns)) (weighted_sum ls (map at ns)))
    → Same r (weighted_sum (combined m n ks ls) (map at ns))
combined_same at m n ks ls ns r e f s =
    same_moved r (mixed m n (weighted_sum ks (map at ns)) (weighted_sum ls (map at ns)))
    (weighted_sum (combined m n ks ls) (map at ns))
    (sym (weighed-x at (combined m n ks ls) ns ∙ combined-total (λ j. (at j).x) m n ks ls ns e f
    ∙ both (pos m) (pos n) (weighed-x at ks ns) (weighed-x at ls ns)))
    (sym (weighed-y at (combined m n ks ls) ns ∙ combined-total (λ j. (at j).y) m n ks ls ns e f
    ∙ both (pos m) (pos n) (weighed-y at ks ns) (weighed-y at ls ns)))
    (sym (weighed-w at (combined m n ks ls) ns ∙ combined-total (λ j. (at j).w) m n ks ls ns e f
    ∙ both (pos m) (pos n) (weighed-w at ks ns) (weighed-w at ls ns)))
    s
  where
    both : (m n : ℤ) {a b c d : ℤ} → a ≡ b → c ≡ d → m *ℤ b +ℤ (n *ℤ d +ℤ pos 0) ≡ m *ℤ a +ℤ (n *ℤ c +ℤ pos 0)
    both m n e f = cc

some_of : (m n s t : ℕ) → 0 < m + n → 0 < s → 0 < t → 0 < m * s + n * t
some_of m n s t h hs ht = grind (arith, below_pos, nonneg_pos, two_positive)

-- a point between two points of a triangle has, with like weights, a point between their images
pub between_images : (tin : Triangulation) (frame : Frame) (ns : List ℕ) (p q p' q' r : Point) → pos 0 <ℤ p.w
    → pos 0 <ℤ q.w → pos 0 <ℤ p'.w → pos 0 <ℤ q'.w
    → AreLikeMixes tin frame ns p p' → AreLikeMixes tin frame ns q q' → IsBetween p q r
    → (r' : Point) × (pos 0 <ℤ r'.w) × IsBetween p' q' r' × AreLikeMixes tin frame ns r r'
between_images tin frame ns p q p' q' r hp hq hp' hq' mp mq between =
    let u = weighted_sum mp.0 (places tin frame ns) in let v = weighted_sum mq.0 (places tin frame ns) in
    let u' = weighted_sum mp.0 (places tin (other frame) ns) in let v' = weighted_sum mq.0 (places tin (other frame) ns) in
    let hu = mix-w tin frame mp.0 ns mp.1 mp.2 in let hv = mix-w tin frame mq.0 ns mq.1 mq.2 in
    let hu' = mix-w tin (other frame) mp.0 ns mp.1 mp.2 in let hv' = mix-w tin (other frame) mq.0 ns mq.1 mq.2 in
    let b = remix p q u v r hp hq hu hv mp.3 mq.3 (between_weights p q r between) in
    let r' = mixed b.k b.l u' v' in
    let b' : Between u' v' r' = record { k = b.k; l = b.l; some = b.some; same = same_refl r' } in
    let fit : length mp.0 ≡ length mq.0 = mp.1 ∙ sym mq.1 in (
      r',
      between-w u' v' r' b' hu' hv',
      weights_between p' q' r' (remix u' v' p' q' r' hu' hv' hp' hq' (same_sym p' u' mp.4) (same_sym q' v' mq.4) b'),
      (
        combined b.k b.l mp.0 mq.0,
        combined-length b.k b.l mp.0 mq.0 fit ∙ mq.1,
        subst (λ (j : ℕ). 0 < j) (sym (combined-sum b.k b.l mp.0 mq.0 fit))
            (some_of b.k b.l (sum mp.0) (sum mq.0) b.some mp.2 mq.2),
        combined_same (λ j. place frame (corner_at tin j)) b.k b.l mp.0 mq.0 ns r mp.1 mq.1 b.same,
        combined_same (λ j. place (other frame) (corner_at tin j)) b.k b.l mp.0 mq.0 ns r' mp.1 mq.1 (same_refl r'),
      ),
    )
