-- Places and mixes: one place in two spellings, two weights, the points of a side, and mixes of mixes.
use Rattle.std.proofs.Common.{◌≡◌, ℕ, zero, suc, negsuc, ◌+◌, ◌*◌, ◌<◌, ℤ, pos, ◌+ℤ◌, ◌*ℤ◌, ◌≤ℤ◌, ◌<ℤ◌, List, [], ◌∷◌}
use Rattle.std.proofs.Common.{length, sum, sym, ◌∙◌, ap, subst, refl, arith}
use Rattle.std.proofs.lemmas.Int.{ints}
use Rattle.integer_ring.proofs.Ring.{num, neg, ◌⊕◌, ◌⊗◌}
use Rattle.integer_ring.proofs.Order.{nonneg_pos, to_nat, ≤_of_<}
use Rattle.integer_ring.proofs.Signs.{≡_of_mul, frac-≡_trans}
use Rattle.integer_ring.proofs.Claims.{◌≐◌, ◌≼◌, ◌≺◌, gap, over, eqn, ◌⊞◌, ◌⊠◌, ◌because◌, ◌⇒◌, follows}
use Rattle.plane_base.specs.Plane.{Point, Same, turn_of, weighted_sum, IsMix}
use Rattle.plane_base.specs.Laws.{IsPlace, ArePlaces, AreMixes, MixesMix, TrianglesAreConvex}
use Rattle.plane_base.proofs.MixLaws.Points.{turn, plus, nothing, solve_at}
use Rattle.plane_base.proofs.MixLaws.Turns.{turn_same}
use Rattle.plain_laws.proofs.Weights.{two_positive, zero_factor, sum-cons}

-- ---- one place
pub same_refl : (p : Point) → Same p p
same_refl p = (refl, refl)

pub same_sym : (p q : Point) → Same p q → Same q p
same_sym p q s = (sym s.0, sym s.1)

pub same_trans : (p q r : Point) → pos 0 <ℤ q.w → Same p q → Same q r → Same p r
same_trans p q r h s t = (
  frac-≡_trans p.x p.w q.x q.w r.x r.w h s.0 t.0,
  frac-≡_trans p.y p.w q.y q.w r.y r.w h s.1
      t.1,
)

moved : (x w a b c d : ℤ) → a ≡ c → b ≡ d → x *ℤ b ≡ a *ℤ w → x *ℤ d ≡ c *ℤ w
moved = follows 6 (λ x w a b c d. a ≐ c ⇒ b ≐ d ⇒ x ⊗ b ≐ a ⊗ w ⇒ x ⊗ d ≐ c
    ⊗ w because eqn 2 (num (pos 1)) ⊞ eqn 0 w ⊞ eqn 1 (neg x)) tt

-- a point may stand for another of the same numbers
pub same_moved : (p q r : Point) → q.x ≡ r.x → q.y ≡ r.y → q.w ≡ r.w → Same p q → Same p r
same_moved p q r ex ey ew s = (moved p.x p.w q.x q.w r.x r.w ex ew s.0, moved p.y p.w q.y q.w r.y r.w ey ew s.1)

-- and for another of the same place
pub mix_moved : (p q : Point) (ps : List Point) → pos 0 <ℤ p.w → Same q p → IsMix p ps → IsMix q ps
mix_moved p q ps h s m = (m.0, m.1, m.2, same_trans q p _ h s m.3)

-- ---- two weights
pub data Two (ks : List ℕ) : Type 0 where
  two : (k l : ℕ) → ks ≡ k ∷ l ∷ [] → Two ks

two_weights : (ks : List ℕ) → length ks ≡ 2 → Two ks
two_weights (k ∷ l ∷ []) e = two k l refl
two_weights ks e = absurd (omega arith)

abbrev pub mixed : ℕ → ℕ → Point → Point → Point
mixed k l p q = weighted_sum (k ∷ l ∷ []) (p ∷ q ∷ [])

-- a turn with such a mix is that mix of the turns
pub turn_between : (a b p q : Point) (k l : ℕ)
    → turn_of a b (mixed k l p q) ≡ pos k *ℤ turn_of a b p +ℤ pos l *ℤ turn_of a b q
turn_between a b p q k l = solve_at 4 2 (λ a b p q k l. turn a b (plus k p (plus l q nothing)) ≐ k ⊗ turn a b p ⊕ l
    ⊗ turn a b q) tt a b p q (pos k) (pos l)

-- a point between two others, by its weights
pub record Between (p q r : Point) : Type 0 where
  pub k : ℕ
  pub l : ℕ
  pub some : 0 < k + l
  pub same : Same r (mixed k l p q)

pub between_weights : (p q r : Point) → IsMix r (p ∷ q ∷ []) → Between p q r
between_weights p q r m = grind (arith, two_weights)

pub weights_between : (p q r : Point) → Between p q r → IsMix r (p ∷ q ∷ [])
weights_between p q r b = (b.k ∷ b.l ∷ [], refl, (let h = b.some in omega arith), b.same)

mixed-w : (k l v w : ℤ) → pos 0 <ℤ v → pos 0 <ℤ w → pos 0 <ℤ (k +ℤ l) → pos 0 ≤ℤ k → pos 0 ≤ℤ l
    → pos 0 <ℤ (k *ℤ v +ℤ (l *ℤ w +ℤ pos 0))
mixed-w =
    follows 4 (λ k l v w. num (pos 0) ≺ v ⇒ num (pos 0) ≺ w ⇒ num (pos 0) ≺ k ⊕ l ⇒ num (pos 0) ≼ k ⇒ num (pos 0) ≼ l
    ⇒ num (pos 0) ≺ k ⊗ v ⊕ (l ⊗ w ⊕ num (pos 0)) because gap 3 ⊠ over 0 ⊞ gap 4 ⊠ over 1 ⊞ over 2) tt

pub between-w : (p q r : Point) (b : Between p q r) → pos 0 <ℤ p.w → pos 0 <ℤ q.w → pos 0 <ℤ (mixed b.k b.l p q).w
between-w p q r b hp hq = mixed-w (pos b.k) (pos b.l) p.w q.w hp hq (two_positive b.k b.l b.some) (nonneg_pos b.k)
    (nonneg_pos b.l)

-- a segment goes from either end
last_first : (k l a b : ℤ) → k *ℤ a +ℤ (l *ℤ b +ℤ pos 0) ≡ l *ℤ b +ℤ (k *ℤ a +ℤ pos 0)
last_first = follows 4 (λ k l a b. k ⊗ a ⊕ (l ⊗ b ⊕ num (pos 0)) ≐ l ⊗ b
    ⊕ (k ⊗ a ⊕ num (pos 0)) because eqn 0 (num (pos 0))) tt

pub mix_swapped : (p c d : Point) → IsMix p (c ∷ d ∷ []) → IsMix p (d ∷ c ∷ [])
mix_swapped p c d m =
    let i = between_weights c d p m in
    weights_between d c p (record {
      k = i.l;
      l = i.k;
      some = let h : 0 < i.k + i.l = i.some in omega arith;
      same = same_moved p (mixed i.k i.l c d) (mixed i.l i.k d c) (last_first (pos i.k) (pos i.l) c.x d.x)
          (last_first (pos i.k) (pos i.l) c.y d.y) (last_first (pos i.k) (pos i.l) c.w d.w) i.same;
    })

-- ---- the turn of a side is 0 at each of its points
side_turn : (c d : Point) (k l : ℕ) → turn_of c d (mixed k l c d) ≡ pos 0
side_turn c d k l = solve_at 2 2 (λ c d k l. turn c d (plus k c (plus l d nothing)) ≐ num (pos 0)) tt c d (pos k)
    (pos l)

pub turn_on_side : (c d p : Point) → pos 0 <ℤ c.w → pos 0 <ℤ d.w → IsMix p (c ∷ d ∷ []) → turn_of c d p ≡ pos 0
turn_on_side c d p hc hd on =
    let i = between_weights c d p on in
    let q = mixed i.k i.l c d in
    ≡_of_mul (turn_of c d p) (pos 0) q.w (between-w c d p i hc hd)
    (zero_factor q.w (turn_of c d p) p.w (turn_same c d p q i.same
    ∙ ap (λ (z : ℤ). p.w *ℤ z) (side_turn c d i.k i.l)))

-- ---- m times some weights and n times others
unfoldable pub combined : ℕ → ℕ → List ℕ → List ℕ → List ℕ
combined m n [] ls = []
combined m n (k ∷ ks) [] = []
combined m n (k ∷ ks) (l ∷ ls) = (m * k + n * l) ∷ combined m n ks ls

pub combined-length : (m n : ℕ) (ks ls : List ℕ) → length ks ≡ length ls → length (combined m n ks ls) ≡ length ls
unfolding combined
combined-length m n [] [] e = refl
combined-length m n (k ∷ ks) (l ∷ ls) e = let rest = combined-length m n ks ls (omega arith) in omega arith
combined-length m n ks ls e = absurd (omega arith)

one_sum : (m n k l s t r : ℕ) → r ≡ m * s + n * t → m * k + n * l + r ≡ m * (k + s) + n * (l + t)
one_sum m n k l s t r e = omega arith

pub combined-sum : (m n : ℕ) (ks ls : List ℕ) → length ks ≡ length ls
    → sum (combined m n ks ls) ≡ m * sum ks + n * sum ls
unfolding combined
combined-sum m n [] [] e = omega arith
combined-sum m n (k ∷ ks) (l ∷ ls) e =
    sum-cons (m * k + n * l) (combined m n ks ls)
    ∙ one_sum m n k l (sum ks) (sum ls) (sum (combined m n ks ls)) (combined-sum m n ks ls (omega arith))
    ∙ sym (ap (λ (z : ℕ). m * z + n * sum (l ∷ ls)) (sum-cons k ks)
    ∙ ap (λ (z : ℕ). m * (k + sum ks) + n * z) (sum-cons l ls))
combined-sum m n ks ls e = absurd (omega arith)

-- r is m·p + n·q
pub record IsSum (m n : ℤ) (p q r : Point) : Type 0 where
  pub x : r.x ≡ m *ℤ p.x +ℤ n *ℤ q.x
  pub y : r.y ≡ m *ℤ p.y +ℤ n *ℤ q.y
  pub w : r.w ≡ m *ℤ p.w +ℤ n *ℤ q.w

one_axis : (m n k l v s t r : ℤ) → r ≡ m *ℤ s +ℤ n *ℤ t
    → (m *ℤ k +ℤ n *ℤ l) *ℤ v +ℤ r ≡ m *ℤ (k *ℤ v +ℤ s) +ℤ n *ℤ (l *ℤ v +ℤ t)
one_axis = follows 8 (λ m n k l v s t r. r ≐ m ⊗ s ⊕ n ⊗ t ⇒ (m ⊗ k ⊕ n ⊗ l) ⊗ v ⊕ r ≐ m ⊗ (k ⊗ v ⊕ s) ⊕ n
    ⊗ (l ⊗ v ⊕ t) because eqn 0 (num (pos 1))) tt

no_axis : (m n : ℤ) → pos 0 ≡ m *ℤ pos 0 +ℤ n *ℤ pos 0
no_axis = follows 2 (λ m n. num (pos 0) ≐ m ⊗ num (pos 0) ⊕ n ⊗ num (pos 0) because eqn 0 (num (pos 0))) tt

combined_mix : (m n : ℕ) (ks ls : List ℕ) (ps : List Point) → length ks ≡ length ps → length ls ≡ length ps
    → IsSum (pos m) (pos n) (weighted_sum ks ps) (weighted_sum ls ps) (weighted_sum (combined m n ks ls) ps)
unfolding combined
combined_mix m n [] [] ps e f = record {
  x = no_axis (pos m) (pos n);
  y = no_axis (pos m) (pos n);
  w =
      no_axis (pos m) (pos n);
}
combined_mix m n (k ∷ ks) (l ∷ ls) (p ∷ ps) e f =
    let i = combined_mix m n ks ls ps (omega arith) (omega arith) in
    let s = weighted_sum ks ps in let t = weighted_sum ls ps in let r = weighted_sum (combined m n ks ls) ps in
    record {
      x = one_axis (pos m) (pos n) (pos k) (pos l) p.x s.x t.x r.x i.x;
      y = one_axis (pos m) (pos n) (pos k) (pos l) p.y s.y t.y r.y i.y;
      w = one_axis (pos m) (pos n) (pos k) (pos l) p.w s.w t.w r.w i.w;
    }
combined_mix m n ks ls ps e f = absurd (omega arith)

-- ---- a mix of mixes
natural : (z : ℤ) → pos 0 <ℤ z → (n : ℕ) × (z ≡ pos n) × (0 < n)
natural z h = grind (arith, to_nat, ≤_of_<)

-- some weights of some places make a place
nonneg-sum : (k v w : ℤ) → pos 0 ≤ℤ k → pos 0 ≤ℤ v → pos 0 ≤ℤ w → pos 0 ≤ℤ (k *ℤ v +ℤ w)
nonneg-sum = follows 3 (λ k v w. num (pos 0) ≼ k ⇒ num (pos 0) ≼ v ⇒ num (pos 0) ≼ w ⇒ num (pos 0) ≼ k ⊗ v
    ⊕ w because gap 0 ⊠ gap 1 ⊞ gap 2) tt

weighed-nonneg : (ks : List ℕ) (ps : List Point) → ArePlaces ps → pos 0 ≤ℤ (weighted_sum ks ps).w
weighed-nonneg (k ∷ ks) (p ∷ ps) h = nonneg-sum (pos k) p.w (weighted_sum ks ps).w (nonneg_pos k) (≤_of_< (pos 0) p.w h.0)
    (weighed-nonneg ks ps h.1)
weighed-nonneg ks ps h = nonneg_pos 0

first_some : (k v w : ℤ) → pos 0 <ℤ k → pos 0 <ℤ v → pos 0 ≤ℤ w → pos 0 <ℤ (k *ℤ v +ℤ w)
first_some = follows 3 (λ k v w. num (pos 0) ≺ k ⇒ num (pos 0) ≺ v ⇒ num (pos 0) ≼ w ⇒ num (pos 0) ≺ k ⊗ v
    ⊕ w because over 0 ⊠ gap 1 ⊞ over 1 ⊞ gap 2) tt

later_some : (k v w : ℤ) → pos 0 ≤ℤ k → pos 0 <ℤ v → pos 0 <ℤ w → pos 0 <ℤ (k *ℤ v +ℤ w)
later_some = follows 3 (λ k v w. num (pos 0) ≼ k ⇒ num (pos 0) ≺ v ⇒ num (pos 0) ≺ w ⇒ num (pos 0) ≺ k ⊗ v
    ⊕ w because gap 0 ⊠ gap 1 ⊞ over 2) tt

pub weighed-place : (ks : List ℕ) (ps : List Point) → length ks ≡ length ps → ArePlaces ps → 0 < sum ks
    → pos 0 <ℤ (weighted_sum ks ps).w
weighed-place [] ps e h some = absurd (omega arith)
weighed-place (k ∷ ks) [] e h some = absurd (omega arith)
weighed-place (zero ∷ ks) (p ∷ ps) e h some =
    later_some (pos 0) p.w (weighted_sum ks ps).w (nonneg_pos 0) h.0
    (weighed-place ks ps (omega arith) h.1 (omega (arith, sum-cons 0 ks)))
weighed-place (suc k ∷ ks) (p ∷ ps) e h some =
    first_some (pos (suc k)) p.w (weighted_sum ks ps).w (above k) h.0 (weighed-nonneg ks ps h.1)
  where
    above : (k : ℕ) → pos 0 <ℤ pos (suc k)
    above k = omega (arith, ints)

no_weights : List Point → List ℕ
no_weights [] = []
no_weights (p ∷ ps) = 0 ∷ no_weights ps

no_weights-length : (ps : List Point) → length (no_weights ps) ≡ length ps
unfolding no_weights
no_weights-length [] = refl
no_weights-length (p ∷ ps) = let rest = no_weights-length ps in omega arith

-- nothing at all
record IsNothing (p : Point) : Type 0 where
  x : p.x ≡ pos 0
  y : p.y ≡ pos 0
  w : p.w ≡ pos 0

none_of : (v z : ℤ) → z ≡ pos 0 → pos 0 *ℤ v +ℤ z ≡ pos 0
none_of = follows 2 (λ v z. z ≐ num (pos 0) ⇒ num (pos 0) ⊗ v ⊕ z ≐ num (pos 0) because eqn 0 (num (pos 1))) tt

no_weights-mix : (ps : List Point) → IsNothing (weighted_sum (no_weights ps) ps)
unfolding no_weights
no_weights-mix [] = record { x = refl; y = refl; w = refl }
no_weights-mix (p ∷ ps) =
    let i = no_weights-mix ps in let r = weighted_sum (no_weights ps) ps in
    record { x = none_of p.x r.x i.x; y = none_of p.y r.y i.y; w = none_of p.w r.w i.w }

-- some number of times a mix of some points, as a mix of others
record Remixed (ks : List ℕ) (ps rs : List Point) : Type 0 where
  times : ℕ
  some : 0 < times
  weights : List ℕ
  each : length weights ≡ length rs
  kept : 0 < sum ks → 0 < sum weights
  x : pos times *ℤ (weighted_sum ks ps).x ≡ (weighted_sum weights rs).x
  y : pos times *ℤ (weighted_sum ks ps).y ≡ (weighted_sum weights rs).y
  w : pos times *ℤ (weighted_sum ks ps).w ≡ (weighted_sum weights rs).w

nothing_is : (f z : ℤ) → z ≡ pos 0 → f *ℤ pos 0 ≡ z
nothing_is = follows 2 (λ f z. z ≐ num (pos 0) ⇒ f ⊗ num (pos 0) ≐ z because eqn 0 (neg (num (pos 1)))) tt

-- p, whose w is u, is in the place of m, whose w is v; f·s is t, and r is (f·k·u)·m + v·t: then (f·v)·(k·p + s) is r
more_axis : (f k u v p m s t r : ℤ) → p *ℤ v ≡ m *ℤ u → f *ℤ s ≡ t → r ≡ (f *ℤ k *ℤ u) *ℤ m +ℤ v *ℤ t
    → (f *ℤ v) *ℤ (k *ℤ p +ℤ s) ≡ r
more_axis =
    follows 9 (λ f k u v p m s t r. p ⊗ v ≐ m ⊗ u ⇒ f ⊗ s ≐ t ⇒ r ≐ (f ⊗ k ⊗ u) ⊗ m ⊕ v ⊗ t ⇒ (f ⊗ v) ⊗ (k ⊗ p ⊕ s) ≐ r
    because eqn 0 (f ⊗ k) ⊞ eqn 1 v ⊞ eqn 2 (num (negsuc 0))) tt

some_times : (m n : ℕ) → 0 < m → 0 < n → 0 < m * n
some_times (suc m) (suc n) h k = omega arith
some_times m n h k = absurd (omega arith)

some_here : (m n s t z : ℕ) → z ≡ m * s + n * t → 0 < m * s → 0 < z
some_here m n s t z e h = omega arith

some_there : (m n s t z : ℕ) → z ≡ m * s + n * t → 0 < n * t → 0 < z
some_there m n s t z e h = omega arith

remix_more : (k : ℕ) (p : Point) (ks : List ℕ) (ps rs : List Point) → IsPlace p → ArePlaces rs → IsMix p rs
    → Remixed ks ps rs → Remixed (k ∷ ks) (p ∷ ps) rs
remix_more k p ks ps rs hp hrs mix i = go (natural p.w hp)
    (natural (weighted_sum mix.0 rs).w (weighed-place mix.0 rs mix.1 hrs mix.2))
  where
    go : (u : ℕ) × (p.w ≡ pos u) × (0 < u) → (v : ℕ) × ((weighted_sum mix.0 rs).w ≡ pos v) × (0 < v)
        → Remixed (k ∷ ks) (p ∷ ps) rs
    go u v =
        let f = i.times in let ms = mix.0 in let m = weighted_sum ms rs in
        let s = weighted_sum ks ps in let t = weighted_sum i.weights rs in
        let ws = combined (f * k * u.0) v.0 ms i.weights in
        let one_length : length ms ≡ length i.weights = mix.1 ∙ sym i.each in
        let r = combined_mix (f * k * u.0) v.0 ms i.weights rs mix.1 i.each in
        let in_sum : sum ws ≡ (f * k * u.0) * sum ms + v.0 * sum i.weights =
        combined-sum (f * k * u.0) v.0 ms i.weights one_length in
        let same_x : p.x *ℤ pos v.0 ≡ m.x *ℤ pos u.0 =
        subst (λ (z : ℤ). p.x *ℤ pos v.0 ≡ m.x *ℤ z) u.1 (subst (λ (z : ℤ). p.x *ℤ z ≡ m.x *ℤ p.w) v.1 mix.3.0) in
        let same_y : p.y *ℤ pos v.0 ≡ m.y *ℤ pos u.0 =
        subst (λ (z : ℤ). p.y *ℤ pos v.0 ≡ m.y *ℤ z) u.1 (subst (λ (z : ℤ). p.y *ℤ z ≡ m.y *ℤ p.w) v.1 mix.3.1) in
        let same_w : p.w *ℤ pos v.0 ≡ m.w *ℤ pos u.0 =
        subst (λ (z : ℤ). z *ℤ pos v.0 ≡ m.w *ℤ pos u.0) (sym u.1)
        (subst (λ (z : ℤ). pos u.0 *ℤ pos v.0 ≡ z *ℤ pos u.0) (sym v.1) (across (pos u.0) (pos v.0))) in
        record {
          times = f * v.0;
          some = some_times f v.0 i.some v.2;
          weights = ws;
          each = combined-length (f * k * u.0) v.0 ms i.weights one_length ∙ i.each;
          kept = some_weights k in_sum;
          x = more_axis (pos f) (pos k) (pos u.0) (pos v.0) p.x m.x s.x t.x (weighted_sum ws rs).x same_x i.x r.x;
          y = more_axis (pos f) (pos k) (pos u.0) (pos v.0) p.y m.y s.y t.y (weighted_sum ws rs).y same_y i.y r.y;
          w = more_axis (pos f) (pos k) (pos u.0) (pos v.0) p.w m.w s.w t.w (weighted_sum ws rs).w same_w i.w r.w;
        }
      where
        across : (u v : ℤ) → u *ℤ v ≡ v *ℤ u
        across = follows 2 (λ u v. u ⊗ v ≐ v ⊗ u because eqn 0 (num (pos 0))) tt

        some_weights : (j : ℕ) → {z : ℕ} → z ≡ (i.times * j * u.0) * sum mix.0 + v.0 * sum i.weights → 0 < sum (j ∷ ks)
            → 0 < z
        some_weights zero {z} e h = some_there (i.times * 0 * u.0) v.0 (sum mix.0) (sum i.weights) z e
            (some_times v.0 (sum i.weights) v.2 (i.kept (omega (arith, sum-cons 0 ks))))
        some_weights (suc j) {z} e h = some_here (i.times * suc j * u.0) v.0 (sum mix.0) (sum i.weights) z e
            (some_times (i.times * suc j * u.0) (sum mix.0)
            (some_times (i.times * suc j) u.0 (some_times i.times (suc j) i.some (omega arith)) u.2) mix.2)

remix_all : (ks : List ℕ) (ps rs : List Point) → length ks ≡ length ps → ArePlaces ps → ArePlaces rs → AreMixes ps rs
    → Remixed ks ps rs
remix_all [] [] rs e hp hr m =
    let n = no_weights-mix rs in
    record {
      times = 1;
      some = omega arith;
      weights = no_weights rs;
      each = no_weights-length rs;
      kept = λ h. absurd (omega arith);
      x = nothing_is (pos 1) (weighted_sum (no_weights rs) rs).x n.x;
      y = nothing_is (pos 1) (weighted_sum (no_weights rs) rs).y n.y;
      w = nothing_is (pos 1) (weighted_sum (no_weights rs) rs).w n.w;
    }
remix_all (k ∷ ks) (p ∷ ps) rs e hp hr m =
    remix_more k p ks ps rs hp.0 hr m.0 (remix_all ks ps rs (omega arith) hp.1 hr m.1)
remix_all ks ps rs e hp hr m = absurd (omega arith)

-- q is in the place of m, and f·m is r
times_axis : (f q w mx mw rx rw : ℤ) → q *ℤ mw ≡ mx *ℤ w → f *ℤ mx ≡ rx → f *ℤ mw ≡ rw → q *ℤ rw ≡ rx *ℤ w
times_axis = follows 7 (λ f q w mx mw rx rw. q ⊗ mw ≐ mx ⊗ w ⇒ f ⊗ mx ≐ rx ⇒ f ⊗ mw ≐ rw ⇒ q ⊗ rw ≐ rx
    ⊗ w because eqn 0 f ⊞ eqn 1 w ⊞ eqn 2 (neg q)) tt

pub mixes_mix : MixesMix
mixes_mix q ps rs hp hr m mix =
    let i = remix_all mix.0 ps rs mix.1 hp hr m in
    let s = weighted_sum mix.0 ps in let t = weighted_sum i.weights rs in (
      i.weights,
      i.each,
      i.kept mix.2,
      (
        times_axis (pos i.times) q.x q.w s.x s.w t.x t.w mix.3.0 i.x i.w,
        times_axis (pos i.times) q.y q.w s.y s.w t.y
            t.w mix.3.1 i.y i.w,
      ),
    )

pub triangles_are_convex : TrianglesAreConvex
triangles_are_convex a b c p q r h mp mq mr =
    mixes_mix r (p ∷ q ∷ []) (a ∷ b ∷ c ∷ []) (h.1.1.1.0, (h.1.1.1.1.0, tt)) (h.0, (h.1.0, (h.1.1.0, tt)))
    (mp, (mq, tt)) mr
