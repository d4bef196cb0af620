-- Weights of some corners, written as weights of more corners: one list of weights serves in both frames.
use Rattle.std.proofs.Common.{◌≡◌, ℕ, ◌+◌, ℤ, pos, ◌+ℤ◌, ◌*ℤ◌, true, eqb, List}
use Rattle.std.proofs.Common.{[], ◌∷◌, length, map, sum, sym, ◌∙◌, ap, refl, arith}
use Rattle.std.proofs.lemmas.Int.{ints}
use Rattle.std.proofs.lemmas.Bool.{eq-eqb, or_left, or_right}
use Rattle.std.proofs.lemmas.Bool.Decides.{eqb_tells}
use Rattle.integer_ring.proofs.Ring.{num, ◌⊕◌, ◌⊗◌}
use Rattle.integer_ring.proofs.Claims.{◌≐◌, eqn, ◌because◌, ◌⇒◌, follows}
use Rattle.plane_base.specs.Plane.{Point, weighted_sum}
use Rattle.tin_base.specs.Soundness.{has, common}
pub use Rattle.plain_laws.proofs.Weights.{sum-cons}

-- the sum of a value over numbers, each as often as its weight says
abbrev pub total : (ℕ → ℤ) → List ℕ → List ℕ → ℤ
total value [] ns = pos 0
total value (w ∷ ws) [] = pos 0
total value (w ∷ ws) (n ∷ ns) = pos w *ℤ value n +ℤ total value ws ns

pub weighed-x : (at : ℕ → Point) (ws ns : List ℕ) → (weighted_sum ws (map at ns)).x ≡ total (λ n. (at n).x) ws ns
weighed-x at (w ∷ ws) (n ∷ ns) = ap (λ z. pos w *ℤ (at n).x +ℤ z) (weighed-x at ws ns)
weighed-x at _ ns = refl

pub weighed-y : (at : ℕ → Point) (ws ns : List ℕ) → (weighted_sum ws (map at ns)).y ≡ total (λ n. (at n).y) ws ns
weighed-y at (w ∷ ws) (n ∷ ns) = ap (λ z. pos w *ℤ (at n).y +ℤ z) (weighed-y at ws ns)
weighed-y at _ ns = refl

pub weighed-w : (at : ℕ → Point) (ws ns : List ℕ) → (weighted_sum ws (map at ns)).w ≡ total (λ n. (at n).w) ws ns
weighed-w at (w ∷ ws) (n ∷ ns) = ap (λ z. pos w *ℤ (at n).w +ℤ z) (weighed-w at ws ns)
weighed-w at _ ns = refl

-- the sum of ones
one_more : (w : ℕ) (z : ℤ) (s : ℕ) → z ≡ pos s → pos w *ℤ pos 1 +ℤ z ≡ pos (w + s)
one_more w z s e = omega (arith, ints)

pub total-ones : (ws ns : List ℕ) → length ws ≡ length ns → total (λ _. pos 1) ws ns ≡ pos (sum ws)
total-ones [] ns e = refl
total-ones (w ∷ ws) [] e = absurd (omega arith)
total-ones (w ∷ ws) (n ∷ ns) e = one_more w (total (λ _. pos 1) ws ns) (sum ws) (total-ones ws ns (omega arith))
    ∙ ap (λ (k : ℕ). pos k) (sym (sum-cons w ws))

-- ---- each of some numbers is in a list
abbrev pub HasAll : List ℕ → List ℕ → Type 0
HasAll ns [] = Unit {0}
HasAll ns (k ∷ ks) = (has ns k ≡ true) × HasAll ns ks

has_all_more : (n : ℕ) (ns ks : List ℕ) → HasAll ns ks → HasAll (n ∷ ns) ks
has_all_more n ns [] h = tt
has_all_more n ns (k ∷ ks) h = (or_right (eqb n k) (has ns k) h.0, has_all_more n ns ks h.1)

pub common_in_first : (ks ns : List ℕ) → HasAll ks (common ks ns)
common_in_first [] ns = tt
common_in_first (k ∷ ks) ns = grind (arith, has_all_more, or_left, eq-eqb, (common_in_first ks ns))

pub common_in_second : (ks ns : List ℕ) → HasAll ns (common ks ns)
common_in_second [] ns = tt
common_in_second (k ∷ ks) ns = grind (arith, (common_in_second ks ns))

-- ---- one weight more for a number of the list
record Added (ns : List ℕ) (k m : ℕ) (ws : List ℕ) : Type 0 where
  weights : List ℕ
  fit : length weights ≡ length ns
  all : sum weights ≡ m + sum ws
  totals : (value : ℕ → ℤ) → total value weights ns ≡ pos m *ℤ value k +ℤ total value ws ns

gathered : (m w v t : ℤ) → (m +ℤ w) *ℤ v +ℤ t ≡ m *ℤ v +ℤ (w *ℤ v +ℤ t)
gathered = follows 4 (λ m w v t. (m ⊕ w) ⊗ v ⊕ t ≐ m ⊗ v ⊕ (w ⊗ v ⊕ t) because eqn 0 (num (pos 0))) tt

passed : (w v m u s t : ℤ) → s ≡ m *ℤ u +ℤ t → w *ℤ v +ℤ s ≡ m *ℤ u +ℤ (w *ℤ v +ℤ t)
passed = follows 6 (λ w v m u s t. s ≐ m ⊗ u ⊕ t ⇒ w ⊗ v ⊕ s ≐ m ⊗ u ⊕ (w ⊗ v ⊕ t) because eqn 0 (num (pos 1))) tt

added_here : (n : ℕ) (ns : List ℕ) (k m w : ℕ) (ws : List ℕ) → length ws ≡ length ns → n ≡ k
    → Added (n ∷ ns) k m (w ∷ ws)
added_here n ns k m w ws e same =
    record {
      weights = (m + w) ∷ ws;
      fit = omega arith;
      all = omega (arith, sum-cons (m + w) ws, sum-cons w ws);
      totals = λ value. ap (λ (j : ℕ). pos (m + w) *ℤ value j +ℤ total value ws ns) same
          ∙ gathered (pos m) (pos w) (value k) (total value ws ns)
          ∙ ap (λ (j : ℕ). pos m *ℤ value k +ℤ (pos w *ℤ value j +ℤ total value ws ns)) (sym same);
    }

added_later : (n : ℕ) (ns : List ℕ) (k m w : ℕ) (ws : List ℕ) → Added ns k m ws → Added (n ∷ ns) k m (w ∷ ws)
added_later n ns k m w ws a =
    record {
      weights = w ∷ a.weights;
      fit = let e : length a.weights ≡ length ns = a.fit in omega arith;
      all = let e : sum a.weights ≡ m + sum ws = a.all in omega (arith, sum-cons w a.weights, sum-cons w ws);
      totals = λ value. passed (pos w) (value n) (pos m) (value k) (total value a.weights ns) (total value ws ns)
          (a.totals value);
    }

added : (ns : List ℕ) (k m : ℕ) (ws : List ℕ) → length ws ≡ length ns → has ns k ≡ true → Added ns k m ws
added [] k m ws e h = absurd (cc)
added (n ∷ ns) k m [] e h = absurd (omega arith)
added (n ∷ ns) k m (w ∷ ws) e h = grind (arith, eqb_tells, added_here, added_later, (added ns k m ws (omega arith)))

-- ---- weights for all numbers of a list, from weights for some of them
pub record Spread (ns ks ws : List ℕ) : Type 0 where
  pub weights : List ℕ
  pub fit : length weights ≡ length ns
  pub all : sum weights ≡ sum ws
  pub totals : (value : ℕ → ℤ) → total value weights ns ≡ total value ws ks

nothing_spread : (ns : List ℕ) → Spread ns [] []
nothing_spread [] = record { weights = []; fit = refl; all = refl; totals = λ value. refl }
nothing_spread (n ∷ ns) =
    let rest = nothing_spread ns in
    record {
      weights = 0 ∷ rest.weights;
      fit = let e : length rest.weights ≡ length ns = rest.fit in omega arith;
      all = let e : sum rest.weights ≡ 0 = rest.all in omega (arith, sum-cons 0 rest.weights);
      totals = λ value. follows 2 (λ v t. t ≐ num (pos 0) ⇒ num (pos 0) ⊗ v ⊕ t
          ≐ num (pos 0) because eqn 0 (num (pos 1))) tt (value n) (total value rest.weights ns) (rest.totals value);
    }

spread_more : (ns : List ℕ) (k : ℕ) (ks : List ℕ) (w : ℕ) (ws : List ℕ) → has ns k ≡ true → Spread ns ks ws
    → Spread ns (k ∷ ks) (w ∷ ws)
spread_more ns k ks w ws h s =
    let a = added ns k w s.weights s.fit h in
    record {
      weights = a.weights;
      fit = a.fit;
      all = let e : sum a.weights ≡ w + sum s.weights = a.all in let f : sum s.weights ≡ sum ws =
          s.all in omega (arith, sum-cons w ws);
      totals = λ value. a.totals value ∙ ap (λ (z : ℤ). pos w *ℤ value k +ℤ z) (s.totals value);
    }

pub spread : (ns ks ws : List ℕ) → length ws ≡ length ks → HasAll ns ks → Spread ns ks ws
spread ns [] [] e h = nothing_spread ns
spread ns (k ∷ ks) (w ∷ ws) e h = spread_more ns k ks w ws h.0 (spread ns ks ws (omega arith) h.1)
spread ns ks ws e h = absurd (omega arith)
