-- Triangles by the numbers of their corners, counted from any of them on, and what a frame has of a bordered
-- triangulation.
use Rattle.std.proofs.Common.{◌≡◌, ◌≢◌, ◌⊎◌, inl, inr, ℕ, ◌<◌, ◌≤◌, ℤ, pos, ◌≤ℤ◌, ◌<ℤ◌, arith}
use Rattle.std.proofs.Common.{List, [], ◌∷◌, length, map, Option, Some, None, refl, sym, subst}
use lib.Signed.{lt_z_yes}
use Rattle.plane_base.specs.Plane.{Point, turn_of, IsMix}
use Rattle.plane_base.proofs.MixLaws.Turns.{turn_cycle}
use Rattle.plane_base.proofs.TriangleLaws.InTriangle.{turns_of_mix, mix_of_turns}
use Rattle.tin_base.specs.Soundness.{turn_of_three, common}
use Rattle.border_law.specs.Borders.{IsFrom, HasSide}

-- ---- counting
pub next_from : (ns : List ℕ) (i j k : ℕ) → IsFrom ns i j k → IsFrom ns j k i
next_from ns i j k e = grind arith

-- the same three numbers, from one of them on
abbrev pub AreShifted : ℕ → ℕ → ℕ → ℕ → ℕ → ℕ → Type 0
AreShifted a b c i j k = ((i ≡ a) × (j ≡ b) × (k ≡ c))
    ⊎ (((i ≡ b) × (j ≡ c) × (k ≡ a)) ⊎ ((i ≡ c) × (j ≡ a) × (k ≡ b)))

three_same : (i j k a b c : ℕ) → i ∷ j ∷ k ∷ [] ≡ a ∷ b ∷ c ∷ [] → (i ≡ a) × (j ≡ b) × (k ≡ c)
three_same i j k a b c e = (cc, cc, cc)

pub shifted : (ns : List ℕ) (a b c i j k : ℕ) → IsFrom ns a b c → IsFrom ns i j k → AreShifted a b c i j k
shifted ns a b c i j k e f = grind (arith, three_same)

-- ---- what a frame has of a bordered triangulation: rows of corner numbers, and the points where these are
-- the side from i to j meets triangle u in a common corner at most
abbrev pub MeetsAt : (ℕ → List ℕ) → (ℕ → Point) → ℕ → ℕ → ℕ → Type 0
MeetsAt rows at i j u = (length (common (i ∷ j ∷ []) (rows u)) ≤ 1) × ((p : Point) → pos 0 <ℤ p.w
    → IsMix p (at i ∷ at j ∷ []) → IsMix p (map at (rows u)) → IsMix p (map at (common (i ∷ j ∷ []) (rows u))))

pub record Net (rows : ℕ → List ℕ) (at : ℕ → Point) (n : ℕ) : Type 0 where
  pub mate : ℕ → ℕ → ℕ → Option ℕ
  pub one : (k : ℕ) → (at k).w ≡ pos 1
  pub positive : (t : ℕ) → t < n → pos 0 <ℤ turn_of_three (map at (rows t))
  pub opposite : (t u i j : ℕ) → t < n → HasSide (rows t) i j → mate t i j ≡ Some u → (u < n) × HasSide (rows u) j i
  pub back : (t u i j : ℕ) → t < n → HasSide (rows t) i j → mate t i j ≡ Some u → mate u j i ≡ Some t
  pub border : (t u i j : ℕ) → t ≢ u → t < n → u < n → HasSide (rows t) i j → mate t i j ≡ None → MeetsAt rows at i j u

-- the triangle at the other side of a side from i to j
pub record Partner (rows : ℕ → List ℕ) (mate : ℕ → ℕ → ℕ → Option ℕ) (n t i j : ℕ) : Type 0 where
  pub number : ℕ
  pub below : number < n
  pub third : ℕ
  pub from : IsFrom (rows number) j i third
  pub back : mate number j i ≡ Some t

-- there is one, or the side is a border side
pub partner_or : {rows : ℕ → List ℕ} {at : ℕ → Point} {n : ℕ} → (net : Net rows at n) → (t i j : ℕ) → t < n
    → HasSide (rows t) i j → Partner rows net.mate n t i j ⊎ ((u : ℕ) → t ≢ u → u < n → MeetsAt rows at i j u)
partner_or {rows} {at} {n} net t i j ht side = go (net.mate t i j) refl
  where
    go : (answer : Option ℕ) → net.mate t i j ≡ answer
        → Partner rows net.mate n t i j ⊎ ((u : ℕ) → t ≢ u → u < n → MeetsAt rows at i j u)
    go None e = inr (λ u differ hu. net.border t u i j differ ht hu side e)
    go (Some u) e =
        let there = net.opposite t u i j ht side e in
        inl (grind arith)

pub above : (at : ℕ → Point) → ((k : ℕ) → (at k).w ≡ pos 1) → (k : ℕ) → pos 0 <ℤ (at k).w
above at one k = subst (λ (z : ℤ). pos 0 <ℤ z) (sym (one k)) (lt_z_yes tt)

-- ---- turns of a triangle, from any corner on
turn_from : (at : ℕ → Point) (ns : List ℕ) (i j k : ℕ) → IsFrom ns i j k
    → turn_of_three (map at ns) ≡ turn_of (at i) (at j) (at k)
turn_from at ns i j k e = grind (arith, turn_cycle)

pub turned : {rows : ℕ → List ℕ} {at : ℕ → Point} {n : ℕ} → Net rows at n → (t i j k : ℕ) → t < n
    → IsFrom (rows t) i j k → pos 0 <ℤ turn_of (at i) (at j) (at k)
turned {rows} {at} net t i j k h from = subst (λ (z : ℤ). pos 0 <ℤ z) (turn_from at (rows t) i j k from)
    (net.positive t h)

-- a row has three numbers
pub record Row (ns : List ℕ) : Type 0 where
  pub i : ℕ
  pub j : ℕ
  pub k : ℕ
  pub is : IsFrom ns i j k

not_zero : pos 0 <ℤ pos 0 → ⊥
not_zero h = absurd h.lt

pub row_of : (at : ℕ → Point) (ns : List ℕ) → pos 0 <ℤ turn_of_three (map at ns) → Row ns
row_of at (i ∷ j ∷ k ∷ []) d = record { i = i; j = j; k = k; is = inl refl }
row_of at _ d = absurd (not_zero d)

-- ---- the points of a triangle by its turns, from any corner on
abbrev pub AreLeft : Point → Point → Point → Point → Type 0
AreLeft p a b c = (pos 0 ≤ℤ turn_of a b p) × (pos 0 ≤ℤ turn_of b c p) × (pos 0 ≤ℤ turn_of c a p)

pub left_of_mix : {rows : ℕ → List ℕ} {at : ℕ → Point} {n : ℕ} → Net rows at n → (t i j k : ℕ) → t < n
    → IsFrom (rows t) i j k → (p : Point) → pos 0 <ℤ p.w → IsMix p (map at (rows t)) → AreLeft p (at i) (at j) (at k)
left_of_mix {rows} {at} net t i j k h from p hp m = go from (turned net t i j k h from)
  where
    w : (c : ℕ) → pos 0 <ℤ (at c).w
    w = above at net.one

    listed : (ns : List ℕ) → rows t ≡ ns → IsMix p (map at ns)
    listed ns e = subst (λ (ms : List ℕ). IsMix p (map at ms)) e m

    go : IsFrom (rows t) i j k → pos 0 <ℤ turn_of (at i) (at j) (at k) → AreLeft p (at i) (at j) (at k)
    go (inl e) d = turns_of_mix (at i) (at j) (at k) p (w i) (w j) (w k) hp d (listed (i ∷ j ∷ k ∷ []) e)
    go (inr (inl e)) d =
        let r = turns_of_mix (at k) (at i) (at j) p (w k) (w i) (w j) hp
        (subst (λ (z : ℤ). pos 0 <ℤ z) (sym (turn_cycle (at k) (at i) (at j))) d)
        (listed (k ∷ i ∷ j ∷ []) e) in (r.1, r.2, r.0)
    go (inr (inr e)) d =
        let r = turns_of_mix (at j) (at k) (at i) p (w j) (w k) (w i) hp
        (subst (λ (z : ℤ). pos 0 <ℤ z) (turn_cycle (at i) (at j) (at k)) d)
        (listed (j ∷ k ∷ i ∷ []) e) in (r.2, r.0, r.1)

pub mix_of_left : {rows : ℕ → List ℕ} {at : ℕ → Point} {n : ℕ} → Net rows at n → (t i j k : ℕ) → t < n
    → IsFrom (rows t) i j k → (p : Point) → pos 0 <ℤ p.w → AreLeft p (at i) (at j) (at k) → IsMix p (map at (rows t))
mix_of_left {rows} {at} net t i j k h from p hp left = go from (turned net t i j k h from)
  where
    w : (c : ℕ) → pos 0 <ℤ (at c).w
    w = above at net.one

    listed : (ns : List ℕ) → rows t ≡ ns → IsMix p (map at ns) → IsMix p (map at (rows t))
    listed ns e m = subst (λ (ms : List ℕ). IsMix p (map at ms)) (sym e) m

    go : IsFrom (rows t) i j k → pos 0 <ℤ turn_of (at i) (at j) (at k) → IsMix p (map at (rows t))
    go (inl e) d = listed (i ∷ j ∷ k ∷ []) e
        (mix_of_turns (at i) (at j) (at k) p (w i) (w j) (w k) hp d left.0 left.1 left.2)
    go (inr (inl e)) d = listed (k ∷ i ∷ j ∷ []) e
        (grind (arith, mix_of_turns, w, turn_cycle))
    go (inr (inr e)) d = listed (j ∷ k ∷ i ∷ []) e
        (grind (arith, mix_of_turns, w, turn_cycle))
