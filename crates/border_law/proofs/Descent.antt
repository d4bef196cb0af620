-- A state may be left for another only so often: each time one more number below n is used up.
use Rattle.std.proofs.Common.{◌≡◌, ◌≢◌, ◌⊎◌, inl, inr, ℕ, zero, suc, ◌<◌, ◌≤◌, Bool, true, false, eqb, cond}
use Rattle.std.proofs.Common.{refl, sym, ap, ◌∙◌, subst, arith}
use Rattle.std.proofs.lemmas.Bool.{eq-eqb}
use Rattle.plain_laws.proofs.Order.{trichotomy}
use Rattle.std.proofs.lemmas.Bool.Decides.{eqb_tells}

-- how many numbers below n are in the set
unfoldable count : (ℕ → Bool) → ℕ → ℕ
count set zero = 0
count set (suc n) = cond (set n) (suc (count set n)) (count set n)

-- the set without one number
without : (ℕ → Bool) → ℕ → ℕ → Bool
without set i t = cond (eqb t i) false (set t)

at_it : (set : ℕ → Bool) (i : ℕ) → without set i i ≡ false
unfolding without
at_it set i = ap (λ (b : Bool). cond b false (set i)) (eq-eqb i i refl)

elsewhere : (set : ℕ → Bool) (i t : ℕ) → t ≢ i → without set i t ≡ set t
unfolding without
elsewhere set i t differ = go (eqb_tells t i)
  where
    go : ((eqb t i ≡ true) × (t ≡ i)) ⊎ ((eqb t i ≡ false) × (t ≢ i)) → cond (eqb t i) false (set t) ≡ set t
    go (inl e) = absurd (differ e.1)
    go (inr e) = ap (λ (b : Bool). cond b false (set t)) e.0

one_more : (set other : ℕ → Bool) (n : ℕ) → set n ≡ other n → count set n ≡ count other n
    → count set (suc n) ≡ count other (suc n)
unfolding count
one_more set other n e f = ap (λ (b : Bool). cond b (suc (count set n)) (count set n)) e
    ∙ ap (λ (m : ℕ). cond (other n) (suc m) m) f

above : (set : ℕ → Bool) (i n : ℕ) → n ≤ i → count (without set i) n ≡ count set n
unfolding count
above set i zero h = refl
above set i (suc n) h = one_more (without set i) set n (elsewhere set i n (λ e. absurd (omega arith)))
    (above set i n (omega arith))

kept : (a b : ℕ) (x : Bool) → suc a ≡ b → suc (cond x (suc a) a) ≡ cond x (suc b) b
kept a b x e = grind arith

-- the set without a number that it has, below n, has one fewer
fewer : (set : ℕ → Bool) (i n : ℕ) → i < n → set i ≡ true → suc (count (without set i) n) ≡ count set n
unfolding count
fewer set i zero h is = absurd (omega arith)
fewer set i (suc n) h is = go (eqb_tells n i) (λ less. fewer set i n less is)
  where
    last : n ≡ i → suc (count (without set i) (suc n)) ≡ count set (suc n)
    last e =
        ap (λ (b : Bool). suc (cond b (suc (count (without set i) n)) (count (without set i) n)))
        (ap (λ (m : ℕ). without set i m) e ∙ at_it set i)
        ∙ ap suc (above set i n (omega arith))
        ∙ sym (ap (λ (b : Bool). cond b (suc (count set n)) (count set n)) (ap set e ∙ is))

    strict : n ≢ i → i < n
    strict differ = elim (trichotomy i n) [
      | inl less ↦ less
      | inr (inl same) ↦ absurd (differ (sym same))
      | inr (inr more) ↦ absurd (omega arith)
    ]

    go : ((eqb n i ≡ true) × (n ≡ i)) ⊎ ((eqb n i ≡ false) × (n ≢ i))
        → (i < n → suc (count (without set i) n) ≡ count set n)
        → suc (count (without set i) (suc n)) ≡ count set (suc n)
    go (inl e) rest = last e.1
    go (inr e) rest =
        ap (λ (b : Bool). suc (cond b (suc (count (without set i) n)) (count (without set i) n)))
        (elsewhere set i n e.1)
        ∙ kept (count (without set i) n) (count set n) (set n) (rest (strict e.1))

-- the state that comes after s: a number was in use at s, and at no later state
pub record Next (S : Type 0) (IsState : S → Type 0) (Uses : S → ℕ → Type 0) (n : ℕ) (s : S) : Type 0 where
  pub state : S
  pub is : IsState state
  pub number : ℕ
  pub below : number < n
  pub used : Uses s number
  pub free : Uses state number → ⊥
  pub less : (t : ℕ) → Uses state t → Uses s t

-- so the states come to an end
pub ends : (S : Type 0) (IsState : S → Type 0) (Uses : S → ℕ → Type 0) (n : ℕ) (End : Type 0)
    → ((s : S) → IsState s → End ⊎ Next S IsState Uses n s) → (s : S) → IsState s → End
unfolding without
ends S IsState Uses n End step s is = go (count (λ t. true) n) (λ t. true) s is (λ t h. refl) refl
  where
    go : (k : ℕ) (set : ℕ → Bool) (s : S) → IsState s → ((t : ℕ) → Uses s t → set t ≡ true) → count set n ≡ k → End
    go zero set s is uses e = elim (step s is) [
      | inl end ↦ end
      | inr next ↦
          let f = fewer set next.number n next.below (uses next.number next.used) in absurd (omega arith)
    ]
    go (suc k) set s is uses e = elim (step s is) [
      | inl end ↦ end
      | inr next ↦
          go k (without set next.number) next.state next.is (λ t h. rest next t h)
          (let f = fewer set next.number n next.below (uses next.number next.used) in omega arith)
    ]
      where
        rest : (next : Next S IsState Uses n s) (t : ℕ) → Uses next.state t → without set next.number t ≡ true
        rest next t h = elim (eqb_tells t next.number) [
          | inl same ↦ absurd (next.free (subst (λ (m : ℕ). Uses next.state m) same.1 h))
          | inr differ ↦ elsewhere set next.number t differ.1 ∙ uses t (next.less t h)
        ]
