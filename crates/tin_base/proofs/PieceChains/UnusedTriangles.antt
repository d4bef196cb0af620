-- How many triangles a list of pieces has not used: the measure of a walk.
use Rattle.std.proofs.Common.{◌≡◌, ◌⊎◌, inl, inr, ℕ, zero, suc, ◌+◌, ◌<◌, ◌≤◌, ◌==◌, List, [], ◌∷◌, ◌++◌, length, All}
use Rattle.std.proofs.Common.{Bool, true, false, ◌||◌, sym, subst, ap, refl, arith}
use Rattle.std.specs.List.{list_any}
use Rattle.std.proofs.lemmas.List.{get_or_default}
use Rattle.std.proofs.lemmas.List.Folds.{list_any-append, list_any_none}
use Rattle.std.proofs.lemmas.Grind.{common_steps}
use Rattle.tin_base.specs.Segments.{Part, no_part, part_at}

-- some piece is of triangle k
abbrev uses : List Part → ℕ → Bool
uses parts k = list_any (λ p. p.triangle == k) parts

-- 1 for a triangle that is not used
abbrev fresh : Bool → ℕ
fresh true = 0
fresh false = 1

-- how many triangles below n no piece is of
pub unused : List Part → ℕ → ℕ
unused parts zero = 0
unused parts (suc n) = fresh (uses parts n) + unused parts n

fresh_less : (p q : Bool) → fresh (p || q) ≤ fresh p
fresh_less true q = omega arith
fresh_less false true = omega arith
fresh_less false false = omega arith

more_used : (parts : List Part) (p : Part) (n : ℕ) → fresh (uses (parts ++ p ∷ []) n) ≤ fresh (uses parts n)
more_used parts p n = subst (λ (b : Bool). fresh b ≤ fresh (uses parts n))
    (sym (list_any-append (λ (q : Part). q.triangle == n) parts (p ∷ []))) (fresh_less (uses parts n) (uses (p ∷ []) n))

no_more : (parts : List Part) (p : Part) (n : ℕ) → unused (parts ++ p ∷ []) n ≤ unused parts n
unfolding unused
no_more parts p zero = omega arith
no_more parts p (suc n) = let h = no_more parts p n in let i = more_used parts p n in omega arith

itself : (n : ℕ) → (n == n) ≡ true
itself n = grind (arith, common_steps)

or_true : (p q : Bool) → q ≡ true → fresh (p || (q || false)) ≡ 0
or_true false false e = cc
or_true p q e = refl

now_used : (parts : List Part) (p : Part) → fresh (uses (parts ++ p ∷ []) p.triangle) ≡ 0
now_used parts p = grind (arith, list_any-append, or_true, itself)

pub last_below : (k n : ℕ) → k < suc n → (k < n) ⊎ (k ≡ n)
last_below k n h = grind arith

fewer : (parts : List Part) (p : Part) (n : ℕ) → p.triangle < n → uses parts p.triangle ≡ false
    → unused (parts ++ p ∷ []) n < unused parts n
unfolding unused
fewer parts p zero h new = absurd (omega arith)
fewer parts p (suc n) h new = go (λ below. fewer parts p n below new) (last_below p.triangle n h)
  where
    go : (p.triangle < n → unused (parts ++ p ∷ []) n < unused parts n) → (p.triangle < n) ⊎ (p.triangle ≡ n)
        → unused (parts ++ p ∷ []) (suc n) < unused parts (suc n)
    go rest (inl below) = let f = rest below in let i = more_used parts p n in omega arith
    go rest (inr e) =
        let now : fresh (uses (parts ++ p ∷ []) n) ≡ 0 =
        subst (λ (k : ℕ). fresh (uses (parts ++ p ∷ []) k) ≡ 0) e (now_used parts p) in
        let was : fresh (uses parts n) ≡ 1 = ap fresh (subst (λ (k : ℕ). uses parts k ≡ false) e new) in
        let i = no_more parts p n in omega arith

differs : (m n : ℕ) → (m ≡ n → ⊥) → (m == n) ≡ false
differs m n h = grind (arith, common_steps)

-- a piece of a new triangle leaves fewer unused
pub less_left : (parts : List Part) (p : Part) (n : ℕ) → p.triangle < n
    → ((i : ℕ) → i < length parts → (part_at parts i).triangle ≡ p.triangle → ⊥)
    → unused (parts ++ p ∷ []) n < unused parts n
less_left parts p n h new = fewer parts p n h (list_any_none (λ (q : Part). q.triangle == p.triangle) parts each)
  where
    each : All (λ (q : Part). (q.triangle == p.triangle) ≡ false) parts
    each i d k = subst (λ (q : Part). (q.triangle == p.triangle) ≡ false) (get_or_default parts i no_part d k)
        (differs (part_at parts i).triangle p.triangle (new i k))
