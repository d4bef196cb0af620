-- Which numbers short lists have.
use Rattle.std.proofs.Common.{◌≡◌, ◌⊎◌, ℕ, Bool, true, false, ◌||◌, eqb, List, [], ◌∷◌, ap, arith}
use Rattle.std.proofs.Common.{refl}
use Rattle.std.proofs.lemmas.Bool.{eq-eqb, or_left, or_right}
use Rattle.std.proofs.lemmas.Bool.Decides.{eqb_tells}
use Rattle.tin_base.specs.Soundness.{has, common}

-- a number of three is one of them
pub one_of_three : (i j k c : ℕ) → has (i ∷ j ∷ k ∷ []) c ≡ true → (i ≡ c) ⊎ ((j ≡ c) ⊎ (k ≡ c))
one_of_three i j k c h = grind (arith, eqb_tells)

-- a list has its first number, two numbers are both there, and so are three
pub has_head : (n : ℕ) (ns : List ℕ) → has (n ∷ ns) n ≡ true
has_head n ns = ap (λ (b : Bool). b || has ns n) (eq-eqb n n refl)

pub has_first_of_two : (d e n : ℕ) → d ≡ n → has (d ∷ e ∷ []) n ≡ true
has_first_of_two d e n s = or_left (eqb d n) (eqb e n || false) (eq-eqb d n s)

pub has_second_of_two : (d e n : ℕ) → e ≡ n → has (d ∷ e ∷ []) n ≡ true
has_second_of_two d e n s = or_right (eqb d n) (eqb e n || false) (or_left (eqb e n) false (eq-eqb e n s))

pub has_first : (i j k : ℕ) → has (i ∷ j ∷ k ∷ []) i ≡ true
has_first i j k = has_head i (j ∷ k ∷ [])

pub has_second : (i j k : ℕ) → has (i ∷ j ∷ k ∷ []) j ≡ true
has_second i j k = or_right (eqb i j) (has (j ∷ k ∷ []) j) (has_head j (k ∷ []))

pub has_third : (i j k : ℕ) → has (i ∷ j ∷ k ∷ []) k ≡ true
has_third i j k = or_right (eqb i k) (has (j ∷ k ∷ []) k) (or_right (eqb j k) (has (k ∷ []) k) (has_head k []))

-- a number of both lists is a common one
pub has_common : (ks ns : List ℕ) (c : ℕ) → has ks c ≡ true → has ns c ≡ true → has (common ks ns) c ≡ true
has_common [] ns c h k = h
has_common (j ∷ ks) ns c h k = grind (arith, eqb_tells, or_left, or_right, (has_common ks ns c))
