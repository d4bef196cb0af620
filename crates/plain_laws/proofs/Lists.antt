-- Lists: equal heads and tails, what comes after a place, and numbers that ascend.
use Rattle.std.proofs.Common.{◌≡◌, ⊎_elim, ℕ, ◌+◌, ◌-◌, ◌<◌, List, [], ◌∷◌, ◌++◌, length, take, drop, get_or}
use Rattle.std.proofs.Common.{refl, ap, arith}
use Rattle.std.specs.Prelude.{Contains}
use Rattle.std.specs.List.{AllByRecursion}
use Rattle.std.specs.List.Sorted.{IsStrictlyIncreasing}
use Rattle.std.proofs.lemmas.Bool.{cases_lt}
use Rattle.std.proofs.lemmas.Grind.{common_steps}
use Rattle.std.proofs.lemmas.List.{length_push, get_or_append_left, get_or_push}
use Rattle.std.proofs.lemmas.List.Elements.{Contains-get_or}

pub same_first : (a b : ℕ) (xs ys : List ℕ) → a ∷ xs ≡ b ∷ ys → a ≡ b
same_first a b xs ys h = cc

pub same_rest : (a b : ℕ) (xs ys : List ℕ) → a ∷ xs ≡ b ∷ ys → xs ≡ ys
same_rest a b xs ys h = cc

-- as many as there come after a place are all that comes after it
pub take_rest : (xs : List ℕ) (n : ℕ) → take (length xs - n) (drop n xs) ≡ drop n xs
take_rest xs n = grind (arith, common_steps)

-- what holds of each in two lists holds of each in both together
pub all_append : {A : Type 0} (P : A → Type 0) (xs ys : List A) → AllByRecursion P xs → AllByRecursion P ys
    → AllByRecursion P (xs ++ ys)
all_append P [] ys a b = b
all_append P (x ∷ xs) ys a b = (a.0, all_append P xs ys a.1 b)

pub all_push : {A : Type 0} (P : A → Type 0) (xs : List A) (x : A) → AllByRecursion P xs → P x
    → AllByRecursion P (xs ++ x ∷ [])
all_push P xs x all one = all_append P xs (x ∷ []) all (one, tt)

-- ascending numbers and one more that is greater than each of them
pub increasing_push : (xs : List ℕ) (n : ℕ) → IsStrictlyIncreasing xs → ((k : ℕ) → Contains xs k → k < n)
    → IsStrictlyIncreasing (xs ++ n ∷ [])
increasing_push xs n up below k within =
    let long = length_push xs n in
    let low : get_or (xs ++ n ∷ []) k 0 ≡ get_or xs k 0 = get_or_append_left xs (n ∷ []) 0 k (omega arith) in
    ⊎_elim
    (λ inside. rw (low, get_or_append_left xs (n ∷ []) 0 (k + 1) inside) (up k inside))
    (λ at_end. rw (low, get_or_push xs n 0 (k + 1) (omega arith))
    (below (get_or xs k 0) (Contains-get_or xs k 0 (omega arith))))
    (cases_lt (k + 1) (length xs))

-- the first part of two lists that are joined
pub take_front : {A : Type 0} (front back : List A) → take (length front) (front ++ back) ≡ front
take_front [] back = refl
take_front (x ∷ front) back = ap (λ xs. x ∷ xs) (take_front front back)
