-- How many items from the front on pass a test.
use Rattle.std.proofs.Common.{◌≡◌, ℕ, zero, suc, ◌+◌, ◌≤◌, ◌<◌, List, [], ◌∷◌, length, get_or, Bool, true, false}
use Rattle.std.proofs.Common.{refl, arith}
use Rattle.std.specs.List.{prefix_len}

pub passed : {X : Type 0} (p : X → Bool) (xs : List X) (i : ℕ) (d : X) → i ≤ prefix_len p xs → i < length xs
    → p (get_or xs i d) ≡ true → i + 1 ≤ prefix_len p xs
passed p [] i d below within is = absurd (omega arith)
passed p (x ∷ xs) zero d below within is = let one : prefix_len p (x ∷ xs) ≡ 1 + prefix_len p xs =
    rw is refl in omega (arith, one)
passed p (x ∷ xs) (suc i) d below within is = grind (arith, (passed p xs i d))

pub stopped : {X : Type 0} (p : X → Bool) (xs : List X) (i : ℕ) (d : X) → i ≤ prefix_len p xs → i < length xs
    → p (get_or xs i d) ≡ false → i ≡ prefix_len p xs
stopped p [] i d below within is = absurd (omega arith)
stopped p (x ∷ xs) zero d below within is = rw is refl
stopped p (x ∷ xs) (suc i) d below within is = grind (arith, (stopped p xs i d))
