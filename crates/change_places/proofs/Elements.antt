-- The element at a place of a list.
use Rattle.std.proofs.Common.{◌≡◌, ℕ, zero, suc, ◌<◌, List, [], ◌∷◌, length, get_or, refl, arith}

-- is the same whatever stands for others
pub element : {A : Type 0} (xs : List A) (i : ℕ) (d : A) → i < length xs → get_or xs i d ≡ get_or xs i (get_or xs i d)
element [] i d within = absurd (omega (arith, within))
element (x ∷ xs) zero d within = refl
element (x ∷ xs) (suc i) d within = step xs i d (omega (arith, within)) (get_or xs i d)
  where
    step : {A : Type 0} (ys : List A) (k : ℕ) (d : A) → k < length ys → (other : A) → get_or ys k d ≡ get_or ys k other
    step [] k d within other = absurd (omega (arith, within))
    step (y ∷ ys) zero d within other = refl
    step (y ∷ ys) (suc k) d within other = step ys k d (omega (arith, within)) other
