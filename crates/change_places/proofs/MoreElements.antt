-- What holds of the first elements of a list, and of one more.
use Rattle.std.proofs.Common.{ℕ, ◌+◌, ◌<◌, ◌∷◌, [], List, length, take, get_or, sym, subst}
use Rattle.std.specs.List.{AllByRecursion}
use Rattle.std.proofs.lemmas.List.{take_more}
use Rattle.plain_laws.proofs.Lists.{all_append}

pub all_more : {X : Type 0} (P : X → Type 0) (xs : List X) (i : ℕ) (d : X) → i < length xs
    → AllByRecursion P (take i xs) → P (get_or xs i d) → AllByRecursion P (take (i + 1) xs)
all_more P xs i d within all next =
    subst (AllByRecursion P) (sym (take_more xs i d within)) (all_append P (take i xs) (get_or xs i d ∷ []) all (next, tt))
