-- Parts of lists, and what is true of all members.
use Rattle.std.proofs.Common.{◌≡◌, ℕ, zero, suc, ◌+◌, ◌≤◌, List, [], ◌∷◌, ◌++◌, length, take, drop, refl, sym, ap, ◌∙◌}
use Rattle.std.proofs.Common.{arith}
use Rattle.std.specs.List.{AllByRecursion}
use Rattle.std.proofs.lemmas.List.{drop_all}

pub drop_twice : {A : Type 0} (at size : ℕ) (xs : List A) → drop size (drop at xs) ≡ drop (at + size) xs
drop_twice zero size xs = let e : size ≡ 0 + size = omega arith in ap (λ n. drop n xs) e
drop_twice {A} (suc at) size [] = let n : length {A = A} [] ≤ suc at + size =
    omega arith in let m : length {A = A} [] ≤ size = omega arith in drop_all size [] m
    ∙ sym (drop_all (suc at + size) [] n)
drop_twice (suc at) size (x ∷ xs) = let e : suc (at + size) ≡ suc at + size = omega arith in drop_twice at size xs
    ∙ ap (λ n. drop n (x ∷ xs)) e

pub drop_front : {A : Type 0} (front back : List A) → drop (length front) (front ++ back) ≡ back
drop_front [] back = refl
drop_front (x ∷ front) back = drop_front front back

pub all_parts : {A : Type 0} (P : A → Type 0) (n : ℕ) (xs : List A) → AllByRecursion P xs
    → AllByRecursion P (take n xs) × AllByRecursion P (drop n xs)
all_parts P zero xs all = (tt, all)
all_parts P (suc n) [] all = (tt, tt)
all_parts P (suc n) (x ∷ xs) all = let (front, back) = all_parts P n xs all.1 in ((all.0, front), back)
