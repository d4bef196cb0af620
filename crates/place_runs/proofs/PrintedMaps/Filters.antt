-- The items of a list that pass a test.
use Rattle.std.proofs.Common.{◌≡◌, ℕ, ◌+◌, ◌<◌, Bool, true, false, List, [], ◌∷◌, ◌++◌, length, take, get_or, refl, ◌∙◌, ap}
use Rattle.std.specs.Prelude.{if◌then◌else◌}
use Rattle.std.specs.List.{AllByRecursion, filter}
use Rattle.std.proofs.lemmas.List.{take_more}
use Rattle.std.proofs.lemmas.List.Elements.{filter-append}

-- all pass the test that each passes
pub filter_all : {A : Type 0} (xs : List A) → filter (λ (x : A). true) xs ≡ xs
filter_all [] = refl
filter_all {A} (x ∷ xs) = ap (λ (ys : List A). x ∷ ys) (filter_all xs)

pub filtered_have : {A : Type 0} (P : A → Type 0) (test : A → Bool) (xs : List A) → AllByRecursion P xs
    → AllByRecursion P (filter test xs)
filtered_have P test [] all = tt
filtered_have P test (x ∷ xs) (own, all) = by (test x) own (filtered_have P test xs all)
  where
    by : (kept : Bool) → P x → AllByRecursion P (filter test xs)
        → AllByRecursion P (if kept then x ∷ filter test xs else filter test xs)
    by true own all = (own, all)
    by false own all = all

-- those of the items before one more, and of that one
pub filter_more : {A : Type 0} (test : A → Bool) (xs : List A) (i : ℕ) (e : A) → i < length xs
    → filter test (take (i + 1) xs) ≡ filter test (take i xs) ++ filter test (get_or xs i e ∷ [])
filter_more test xs i e within =
    ap (filter test) (take_more xs i e within) ∙ filter-append test (take i xs) (get_or xs i e ∷ [])
