-- The levels that have boxes, found in order.
use Rattle.std.proofs.Common.{◌≡◌, ℕ, ◌+◌, ◌<◌, ◌≤◌, List, [], ◌∷◌, ◌++◌, length, get_or, set, All, Contains, ⊎_elim}
use Rattle.std.proofs.Common.{sym, ap, ◌∙◌, subst, arith}
use Rattle.std.specs.List.Sorted.{IsStrictlyIncreasing}
use Rattle.std.proofs.lemmas.Bool.{cases_lt, cases_eq}
use Rattle.std.proofs.lemmas.Grind.{get_or-set_at}
use Rattle.std.proofs.lemmas.List.{length_push, get_or_default, get_or-set_same, get_or-set_other}
use Rattle.std.proofs.lemmas.List.Elements.{Contains-push, Contains-push_cases, Contains-append_left, Contains-get_or}
use Rattle.plane_base.specs.declared.shapes.Rect.{Rect}
use Rattle.cell_grid.specs.InsideSizes.{level_of, AreOfLevels}
use Rattle.plain_laws.proofs.Lists.{increasing_push}

-- of the first n levels those with boxes
pub record AreUsedTo (counts : List ℕ) (n : ℕ) (used : List ℕ) : Type 0 where
  pub ascending : IsStrictlyIncreasing used
  pub below : (k : ℕ) → Contains used k → k < n
  pub few : length used ≤ n
  pub each : (level : ℕ) → level < n → 0 < get_or counts level 0 → Contains used level

pub used_push : (counts : List ℕ) (n : ℕ) (used : List ℕ) → AreUsedTo counts n used
    → AreUsedTo counts (n + 1) (used ++ n ∷ [])
used_push counts n used is =
    record {
      ascending = increasing_push used n is.ascending is.below;
      below = λ k c. ⊎_elim (λ before. let b = is.below k before in omega arith) (λ same. omega (arith, same))
          (Contains-push_cases used n k c);
      few = omega (arith, length_push used n, is.few);
      each = λ level h some. ⊎_elim
          (λ before. Contains-append_left used (n ∷ []) level (is.each level before some))
          (λ last. let e : level ≡ n = omega arith in subst (λ (k : ℕ). Contains (used ++ n ∷ []) k) (sym e)
          (Contains-push used n))
          (cases_lt level n);
    }

pub used_skip : (counts : List ℕ) (n : ℕ) (used : List ℕ) → get_or counts n 0 ≡ 0 → AreUsedTo counts n used
    → AreUsedTo counts (n + 1) used
used_skip counts n used zero is =
    record {
      ascending = is.ascending;
      below = λ k c. let b = is.below k c in omega arith;
      few = omega (arith, is.few);
      each = λ level h some. ⊎_elim
          (λ before. is.each level before some)
          (λ last. let e : level ≡ n = omega arith in let none : get_or counts level 0 ≡ 0 =
          ap (λ (k : ℕ). get_or counts k 0) e ∙ zero in absurd (omega (arith, none, some)))
          (cases_lt level n);
    }

pub used_below : (counts used : List ℕ) (n : ℕ) → AreUsedTo counts n used → All (λ level. level < n) used
used_below counts used n is k d h = is.below (get_or used k d) (Contains-get_or used k d h)

-- a count is not 0 after another has grown
some_set : (counts : List ℕ) (place value j : ℕ) → place < length counts → 0 < value → 0 < get_or counts j 0
    → 0 < get_or (set counts place value) j 0
some_set counts place value j within new old =
    ⊎_elim
    (λ here. rw (get_or-set_at counts place j value 0 here within) new)
    (λ other. rw (get_or-set_other counts place j value 0 other) old)
    (cases_eq j place)

-- all levels of boxes are used
pub used_each : (boxes : List Rect) (counts used : List ℕ) → AreOfLevels (length counts) boxes
    → All (λ (rect : Rect). 0 < get_or counts (level_of rect) 0) boxes
    → ((level : ℕ) → level < length counts → 0 < get_or counts level 0 → Contains used level)
    → All (λ (rect : Rect). Contains used (level_of rect)) boxes
used_each boxes counts used of_levels some each k d h =
    each (level_of (get_or boxes k d)) (of_levels k d h) (some k d h)

-- one box more is counted on its level
pub counted_more : (boxes : List Rect) (counts : List ℕ) (i place value : ℕ) (e : Rect)
    → AreOfLevels (length counts) boxes → i < length boxes → place ≡ level_of (get_or boxes i e) → 0 < value
    → ((k : ℕ) (d : Rect) → k < i → 0 < get_or counts (level_of (get_or boxes k d)) 0)
    → (k : ℕ) (d : Rect) → k < i + 1 → 0 < get_or (set counts place value) (level_of (get_or boxes k d)) 0
counted_more boxes counts i place value e of_levels within is new old k d h =
    let own : place < length counts = rw is (of_levels i e within) in
    ⊎_elim
    (λ earlier. some_set counts place value (level_of (get_or boxes k d)) own new (old k d earlier))
    (λ late.
    let last : k ≡ i = omega (arith, h) in
    let same : level_of (get_or boxes k d) ≡ place = ap (λ (n : ℕ). level_of (get_or boxes n d)) last
    ∙ ap level_of (get_or_default boxes i d e within) ∙ sym is in
    rw (same, get_or-set_same counts place value 0 own) new)
    (cases_lt k i)
