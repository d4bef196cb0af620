-- The level of each box of a grid: where its level of sizes is among those that have boxes.
use Rattle.std.proofs.Common.{◌≡◌, ◌↔◌, ℕ, suc, ◌<◌, Bool, true, false, cond, List, [], ◌∷◌, length, get_or}
use Rattle.std.proofs.Common.{Contains, nat_eq, inl, inr, ⊎_elim, refl, sym, ap, ◌∙◌, subst, arith}
use Rattle.std.specs.List.Sorted.{IsStrictlyIncreasing}
use Rattle.std.proofs.lemmas.Bool.{cases_lt, false≢true}
use borrow.Author.Tests.{eqb-true}
use Rattle.std.proofs.Common.{eq-eqb}
use Rattle.std.proofs.lemmas.List.{get_or-map}
use Rattle.std.proofs.lemmas.List.Kept.{AllPairs-from_increasing}
use Rattle.std.proofs.lemmas.Map.Made.{Contains-tail}
use Rattle.plane_base.specs.declared.shapes.Rect.{Rect}
use Rattle.cell_grid.specs.Boxes.{box_at, no_box}
use Rattle.cell_grid.specs.Grids.{Boxes, level_at}
use Rattle.cell_grid.specs.Partners.{IsBehind}
use Rattle.cell_grid.specs.InsideSizes.{level_of, AreUsed, place_in, grid_of}
use Rattle.cell_grid.specs.InsideLevelPartners.{IsBehindBySize}

-- ---- the place of a number
abbrev IsAt : List ℕ → ℕ → ℕ → Type 0
IsAt xs n k = (k < length xs) × (get_or xs k 0 ≡ n)

at_first : (first n : ℕ) (rest : List ℕ) (b : Bool) (k : ℕ) → (b ≡ true → first ≡ n) → (b ≡ false → IsAt rest n k)
    → IsAt (first ∷ rest) n (cond b 0 (suc k))
at_first first n rest true k same other = (omega arith, same refl)
at_first first n rest false k same other = let later = other refl in (omega (arith, later.0), later.1)

place_is : (xs : List ℕ) (n : ℕ) → Contains xs n → IsAt xs n (place_in xs n)
place_is [] n c = absurd (omega (arith, c.1))
place_is (first ∷ rest) n c =
    at_first first n rest (nat_eq first n) (place_in rest n) (λ told. eqb-true first n told)
    (λ untold. place_is rest n (Contains-tail first rest n
    (λ same. false≢true (sym untold ∙ eq-eqb first n same)) c))

-- ---- places where numbers ascend
same_place : (xs : List ℕ) (i j : ℕ) → IsStrictlyIncreasing xs → i < length xs → j < length xs
    → get_or xs i 0 ≡ get_or xs j 0 → i ≡ j
same_place xs i j up a b e =
    ⊎_elim
    (λ less. let h = AllPairs-from_increasing xs up i j 0 less b in absurd (omega (arith, h, e)))
    (λ from. ⊎_elim
    (λ more. let h = AllPairs-from_increasing xs up j i 0 more a in absurd (omega (arith, h, e)))
    (λ to. omega (arith, from, to))
    (cases_lt j i))
    (cases_lt i j)

less_place : (xs : List ℕ) (i j : ℕ) → IsStrictlyIncreasing xs → i < length xs → j < length xs
    → get_or xs i 0 < get_or xs j 0 → i < j
less_place xs i j up a b l =
    ⊎_elim
    (λ less. less)
    (λ from. ⊎_elim
    (λ more. let h = AllPairs-from_increasing xs up j i 0 more a in absurd (omega (arith, h, l)))
    (λ to. let e : i ≡ j = omega (arith, from, to) in let same : get_or xs i 0 ≡ get_or xs j 0 =
    ap (λ (k : ℕ). get_or xs k 0) e in absurd (omega (arith, same, l)))
    (cases_lt j i))
    (cases_lt i j)

-- ---- the levels of a grid
-- the level of each box is where its level of sizes is among some that ascend
pub record HasLevelsOf (used : List ℕ) (grid : Boxes) : Type 0 where
  pub ascending : IsStrictlyIncreasing used
  pub levels : grid.levels ≡ length used
  pub below : (n : ℕ) → n < length grid.boxes → level_at grid n < length used
  pub size : (n : ℕ) → n < length grid.boxes → get_or used (level_at grid n) 0 ≡ level_of (box_at grid.boxes n)

pub grid_levels : (count : ℕ) (boxes : List Rect) (used : List ℕ) (grid : Boxes) → AreUsed count boxes used
    → grid_of boxes used ≡ grid → HasLevelsOf used grid
grid_levels count boxes used grid are is =
    subst (λ (v : Boxes). HasLevelsOf used v) is
    (record {
      ascending = are.ascending;
      levels = refl;
      below = λ n h. subst (λ (k : ℕ). k < length used) (sym (own n h)) (there n h).0;
      size = λ n h. ap (λ (k : ℕ). get_or used k 0) (own n h) ∙ (there n h).1;
    })
  where
    own : (n : ℕ) → n < length boxes → level_at (grid_of boxes used) n ≡ place_in used (level_of (box_at boxes n))
    own n h = get_or-map (λ (rect : Rect). place_in used (level_of rect)) boxes n no_box 0 h

    there : (n : ℕ) → n < length boxes → IsAt used (level_of (box_at boxes n))
        (place_in used (level_of (box_at boxes n)))
    there n h = place_is used (level_of (box_at boxes n)) (are.each n no_box h)

-- a level of sizes is the one at its place
pub size_at : (used : List ℕ) (grid : Boxes) (n place : ℕ) → HasLevelsOf used grid → n < length grid.boxes
    → place < length used → (level_of (box_at grid.boxes n) ≡ get_or used place 0) ↔ (level_at grid n ≡ place)
size_at used grid n place has h within = (
  λ e. same_place used (level_at grid n) place has.ascending (has.below n h) within (has.size n h ∙ e),
  λ e. sym (has.size n h) ∙ ap (λ (k : ℕ). get_or used k 0) e,
)

-- the order by level of sizes is that by level
pub behind_at : (used : List ℕ) (grid : Boxes) (a b : ℕ) → HasLevelsOf used grid → a < length grid.boxes
    → b < length grid.boxes → IsBehindBySize grid.boxes a b ↔ IsBehind grid a b
behind_at used grid a b has ha hb = (
  λ h. ⊎_elim
      (λ less. inl (less_place used (level_at grid a) (level_at grid b) has.ascending (has.below a ha) (has.below b hb)
      (omega (arith, has.size a ha, has.size b hb, less))))
      (λ same. inr (
        same_place used (level_at grid b) (level_at grid a) has.ascending (has.below b hb) (has.below a ha)
            (has.size b hb ∙ same.0 ∙ sym (has.size a ha)),
        same.1,
      ))
      h,
  λ h. ⊎_elim
      (λ less. let up = AllPairs-from_increasing used has.ascending (level_at grid a) (level_at grid b) 0 less
      (has.below b hb) in inl (omega (arith, has.size a ha, has.size b hb, up)))
      (λ same. inr (sym (has.size b hb) ∙ ap (λ (k : ℕ). get_or used k 0) same.0 ∙ has.size a ha, same.1))
      h,
)
