-- The least triangle that has a point, by the numbers of each level in turn.
use Rattle.std.proofs.Common.{◌≡◌, inl, inr, ⊎_elim, ◌↔◌, ℕ, ◌+◌, ◌<◌, ◌≤◌, List, length, get_or, Contains, refl}
use Rattle.std.proofs.Common.{sym, ◌∙◌, subst, arith}
use Rattle.std.proofs.lemmas.Bool.{cases_lt}
use Rattle.std.proofs.lemmas.Grind.{get_or_default_zero}
use Rattle.std.proofs.lemmas.List.Kept.{AllPairs-from_increasing}
use Rattle.std.specs.List.Sorted.{IsStrictlyIncreasing}
use Rattle.plane_base.specs.Plane.{whole}
use Rattle.plane_base.specs.declared.shapes.Pt.{Pt}
use Rattle.cell_grid.specs.Boxes.{IsHolder}
use Rattle.cell_grid.specs.Grids.{Boxes, level_at}
use Rattle.tin_base.specs.declared.frames.Frame.TheVariants.{Source}
use Rattle.tin_base.specs.Triangulation.{Triangulation, IsInTriangle}
use Rattle.tin_index.specs.Boxes.{AreBoxesOf}
use Rattle.tin_index.specs.InsideLocations.{IsOneOf}
use Rattle.tin_index.proofs.SourceBoxes.{holder}

-- ---- among ascending numbers
-- none of the first of them has the point
abbrev pub NoneBefore : Triangulation → Pt → List ℕ → ℕ → Type 0
NoneBefore tin p numbers i = (k : ℕ) → k < i → IsInTriangle tin Source (get_or numbers k 0) (whole p) → ⊥

pub from_here : (tin : Triangulation) (p : Pt) (numbers : List ℕ) (i : ℕ) → IsStrictlyIncreasing numbers
    → NoneBefore tin p numbers i → i < length numbers → (n : ℕ) → Contains numbers n
    → IsInTriangle tin Source n (whole p) → get_or numbers i 0 ≤ n
from_here tin p numbers i up none h n c m =
    let same : get_or numbers c.0 0 ≡ n = sym (get_or_default_zero numbers c.0 n c.1) ∙ c.2 in
    ⊎_elim (λ l. absurd (none c.0 l (subst (λ (k : ℕ). IsInTriangle tin Source k (whole p)) (sym same) m)))
    (λ from. ⊎_elim (λ l. let below = AllPairs-from_increasing numbers up i c.0 0 l c.1 in omega (arith, below, same))
    (λ l. let e : c.0 ≡ i = omega arith in subst (λ (j : ℕ). get_or numbers j 0 ≤ n) e (omega (arith, same)))
    (cases_lt i c.0))
    (cases_lt c.0 i)

pub not_among : (tin : Triangulation) (p : Pt) (numbers : List ℕ) (i : ℕ) → NoneBefore tin p numbers i
    → length numbers ≤ i → (n : ℕ) → Contains numbers n → IsInTriangle tin Source n (whole p) → ⊥
not_among tin p numbers i none h n c m =
    let same : get_or numbers c.0 0 ≡ n = sym (get_or_default_zero numbers c.0 n c.1) ∙ c.2 in
    none c.0 (let l = c.1 in omega (arith, l)) (subst (λ (k : ℕ). IsInTriangle tin Source k (whole p)) (sym same) m)

-- ---- level by level
-- no triangle of the first levels that has the point is below the one that was found
pub record IsLeastSoFar (tin : Triangulation) (grid : Boxes) (p : Pt) (count found : ℕ) : Type 0 where
  pub within : found ≤ length tin.triangles
  pub one : IsOneOf tin p (length tin.triangles) found
  pub least : (t : ℕ) → t < length tin.triangles → IsInTriangle tin Source t (whole p) → level_at grid t < count
      → found ≤ t

pub least_start : (tin : Triangulation) (grid : Boxes) (p : Pt) → IsLeastSoFar tin grid p 0 (length tin.triangles)
least_start tin grid p = record { within = omega arith; one = inl refl; least = λ t h m on. absurd (omega arith) }

pub least_more : (tin : Triangulation) (grid : Boxes) (p : Pt) (i least now : ℕ) (numbers : List ℕ)
    → AreBoxesOf tin (length tin.triangles) grid.boxes → IsLeastSoFar tin grid p i least
    → ((n : ℕ) → IsHolder grid.boxes p n → Contains numbers n ↔ (level_at grid n ≡ i))
    → now ≤ least → IsOneOf tin p least now
    → ((n : ℕ) → Contains numbers n → IsInTriangle tin Source n (whole p) → now ≤ n)
    → IsLeastSoFar tin grid p (i + 1) now
least_more tin grid p i least now numbers are old cell below one among =
    let to : least ≤ length tin.triangles = old.within in
    record {
      within = omega arith;
      one = ⊎_elim (λ e. subst (λ (n : ℕ). IsOneOf tin p (length tin.triangles) n) (sym e) old.one) (λ h. inr h) one;
      least = λ t h m on. ⊎_elim
          (λ before. let b = old.least t h m before in omega (arith, b))
          (λ from. among t ((cell t (holder tin grid.boxes t p are h m)).1 (omega (arith, on, from))) m)
          (cases_lt (level_at grid t) i);
    }

pub least_of_all : (tin : Triangulation) (grid : Boxes) (p : Pt) (count least : ℕ)
    → AreBoxesOf tin (length tin.triangles) grid.boxes → IsLeastSoFar tin grid p count least
    → ((n : ℕ) → n < length grid.boxes → level_at grid n < grid.levels) → grid.levels ≤ count → (t : ℕ)
    → t < length tin.triangles → IsInTriangle tin Source t (whole p) → least ≤ t
least_of_all tin grid p count least are far on_levels all t ht m =
    let long = are.count in
    let on = on_levels t (omega (arith, long)) in
    far.least t ht m (omega (arith, on, all))
