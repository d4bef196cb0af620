-- The places of the cells that a box meets.
use Rattle.std.proofs.Common.{◌≡◌, ℕ, ◌+◌, ◌*◌, ◌^◌, ◌<◌, ◌≤◌, List, [], length, Contains, nat_eq, ⊎_elim, sym, ap, ◌∙◌}
use Rattle.std.proofs.Common.{subst, arith}
use Rattle.std.specs.List.{IsDistinct}
use Rattle.std.proofs.lemmas.Bool.{cases_lt}
use Rattle.plane_base.specs.declared.shapes.Rect.{Rect}
use Rattle.cell_grid.specs.InsideSizes.{longer_side}
use Rattle.cell_grid.specs.Stripes.{IsPastCorner}
use Rattle.cell_grid.specs.Cells.{IsPlaceOf}
use Rattle.cell_grid.specs.InsideBlocks.{IsBlockOf, place_at, index_of}
use Rattle.cell_grid.specs.InsideEntries.{ArePlacesOf, DoesKeep}
use Rattle.cell_grid.specs.declared.levels.Level.{Level}
use Rattle.cell_grid.specs.declared.blocks.Block.{Block}
use Rattle.cell_grid.proofs.Indices.{few, index_within, place_there}

-- the places of the first cells of a block
pub record AreFirst (level : Level) (block : Block) (count : ℕ) (places : List ℕ) : Type 0 where
  pub few : length places ≤ count
  pub once : IsDistinct nat_eq places
  pub of_level : (place : ℕ) → Contains places place → IsPlaceOf level place
  pub some : (k : ℕ) → k < count → Contains places (place_at level block k)

pub first_none : (level : Level) (block : Block) (places : List ℕ) → places ≡ [] → AreFirst level block 0 places
unfolding IsDistinct
first_none level block places none =
    subst (λ (l : List ℕ). AreFirst level block 0 l) (sym none)
    (record {
      few = omega arith;
      once = tt;
      of_level = λ place c. absurd (omega (arith, c.1));
      some =
          λ k h. absurd (omega arith);
    })

pub first_more : (level : Level) (block : Block) (count place : ℕ) (before now : List ℕ)
    → AreFirst level block count before → place ≡ place_at level block count → IsPlaceOf level place
    → DoesKeep place before now
    → AreFirst level block (count + 1) now
first_more level block count place before now is at within keeps =
    record {
      few = omega (arith, is.few, keeps.few);
      once = keeps.once is.once;
      of_level = λ other c. ⊎_elim (λ old. is.of_level other old) (λ same. subst (IsPlaceOf level) same within)
          (keeps.only other c);
      some = λ k h. ⊎_elim
          (λ earlier. keeps.kept (place_at level block k) (is.some k earlier))
          (λ late. let e : count ≡ k = omega arith in subst (λ (p : ℕ). Contains now p)
          (at ∙ ap (place_at level block) e) keeps.some)
          (cases_lt k count);
    }

pub first_all : (level : Level) (rect : Rect) (block : Block) (count : ℕ) (places : List ℕ)
    → IsPastCorner level.low rect → longer_side rect < 2 ^ level.shift → IsBlockOf level rect block
    → count ≡ block.columns * block.rows → AreFirst level block count places → ArePlacesOf level rect places
first_all level rect block count places past small is all first =
    record {
      few = omega (arith, first.few, few level rect block past is small);
      once = first.once;
      of_level = first.of_level;
      all = λ p has. subst (λ (k : ℕ). Contains places k) (place_there level rect block p past is has)
          (first.some (index_of level block p) (omega (arith, index_within level rect block p past is has)));
    }
