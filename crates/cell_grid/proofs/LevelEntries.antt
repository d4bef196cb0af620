-- Boxes on their levels, and what the groups of all entries are.
use Rattle.std.proofs.Common.{◌≡◌, ℕ, ◌+◌, ◌-◌, ◌^◌, ◌<◌, ◌≤◌, List, [], ◌∷◌, ◌++◌, length, get_or, All, Contains}
use Rattle.std.proofs.Common.{⊎_elim, refl, set, sym, ap, ◌∙◌, subst, arith}
use Rattle.std.proofs.lemmas.Bool.{cases_lt, cases_eq}
use Rattle.std.proofs.lemmas.List.{get_or_past, get_or_default, get_or_append_left, get_or_push, length_push}
use Rattle.std.proofs.lemmas.List.{length-set, get_or-set_same, get_or-set_other}
use Rattle.std.proofs.lemmas.List.Elements.{All-push}
use Rattle.std.specs.List.Sorted.{IsStrictlyIncreasing}
use Rattle.plane_base.specs.declared.shapes.Pt.{Pt}
use Rattle.plane_base.specs.declared.shapes.Rect.{Rect}
use Rattle.number_groups.specs.declared.groups.Entry.{Entry}
use Rattle.number_groups.specs.Groups.{numbers_under}
use Rattle.cell_grid.specs.Boxes.{box_at, no_box}
use Rattle.cell_grid.specs.InsideSizes.{longer_side, level_of, AreOfLevels}
use Rattle.cell_grid.specs.Stripes.{IsPastCorner}
use Rattle.cell_grid.specs.Cells.{numbers_at, cell_of, HasNumbersBelow, IsLevelOf, IsOnLevel, DoAscend}
use Rattle.cell_grid.specs.LevelLists.{AreLaid, HasSamePlaces, HaveSamePlaces}
use Rattle.cell_grid.specs.InsideEntries.{AreEntered}
use Rattle.cell_grid.specs.declared.levels.Level.{Level}
use Rattle.cell_grid.proofs.Sizes.{small_on}
use Rattle.cell_grid.proofs.Places.{cell_within}

-- ---- the level of a box
pub level_within : (boxes : List Rect) (levels : List Level) (number l : ℕ) → AreOfLevels (length levels) boxes
    → number < length boxes → l ≡ level_of (box_at boxes number) → l < length levels
level_within boxes levels number l of_levels h is = rw is (of_levels number no_box h)

pub level_past : (boxes : List Rect) (levels : List Level) (number l : ℕ) (level : Level)
    → All (λ (v : Level). All (λ (r : Rect). IsPastCorner v.low r) boxes) levels → number < length boxes
    → l < length levels → level ≡ get_or levels l level
    → IsPastCorner level.low (box_at boxes number)
level_past boxes levels number l level past h within is =
    subst (λ (v : Level). IsPastCorner v.low (box_at boxes number)) (sym is) (past l level within number no_box h)

pub level_small : (boxes : List Rect) (levels : List Level) (number l : ℕ) (level : Level) → AreLaid levels
    → l ≡ level_of (box_at boxes number) → l < length levels → level ≡ get_or levels l level
    → IsPastCorner level.low (box_at boxes number) → longer_side (box_at boxes number) < 2 ^ level.shift
level_small boxes levels number l level laid of_it within is past =
    let own : level.number ≡ l = ap (λ (v : Level). v.number) is ∙ laid.number l level within in
    small_on level.low (box_at boxes number) level.shift past (omega (arith, of_it, own, level.wide))

-- ---- the groups of all entries
pub record AreGroups (entries : List Entry) (keys : ℕ) (cells : List (List ℕ)) : Type 0 where
  pub count : length cells ≡ keys
  pub each : (key : ℕ) → key < keys → get_or cells key [] ≡ numbers_under key entries

-- a number in a cell is one of those that are entered there
among : (entries : List Entry) (keys : ℕ) (cells : List (List ℕ)) (place k : ℕ) → AreGroups entries keys cells
    → Contains (numbers_at cells place) k → Contains (numbers_under place entries) k
among entries keys cells place k are c =
    ⊎_elim
    (λ inside. subst (λ (l : List ℕ). Contains l k) (are.each place inside) c)
    (λ past. let none : numbers_at cells place ≡ [] =
    get_or_past cells place [] (omega (arith, are.count)) in absurd (omega (arith, ap length none, c.1)))
    (cases_lt place keys)

pub cells_ascend : (boxes : List Rect) (levels : List Level) (entries : List Entry) (keys : ℕ) (cells : List (List ℕ))
    → AreEntered boxes (length boxes) levels entries → AreGroups entries keys cells → DoAscend cells
cells_ascend boxes levels entries keys cells is are place =
    ⊎_elim
    (λ inside. subst (λ (l : List ℕ). IsStrictlyIncreasing l) (sym (are.each place inside)) (is.ascending place))
    (λ past. let none : numbers_at cells place ≡ [] =
    get_or_past cells place [] (omega (arith, are.count)) in subst (λ (l : List ℕ). IsStrictlyIncreasing l)
    (sym none) (λ k h. absurd (omega arith)))
    (cases_lt place keys)

pub cells_below : (boxes : List Rect) (levels : List Level) (entries : List Entry) (keys : ℕ) (cells : List (List ℕ))
    → AreEntered boxes (length boxes) levels entries → AreGroups entries keys cells
    → HasNumbersBelow (length boxes) cells
cells_below boxes levels entries keys cells is are place k c =
    is.earlier place k (among entries keys cells place k are c)

pub cells_levels : (boxes : List Rect) (levels : List Level) (entries : List Entry) (keys : ℕ) (cells : List (List ℕ))
    → AreEntered boxes (length boxes) levels entries → AreLaid levels
    → All (λ (v : Level). v.base + v.mask < keys) levels → AreGroups entries keys cells
    → All (λ (v : Level). IsLevelOf boxes cells v) levels
cells_levels boxes levels entries keys cells is laid all are l d within =
    let level = get_or levels l d in
    let own = laid.number l d within in
    let end = all l d within in
    record {
      places = omega (arith, are.count, end);
      of_level = λ place k on c. subst (λ (n : ℕ). IsOnLevel boxes n k) (sym own)
          (is.of_level place k l d within on (among entries keys cells place k are c));
      held = λ k p on has.
          let top = cell_within level p in
          subst (λ (list : List ℕ). Contains list k) (sym (are.each (cell_of level p) (omega (arith, top.1, end))))
          (is.held k l d p within on.0 (subst (λ (n : ℕ). IsOnLevel boxes n k) own on) has);
    }

-- ---- levels one after another
pub laid_more : (levels : List Level) (level : Level) (number base : ℕ) → AreLaid levels → length levels ≡ number
    → number < 32 → All (λ (v : Level). v.base + v.mask < base) levels → level.base ≡ base → level.number ≡ number
    → AreLaid (levels ++ level ∷ [])
laid_more levels level number base laid count few before at is =
    let long = length_push levels level in
    record {
      few = omega arith;
      number = λ k d h. ⊎_elim
          (λ inside. rw (get_or_append_left levels (level ∷ []) d k inside) (laid.number k d inside))
          (λ last. rw (get_or_push levels level d k (omega arith)) (is ∙ omega arith))
          (cases_lt k (length levels));
      apart = λ i j d less h.
          let low : get_or (levels ++ level ∷ []) i d ≡ get_or levels i d =
          get_or_append_left levels (level ∷ []) d i (omega arith) in
          ⊎_elim
          (λ inside. rw (low, get_or_append_left levels (level ∷ []) d j inside) (laid.apart i j d less inside))
          (λ last. rw (low, get_or_push levels level d j (omega arith)) (rw at (before i d (omega arith))))
          (cases_lt j (length levels));
    }

pub all_push : (P : Level → Type 0) (levels now : List Level) (level : Level) → now ≡ levels ++ level ∷ []
    → All P levels → P level → All P now
all_push P levels now level is all one = subst (λ (l : List Level). All P l) (sym is) (All-push P levels level all one)

pub before_more : (levels : List Level) (low high : ℕ) → low ≤ high → All (λ (v : Level). v.base + v.mask < low) levels
    → All (λ (v : Level). v.base + v.mask < high) levels
before_more levels low high h all k d inside = let b = all k d inside in omega arith

pub last_all : (levels : List Level) (level : Level) → AreLaid levels → 0 < length levels
    → level ≡ get_or levels (length levels - 1) level
    → All (λ (v : Level). v.base + v.mask < level.base + level.mask + 1) levels
last_all levels level laid some is k d h =
    let read : level ≡ get_or levels (length levels - 1) d = is
    ∙ get_or_default levels (length levels - 1) level d (omega arith) in
    let base : level.base ≡ (get_or levels (length levels - 1) d).base = ap (λ (v : Level). v.base) read in
    ⊎_elim
    (λ earlier. let apart = laid.apart k (length levels - 1) d earlier (omega arith) in omega arith)
    (λ last.
    let e : k ≡ length levels - 1 = omega arith in
    let same : get_or levels k d ≡ level = ap (λ (n : ℕ). get_or levels n d) e ∙ sym read in
    rw same (omega arith))
    (cases_lt k (length levels - 1))

-- ---- levels with other cells
pub same_laid : (before now : List Level) → HaveSamePlaces before now → AreLaid before → AreLaid now
same_laid before now same laid =
    record {
      few = omega (arith, same.count, laid.few);
      number = λ k d h. let at : k < length before = omega (arith, same.count) in (same.each k d at).number
          ∙ laid.number k d at;
      apart = λ i j d less h.
          let there : j < length before = omega (arith, same.count) in
          let here : i < length before = omega arith in
          let first = same.each i d here in
          let second = same.each j d there in
          omega (arith, laid.apart i j d less there, first.base, first.mask, second.base);
    }

pub same_low : (before now : List Level) (low : Pt) → HaveSamePlaces before now
    → All (λ (v : Level). v.low ≡ low) before → All (λ (v : Level). v.low ≡ low) now
same_low before now low same all k d h = let at : k < length before =
    omega (arith, same.count) in (same.each k d at).low ∙ all k d at

pub same_none : (levels : List Level) → HaveSamePlaces levels levels
same_none levels = record {
  count = refl;
  each =
      λ k d h. record { low = refl; number = refl; base = refl; mask = refl };
}

pub same_set : (before now : List Level) (place : ℕ) (old level : Level) → HaveSamePlaces before now
    → place < length now → old ≡ get_or now place old → HasSamePlaces old level
    → HaveSamePlaces before (set now place level)
same_set before now place old level same within is one =
    record {
      count = length-set now place level ∙ same.count;
      each = λ k d h.
          let kept = same.each k d h in
          ⊎_elim
          (λ here.
          let read : old ≡ get_or now k d = is ∙ get_or_default now place old d within
          ∙ ap (λ (n : ℕ). get_or now n d) (sym here) in
          let put : get_or (set now place level) k d ≡ level = ap (λ (n : ℕ). get_or (set now place level) n d) here
          ∙ get_or-set_same now place level d within in
          let from : HasSamePlaces (get_or now k d) level = subst (λ (v : Level). HasSamePlaces v level) read one in
          rw put (record {
            low = from.low ∙ kept.low;
            number = from.number ∙ kept.number;
            base = from.base
                ∙ kept.base;
            mask = from.mask ∙ kept.mask;
          }))
          (λ other. rw (get_or-set_other now place k level d other) kept)
          (cases_eq k place);
    }

pub same_then : (a b c : List Level) → HaveSamePlaces a b → HaveSamePlaces b c → HaveSamePlaces a c
same_then a b c first second =
    record {
      count = second.count ∙ first.count;
      each = λ k d h.
          let one = first.each k d h in
          let other = second.each k d (omega (arith, first.count)) in
          record {
            low = other.low ∙ one.low;
            number = other.number ∙ one.number;
            base = other.base
                ∙ one.base;
            mask = other.mask ∙ one.mask;
          };
    }

pub same_past : (before now : List Level) (boxes : List Rect) → HaveSamePlaces before now
    → All (λ (v : Level). All (λ (r : Rect). IsPastCorner v.low r) boxes) before
    → All (λ (v : Level). All (λ (r : Rect). IsPastCorner v.low r) boxes) now
same_past before now boxes same past k d h =
    let at : k < length before = omega (arith, same.count) in
    subst (λ (p : Pt). All (λ (r : Rect). IsPastCorner p r) boxes) (sym (same.each k d at).low) (past k d at)
