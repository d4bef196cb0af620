-- Partners that are reported one after another.
use Rattle.std.proofs.Common.{◌≡◌, ◌≢◌, ◌⊎◌, ℕ, ◌+◌, ◌*◌, ◌<◌, ◌≤◌, List, [], ◌∷◌, ◌++◌, length, get_or}
use Rattle.std.proofs.Common.{Contains, nat_eq, inl, inr, ⊎_elim, sym, ap, ◌∙◌, subst, arith}
use Rattle.std.specs.List.{IsDistinct}
use Rattle.std.specs.List.Sorted.{IsStrictlyIncreasing}
use Rattle.std.proofs.lemmas.Bool.{cases_lt, cases_eq, false_from_ne_true}
use borrow.Author.Tests.{eqb-true}
use Rattle.std.proofs.lemmas.Cmp.{nat_eq_equiv}
use Rattle.std.proofs.lemmas.List.{get_or_default}
use Rattle.std.proofs.lemmas.List.Kept.{AllPairs-from_increasing}
use Rattle.std.proofs.lemmas.Int.{ints, int_max_is}
use Rattle.std.proofs.lemmas.List.Elements.{Contains-push, Contains-push_cases, Contains-append_left}
use Rattle.std.proofs.lemmas.List.Folds.{list_any_none}
use Rattle.std.proofs.lemmas.Map.Keys.{IsDistinct-push}
use Rattle.plane_base.specs.declared.shapes.Rect.{Rect}
use Rattle.plane_base.specs.Boxes.{HasPoint, IsOrdered, ShareAPoint}
use Rattle.cell_grid.specs.Boxes.{AreOrdered, box_at, no_box}
use Rattle.cell_grid.specs.Grids.{Boxes, level_at}
use Rattle.cell_grid.specs.InsideSizes.{level_of}
use Rattle.cell_grid.specs.Cells.{numbers_at, cell_of, IsLevelOf, IsPlaceOf}
use Rattle.cell_grid.specs.InsideBlocks.{place_at}
use Rattle.cell_grid.specs.Partners.{ArePartners}
use Rattle.cell_grid.specs.InsideLevelPartners.{DoesTell, IsAsked, least, index_with, IsTellable, IsToldBefore}
use Rattle.cell_grid.specs.InsideLevelPartners.{IsToldFrom}
use Rattle.cell_grid.specs.InsideLevelPartners.{IsPartnerOn, IsPartnerAt, IsPartnerOnFirst}
use Rattle.cell_grid.specs.declared.level_partners.PartnerSearch.{PartnerSearch}
use Rattle.cell_grid.proofs.LevelPlaces.{HasLevelsOf, size_at, behind_at}
use Rattle.plane_base.proofs.Bounds.BoxLemmas.{meeting}
use Rattle.cell_grid.proofs.Indices.{place_there, index_within}

-- ---- the least common point

pub least_has : (p q : Rect) → IsOrdered p → IsOrdered q → ShareAPoint p q
    → HasPoint p (least p q) × HasPoint q (least p q)
least_has p q op oq s =
    let m = meeting p q s in (
      record {
        left = omega (arith, ints, int_max_is p.x0 q.x0);
        right = omega (arith, ints, int_max_is p.x0 q.x0, op.0, m.right);
        bottom = omega (arith, ints, int_max_is p.y0 q.y0);
        top = omega (arith, ints, int_max_is p.y0 q.y0, op.1, m.top);
      },
      record {
        left = omega (arith, ints, int_max_is p.x0 q.x0);
        right = omega (arith, ints, int_max_is p.x0 q.x0, oq.0, m.left);
        bottom = omega (arith, ints, int_max_is p.y0 q.y0);
        top = omega (arith, ints, int_max_is p.y0 q.y0, oq.1, m.bottom);
      },
    )

-- ---- lists of numbers, none twice
pub distinct_push : (xs : List ℕ) (x : ℕ) → IsDistinct nat_eq xs → (Contains xs x → ⊥)
    → IsDistinct nat_eq (xs ++ x ∷ [])
distinct_push xs x d none =
    IsDistinct-push nat_eq_equiv xs x d (list_any_none (nat_eq x) xs (λ k e h.
    false_from_ne_true (nat_eq x (get_or xs k e))
    (λ t. none (k, h, get_or_default xs k x e h ∙ sym (eqb-true x (get_or xs k e) t)))))

-- ---- what is reported, one after another
tell_more : (L M N : ℕ → Type 0) (xs ys zs : List ℕ) → DoesTell L xs ys → DoesTell M ys zs
    → ((n : ℕ) → N n → L n ⊎ M n) → ((n : ℕ) → L n → N n) → ((n : ℕ) → M n → N n) → ((n : ℕ) → L n → M n → ⊥)
    → DoesTell N xs zs
tell_more L M N xs ys zs first second split from_first from_second apart =
    record {
      kept = λ n h. second.kept n (first.kept n h);
      told = λ n h. ⊎_elim (λ l. second.kept n (first.told n l)) (λ m. second.told n m) (split n h);
      only = λ n h. ⊎_elim (λ mid. ⊎_elim (λ before. inl before) (λ l. inr (from_first n l)) (first.only n mid))
          (λ m. inr (from_second n m)) (second.only n h);
      once = λ d other. second.once (first.once d (λ n l c. other n (from_first n l) c))
          (λ n m c. ⊎_elim (λ before. other n (from_second n m) before) (λ l. apart n l m) (first.only n c));
    }

tell_as : (L N : ℕ → Type 0) (xs ys : List ℕ) → DoesTell L xs ys → ((n : ℕ) → L n → N n) → ((n : ℕ) → N n → L n)
    → DoesTell N xs ys
tell_as L N xs ys tells to from =
    record {
      kept = tells.kept;
      told = λ n h. tells.told n (from n h);
      only = λ n h. ⊎_elim (λ before. inl before) (λ l. inr (to n l)) (tells.only n h);
      once = λ d other. tells.once d (λ n l c. other n (to n l) c);
    }

pub tell_none : (L : ℕ → Type 0) (xs : List ℕ) → ((n : ℕ) → L n → ⊥) → DoesTell L xs xs
tell_none L xs none = record {
  kept = λ n h. h;
  told = λ n h. absurd (none n h);
  only = λ n h. inl h;
  once =
      λ d other. d;
}

pub tell_one : (L : ℕ → Type 0) (xs : List ℕ) (k : ℕ) → L k → ((n : ℕ) → L n → n ≡ k) → DoesTell L xs (xs ++ k ∷ [])
tell_one L xs k meant one =
    record {
      kept = λ n h. Contains-append_left xs (k ∷ []) n h;
      told = λ n h. subst (λ (m : ℕ). Contains (xs ++ k ∷ []) m) (sym (one n h)) (Contains-push xs k);
      only = λ n h. ⊎_elim (λ before. inl before) (λ same. inr (subst L same meant)) (Contains-push_cases xs k n h);
      once = λ d other. distinct_push xs k d (λ c. other k meant c);
    }

-- ---- in a cell
less : (xs : List ℕ) (i j : ℕ) → IsStrictlyIncreasing xs → i < j → j < length xs → get_or xs i 0 < get_or xs j 0
less xs i j up h within = AllPairs-from_increasing xs up i j 0 h within

-- one that is left is the first of them, or comes after it
left_cases : (asked : PartnerSearch) (boxes : List Rect) (index : ℕ) (numbers : List ℕ) (i n : ℕ)
    → IsToldFrom asked boxes index numbers i n
    → IsToldFrom asked boxes index numbers (i + 1) n ⊎ ((n ≡ get_or numbers i 0) × IsTellable asked boxes index n)
left_cases asked boxes index numbers i n h = go (cases_lt i h.0.0)
  where
    go : (i < h.0.0) ⊎ (h.0.0 ≤ i) → IsToldFrom asked boxes index numbers (i + 1) n
        ⊎ ((n ≡ get_or numbers i 0) × IsTellable asked boxes index n)
    go (inl later) = inl ((h.0.0, omega (arith, later), h.0.2, h.0.3), h.1)
    go (inr first) = let e : h.0.0 ≡ i = omega (arith, first, h.0.1) in inr
        (sym h.0.3 ∙ ap (λ (k : ℕ). get_or numbers k 0) e, h.1)

pub from_more : (asked : PartnerSearch) (boxes : List Rect) (index : ℕ) (numbers : List ℕ) (i : ℕ) (xs ys zs : List ℕ)
    → i < length numbers → IsStrictlyIncreasing numbers
    → DoesTell (IsToldFrom asked boxes index numbers (i + 1)) xs ys
    → DoesTell (λ n. (n ≡ get_or numbers i 0) × IsTellable asked boxes index n) ys zs
    → DoesTell (IsToldFrom asked boxes index numbers i) xs zs
from_more asked boxes index numbers i xs ys zs within up before here =
    tell_more (IsToldFrom asked boxes index numbers (i + 1))
    (λ n. (n ≡ get_or numbers i 0) × IsTellable asked boxes index n) (IsToldFrom asked boxes index numbers i) xs ys
    zs before here
    (left_cases asked boxes index numbers i)
    (λ n h. ((h.0.0, omega (arith, h.0.1), h.0.2, h.0.3), h.1))
    (λ n h. ((i, omega arith, within, sym h.0), h.1))
    (λ n h m. omega (arith, less numbers i h.0.0 up (omega (arith, h.0.1)) h.0.2, h.0.3, m.0))

-- no number that is left is asked for
none_early : (numbers : List ℕ) (i k n from : ℕ) → IsStrictlyIncreasing numbers → i < length numbers
    → get_or numbers i 0 < from → k ≤ i → get_or numbers k 0 ≡ n → from ≤ n → ⊥
none_early numbers i k n from up within early h e f = go (cases_lt k i)
  where
    go : (k < i) ⊎ (i ≤ k) → ⊥
    go (inl below) = omega (arith, less numbers k i up below within, e, f, early)
    go (inr above) = let at : k ≡ i = omega (arith, above, h) in omega
        (arith, ap (λ (j : ℕ). get_or numbers j 0) at, e, f, early)

pub from_first : (asked : PartnerSearch) (boxes : List Rect) (index : ℕ) (numbers : List ℕ) (i : ℕ) (xs ys : List ℕ)
    → i < length numbers → IsStrictlyIncreasing numbers → get_or numbers i 0 < asked.from
    → DoesTell (IsToldFrom asked boxes index numbers (i + 1)) xs ys
    → DoesTell (IsToldFrom asked boxes index numbers 0) xs ys
from_first asked boxes index numbers i xs ys within up early tells =
    tell_as (IsToldFrom asked boxes index numbers (i + 1)) (IsToldFrom asked boxes index numbers 0) xs ys tells
    (λ n h. ((h.0.0, omega arith, h.0.2, h.0.3), h.1))
    from
  where
    from : (n : ℕ) → IsToldFrom asked boxes index numbers 0 n → IsToldFrom asked boxes index numbers (i + 1) n
    from n h = go (cases_lt i h.0.0)
      where
        go : (i < h.0.0) ⊎ (h.0.0 ≤ i) → IsToldFrom asked boxes index numbers (i + 1) n
        go (inl later) = ((h.0.0, omega (arith, later), h.0.2, h.0.3), h.1)
        go (inr first) = absurd (none_early numbers i h.0.0 n asked.from up within early first h.0.3 h.1.from)

-- all are left, or none
pub from_none : (asked : PartnerSearch) (boxes : List Rect) (index : ℕ) (numbers xs : List ℕ)
    → DoesTell (IsToldFrom asked boxes index numbers (length numbers)) xs xs
from_none asked boxes index numbers xs = tell_none (IsToldFrom asked boxes index numbers (length numbers)) xs
    (λ n h. omega (arith, h.0.1, h.0.2))

-- ---- in the cells of a block
pub index_more : (asked : PartnerSearch) (boxes : List Rect) (cells : List (List ℕ)) (index : ℕ) (numbers : List ℕ)
    (xs ys zs : List ℕ) → IsAsked asked → AreOrdered boxes → IsLevelOf boxes cells asked.level
    → IsPlaceOf asked.level (place_at asked.level asked.block index)
    → numbers ≡ numbers_at cells (place_at asked.level asked.block index)
    → DoesTell (IsToldBefore asked boxes index) xs ys → DoesTell (IsToldFrom asked boxes index numbers 0) ys zs
    → DoesTell (IsToldBefore asked boxes (index + 1)) xs zs
index_more asked boxes cells index numbers xs ys zs is ordered of_level place at before here =
    tell_more (IsToldBefore asked boxes index) (IsToldFrom asked boxes index numbers 0)
    (IsToldBefore asked boxes (index + 1)) xs ys zs before here
    (λ n h. ⊎_elim
    (λ earlier. inl (record { on_level = h.on_level; from = h.from; shared = h.shared; before = earlier }))
    (λ late.
    let e : index_with asked (box_at boxes n) ≡ index = omega (arith, h.before) in
    let common = least_has (box_at boxes n) asked.rect (ordered n no_box h.on_level.0) is.past.ordered h.shared in
    let p = least (box_at boxes n) asked.rect in
    let there : place_at asked.level asked.block index ≡ cell_of asked.level p =
    sym (ap (place_at asked.level asked.block) e)
    ∙ place_there asked.level asked.rect asked.block p is.past is.block common.1 in
    let stands : Contains numbers n = subst (λ (l : List ℕ). Contains l n) (ap (numbers_at cells) (sym there) ∙ sym at)
    (of_level.held n p h.on_level common.0) in
    inr (
      (stands.0, omega arith, stands.1, sym (get_or_default numbers stands.0 n 0 stands.1) ∙ stands.2),
      record { from = h.from; told = record { shared = h.shared; here = e } },
    ))
    (cases_lt (index_with asked (box_at boxes n)) index))
    (λ n h. record { on_level = h.on_level; from = h.from; shared = h.shared; before = omega (arith, h.before) })
    (λ n h.
    let stands : Contains numbers n = (h.0.0, h.0.2, get_or_default numbers h.0.0 n 0 h.0.2 ∙ h.0.3) in
    record {
      on_level = of_level.of_level (place_at asked.level asked.block index) n place
          (subst (λ (l : List ℕ). Contains l n) at stands);
      from = h.1.from;
      shared = h.1.told.shared;
      before = omega (arith, h.1.told.here);
    })
    (λ n h m. omega (arith, h.before, m.1.told.here))

-- all cells
pub block_told : (asked : PartnerSearch) (boxes : List Rect) (number count : ℕ) (xs ys : List ℕ) → IsAsked asked
    → AreOrdered boxes → asked.rect ≡ box_at boxes number → asked.block.columns * asked.block.rows ≤ count
    → level_of (box_at boxes number) ≤ asked.level.number
    → (level_of (box_at boxes number) ≡ asked.level.number → asked.from ≡ number + 1)
    → (level_of (box_at boxes number) ≢ asked.level.number → asked.from ≡ 0)
    → DoesTell (IsToldBefore asked boxes count) xs ys → DoesTell (IsPartnerOn boxes number asked.level.number) xs ys
block_told asked boxes number count xs ys is ordered its all above own other tells =
    tell_as (IsToldBefore asked boxes count) (IsPartnerOn boxes number asked.level.number) xs ys tells
    (λ n h.
    let shared = subst (λ (r : Rect). ShareAPoint (box_at boxes n) r) its h.shared in (
      (
        (h.on_level.0, shared),
        ⊎_elim
            (λ same. inr (h.on_level.1 ∙ sym same, omega (arith, own same, h.from)))
            (λ differ. inl (omega (arith, h.on_level.1, differ)))
            (cases_eq (level_of (box_at boxes number)) asked.level.number),
      ),
      h.on_level.1,
    ))
    (λ n h.
    let shared = subst (λ (r : Rect). ShareAPoint (box_at boxes n) r) (sym its) h.0.0.1 in
    let common = least_has (box_at boxes n) asked.rect (ordered n no_box h.0.0.0) is.past.ordered shared in
    record {
      on_level = (h.0.0.0, h.1);
      from = ⊎_elim
          (λ same. ⊎_elim (λ less. absurd (omega (arith, less, same, h.1)))
          (λ behind. omega (arith, own same, behind.1)) h.0.1)
          (λ differ. omega (arith, other differ))
          (cases_eq (level_of (box_at boxes number)) asked.level.number);
      shared = shared;
      before = omega (
        arith,
        index_within asked.level asked.rect asked.block (least (box_at boxes n) asked.rect) is.past
            is.block common.1,
      );
    })

-- a level of smaller boxes has no partner
pub none_on_lower : (boxes : List Rect) (number level : ℕ) (xs : List ℕ) → level < level_of (box_at boxes number)
    → DoesTell (IsPartnerOn boxes number level) xs xs
none_on_lower boxes number level xs low = tell_none (IsPartnerOn boxes number level) xs
    (λ n h. ⊎_elim (λ above. omega (arith, above, h.1, low)) (λ same. omega (arith, same.0, h.1, low)) h.0.1)

-- ---- on the levels of a grid
pub told_at : (used : List ℕ) (grid : Boxes) (number place : ℕ) (xs ys : List ℕ) → HasLevelsOf used grid
    → number < length grid.boxes → place < length used
    → DoesTell (IsPartnerOn grid.boxes number (get_or used place 0)) xs ys
    → DoesTell (IsPartnerAt grid number place) xs ys
told_at used grid number place xs ys has own within tells =
    tell_as (IsPartnerOn grid.boxes number (get_or used place 0)) (IsPartnerAt grid number place) xs ys tells
    (λ n h. (
      (h.0.0, (behind_at used grid number n has own h.0.0.0).0 h.0.1),
      (size_at used grid n place has h.0.0.0 within).0 h.1,
    ))
    (λ n h. (
      (h.0.0, (behind_at used grid number n has own h.0.0.0).1 h.0.1),
      (size_at used grid n place has h.0.0.0 within).1 h.1,
    ))

pub levels_told : (grid : Boxes) (number i : ℕ) (xs ys zs : List ℕ) → DoesTell (IsPartnerOnFirst grid number i) xs ys
    → DoesTell (IsPartnerAt grid number i) ys zs → DoesTell (IsPartnerOnFirst grid number (i + 1)) xs zs
levels_told grid number i xs ys zs before here =
    tell_more (IsPartnerOnFirst grid number i) (IsPartnerAt grid number i) (IsPartnerOnFirst grid number (i + 1))
    xs ys zs before here
    (λ n h. ⊎_elim (λ earlier. inl (h.0, earlier)) (λ late. inr (h.0, omega (arith, h.1, late)))
    (cases_lt (level_at grid n) i))
    (λ n h. (h.0, omega (arith, h.1)))
    (λ n h. (h.0, omega (arith, h.1)))
    (λ n h m. omega (arith, h.1, m.1))

pub none_on_first : (grid : Boxes) (number : ℕ) (xs : List ℕ) → DoesTell (IsPartnerOnFirst grid number 0) xs xs
none_on_first grid number xs = tell_none (IsPartnerOnFirst grid number 0) xs (λ n h. omega (arith, h.1))

pub all_told : (grid : Boxes) (number count : ℕ) (found : List ℕ)
    → ((n : ℕ) → n < length grid.boxes → level_at grid n < count)
    → DoesTell (IsPartnerOnFirst grid number count) [] found → ArePartners grid number found
unfolding IsDistinct
all_told grid number count found all tells =
    record {
      once = tells.once tt (λ n h c. absurd (omega (arith, c.1)));
      exact = λ n. (
        λ h. ⊎_elim (λ none. absurd (omega (arith, none.1))) (λ partner. partner.0) (tells.only n h),
        λ partner. tells.told n (partner, all n partner.0.0),
      );
    }
