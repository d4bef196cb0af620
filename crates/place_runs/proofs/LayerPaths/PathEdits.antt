-- Each path of a layer has an edit with which it begins: with more edits before or after, and where edits name paths.
use Rattle.std.proofs.Common.{◌≡◌, ◌⊎◌, ℕ, ◌+◌, List, [], ◌∷◌, ◌++◌, length, Some, inl, inr, arith}
use Rattle.sheet_base.specs.declared.edits.Edit.{Edit}
use Rattle.sheet_base.specs.declared.paths.PathRow.{PathRow}
use Rattle.sheet_base.specs.EditStarts.{path_of}
use Rattle.change_places.specs.PathPlaces.{IsBegunBy, AreBegun}

-- ---- edits that name their paths
-- some edit writes the whole list of this path
abbrev pub HasPath : ℕ → List Edit → Type 0
HasPath number [] = ⊥
HasPath number (edit ∷ edits) = (path_of edit.what ≡ Some number) ⊎ HasPath number edits

-- some edit does so for each of some paths, numbered from this number on
abbrev pub HasEach : {A : Type 0} → List Edit → ℕ → List A → Type 0
HasEach edits number [] = Unit {0}
HasEach edits number (path ∷ paths) = HasPath number edits × HasEach edits (number + 1) paths

pub path_before : (number : ℕ) (edits more : List Edit) → HasPath number edits → HasPath number (edits ++ more)
path_before number [] more has = absurd has
path_before number (edit ∷ edits) more (inl is) = inl is
path_before number (edit ∷ edits) more (inr has) = inr (path_before number edits more has)

pub path_behind : (number : ℕ) (before edits : List Edit) → HasPath number edits → HasPath number (before ++ edits)
path_behind number [] edits has = has
path_behind number (edit ∷ before) edits has = inr (path_behind number before edits has)

pub begun_by_path : (number first : ℕ) (edits : List Edit) → HasPath number edits → IsBegunBy number first edits
begun_by_path number first [] has = absurd has
begun_by_path number first (edit ∷ edits) (inl is) = inl is
begun_by_path number first (edit ∷ edits) (inr has) = inr (inr (begun_by_path number first edits has))

-- where edits keep those of all paths
pub each_kept : {A : Type 0} (edits more : List Edit) (number : ℕ) (paths : List A)
    → ((n : ℕ) → HasPath n edits → HasPath n more) → HasEach edits number paths → HasEach more number paths
each_kept edits more number [] keeps has = tt
each_kept edits more number (path ∷ paths) keeps (is, has) =
    (keeps number is, each_kept edits more (number + 1) paths keeps has)

-- with more paths after them
pub each_together : {A : Type 0} (edits : List Edit) (number : ℕ) (paths more : List A) → HasEach edits number paths
    → HasEach edits (number + length paths) more → HasEach edits number (paths ++ more)
each_together edits number [] more has next = grind (arith)
each_together edits number (path ∷ paths) more (is, has) next =
    grind (arith, (each_together edits (number + 1) paths more has))

-- ---- edits of any kind
begun_behind : (number first : ℕ) (before edits : List Edit) → IsBegunBy number first edits
    → IsBegunBy number first (before ++ edits)
begun_behind number first [] edits is = is
begun_behind number first (edit ∷ before) edits is = inr (inr (begun_behind number first before edits is))

pub all_behind : (before edits : List Edit) (number : ℕ) (rows : List PathRow) → AreBegun edits number rows
    → AreBegun (before ++ edits) number rows
all_behind before edits number [] are = tt
all_behind before edits number (row ∷ rows) (is, are) =
    (begun_behind number row.first before edits is, all_behind before edits (number + 1) rows are)
