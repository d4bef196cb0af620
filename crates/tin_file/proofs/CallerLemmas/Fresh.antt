-- Corners that are all different, and what they keep of the rows.
use Rattle.std.proofs.Common.{◌≡◌, ℕ, suc, zero, ◌<◌, ◌≤◌, List, [], ◌∷◌, ◌++◌, length, get_or, true, false, refl}
use Rattle.std.proofs.Common.{sym, ap, ◌∙◌, arith}
use Rattle.std.specs.Prelude.{if◌then◌else◌}
use Rattle.std.specs.List.{list_any, AllByRecursion}
use Rattle.std.proofs.lemmas.Bool.{or_parts}
use Rattle.std.proofs.lemmas.List.Folds.{list_any-append}
use Rattle.tin_base.specs.declared.corners.Corner.{Corner}
use Rattle.tin_base.specs.Triangulation.{no_corner}
use Rattle.tin_file.specs.Corners.{is_same, kept_behind, corners_of, corner_number}
use Rattle.tin_file.proofs.FileRows.CornerKeys.{is_itself, first_place}

abbrev IsFresh : List Corner → List Corner → Type 0
IsFresh earlier [] = Unit {0}
IsFresh earlier (corner ∷ corners) = (list_any (is_same corner) earlier ≡ false)
    × IsFresh (earlier ++ corner ∷ []) corners

-- what is not among the more is not among the less
abbrev IsLess : List Corner → List Corner → Type 0
IsLess less more = (c : Corner) → list_any (is_same c) more ≡ false → list_any (is_same c) less ≡ false

front_less : (earlier more : List Corner) → IsLess earlier (earlier ++ more)
front_less earlier more c h = (or_parts (list_any (is_same c) earlier) (list_any (is_same c) more)
    (sym (list_any-append (is_same c) earlier more) ∙ h)).0

with_less : (less more : List Corner) (corner : Corner) → IsLess less more
    → IsLess (less ++ corner ∷ []) (more ++ corner ∷ [])
with_less less more corner sub c h = grind (arith, or_parts, list_any-append)

weaken : (less more corners : List Corner) → IsLess less more → IsFresh more corners → IsFresh less corners
weaken less more [] sub h = tt
weaken less more (corner ∷ corners) sub h =
    (sub corner h.0, weaken (less ++ corner ∷ []) (more ++ corner ∷ []) corners (with_less less more corner sub) h.1)

kept_fresh : (earlier rows : List Corner) → IsFresh earlier (kept_behind earlier rows)
kept_fresh earlier [] = tt
kept_fresh earlier (row ∷ rows) = grind (arith, weaken, front_less, kept_fresh (earlier ++ row ∷ []) rows)

fresh_at : (earlier corners : List Corner) (k : ℕ) → IsFresh earlier corners → k < length corners
    → list_any (is_same (get_or corners k no_corner)) earlier ≡ false
fresh_at earlier [] k h within = absurd (omega (arith, within))
fresh_at earlier (corner ∷ corners) zero h within = h.0
fresh_at earlier (corner ∷ corners) (suc k) h within =
    grind (arith, front_less, get_or, fresh_at (earlier ++ corner ∷ []) corners k h.1 (omega (arith, within)))

-- each corner has its own number
number_at : (earlier corners : List Corner) (k : ℕ) → IsFresh earlier corners → k < length corners
    → corner_number corners (get_or corners k no_corner) ≡ k
number_at earlier [] k h within = absurd (omega (arith, within))
number_at earlier (corner ∷ corners) zero h within = first_place (is_same corner) corner corners
    ∙ rw (is_itself corner) refl
number_at earlier (corner ∷ corners) (suc k) h within =
    let later = get_or corners k no_corner in
    let other = or_parts (list_any (is_same later) earlier) (list_any (is_same later) (corner ∷ []))
    (sym (list_any-append (is_same later) earlier (corner ∷ []))
    ∙ fresh_at (earlier ++ corner ∷ []) corners k h.1 (omega (arith, within))) in
    grind (arith, first_place, or_parts, number_at (earlier ++ corner ∷ []) corners k h.1 (omega (arith, within)))

pub are_different : (rows : List Corner) (m n : ℕ) → m < length (corners_of rows) → n < length (corners_of rows)
    → get_or (corners_of rows) m no_corner ≡ get_or (corners_of rows) n no_corner → m ≡ n
are_different rows m n first second same =
    sym (number_at [] (corners_of rows) m (kept_fresh [] rows) first) ∙ ap (corner_number (corners_of rows)) same
    ∙ number_at [] (corners_of rows) n (kept_fresh [] rows) second

-- no more than the rows
pub kept_few : (earlier rows : List Corner) → length (kept_behind earlier rows) ≤ length rows
kept_few earlier [] = omega arith
kept_few earlier (row ∷ rows) = grind (arith, kept_few (earlier ++ row ∷ []) rows)

-- what all rows are
pub kept_are : (P : Corner → Type 0) (earlier rows : List Corner) → AllByRecursion P rows
    → AllByRecursion P (kept_behind earlier rows)
kept_are P earlier [] h = tt
kept_are P earlier (row ∷ rows) h = grind (arith, kept_are P (earlier ++ row ∷ []) rows h.1)

-- a corner that is there has a number of one
pub number_within : (corners : List Corner) (c : Corner) → list_any (is_same c) corners ≡ true
    → corner_number corners c < length corners
number_within [] c h = cc
number_within (d ∷ corners) c h = grind (arith, first_place, number_within corners c)
