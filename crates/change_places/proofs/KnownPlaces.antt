-- Where each path has an edit with which it begins, each place is known.
use Rattle.std.proofs.Common.{◌≡◌, ◌⊎◌, ℕ, ◌+◌, Bool, true, false, List, [], ◌∷◌, map, find, cond, Option, None}
use Rattle.std.proofs.Common.{Some, refl, inl, inr}
use Rattle.std.specs.Option.{option_map, option_or}
use Rattle.std.proofs.lemmas.Bool.{eq-eqb}
use Rattle.sheet_base.specs.declared.edits.Edit.{Edit}
use Rattle.sheet_base.specs.declared.edits.What.{What}
use Rattle.sheet_base.specs.declared.paths.PathRow.{PathRow}
use Rattle.sheet_base.specs.EditStarts.{path_of, point_of, is_number, first_start, start_in}
use Rattle.change_places.specs.PathPlaces.{edit_in_lines, places_from, IsBegunBy, AreBegun, IsKnown, AreKnown}
use Rattle.change_places.specs.PathPlaces.{PlacesAreKnown}

-- ---- first edits
start-here : (answer : Bool) (edit : Edit) (rest : Option Edit) → answer ≡ true
    → IsKnown (option_map (λ (e : Edit). e.start) (cond answer (Some edit) rest))
start-here true edit rest is = (edit.start, refl)
start-here false edit rest is = cc

start-later : (answer : Bool) (edit : Edit) (rest : Option Edit) → IsKnown (option_map (λ (e : Edit). e.start) rest)
    → IsKnown (option_map (λ (e : Edit). e.start) (cond answer (Some edit) rest))
start-later true edit rest has = (edit.start, refl)
start-later false edit rest has = has

is-number : (number : ℕ) (named : Option ℕ) → named ≡ Some number → is_number number named ≡ true
is-number number None is = cc
is-number number (Some other) is = eq-eqb other number cc

first-here : (of : What → Option ℕ) (number : ℕ) (edit : Edit) (edits : List Edit) → of edit.what ≡ Some number
    → IsKnown (first_start of number (edit ∷ edits))
first-here of number edit edits is =
    start-here (is_number number (of edit.what)) edit (find (λ (e : Edit). is_number number (of e.what)) edits)
    (is-number number (of edit.what) is)

first-later : (of : What → Option ℕ) (number : ℕ) (edit : Edit) (edits : List Edit)
    → IsKnown (first_start of number edits) → IsKnown (first_start of number (edit ∷ edits))
first-later of number edit edits has =
    start-later (is_number number (of edit.what)) edit (find (λ (e : Edit). is_number number (of e.what)) edits) has

-- ---- the start of a path
either-there : (one other : Option ℕ) → IsKnown one ⊎ IsKnown other → IsKnown (option_or one other)
either-there (Some at) other has = (at, refl)
either-there None other (inl (at, is)) = cc
either-there None other (inr has) = has

later-there : (number first : ℕ) (edit : Edit) (edits : List Edit)
    → IsKnown (first_start path_of number edits) ⊎ IsKnown (first_start point_of first edits)
    → IsKnown (first_start path_of number (edit ∷ edits)) ⊎ IsKnown (first_start point_of first (edit ∷ edits))
later-there number first edit edits (inl has) = inl (first-later path_of number edit edits has)
later-there number first edit edits (inr has) = inr (first-later point_of first edit edits has)

one-there : (number first : ℕ) (edits : List Edit) → IsBegunBy number first edits
    → IsKnown (first_start path_of number edits) ⊎ IsKnown (first_start point_of first edits)
one-there number first [] is = absurd is
one-there number first (edit ∷ edits) (inl is) = inl (first-here path_of number edit edits is)
one-there number first (edit ∷ edits) (inr (inl is)) = inr (first-here point_of first edit edits is)
one-there number first (edit ∷ edits) (inr (inr is)) =
    later-there number first edit edits (one-there number first edits is)

start-there : (edits : List Edit) (number first : ℕ) → IsBegunBy number first edits
    → IsKnown (start_in edits number first)
start-there edits number first is =
    either-there (first_start path_of number edits) (first_start point_of first edits)
    (one-there number first edits is)

-- ---- all paths
known-from : (edits : List Edit) (number : ℕ) (rows : List PathRow) → AreBegun edits number rows
    → AreKnown (places_from edits number rows)
known-from edits number [] are = tt
known-from edits number (row ∷ rows) (is, are) =
    (start-there edits number row.first is, known-from edits (number + 1) rows are)

-- ---- a drawing's edits begin at lines
in-lines : (bytes : List ℕ) (number first : ℕ) (edits : List Edit) → IsBegunBy number first edits
    → IsBegunBy number first (map (edit_in_lines bytes) edits)
in-lines bytes number first [] is = is
in-lines bytes number first (edit ∷ edits) (inl is) = inl is
in-lines bytes number first (edit ∷ edits) (inr (inl is)) = inr (inl is)
in-lines bytes number first (edit ∷ edits) (inr (inr is)) = inr (inr (in-lines bytes number first edits is))

all-in-lines : (bytes : List ℕ) (edits : List Edit) (number : ℕ) (rows : List PathRow) → AreBegun edits number rows
    → AreBegun (map (edit_in_lines bytes) edits) number rows
all-in-lines bytes edits number [] are = tt
all-in-lines bytes edits number (row ∷ rows) (is, are) =
    (in-lines bytes number row.first edits is, all-in-lines bytes edits (number + 1) rows are)

pub places_known : PlacesAreKnown
places_known true bytes sheet are =
    known-from (map (edit_in_lines bytes) sheet.edits) 0 sheet.paths (all-in-lines bytes sheet.edits 0 sheet.paths are)
places_known false bytes sheet are = known-from sheet.edits 0 sheet.paths are
