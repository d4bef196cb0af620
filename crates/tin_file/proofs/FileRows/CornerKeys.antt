-- Corners by their numbers, and those of rows without any row that equals an earlier one.
use Rattle.std.proofs.Common.{◌≡◌, suc, ◌+◌, List, [], ◌∷◌, ◌++◌, map, Bool, true, false, refl, sym, ap, ◌∙◌, subst}
use Rattle.std.proofs.Common.{arith, append_assoc, append-nil}
use Rattle.std.proofs.lemmas.List.{map-append}
use Rattle.std.specs.Prelude.{◌&&◌, ◌||◌, if◌then◌else◌}
use Rattle.std.specs.List.{list_any, position_or_len, AllByRecursion}
use Rattle.std.proofs.lemmas.List.Folds.{list_any-append}
use Rattle.std.proofs.lemmas.Bool.{and_parts, or_right}
use Rattle.std.proofs.lemmas.Bool.Decides.{Decides-int_eq}
use Rattle.tin_base.specs.declared.corners.Corner.{Corner}
use Rattle.tin_file.specs.Corners.{is_same, kept_behind, corners_of, corner_number}
use Rattle.tin_file.specs.RowContents.{numbers_in}
use Rattle.tin_file.specs.contracts.vertices.NumbersPartialEq.TheImpl as equality

all_four : (a b c d : Bool) → a ≡ true → b ≡ true → c ≡ true → d ≡ true → (a && (b && (c && d))) ≡ true
all_four a b c d h i j k = rw (h, i, j, k) refl

-- corners that the test finds equal are the same
pub same_is : (c d : Corner) → is_same c d ≡ true → c ≡ d
same_is c d h = grind (arith, and_parts, Decides-int_eq)

pub is_itself : (c : Corner) → is_same c c ≡ true
is_itself c = grind (arith, all_four, Decides-int_eq)

-- the keys are compared as corners are
pub any_key : (c : Corner) (corners : List Corner)
    → list_any ((equality.eq-value).it (numbers_in c)) (map numbers_in corners) ≡ list_any (is_same c) corners
any_key c [] = refl
any_key c (d ∷ corners) = ap (λ t. is_same c d || t) (any_key c corners)

-- the first place that passes, item by item
pub first_place : {A : Type 0} (p : A → Bool) (x : A) (xs : List A)
    → position_or_len p (x ∷ xs) ≡ (if p x then 0 else suc (position_or_len p xs))
first_place p x xs = grind arith

pub place_key : (c : Corner) (corners : List Corner)
    → position_or_len ((equality.eq-value).it (numbers_in c)) (map numbers_in corners) ≡ corner_number corners c
place_key c [] = refl
place_key c (d ∷ corners) = grind (arith, first_place, place_key c corners)

-- a row more stays where it equals no earlier one
kept_push : (earlier rows : List Corner) (row : Corner)
    → kept_behind earlier (rows ++ row ∷ []) ≡ kept_behind earlier rows
    ++ (if list_any (is_same row) (earlier ++ rows) then [] else row ∷ [])
kept_push earlier [] row = grind (arith, append-nil)
kept_push earlier (first ∷ rows) row = grind (arith, append_assoc, kept_push (earlier ++ first ∷ []) rows row)

or_none : (a b : Bool) → ((a || (false || false)) || b) ≡ (a || b)
or_none a b = grind arith

-- a row that equals an earlier one changes no membership
absorbed : (c row : Corner) (earlier more : List Corner) → list_any (is_same row) earlier ≡ true
    → list_any (is_same c) ((earlier ++ row ∷ []) ++ more) ≡ list_any (is_same c) (earlier ++ more)
absorbed c row earlier more h = by_test (is_same c row) refl
  where
    any_earlier : is_same c row ≡ true → list_any (is_same c) earlier ≡ true
    any_earlier t = subst (λ (d : Corner). list_any (is_same d) earlier ≡ true) (sym (same_is c row t)) h

    by_test : (test : Bool) → is_same c row ≡ test
        → list_any (is_same c) ((earlier ++ row ∷ []) ++ more) ≡ list_any (is_same c) (earlier ++ more)
    by_test true t = rw (list_any-append, list_any-append, list_any-append, any_earlier t) refl
    by_test false t = rw (
      list_any-append (is_same c) (earlier ++ row ∷ []) more,
      list_any-append (is_same c) earlier
          (row ∷ []),
      list_any-append (is_same c) earlier more,
      t,
    )
        (or_none (list_any (is_same c) earlier) (list_any (is_same c) more))

-- the same corners are among the rows and among those that stay
kept_has : (c : Corner) (earlier rows : List Corner)
    → list_any (is_same c) (earlier ++ kept_behind earlier rows) ≡ list_any (is_same c) (earlier ++ rows)
kept_has c earlier [] = refl
kept_has c earlier (row ∷ rows) = grind (arith, absorbed, append_assoc, kept_has c (earlier ++ row ∷ []) rows)

pub corners_have : (c : Corner) (rows : List Corner)
    → list_any (is_same c) (corners_of rows) ≡ list_any (is_same c) rows
corners_have c rows = kept_has c [] rows

-- a corner that is there keeps its number
number_kept : (c : Corner) (corners more : List Corner) → list_any (is_same c) corners ≡ true
    → corner_number (corners ++ more) c ≡ corner_number corners c
number_kept c [] more h = cc
number_kept c (d ∷ corners) more h = grind (arith, first_place, number_kept c corners more)

-- a corner that is new gets the number after all others, as it had before
number_new : (c : Corner) (corners : List Corner) → corner_number (corners ++ c ∷ []) c ≡ corner_number corners c
number_new c [] = rw (first_place (is_same c) c [], is_itself c) refl
number_new c (d ∷ corners) = grind (arith, first_place, number_new c corners)

-- the corners with a row more
pub corners_push : (rows : List Corner) (row : Corner)
    → corners_of (rows ++ row ∷ []) ≡ corners_of rows ++ (if list_any (is_same row) rows then [] else row ∷ [])
corners_push rows row = kept_push [] rows row

abbrev AreAmong : List Corner → List Corner → Type 0
AreAmong corners rows = AllByRecursion (λ c. list_any (is_same c) corners ≡ true) rows

pub among_more : (front rows : List Corner) → AreAmong (front ++ rows) rows
among_more front [] = tt
among_more front (row ∷ rows) = (
  among front row rows,
  subst (λ all. AreAmong all rows) (append_assoc front (row ∷ []) rows)
      (among_more (front ++ row ∷ []) rows),
)
  where
    among : (front : List Corner) (row : Corner) (rows : List Corner)
        → list_any (is_same row) (front ++ row ∷ rows) ≡ true
    among [] row rows = rw (is_itself row) refl
    among (first ∷ front) row rows = or_right (is_same row first) (list_any (is_same row) (front ++ row ∷ rows))
        (among front row rows)

among_corners : (all rows : List Corner) → AreAmong all rows → AreAmong (corners_of all) rows
among_corners all [] h = tt
among_corners all (row ∷ rows) h = (corners_have row all ∙ h.0, among_corners all rows h.1)

numbers_kept : (corners more rows : List Corner) → AreAmong corners rows
    → map (corner_number (corners ++ more)) rows ≡ map (corner_number corners) rows
numbers_kept corners more [] h = refl
numbers_kept corners more (row ∷ rows) h = grind (arith, number_kept, numbers_kept corners more rows h.1)

-- the numbers of the rows with a row more
pub numbers_push : (rows : List Corner) (row : Corner)
    → map (corner_number (corners_of (rows ++ row ∷ []))) (rows ++ row ∷ [])
    ≡ map (corner_number (corners_of rows)) rows ++ corner_number (corners_of rows) row ∷ []
numbers_push rows row =
    map-append (corner_number (corners_of (rows ++ row ∷ []))) rows (row ∷ [])
    ∙ ap (λ ns. ns ++ corner_number (corners_of (rows ++ row ∷ [])) row ∷ [])
    (ap (λ cs. map (corner_number cs) rows) (corners_push rows row)
    ∙ numbers_kept (corners_of rows) (if list_any (is_same row) rows then [] else row ∷ []) rows
    (among_corners rows rows (among_more [] rows)))
    ∙ ap (λ n. map (corner_number (corners_of rows)) rows ++ n ∷ []) (last (list_any (is_same row) rows) refl)
  where
    last : (test : Bool) → list_any (is_same row) rows ≡ test
        → corner_number (corners_of (rows ++ row ∷ [])) row ≡ corner_number (corners_of rows) row
    last true t = rw (corners_push rows row, t, append-nil (corners_of rows)) refl
    last false t = rw (corners_push rows row, t) (number_new row (corners_of rows))
