-- The undecided pairs of a run, one after the other.
use Rattle.std.proofs.Common.{◌≡◌, ℕ, ◌+◌, ◌≤◌, Bool, true, false, cond, ◌&&◌, List, [], ◌∷◌, None, Some}
use Rattle.std.proofs.Common.{refl, ap, subst, arith, nat_eq, nat_le}
use Rattle.std.specs.List.{find, filter}
use Rattle.std.proofs.lemmas.Bool.{and_parts, and_from, and_left, and_right, eqb-true, eq-eqb, leb-true, le-leb, lt-leb, false_from_ne_true, both_ways}
use Rattle.ledger_core.specs.declared.pairs.PairRow.{PairRow}
use Rattle.ledger_core.specs.Kept.{is_open, is_undecided, next_open, open_pairs, Ascend}
use Rattle.ledger_core.specs.Replies.{clearance_of}
use Rattle.ledger_core.specs.declared.commands.Reply.TheVariants.{Waiting, Cleared}

-- what is found passes the test
pub found-passes : {X : Type 0} (test : X → Bool) (xs : List X) (x : X) → find test xs ≡ Some x → test x ≡ true
found-passes test [] x found = cc
found-passes {X} test (y ∷ ys) x found = by-test (test y) refl (found-passes test ys x) found
  where
    by-test : (here : Bool) → test y ≡ here → (find test ys ≡ Some x → test x ≡ true)
        → cond here (Some y) (find test ys) ≡ Some x → test x ≡ true
    by-test true is later found = let same : y ≡ x = cc in subst (λ (z : X). test z ≡ true) same is
    by-test false is later found = later found

-- where none is found, none passes
pub none-passes : {X : Type 0} (test : X → Bool) (xs : List X) → find test xs ≡ None → filter test xs ≡ []
none-passes test [] none = refl
none-passes test (y ∷ ys) none = by-test (test y) (none-passes test ys) none
  where
    by-test : (here : Bool) → (find test ys ≡ None → filter test ys ≡ [])
        → cond here (Some y) (find test ys) ≡ None → cond here (y ∷ filter test ys) (filter test ys) ≡ []
    by-test true later none = cc
    by-test false later none = later none

-- what is found is the first that passes
first-passes : {X : Type 0} (test : X → Bool) (xs : List X) (x : X) → find test xs ≡ Some x
    → (rest : List X) × (filter test xs ≡ x ∷ rest)
first-passes test [] x found = cc
first-passes {X} test (y ∷ ys) x found = by-test (test y) (first-passes test ys x) found
  where
    by-test : (here : Bool) → (find test ys ≡ Some x → (rest : List X) × (filter test ys ≡ x ∷ rest))
        → cond here (Some y) (find test ys) ≡ Some x
        → (rest : List X) × (cond here (y ∷ filter test ys) (filter test ys) ≡ x ∷ rest)
    by-test true later found = let same : y ≡ x = cc in (filter test ys, ap (λ z. z ∷ filter test ys) same)
    by-test false later found = later found

-- an open pair is of the run, at the place or after it, and undecided
pub record IsOpen (run from : ℕ) (row : PairRow) : Type 0 where
  pub of_run : row.run ≡ run
  pub place : from ≤ row.place
  pub undecided : is_undecided row.verdict ≡ true

pub open-parts : (run from : ℕ) (row : PairRow) → is_open run from row ≡ true → IsOpen run from row
open-parts run from row is =
    let both = and_parts (nat_eq row.run run && nat_le from row.place) (is_undecided row.verdict) is in
    let place = and_parts (nat_eq row.run run) (nat_le from row.place) both.0 in
    record { of_run = eqb-true _ _ place.0; place = leb-true _ _ place.1; undecided = both.1 }

pub place-from : (run from : ℕ) (row : PairRow) → is_open run from row ≡ true → from ≤ row.place
place-from run from row is = (open-parts run from row is).place

pub open-from : (run from : ℕ) (row : PairRow) → IsOpen run from row → is_open run from row ≡ true
open-from run from row is =
    and_from _ _ (and_from _ _ (eq-eqb _ _ is.of_run) (le-leb _ _ is.place)) is.undecided

-- a pair at two places or after them is open after both or neither
open-both : (run before other : ℕ) (row : PairRow) → before ≤ row.place → other ≤ row.place
    → is_open run before row ≡ is_open run other row
open-both run before other row here there =
    rw (le-leb before row.place here, le-leb other row.place there) refl

-- among pairs after two places, the open ones are the same
same-open : (run before other at : ℕ) (rows : List PairRow) → before ≤ at → other ≤ at → Ascend run at rows
    → filter (is_open run before) rows ≡ filter (is_open run other) rows
same-open run before other at [] here there ascend = refl
same-open run before other at (row ∷ rows) here there ascend =
    by-run (nat_eq row.run run) refl (same-open run before other (row.place + 1) rows)
    (same-open run before other at rows here there) ascend.1
  where
    by-run : (t : Bool) → nat_eq row.run run ≡ t
        → (before ≤ row.place + 1 → other ≤ row.place + 1 → Ascend run (row.place + 1) rows
        → filter (is_open run before) rows ≡ filter (is_open run other) rows)
        → (Ascend run at rows → filter (is_open run before) rows ≡ filter (is_open run other) rows)
        → Ascend run (cond t (row.place + 1) at) rows
        → filter (is_open run before) (row ∷ rows) ≡ filter (is_open run other) (row ∷ rows)
    by-run true is behind still later =
        let place : at ≤ row.place = ascend.0 (eqb-true _ _ is) in
        let head = open-both run before other row (omega (arith, here, place)) (omega (arith, there, place)) in
        let tail = behind (omega (arith, here, place)) (omega (arith, there, place)) later in
        rw (head, tail) refl
    by-run false is behind still later = rw is (still later)

-- the open pairs are the first one and those after it
pub open-step : (run from at : ℕ) (rows : List PairRow) (row : PairRow) → Ascend run at rows
    → next_open rows run from ≡ Some row
    → open_pairs rows run from ≡ row ∷ open_pairs rows run (row.place + 1)
open-step run from at [] row ascend found = cc
open-step run from at (x ∷ xs) row ascend found =
    by-test (is_open run from x) refl (open-step run from (cond (nat_eq x.run run) (x.place + 1) at) xs row ascend.1) found
  where
    by-test : (here : Bool) → is_open run from x ≡ here
        → (find (is_open run from) xs ≡ Some row
        → filter (is_open run from) xs ≡ row ∷ filter (is_open run (row.place + 1)) xs)
        → cond here (Some x) (find (is_open run from) xs) ≡ Some row
        → cond here (x ∷ filter (is_open run from) xs) (filter (is_open run from) xs)
        ≡ row ∷ filter (is_open run (row.place + 1)) (x ∷ xs)
    by-test true is behind found =
        let same : x ≡ row = cc in
        let here = open-parts run from x is in
        let later : Ascend run (x.place + 1) xs = rw (eq-eqb x.run run here.of_run) at ascend.1 in
        let past : is_open run (x.place + 1) x ≡ false = and_left _ _ (and_right _ _ (lt-leb (x.place + 1) x.place (omega arith))) in
        let rest = same-open run from (x.place + 1) (x.place + 1) xs (omega (arith, here.place)) (omega arith) later in
        subst (λ (y : PairRow). x ∷ filter (is_open run from) xs ≡ y ∷ filter (is_open run (y.place + 1)) (x ∷ xs))
        same (rw past (ap (λ z. x ∷ z) rest))
    by-test false is behind found =
        let here = open-parts run from row (found-passes (is_open run from) xs row found) in
        let closed : is_open run (row.place + 1) x ≡ false =
        false_from_ne_true _ (λ passes.
        let other = open-parts run (row.place + 1) x passes in
        both_ways _ is (open-from run from x
        (record { of_run = other.of_run; place = omega (arith, other.place, here.place); undecided = other.undecided })))
        in
        rw closed (behind found)

-- what is said of a run is said by its first undecided pair
pub clear-none : (run : ℕ) (rows : List PairRow) → next_open rows run 0 ≡ None
    → clearance_of (open_pairs rows run 0) ≡ Cleared
clear-none run rows none = rw (none-passes (is_open run 0) rows none) refl

pub clear-some : (run : ℕ) (rows : List PairRow) (row : PairRow) → next_open rows run 0 ≡ Some row
    → clearance_of (open_pairs rows run 0) ≡ Waiting row.place
clear-some run rows row found = rw (first-passes (is_open run 0) rows row found).1 refl
