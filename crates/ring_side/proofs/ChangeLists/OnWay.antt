-- Lists that are added to, up to a number of items.
use Rattle.std.proofs.Common.{◌≡◌, ℕ, ◌≤◌, List, [], ◌∷◌, ◌++◌, length, refl, ap, append_assoc, arith}
use Rattle.ring_side.specs.declared.kinds.SideChange.{SideChange}
use Rattle.ring_side.specs.InsideLists.{AreOnWay, DoesAdd}

nil_right : (xs : List SideChange) → xs ++ [] ≡ xs
nil_right [] = refl
nil_right (x ∷ xs) = ap (λ (ys : List SideChange). x ∷ ys) (nil_right xs)

-- nothing is added yet
pub begun : (most : ℕ) (changes remain : List SideChange) → AreOnWay most changes remain (changes ++ remain)
begun most changes remain = record { rest = remain; joined = refl; exact = λ (h : length changes ≤ most). refl }

-- more is added
pub added_more : (most : ℕ) (before after here later all : List SideChange) → length before ≤ most
    → AreOnWay most before (here ++ later) all → DoesAdd most before after here → AreOnWay most after later all
added_more most before after here later all few on adds = grind (arith, append_assoc)

-- all that was to be added is, unless there is too much
pub all_added : (most : ℕ) (changes remain all : List SideChange) → AreOnWay most changes remain all
    → (length changes ≤ most → remain ≡ []) → AreOnWay most changes [] all
all_added most changes remain all on none = grind arith

-- all is added, where it is added at once
pub added_at_once : (most : ℕ) (before after added : List SideChange) → after ≡ before ++ added
    → DoesAdd most before after added
added_at_once most before after added e = grind (arith, nil_right)

-- the remaining changes may be spelled otherwise
pub remain_as : (most : ℕ) (changes remain other all : List SideChange) → remain ≡ other → AreOnWay most changes remain all
    → AreOnWay most changes other all
remain_as most changes remain other all e on = grind arith

-- ---- the end
