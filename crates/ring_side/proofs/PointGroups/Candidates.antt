-- The groups near a ring, and that no other has changes.
use Rattle.std.proofs.Common.{◌≡◌, ℕ, zero, suc, ◌+◌, ◌-◌, ◌<◌, ◌≤◌, List, [], ◌++◌, length, drop, arith, refl, ap, sym, ◌∙◌, inl, inr}
use Rattle.std.specs.Prelude.{◌⊎◌, Contains, flat_map, slice_index}
use Rattle.std.specs.List.Sorted.{IsStrictlyIncreasing}
use Rattle.std.proofs.Math.Seq.{drop-length}
use Rattle.std.proofs.lemmas.List.{drop_more}
use Rattle.std.proofs.lemmas.List.Kept.{AllPairs-from_increasing}
use Rattle.ring_side.specs.declared.kinds.SideChange.{SideChange}
use Rattle.ring_side.specs.declared.groups.Group.{Group}
use Rattle.ring_side.specs.InsideGroups.{group_at, no_group}
use Rattle.ring_side.proofs.PointGroups.Spots.{same_default}

-- ---- ascending numbers, one after another
-- how many groups are done with before this place of the numbers
abbrev pub done_at : List ℕ → ℕ → ℕ
done_at numbers zero = 0
done_at numbers (suc place) = suc (slice_index numbers place)

rises : (numbers : List ℕ) (i j : ℕ) → IsStrictlyIncreasing numbers → i < j → j < length numbers
    → slice_index numbers i < slice_index numbers j
rises numbers i j is h within = AllPairs-from_increasing numbers is i j 0 h within

less_or : (i j : ℕ) → (i < j) ⊎ (j ≤ i)
less_or i j = grind arith

no_fall_by : (numbers : List ℕ) (i j : ℕ) → IsStrictlyIncreasing numbers → i ≤ j → j < length numbers → (i < j) ⊎ (j ≤ i)
    → slice_index numbers i ≤ slice_index numbers j
no_fall_by numbers i j is h within (inl less) = let r = rises numbers i j is less within in omega (arith, r)
no_fall_by numbers i j is h within (inr more) =
    let e : i ≡ j = omega arith in let f = ap (slice_index numbers) e in omega (arith, f)

no_fall : (numbers : List ℕ) (i j : ℕ) → IsStrictlyIncreasing numbers → i ≤ j → j < length numbers
    → slice_index numbers i ≤ slice_index numbers j
no_fall numbers i j is h within = no_fall_by numbers i j is h within (less_or i j)

pub number_is : (numbers : List ℕ) (k : ℕ) (has : Contains numbers k) → slice_index numbers has.0 ≡ k
number_is numbers k has = sym (same_default numbers has.0 k 0 has.1) ∙ has.2

among_by : (numbers : List ℕ) (q k j : ℕ) → IsStrictlyIncreasing numbers → suc q < length numbers → slice_index numbers q < k
    → k < slice_index numbers (suc q) → j < length numbers → slice_index numbers j ≡ k → (q < j) ⊎ (j ≤ q) → ⊥
among_by numbers q k j is within low high inside e (inl h) =
    let f = no_fall numbers (suc q) j is (omega arith) inside in omega (arith, f, e)
among_by numbers q k j is within low high inside e (inr h) =
    let f = no_fall numbers j q is h (omega arith) in omega (arith, f, e)

-- a number between what is done with and the next one is not among them
pub not_among : (numbers : List ℕ) (place k : ℕ) → IsStrictlyIncreasing numbers → place < length numbers
    → done_at numbers place ≤ k → k < slice_index numbers place → Contains numbers k → ⊥
not_among numbers zero k is within low high has =
    let f = no_fall numbers zero has.0 is (omega arith) has.1 in let e = number_is numbers k has in omega (arith, f, e)
not_among numbers (suc q) k is within low high has =
    among_by numbers q k has.0 is within (omega (arith, low)) high has.1 (number_is numbers k has) (less_or q has.0)

behind_at : (numbers : List ℕ) (n k : ℕ) → n ≡ length numbers → IsStrictlyIncreasing numbers → done_at numbers n ≤ k
    → Contains numbers k → ⊥
behind_at numbers zero k e is low has = let h = has.1 in omega (arith, e, h)
behind_at numbers (suc q) k e is low has =
    let h = has.1 in
    let f = no_fall numbers has.0 q is (omega (arith, e, h)) (omega (arith, e)) in
    let g = number_is numbers k has in
    omega (arith, f, g, low)

pub not_behind : (numbers : List ℕ) (k : ℕ) → IsStrictlyIncreasing numbers → done_at numbers (length numbers) ≤ k
    → Contains numbers k → ⊥
not_behind numbers k is low has = behind_at numbers (length numbers) k refl is low has

-- what is done with is before the next number
pub done_before : (numbers : List ℕ) (place : ℕ) → IsStrictlyIncreasing numbers → place < length numbers
    → done_at numbers place ≤ slice_index numbers place
done_before numbers zero is within = omega arith
done_before numbers (suc q) is within = rises numbers q (suc q) is (omega arith) within

-- ---- groups without changes
skipped : (f : Group → List SideChange) (groups : List Group) (from count : ℕ) → from + count ≤ length groups
    → ((k : ℕ) → from ≤ k → k < from + count → f (group_at groups k) ≡ [])
    → flat_map f (drop from groups) ≡ flat_map f (drop (from + count) groups)
skipped f groups from zero within none = let e : from + zero ≡ from = omega arith in ap (λ (n : ℕ). flat_map f (drop n groups)) (sym e)
skipped f groups from (suc count) within none =
    let e : from + suc count ≡ from + 1 + count = omega arith in
    ap (flat_map f) (drop_more groups from no_group (omega arith))
    ∙ ap (λ (cs : List SideChange). cs ++ flat_map f (drop (from + 1) groups)) (none from (omega arith) (omega arith))
    ∙ skipped f groups (from + 1) count (omega arith) (λ (k : ℕ) (h : from + 1 ≤ k) (i : k < from + 1 + count). none k (omega arith) (omega arith))
    ∙ sym (ap (λ (n : ℕ). flat_map f (drop n groups)) e)

-- the changes from a group on, where those up to another have none
pub next_group : (f : Group → List SideChange) (groups : List Group) (from n : ℕ) → from ≤ n → n < length groups
    → ((k : ℕ) → from ≤ k → k < n → f (group_at groups k) ≡ [])
    → flat_map f (drop from groups) ≡ f (group_at groups n) ++ flat_map f (drop (suc n) groups)
next_group f groups from n h within none =
    let e : from + (n - from) ≡ n = omega arith in
    let one : n + 1 ≡ suc n = omega arith in
    skipped f groups from (n - from) (omega arith) (λ (k : ℕ) (i : from ≤ k) (j : k < from + (n - from)). none k i (omega (arith, e, j)))
    ∙ ap (λ (m : ℕ). flat_map f (drop m groups)) e
    ∙ ap (flat_map f) (drop_more groups n no_group within)
    ∙ ap (λ (m : ℕ). f (group_at groups n) ++ flat_map f (drop m groups)) one

pub no_group_left : (f : Group → List SideChange) (groups : List Group) (from : ℕ) → from ≤ length groups
    → ((k : ℕ) → from ≤ k → k < length groups → f (group_at groups k) ≡ []) → flat_map f (drop from groups) ≡ []
no_group_left f groups from h none =
    let e : from + (length groups - from) ≡ length groups = omega arith in
    skipped f groups from (length groups - from) (omega arith)
    (λ (k : ℕ) (i : from ≤ k) (j : k < from + (length groups - from)). none k i (omega (arith, e, j)))
    ∙ ap (λ (m : ℕ). flat_map f (drop m groups)) e
    ∙ ap (flat_map f) (drop-length groups)
