-- Numbers behind keys, and that sorting the entries keeps the numbers.
use Rattle.std.proofs.Common.{◌≡◌, ℕ, ◌+◌, ◌<◌, List, [], ◌∷◌, ◌++◌, length, map, take, arith, ap, sym, ◌∙◌, subst, inl, inr}
use Rattle.std.specs.Prelude.{◌⊎◌, ◌%◌, ◌^◌, Contains}
use Rattle.std.proofs.lemmas.List.Elements.{All-push, Contains-append_left, Contains-push}
use Rattle.std.proofs.lemmas.List.{map-append}
use Rattle.std.proofs.Math.Seq.{take-length}
use Rattle.std.specs.List.Sorted.{IsPermutation}
use Rattle.std.proofs.lemmas.List.Sorted.{Contains-permutation, IsPermutation-map}
use Rattle.std.proofs.lemmas.Map.Views.{All-map-IsPermutation}
use Rattle.plain_laws.proofs.Order.{at_or_before}
use Rattle.plane_base.specs.declared.shapes.Rect.{Rect}
use Rattle.ring_side.specs.declared.groups.Group.{Group}
use Rattle.ring_side.specs.InsideClusters.{AreNumbersOf}
use Rattle.ring_side.specs.InsideOrders.{IsOrder}

-- the number of an entry
abbrev number_of : ℕ → ℕ
number_of entry = entry % 2 ^ 32

one_more : (count : ℕ) (xs : List ℕ) → IsOrder count xs → IsOrder (count + 1) (xs ++ count ∷ [])
one_more count xs is = record {
  each = All-push (λ (n : ℕ). n < count + 1) xs count (λ (k d : ℕ) (h : k < length xs). let i = is.each k d h in omega arith) (omega arith);
  all = λ (n : ℕ) (h : n < count + 1). among n (at_or_before n count h);
}
  where
    among : (n : ℕ) → (n < count) ⊎ (n ≡ count) → Contains (xs ++ count ∷ []) n
    among n (inl h) = Contains-append_left xs (count ∷ []) n (is.all n h)
    among n (inr e) = subst (λ (m : ℕ). Contains (xs ++ count ∷ []) m) (sym e) (Contains-push xs count)

-- one more entry
pub entry_pushed : (entries more : List ℕ) (entry count : ℕ) → more ≡ entries ++ entry ∷ [] → number_of entry ≡ count
    → IsOrder count (map number_of entries) → IsOrder (count + 1) (map number_of more)
entry_pushed entries more entry count e f is =
    subst (IsOrder (count + 1))
    (sym (ap (map number_of) e ∙ map-append number_of entries (entry ∷ []) ∙ ap (λ (n : ℕ). map number_of entries ++ n ∷ []) f))
    (one_more count (map number_of entries) is)

-- the entries in another order
pub order_moved : (count : ℕ) (entries sorted : List ℕ) → IsPermutation entries sorted → IsOrder count (map number_of entries)
    → IsOrder count (map number_of sorted)
order_moved count entries sorted moved is = record {
  each = All-map-IsPermutation number_of (λ (n : ℕ). n < count) entries sorted moved is.each;
  all = λ (n : ℕ) (h : n < count).
      Contains-permutation (map number_of entries) (map number_of sorted) n (IsPermutation-map number_of entries sorted moved) (is.all n h);
}

-- the numbers of an order of groups are those of their boxes
pub numbers_of : (order : List ℕ) (groups : List Group) (boxes : List Rect) → IsOrder (length groups) order
    → length boxes ≡ length groups → AreNumbersOf order boxes
numbers_of order groups boxes is same = λ (k d : ℕ) (h : k < length order). let i = is.each k d h in omega arith

-- all numbers of the entries
pub order_as : (count : ℕ) (order items entries : List ℕ) (i : ℕ) → order ≡ map number_of (take i items) → items ≡ entries
    → i ≡ length items → IsOrder count (map number_of entries) → IsOrder count order
order_as count order items entries i e f g is = grind (arith, take-length)
