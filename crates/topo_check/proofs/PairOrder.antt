-- Collected pairs in their order, and the changes of all pairs.
use Rattle.std.proofs.Common.{◌≡◌, ◌⊎◌, inl, inr, ⊎_elim, ℕ, ◌<◌, ◌≤◌, List, [], length, map}
use Rattle.std.proofs.Common.{get_or, All, Contains, None, Some, Bool, false, ◌&&◌, nat_eq}
use Rattle.std.proofs.Common.{refl, sym, ap₂, subst, arith}
use Rattle.std.specs.List.Sorted.{IsPermutation, IsSortedBy}
use Rattle.std.specs.Cmp.{IsTotalOrder}
use Rattle.std.specs.Ordering.{nat_cmp, ordering_then, is_lt}
use Rattle.tin_base.specs.declared.relations.Rel.TheVariants.{Apart}
use Rattle.std.proofs.lemmas.Bool.{cases_lt, cases_eq}
use Rattle.std.proofs.lemmas.Cmp.{nat_cmp_total, nat_eq_equiv, then_total, on_total}
use Rattle.std.proofs.lemmas.List.{get_or-map, get_or_default, length-map}
use Rattle.std.proofs.lemmas.List.Sorted.{IsPermutation-sym, Contains-permutation, length_permutation, ranks_by}
use Rattle.std.proofs.lemmas.List.Sorted.{sorted_far}
use Rattle.std.proofs.lemmas.Map.Keys.{IsDistinct-IsPermutation, IsDistinct-from_apart, apart_from_distinct}
use Rattle.std.proofs.lemmas.Map.Keys.{ge_from_not_lt}
use Rattle.tin_base.specs.declared.pieces.Piece.{Piece}
use Rattle.tin_base.specs.declared.pieces.Change.{Change}
use Rattle.tin_base.specs.Triangulation.{Triangulation}
use Rattle.topo_check.specs.declared.comparisons.ChangedPair.{ChangedPair}
use Rattle.topo_check.specs.Changes.{Numbers, DoPrecede, HaveChanged, HasMoreThan, AreChanges, AreChangesOf, Pair}
use Rattle.topo_check.specs.InsidePairs.{numbers_of, change_of, IsChanged, IsUnchanged, is_same_pair, AreDifferentPairs}
use Rattle.topo_check.specs.InsidePairs.{AreAscending, AreInRange, AreCollected}
use Rattle.topo_check.proofs.InOrder.{AreSteps, in_order}

-- ---- after a sort
same_back : (c d : ChangedPair) → is_same_pair c d ≡ is_same_pair d c
same_back c d = ap₂ (λ (x y : Bool). x && y) (nat_eq_equiv.symm c.first d.first) (nat_eq_equiv.symm c.second d.second)

pub different_moved : (xs ys : List ChangedPair) → IsPermutation xs ys → AreDifferentPairs xs → AreDifferentPairs ys
different_moved xs ys moved h i j d less within =
    apart_from_distinct is_same_pair ys i j d
    (IsDistinct-IsPermutation is_same_pair same_back xs ys moved (IsDistinct-from_apart is_same_pair xs h)) less within

abbrev pub ordered_by : ChangedPair → ChangedPair → Bool
ordered_by c d = is_lt (ordering_then (nat_cmp c.first d.first) (nat_cmp c.second d.second))

key_order : IsTotalOrder (λ (c d : ChangedPair). ordering_then (nat_cmp c.first d.first) (nat_cmp c.second d.second))
key_order = then_total (on_total (λ (c : ChangedPair). c.first) nat_cmp_total)
    (on_total (λ (c : ChangedPair). c.second) nat_cmp_total)

precedes : (a b c d : ℕ) → is_lt (ordering_then (nat_cmp c a) (nat_cmp d b)) ≡ false
    → (nat_eq a c && nat_eq b d) ≡ false → (a < c) ⊎ ((a ≡ c) × (b < d))
precedes a b c d h k = grind (arith, ⊎_elim, cases_lt, ge_from_not_lt, nat_eq, cases_eq)

pub ascending : (ys : List ChangedPair) → IsSortedBy ordered_by ys → AreDifferentPairs ys → AreAscending ys
ascending ys up different i j d less within =
    let c = get_or ys i d in let e = get_or ys j d in
    precedes c.first c.second e.first e.second
    (sorted_far ordered_by (ranks_by key_order (λ (x : ChangedPair). x)) ys up i j d (omega (arith, less)) within)
    (different i j d less within)

-- ---- what was collected, in another order
pub collected_moved : (tin : Triangulation) (pieces : List Piece) (most : ℕ) (xs ys : List ChangedPair)
    → IsPermutation xs ys → AreCollected tin pieces most xs → AreCollected tin pieces most ys
collected_moved tin pieces most xs ys moved h = record {
  each = λ c k. h.each c (Contains-permutation ys xs c (IsPermutation-sym xs ys moved) k);
  different = different_moved xs ys moved h.different;
  all = λ few i j less within.
      ⊎_elim (λ has. inl (has.0, Contains-permutation xs ys has.0 moved has.1, has.2, has.3)) (λ same. inr same)
      (h.all (omega (arith, few, length_permutation xs ys moved)) i j less within);
}

at_index : (tin : Triangulation) (pieces : List Piece) (ys : List ChangedPair)
    → ((c : ChangedPair) → Contains ys c → IsChanged tin pieces c) → All (IsChanged tin pieces) ys
at_index tin pieces ys each k d h = each (get_or ys k d) (k, h, get_or_default ys k (get_or ys k d) d h)

pub in_range : (tin : Triangulation) (pieces : List Piece) (most : ℕ) (ys : List ChangedPair)
    → AreCollected tin pieces most ys → AreInRange (length pieces) ys
in_range tin pieces most ys h k d within = let is =
    at_index tin pieces ys h.each k d within in (omega (arith, is.earlier, is.in_range), is.in_range)

-- ---- too many
no_pair : ChangedPair
no_pair = record { first = 0; second = 0; was = Apart; now = Apart }

have_changed : (tin : Triangulation) (pieces : List Piece) (c : ChangedPair) → IsChanged tin pieces c
    → HaveChanged tin pieces (numbers_of c)
have_changed tin pieces c is = record {
  earlier = is.earlier;
  in_range = is.in_range;
  change =
      change_of pieces c;
  is_change = (refl, refl, is.had, is.has, is.differ);
}

pub too_many : (tin : Triangulation) (pieces : List Piece) (most : ℕ) (ys : List ChangedPair)
    → AreCollected tin pieces most ys → AreAscending ys → most < length ys → HasMoreThan tin pieces most
too_many tin pieces most ys h up more = record {
  changed = map numbers_of ys;
  ascending = λ i j d less within.
      let here : j < length ys = omega (arith, within, length-map ys numbers_of) in
      subst (λ (n : Numbers). DoPrecede n (get_or (map numbers_of ys) j d))
      (sym (get_or-map numbers_of ys i no_pair d (omega (arith, less, here))))
      (subst (λ (n : Numbers). DoPrecede (numbers_of (get_or ys i no_pair)) n)
      (sym (get_or-map numbers_of ys j no_pair d here)) (up i j no_pair less here));
  each = λ k d within.
      let here : k < length ys = omega (arith, within, length-map ys numbers_of) in
      subst (λ (n : Numbers). HaveChanged tin pieces n) (sym (get_or-map numbers_of ys k no_pair d here))
      (have_changed tin pieces (get_or ys k no_pair) (at_index tin pieces ys h.each k no_pair here));
  more = omega (arith, more, length-map ys numbers_of);
}

-- ---- the list of all changes
listing : (tin : Triangulation) (pieces : List Piece)
    → AreSteps numbers_of pieces (IsChanged tin pieces) (IsUnchanged tin pieces)
    (λ (cs : List ChangedPair) (ps : List Pair). AreChangesOf tin ps (map (change_of pieces) cs))
listing tin pieces = record {
  inside = λ c h. (h.earlier, h.in_range);
  none = refl;
  hit = λ c cs ps h q. (
    Some (change_of pieces c),
    map (change_of pieces) cs,
    (refl, refl, h.had, h.has, h.differ),
    q,
    refl,
  );
  miss = λ i j cs ps less within same q. (None, map (change_of pieces) cs, same, q, refl);
}

pub all_listed : (tin : Triangulation) (pieces : List Piece) (most : ℕ) (ys : List ChangedPair) (changes : List Change)
    → AreCollected tin pieces most ys → AreAscending ys → length ys ≤ most → changes ≡ map (change_of pieces) ys
    → AreChanges tin pieces changes
all_listed tin pieces most ys changes h up few e =
    subst (λ (cs : List Change). AreChanges tin pieces cs) (sym e)
    (in_order numbers_of pieces (IsChanged tin pieces) (IsUnchanged tin pieces)
    (λ (cs : List ChangedPair) (ps : List Pair). AreChangesOf tin ps (map (change_of pieces) cs))
    (listing tin pieces) ys up (at_index tin pieces ys h.each)
    (λ i j less within. h.all few i j less within))
