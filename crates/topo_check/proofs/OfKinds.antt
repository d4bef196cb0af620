-- Kinds of pieces while they are made, and what is changed between pieces by what is changed between the first pieces
-- of their kinds.
use Rattle.std.proofs.Common.{◌≡◌, ◌⊎◌, zero, suc, inl, inr, ⊎_elim, ℕ, ◌+◌, ◌<◌, ◌≤◌, List, [], ◌∷◌, ◌++◌, length, map}
use Rattle.std.proofs.Common.{get_or, Contains, true, false, None, refl, sym, ap, subst, ◌∙◌, arith}
use Rattle.std.proofs.lemmas.Bool.{cases_lt, false_from_ne_true}
use Rattle.std.proofs.lemmas.List.{get_or_append_left, get_or_push, length_push, get_or_default, get_or-map, length-map}
use Rattle.plain_laws.proofs.Order.{at_or_before}
use Rattle.tin_base.specs.declared.pieces.Piece.{Piece}
use Rattle.tin_base.specs.Triangulation.{Triangulation}
use Rattle.topo_check.specs.declared.comparisons.ChangedPair.{ChangedPair}
use Rattle.topo_check.specs.Changes.{piece_at, no_piece, IsChangeOf, AreAllComparable}
use Rattle.topo_check.specs.InsidePairs.{IsChanged, IsUnchanged, HasPair, AreCollected, DoesCollect, AreInRange}
use Rattle.topo_check.specs.InsidePairs.{is_same_pair}
use Rattle.topo_check.specs.InsideKinds.{IsCopy, IsSteadyCopy, AreKindsOf, AreMembersOf, ArePairsOfKinds, IsFoundOf}
use Rattle.topo_check.specs.InsideKinds.{members_at, at, of_firsts}
use Rattle.topo_check.proofs.Collects.{same_numbers}
use Rattle.topo_check.proofs.Sorts.{same_pair, no_pair}
use Rattle.topo_check.proofs.PieceCopies.{copy_itself, copies_had, copies_have, had_exchanged, has_exchanged}

-- ---- copies of two pieces that have not changed
unchanged_copies : (tin : Triangulation) (p q p' q' : Piece) → IsCopy tin p p' → IsCopy tin q q'
    → IsChangeOf tin p' q' None → IsChangeOf tin p q None
unchanged_copies tin p q p' q' first second h =
    (h.0, copies_had tin h.0 p q p' q' first second h.1, copies_have tin h.0 p q p' q' first second h.2)

unchanged_exchanged : (tin : Triangulation) (p q : Piece) → IsChangeOf tin p q None → IsChangeOf tin q p None
unchanged_exchanged tin p q h = (h.0, had_exchanged tin h.0 p q h.1, has_exchanged h.0 p q h.2)

-- ---- one piece more
at_old : (ns : List ℕ) (n i : ℕ) → i < length ns → at (ns ++ n ∷ []) i ≡ at ns i
at_old ns n i h = get_or_append_left ns (n ∷ []) 0 i h

at_new : (ns : List ℕ) (n i : ℕ) → length ns ≡ i → at (ns ++ n ∷ []) i ≡ n
at_new ns n i e = get_or_push ns n 0 i e

joined : (tin : Triangulation) (pieces : List Piece) (count kind : ℕ) (firsts kinds : List ℕ)
    → AreKindsOf tin pieces count firsts kinds → kind < length firsts
    → IsSteadyCopy tin (piece_at pieces count) (piece_at pieces (at firsts kind))
    → AreKindsOf tin pieces (count + 1) firsts (kinds ++ kind ∷ [])
joined tin pieces count kind firsts kinds are within steady = record {
  same = length_push kinds kind ∙ ap (λ n. n + 1) are.same;
  few = omega (arith, are.few);
  in_range = λ k h. omega (arith, are.in_range k h);
  ascending = are.ascending;
  kind = λ i h. ⊎_elim (λ less. subst (λ (n : ℕ). n < length firsts) (sym (old i less)) (are.kind i less))
      (λ e. subst (λ (n : ℕ). n < length firsts) (sym (new i e)) within) (at_or_before i count h);
  copy = λ i h. copy_at i (at_or_before i count h);
  own = λ i j less h e. own_at i j less (at_or_before j count h) e;
}
  where
    old : (i : ℕ) → i < count → at (kinds ++ kind ∷ []) i ≡ at kinds i
    old i h = at_old kinds kind i (omega (arith, h, are.same))

    new : (i : ℕ) → i ≡ count → at (kinds ++ kind ∷ []) i ≡ kind
    new i e = at_new kinds kind i (are.same ∙ sym e)

    IsCopyAt : ℕ → ℕ → Type 0
    IsCopyAt i k = IsCopy tin (piece_at pieces i) (piece_at pieces (at firsts k))

    copy_at : (i : ℕ) → (i < count) ⊎ (i ≡ count)
        → IsCopy tin (piece_at pieces i) (piece_at pieces (at firsts (at (kinds ++ kind ∷ []) i)))
    copy_at i (inl less) = subst (λ (k : ℕ). IsCopyAt i k) (sym (old i less)) (are.copy i less)
    copy_at i (inr e) = subst (λ (k : ℕ). IsCopyAt i k) (sym (new i e))
        (subst (λ (n : ℕ). IsCopyAt n kind) (sym e) steady.copy)

    own_at : (i j : ℕ) → i < j → (j < count) ⊎ (j ≡ count) → at (kinds ++ kind ∷ []) i ≡ at (kinds ++ kind ∷ []) j
        → IsUnchanged tin pieces i j
    own_at i j less (inl h) e = are.own i j less h (sym (old i (omega (arith, less, h))) ∙ e ∙ old j h)
    own_at i j less (inr h) e =
        let low : i < count = omega (arith, less, h) in
        unchanged_copies tin (piece_at pieces i) (piece_at pieces j) (piece_at pieces (at firsts kind))
        (piece_at pieces (at firsts kind))
        (subst (λ (k : ℕ). IsCopyAt i k) (sym (old i low) ∙ e ∙ new j h) (are.copy i low))
        (subst (λ (n : ℕ). IsCopyAt n kind) (sym h) steady.copy) steady.steady

begun : (tin : Triangulation) (pieces : List Piece) (count : ℕ) (firsts kinds : List ℕ)
    → AreKindsOf tin pieces count firsts kinds
    → AreKindsOf tin pieces (count + 1) (firsts ++ count ∷ []) (kinds ++ length firsts ∷ [])
begun tin pieces count firsts kinds are = record {
  same = length_push kinds (length firsts) ∙ ap (λ n. n + 1) are.same;
  few = omega (arith, are.few, grown);
  in_range = λ k h. ⊎_elim (λ less. subst (λ (n : ℕ). n < count + 1) (sym (at_old firsts count k less))
      (omega (arith, are.in_range k less))) (λ e. subst (λ (n : ℕ). n < count + 1) (sym (at_new firsts count k (sym e)))
      (omega arith)) (split_first k h);
  ascending = λ k m less h. ascend k m less (split_first m h);
  kind = λ i h. ⊎_elim (λ less. subst (λ (n : ℕ). n < length (firsts ++ count ∷ [])) (sym (old i less))
      (omega (arith, are.kind i less, grown)))
      (λ e. subst (λ (n : ℕ). n < length (firsts ++ count ∷ [])) (sym (new i e)) (omega (arith, grown)))
      (at_or_before i count h);
  copy = λ i h. copy_at i (at_or_before i count h);
  own = λ i j less h e. own_at i j less (at_or_before j count h) e;
}
  where
    grown : length (firsts ++ count ∷ []) ≡ length firsts + 1
    grown = length_push firsts count

    split_first : (k : ℕ) → k < length (firsts ++ count ∷ []) → (k < length firsts) ⊎ (k ≡ length firsts)
    split_first k h = at_or_before k (length firsts) (omega (arith, h, grown))

    old : (i : ℕ) → i < count → at (kinds ++ length firsts ∷ []) i ≡ at kinds i
    old i h = at_old kinds (length firsts) i (omega (arith, h, are.same))

    new : (i : ℕ) → i ≡ count → at (kinds ++ length firsts ∷ []) i ≡ length firsts
    new i e = at_new kinds (length firsts) i (are.same ∙ sym e)

    ascend : (k m : ℕ) → k < m → (m < length firsts) ⊎ (m ≡ length firsts)
        → at (firsts ++ count ∷ []) k < at (firsts ++ count ∷ []) m
    ascend k m less (inl h) = grind (arith, at_old)
    ascend k m less (inr e) = grind (arith, at_old, at_new)

    copy_at : (i : ℕ) → (i < count) ⊎ (i ≡ count)
        → IsCopy tin (piece_at pieces i) (piece_at pieces
        (at (firsts ++ count ∷ []) (at (kinds ++ length firsts ∷ []) i)))
    copy_at i (inl less) = grind (arith, old, at_old)
    copy_at i (inr e) = grind (arith, new, at_new, copy_itself)

    own_at : (i j : ℕ) → i < j → (j < count) ⊎ (j ≡ count)
        → at (kinds ++ length firsts ∷ []) i ≡ at (kinds ++ length firsts ∷ []) j → IsUnchanged tin pieces i j
    own_at i j less (inl h) e = are.own i j less h (sym (old i (omega (arith, less, h))) ∙ e ∙ old j h)
    own_at i j less (inr h) e = grind (arith, old, new)

pub one_more : (tin : Triangulation) (pieces : List Piece) (count kind : ℕ) (firsts later kinds now : List ℕ)
    → AreKindsOf tin pieces count firsts kinds → kind ≤ length firsts
    → (kind < length firsts → IsSteadyCopy tin (piece_at pieces count) (piece_at pieces (at firsts kind)))
    → (kind < length firsts → later ≡ firsts) → (length firsts ≤ kind → later ≡ firsts ++ count ∷ [])
    → now ≡ kinds ++ kind ∷ [] → AreKindsOf tin pieces (count + 1) later now
one_more tin pieces count kind firsts later kinds now are within steady there new e =
    subst (λ (ks : List ℕ). AreKindsOf tin pieces (count + 1) later ks) (sym e) (go (cases_lt kind (length firsts)))
  where
    go : (kind < length firsts) ⊎ (length firsts ≤ kind) → AreKindsOf tin pieces (count + 1) later (kinds ++ kind ∷ [])
    go (inl less) = subst (λ (fs : List ℕ). AreKindsOf tin pieces (count + 1) fs (kinds ++ kind ∷ []))
        (sym (there less)) (joined tin pieces count kind firsts kinds are less (steady less))
    go (inr past) =
        subst (λ (fs : List ℕ). AreKindsOf tin pieces (count + 1) fs (kinds ++ kind ∷ [])) (sym (new past))
        (subst (λ (k : ℕ). AreKindsOf tin pieces (count + 1) (firsts ++ count ∷ []) (kinds ++ k ∷ []))
        (omega (arith, within, past)) (begun tin pieces count firsts kinds are))

-- ---- the first pieces
lead_at : (pieces : List Piece) (firsts : List ℕ) (k : ℕ) → k < length firsts
    → piece_at (map (piece_at pieces) firsts) k ≡ piece_at pieces (at firsts k)
lead_at pieces [] k h = absurd (omega (arith, h))
lead_at pieces (n ∷ ns) zero h = refl
lead_at pieces (n ∷ ns) (suc k) h = lead_at pieces ns k (omega (arith, h))

-- ---- the pairs of all pieces
pub of_kinds_collected : (tin : Triangulation) (pieces : List Piece) (most : ℕ) (firsts kinds : List ℕ)
    (members : List (List ℕ)) (found pairs : List ChangedPair) → AreKindsOf tin pieces (length pieces) firsts kinds
    → AreMembersOf kinds (length firsts) members
    → AreCollected tin (map (piece_at pieces) firsts) most found → length found ≤ most
    → DoesCollect tin pieces most (IsFoundOf members found) [] pairs → AreCollected tin pieces most pairs
of_kinds_collected tin pieces most firsts kinds members found pairs are sorts of_leads few collects = record {
  each = λ c h. ⊎_elim (λ none. absurd (nowhere c none)) (λ is. is.0) (collects.only c h);
  different = collects.once (λ i j d less within. absurd (omega (arith, within)))
      (λ i j less within m has. nowhere has.0 has.1);
  all = λ short i j less within. by_kinds short i j less within (cases_lt (at kinds i) (at kinds j))
      (cases_lt (at kinds j) (at kinds i));
}
  where
    nowhere : (c : ChangedPair) → Contains [] c → ⊥
    nowhere c h = omega (arith, h.1)

    leads : List Piece
    leads = map (piece_at pieces) firsts

    size : length leads ≡ length firsts
    size = length-map firsts (piece_at pieces)

    copy_of_lead : (i : ℕ) → i < length pieces → IsCopy tin (piece_at pieces i) (piece_at leads (at kinds i))
    copy_of_lead i h = subst (λ (p : Piece). IsCopy tin (piece_at pieces i) p)
        (sym (lead_at pieces firsts (at kinds i) (are.kind i h))) (are.copy i h)

    member : (i k : ℕ) → i < length pieces → k ≡ at kinds i → Contains (members_at members k) i
    member i k h e = (sorts.exact k i (subst (λ (n : ℕ). n < length firsts) (sym e) (are.kind i h))).1
        (omega (arith, h, are.same), sym e)

    unchanged : (i j : ℕ) → i < length pieces → j < length pieces → IsUnchanged tin leads (at kinds i) (at kinds j)
        → IsChangeOf tin (piece_at pieces i) (piece_at pieces j) None
    unchanged i j hi hj h = unchanged_copies tin (piece_at pieces i) (piece_at pieces j) (piece_at leads (at kinds i))
        (piece_at leads (at kinds j)) (copy_of_lead i hi) (copy_of_lead j hj) h

    by_kinds : length pairs ≤ most → (i j : ℕ) → i < j → j < length pieces
        → (at kinds i < at kinds j) ⊎ (at kinds j ≤ at kinds i) → (at kinds j < at kinds i) ⊎ (at kinds i ≤ at kinds j)
        → HasPair pairs i j ⊎ IsUnchanged tin pieces i j
    by_kinds short i j less within (inl up) _ =
        let low : i < length pieces = omega (arith, less, within) in
        ⊎_elim
        (λ has. collects.all short i j less within
        (has.0, has.1, inl (member i has.0.first low has.2, member j has.0.second within has.3)))
        (λ same. inr (unchanged i j low within same))
        (of_leads.all few (at kinds i) (at kinds j) up (omega (arith, are.kind j within, size)))
    by_kinds short i j less within _ (inl down) =
        let low : i < length pieces = omega (arith, less, within) in
        ⊎_elim
        (λ has. collects.all short i j less within
        (has.0, has.1, inr (member j has.0.first within has.2, member i has.0.second low has.3)))
        (λ same. inr (unchanged_exchanged tin (piece_at pieces j) (piece_at pieces i) (unchanged j i within low same)))
        (of_leads.all few (at kinds j) (at kinds i) down (omega (arith, are.kind i low, size)))
    by_kinds short i j less within (inr a) (inr b) = inr (are.own i j less within (omega (arith, a, b)))

-- what was found is in the range of the kinds
pub found_pairs_of : (tin : Triangulation) (leads : List Piece) (most count : ℕ) (found : List ChangedPair)
    → length leads ≡ count → AreCollected tin leads most found → ArePairsOfKinds count found
found_pairs_of tin leads most count found e of_leads = record {
  earlier = λ pair h. (of_leads.each pair h).earlier;
  within = λ pair h. let is = of_leads.each pair h in omega (arith, is.in_range, e);
  different = of_leads.different;
}

pub found_in_range : (tin : Triangulation) (leads : List Piece) (most count : ℕ) (found : List ChangedPair)
    → length leads ≡ count → AreCollected tin leads most found → AreInRange count found
found_in_range tin leads most count found e of_leads i d within =
    let is = of_leads.each (get_or found i d)
    (i, within, get_or_default found i (get_or found i d) d within) in (
      omega (arith, is.earlier, is.in_range, e),
      omega (arith, is.in_range, e),
    )

-- ---- more than `most` pairs of first pieces
changed_firsts : (tin : Triangulation) (pieces : List Piece) (firsts kinds : List ℕ) (c : ChangedPair)
    → AreKindsOf tin pieces (length pieces) firsts kinds → IsChanged tin (map (piece_at pieces) firsts) c
    → IsChanged tin pieces (of_firsts firsts c)
changed_firsts tin pieces firsts kinds c are is = grind (arith, length-map, lead_at)

same_kind : (tin : Triangulation) (pieces : List Piece) (firsts kinds : List ℕ) (k m : ℕ)
    → AreKindsOf tin pieces (length pieces) firsts kinds → k < length firsts → m < length firsts
    → at firsts k ≡ at firsts m → k ≡ m
same_kind tin pieces firsts kinds k m are hk hm e = grind (arith, cases_lt)

pub firsts_collected : (tin : Triangulation) (pieces : List Piece) (most : ℕ) (firsts kinds : List ℕ)
    (found : List ChangedPair) → AreKindsOf tin pieces (length pieces) firsts kinds
    → AreCollected tin (map (piece_at pieces) firsts) most found → most < length found
    → AreCollected tin pieces most (map (of_firsts firsts) found)
firsts_collected tin pieces most firsts kinds found are of_leads more = record {
  each = λ c h. each_of c h.0 (subst (λ (n : ℕ). h.0 < n) size h.1) h.1 h.2;
  different = λ i j d less within. differ i d j d less (subst (λ (n : ℕ). j < n) size within);
  all = λ few i j less within. absurd (omega (arith, few, more, size));
}
  where
    size : length (map (of_firsts firsts) found) ≡ length found
    size = length-map found (of_firsts firsts)

    pair_at : ℕ → ChangedPair
    pair_at k = get_or found k no_pair

    is_found : (k : ℕ) → k < length found → IsChanged tin (map (piece_at pieces) firsts) (pair_at k)
    is_found k h = of_leads.each (pair_at k) (k, h, get_or_default found k (pair_at k) no_pair h)

    each_of : (c : ChangedPair) (k : ℕ) → k < length found → k < length (map (of_firsts firsts) found)
        → get_or (map (of_firsts firsts) found) k c ≡ c → IsChanged tin pieces c
    each_of c k h _ e = subst (λ (p : ChangedPair). IsChanged tin pieces p)
        (sym (get_or-map (of_firsts firsts) found k no_pair c h) ∙ e)
        (changed_firsts tin pieces firsts kinds (pair_at k) are (is_found k h))

    second_in : (k : ℕ) → k < length found → (pair_at k).second < length firsts
    second_in k h = let is = is_found k h in omega (arith, is.in_range, length-map firsts (piece_at pieces))

    first_in : (k : ℕ) → k < length found → (pair_at k).first < length firsts
    first_in k h = let is = is_found k h in omega (arith, is.in_range, is.earlier, length-map firsts (piece_at pieces))

    no_truth : true ≡ false → ⊥
    no_truth e = cc

    apart : (i j : ℕ) → i < j → j < length found
        → is_same_pair (of_firsts firsts (pair_at i)) (of_firsts firsts (pair_at j)) ≡ true → ⊥
    apart i j less within t =
        let same = same_numbers (of_firsts firsts (pair_at i)) (of_firsts firsts (pair_at j)) t in
        let low : i < length found = omega (arith, less, within) in
        no_truth
        (sym (same_pair (pair_at i) (pair_at j) (same_kind tin pieces firsts kinds (pair_at i).first (pair_at j).first
        are (first_in i low) (first_in j within) same.0)
        (same_kind tin pieces firsts kinds (pair_at i).second (pair_at j).second are (second_in i low)
        (second_in j within) same.1))
        ∙ of_leads.different i j no_pair less within)

    differ : (i : ℕ) (d : ChangedPair) (j : ℕ) (e : ChangedPair) → i < j → j < length found
        → is_same_pair (get_or (map (of_firsts firsts) found) i d) (get_or (map (of_firsts firsts) found) j e) ≡ false
    differ i d j e less within =
        let low : i < length found = omega (arith, less, within) in
        subst (λ (c : ChangedPair). is_same_pair c (get_or (map (of_firsts firsts) found) j e) ≡ false)
        (sym (get_or-map (of_firsts firsts) found i no_pair d low))
        (subst (λ (c : ChangedPair). is_same_pair (of_firsts firsts (pair_at i)) c ≡ false)
        (sym (get_or-map (of_firsts firsts) found j no_pair e within))
        (false_from_ne_true (is_same_pair (of_firsts firsts (pair_at i)) (of_firsts firsts (pair_at j)))
        (λ t. apart i j less within t)))

-- ---- first pieces are comparable
pub leads_comparable : (tin : Triangulation) (pieces : List Piece) (firsts : List ℕ)
    → ((k : ℕ) → k < length firsts → at firsts k < length pieces) → AreAllComparable tin pieces
    → AreAllComparable tin (map (piece_at pieces) firsts)
leads_comparable tin pieces firsts within each i d hi j e hj =
    let low : i < length firsts = subst (λ (n : ℕ). i < n) size hi in let high : j < length firsts =
    subst (λ (n : ℕ). j < n) size hj in
    rw (get_or-map (piece_at pieces) firsts i 0 d low, get_or-map (piece_at pieces) firsts j 0 e high)
    (each (at firsts i) no_piece (within i low) (at firsts j) no_piece (within j high))
  where
    size : length (map (piece_at pieces) firsts) ≡ length firsts
    size = length-map firsts (piece_at pieces)
