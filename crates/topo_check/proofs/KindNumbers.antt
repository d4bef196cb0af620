-- The numbers of each kind, by entries of numbers under their kinds.
use Rattle.std.proofs.Common.{◌≡◌, ◌⊎◌, inl, inr, ⊎_elim, ℕ, zero, suc, ◌+◌, ◌<◌, List, [], ◌∷◌, ◌++◌, length, take}
use Rattle.std.proofs.Common.{Contains, All, false, nat_eq, refl, sym, ap, subst, ◌∙◌, arith}
use Rattle.std.specs.List.{IsDistinct, AllByRecursion}
use Rattle.std.proofs.lemmas.Bool.{cases_eq, false_from_ne_true, eqb-true}
use Rattle.std.proofs.lemmas.List.Elements.{Contains-push, Contains-push_cases, Contains-append_left}
use Rattle.std.proofs.lemmas.List.Elements.{Contains-append_right, Contains-append_cases}
use Rattle.std.proofs.lemmas.List.{take_more, length-take}
use Rattle.std.proofs.lemmas.Map.Keys.{IsDistinct-cons}
use Rattle.number_groups.specs.declared.groups.Entry.{Entry}
use Rattle.number_groups.specs.Groups.{numbers_under}
use Rattle.number_groups.proofs.Counts.{numbers_here, numbers_other}
use Rattle.topo_check.specs.InsideKinds.{at, numbered_entries, members_at, AreMembersOf, AreSortsOf}

abbrev pub entry : ℕ → ℕ → Entry
entry kind n = record { key = kind; number = n }

numbered_push : (n : ℕ) (kinds : List ℕ) (kind : ℕ)
    → numbered_entries n (kinds ++ kind ∷ []) ≡ numbered_entries n kinds ++ entry kind (n + length kinds) ∷ []
numbered_push n [] kind = ap (λ (m : ℕ). entry kind m ∷ []) (omega arith)
numbered_push n (k ∷ ks) kind = ap (λ (es : List Entry). entry k n ∷ es)
    (numbered_push (n + 1) ks kind ∙ ap (λ (m : ℕ). numbered_entries (n + 1) ks ++ entry kind m ∷ []) (omega arith))

-- one entry more
pub numbered_more : (kinds : List ℕ) (n : ℕ) (before now : List Entry) → n < length kinds
    → before ≡ numbered_entries 0 (take n kinds) → now ≡ before ++ entry (at kinds n) n ∷ []
    → now ≡ numbered_entries 0 (take (n + 1) kinds)
numbered_more kinds n before now within is e =
    e ∙ ap (λ (es : List Entry). es ++ entry (at kinds n) n ∷ []) is
    ∙ ap (λ (m : ℕ). numbered_entries 0 (take n kinds) ++ entry (at kinds n) m ∷ []) (omega (arith, length-take n kinds))
    ∙ sym (numbered_push 0 (take n kinds) (at kinds n))
    ∙ ap (λ (ks : List ℕ). numbered_entries 0 ks) (sym (take_more kinds n 0 within))

pub length_numbered : (n : ℕ) (kinds : List ℕ) → length (numbered_entries n kinds) ≡ length kinds
length_numbered n [] = refl
length_numbered n (k ∷ ks) = ap (λ (m : ℕ). suc m) (length_numbered (n + 1) ks)

pub keys_below : (n count : ℕ) (kinds : List ℕ) → All (λ kind. kind < count) kinds
    → All (λ (e : Entry). e.key < count) (numbered_entries n kinds)
keys_below n count [] h i d within = absurd (omega (arith, within))
keys_below n count (k ∷ ks) h zero d within = h 0 0 (omega arith)
keys_below n count (k ∷ ks) h (suc i) d within =
    keys_below (n + 1) count ks (λ j e w. h (suc j) e (omega (arith, w))) i d (omega (arith, within))

-- the numbers of a kind, where the first entry is of it and where not
here : (n : ℕ) (k : ℕ) (ks : List ℕ) → numbers_under k (numbered_entries n (k ∷ ks)) ≡ n ∷ numbers_under k (numbered_entries (n + 1) ks)
here n k ks = numbers_here (entry k n) (numbered_entries (n + 1) ks)

other : (n : ℕ) (kind k : ℕ) (ks : List ℕ) → (kind ≡ k → ⊥)
    → numbers_under kind (numbered_entries n (k ∷ ks)) ≡ numbers_under kind (numbered_entries (n + 1) ks)
other n kind k ks differ = numbers_other kind (entry k n) (numbered_entries (n + 1) ks) differ

-- which numbers they are
abbrev IsAt : ℕ → List ℕ → ℕ → ℕ → Type 0
IsAt n ks kind i = (j : ℕ) × (i ≡ n + j) × (j < length ks) × (at ks j ≡ kind)

later : (n k : ℕ) (ks : List ℕ) (kind i : ℕ) → IsAt (n + 1) ks kind i → IsAt n (k ∷ ks) kind i
later n k ks kind i h = (suc h.0, omega (arith, h.1), omega (arith, h.2), h.3)

number_forth : (n : ℕ) (ks : List ℕ) (kind i : ℕ) → Contains (numbers_under kind (numbered_entries n ks)) i
    → IsAt n ks kind i
number_forth n [] kind i h = absurd (omega (arith, h.1))
number_forth n (k ∷ ks) kind i h =
    grind (
      arith,
      cases_eq,
      ⊎_elim,
      Contains-push_cases,
      later,
      Contains-append_cases,
      here,
      other,
      (number_forth (n + 1) ks kind i),
    )

number_back : (n : ℕ) (ks : List ℕ) (kind j : ℕ) → j < length ks → at ks j ≡ kind
    → Contains (numbers_under kind (numbered_entries n ks)) (n + j)
number_back n [] kind j within is = absurd (omega (arith, within))
number_back n (k ∷ ks) kind zero within is =
    subst (λ (l : ℕ). Contains (numbers_under l (numbered_entries n (k ∷ ks))) (n + 0)) is
    (subst (λ (ns : List ℕ). Contains ns (n + 0)) (sym (here n k ks))
    (subst (λ (m : ℕ). Contains (n ∷ numbers_under k (numbered_entries (n + 1) ks)) m) (same n)
    (Contains-append_left (n ∷ []) (numbers_under k (numbered_entries (n + 1) ks)) n (Contains-push [] n))))
  where
    same : (m : ℕ) → m ≡ m + 0
    same m = omega arith
number_back n (k ∷ ks) kind (suc j) within is =
    go (subst (λ (m : ℕ). Contains (numbers_under kind (numbered_entries (n + 1) ks)) m) (same n j)
    (number_back (n + 1) ks kind j (omega (arith, within)) is)) (cases_eq kind k)
  where
    same : (m l : ℕ) → m + 1 + l ≡ m + suc l
    same m l = omega arith

    go : Contains (numbers_under kind (numbered_entries (n + 1) ks)) (n + suc j) → (kind ≡ k) ⊎ (kind ≡ k → ⊥)
        → Contains (numbers_under kind (numbered_entries n (k ∷ ks))) (n + suc j)
    go behind (inl e) =
        subst (λ (l : ℕ). Contains (numbers_under l (numbered_entries n (k ∷ ks))) (n + suc j)) (sym e)
        (subst (λ (ns : List ℕ). Contains ns (n + suc j)) (sym (here n k ks))
        (Contains-append_right (n ∷ []) (numbers_under k (numbered_entries (n + 1) ks)) (n + suc j)
        (subst (λ (l : ℕ). Contains (numbers_under l (numbered_entries (n + 1) ks)) (n + suc j)) e behind)))
    go behind (inr differ) = subst (λ (ns : List ℕ). Contains ns (n + suc j)) (sym (other n kind k ks differ)) behind

-- each number once
none_again : (m n : ℕ) (ks : List ℕ) (kind : ℕ) → m < n
    → AllByRecursion (λ y. nat_eq m y ≡ false) (numbers_under kind (numbered_entries n ks))
none_again m n [] kind less = tt
none_again m n (k ∷ ks) kind less =
    grind (
      arith,
      cases_eq,
      nat_eq,
      false_from_ne_true,
      eqb-true,
      here,
      other,
      (none_again m (n + 1) ks kind (omega (arith, less))),
    )

numbers_once : (n : ℕ) (ks : List ℕ) (kind : ℕ) → IsDistinct nat_eq (numbers_under kind (numbered_entries n ks))
unfolding IsDistinct
numbers_once n [] kind = tt
numbers_once n (k ∷ ks) kind = go (numbers_once (n + 1) ks kind) (cases_eq kind k)
  where
    go : IsDistinct nat_eq (numbers_under kind (numbered_entries (n + 1) ks)) → (kind ≡ k) ⊎ (kind ≡ k → ⊥)
        → IsDistinct nat_eq (numbers_under kind (numbered_entries n (k ∷ ks)))
    go rest (inl e) =
        subst (λ (l : ℕ). IsDistinct nat_eq (numbers_under l (numbered_entries n (k ∷ ks)))) (sym e)
        (subst (λ (ns : List ℕ). IsDistinct nat_eq ns) (sym (here n k ks))
        (IsDistinct-cons nat_eq n (numbers_under k (numbered_entries (n + 1) ks)) (none_again n (n + 1) ks k (omega arith))
        (subst (λ (l : ℕ). IsDistinct nat_eq (numbers_under l (numbered_entries (n + 1) ks))) e rest)))
    go rest (inr differ) = subst (λ (ns : List ℕ). IsDistinct nat_eq ns) (sym (other n kind k ks differ)) rest

-- ---- the members of kinds
pub members_by : (kinds : List ℕ) (count : ℕ) (members : List (List ℕ)) → length members ≡ count
    → ((k : ℕ) → k < count → members_at members k ≡ numbers_under k (numbered_entries 0 kinds))
    → AreMembersOf kinds count members
members_by kinds count members same each = record {
  same = same;
  exact = λ k i within. (
    λ h. let is = number_forth 0 kinds k i (subst (λ (ns : List ℕ). Contains ns i) (each k within) h) in inside i k is.0
        is.1 is.2 is.3,
    λ h. subst (λ (ns : List ℕ). Contains ns i) (sym (each k within))
        (subst (λ (n : ℕ). Contains (numbers_under k (numbered_entries 0 kinds)) n) (from_none i)
        (number_back 0 kinds k i h.0 h.1)),
  );
  once = λ k within. subst (λ (ns : List ℕ). IsDistinct nat_eq ns) (sym (each k within)) (numbers_once 0 kinds k);
}
  where
    inside : (i k j : ℕ) → i ≡ 0 + j → j < length kinds → at kinds j ≡ k → (i < length kinds) × (at kinds i ≡ k)
    inside i k j e within is = let f : j ≡ i =
        omega (arith, e) in (omega (arith, e, within), subst (λ (n : ℕ). at kinds n ≡ k) f is)

    from_none : (i : ℕ) → 0 + i ≡ i
    from_none i = omega arith

pub sorts_by : (kinds : List ℕ) (count : ℕ) (members : List (List ℕ)) → AreMembersOf kinds count members
    → AreSortsOf (length kinds) members
sorts_by kinds count members are = record {
  once = λ k within. are.once k (omega (arith, within, are.same));
  within = λ k i within h. ((are.exact k i (omega (arith, within, are.same))).0 h).0;
  apart = λ k m i j hk hm less h g e.
      let p = ((are.exact k i (omega (arith, hk, are.same))).0 h).1 in
      let q = ((are.exact m j (omega (arith, hm, are.same))).0 g).1 in
      two k m i j less p q e;
}
  where
    two : (k m i j : ℕ) → k < m → at kinds i ≡ k → at kinds j ≡ m → j ≡ i → ⊥
    two k m i j less p q e = let r : at kinds i ≡ m = subst (λ (n : ℕ). at kinds n ≡ m) e q in omega (arith, less, p, r)
