-- The pairs of pieces of two sorts, and of each pair of kinds that was found.
use Rattle.std.proofs.Common.{◌≡◌, ◌≢◌, ◌⊎◌, inl, inr, ⊎_elim, ℕ, ◌+◌, ◌<◌, ◌≤◌, List, length, get_or, Contains, true}
use Rattle.std.proofs.Common.{false, nat_eq, refl, sym, subst, ◌∙◌, arith}
use Rattle.std.specs.List.{IsDistinct}
use Rattle.std.proofs.lemmas.Bool.{cases_lt}
use Rattle.std.proofs.lemmas.Cmp.{nat_eq_equiv}
use Rattle.std.proofs.lemmas.List.{get_or_default}
use Rattle.tin_base.specs.declared.frames.Frame.TheVariants.{Target}
use Rattle.tin_base.specs.declared.pieces.Piece.{Piece}
use Rattle.tin_base.specs.declared.relations.Rel.TheVariants.{Apart}
use Rattle.tin_base.specs.Triangulation.{Triangulation}
use Rattle.topo_check.specs.declared.comparisons.ChangedPair.{ChangedPair}
use Rattle.topo_check.specs.InsidePairs.{DoesCollect, IsPairWith, is_same_pair, AreDifferentPairs}
use Rattle.topo_check.specs.InsideKinds.{IsPairAcross, members_at, AreSortsOf, ArePairsOfKinds, IsPairOfKinds}
use Rattle.topo_check.specs.InsideKinds.{IsFoundOf}
use Rattle.topo_check.proofs.Collects.{collect_more, collect_as}
use Rattle.topo_check.proofs.Passes.{IsOneOf, one_place}

-- ---- the pairs of two sorts, piece after piece of the first

pub across_more : (tin : Triangulation) (pieces : List Piece) (most : ℕ) (numbers others : List ℕ) (place : ℕ)
    (xs ys zs : List ChangedPair) → IsDistinct nat_eq numbers → place < length numbers
    → ((m n : ℕ) → Contains numbers m → Contains others n → n ≢ m)
    → DoesCollect tin pieces most (IsPairAcross (IsOneOf numbers place) (Contains others)) xs ys
    → DoesCollect tin pieces most (IsPairWith Target pieces (get_or numbers place 0) (Contains others)) ys zs
    → DoesCollect tin pieces most (IsPairAcross (IsOneOf numbers (place + 1)) (Contains others)) xs zs
across_more tin pieces most numbers others place xs ys zs once within different before here =
    collect_more tin pieces most (IsPairAcross (IsOneOf numbers place) (Contains others))
    (IsPairWith Target pieces (get_or numbers place 0) (Contains others))
    (IsPairAcross (IsOneOf numbers (place + 1)) (Contains others)) xs ys zs before here
    (λ i j less m.
    ⊎_elim
    (λ h. ⊎_elim (λ earlier. inl (inl ((h.0.0, earlier, h.0.2), h.1)))
    (λ late. inr (tt, inl (is_here i h.0.0 (last h.0.0 h.0.1 late) h.0.2, h.1))) (cases_lt h.0.0 place))
    (λ h. ⊎_elim (λ earlier. inl (inr ((h.0.0, earlier, h.0.2), h.1)))
    (λ late. inr (tt, inr (is_here j h.0.0 (last h.0.0 h.0.1 late) h.0.2, h.1))) (cases_lt h.0.0 place))
    m)
    (λ i j less m. ⊎_elim (λ h. inl ((h.0.0, further h.0.0 h.0.1, h.0.2), h.1))
    (λ h. inr ((h.0.0, further h.0.0 h.0.1, h.0.2), h.1)) m)
    (λ i j less m. ⊎_elim (λ h. inl ((place, omega arith, sym h.0), h.1))
    (λ h. inr ((place, omega arith, sym h.0), h.1)) m.1)
    (λ i j less inside m n.
    ⊎_elim
    (λ h. ⊎_elim (λ k. one_place numbers h.0.0 place once h.0.1 within (h.0.2 ∙ k.0)) (λ k. other j (sym k.0) h.1) n.1)
    (λ h. ⊎_elim (λ k. other i (sym k.0) h.1) (λ k. one_place numbers h.0.0 place once h.0.1 within (h.0.2 ∙ k.0)) n.1)
    m)
  where
    last : (k : ℕ) → k < place + 1 → place ≤ k → k ≡ place
    last k less late = omega (arith, less, late)

    further : (k : ℕ) → k < place → k < place + 1
    further k less = omega (arith, less)

    is_here : (i k : ℕ) → k ≡ place → get_or numbers k 0 ≡ i → i ≡ get_or numbers place 0
    is_here i k e is = sym (subst (λ (n : ℕ). get_or numbers n 0 ≡ i) e is)

    -- this piece is not of the second sort
    other : (n : ℕ) → get_or numbers place 0 ≡ n → Contains others n → ⊥
    other n e h = different n n (place, within, get_or_default numbers place n 0 within ∙ e) h refl

pub across_all : (tin : Triangulation) (pieces : List Piece) (most : ℕ) (numbers : List ℕ) (B : ℕ → Type 0) (place : ℕ)
    (xs ys : List ChangedPair) → place ≤ length numbers → (length ys ≤ most → length numbers ≤ place)
    → DoesCollect tin pieces most (IsPairAcross (IsOneOf numbers place) B) xs ys
    → DoesCollect tin pieces most (IsPairAcross (Contains numbers) B) xs ys
across_all tin pieces most numbers B place xs ys inside past collects =
    collect_as tin pieces most (IsPairAcross (IsOneOf numbers place) B) (IsPairAcross (Contains numbers) B) xs ys
    collects
    (λ i j less m. ⊎_elim (λ h. inl (listed i h.0.0 h.0.1 h.0.2, h.1)) (λ h. inr (listed j h.0.0 h.0.1 h.0.2, h.1)) m)
    (λ few i j less within m. ⊎_elim (λ h. inl (one_of (past few) i h.0.0 h.0.1 h.0.2, h.1))
    (λ h. inr (one_of (past few) j h.0.0 h.0.1 h.0.2, h.1)) m)
  where
    listed : (n k : ℕ) → k < place → get_or numbers k 0 ≡ n → Contains numbers n
    listed n k h e = let here : k < length numbers =
        omega (arith, h, inside) in (k, here, get_or_default numbers k n 0 here ∙ e)

    one_of : length numbers ≤ place → (n k : ℕ) → k < length numbers → get_or numbers k n ≡ n → IsOneOf numbers place n
    one_of all n k h e = (k, omega (arith, h, all), get_or_default numbers k 0 n h ∙ e)

-- ---- the pairs of kinds that were found, one after another
abbrev pub no_pair : ChangedPair
no_pair = record { first = 0; second = 0; was = Apart; now = Apart }

abbrev pub IsFoundBefore : List (List ℕ) → List ChangedPair → ℕ → ℕ → ℕ → Type 0
IsFoundBefore members found place i j = (k : ℕ) × (k < place) × IsPairOfKinds members (get_or found k no_pair) i j

pub found_in : (found : List ChangedPair) (place : ℕ) (d : ChangedPair) → place < length found
    → Contains found (get_or found place d)
found_in found place d within = (place, within, get_or_default found place (get_or found place d) d within)

-- a piece is of one kind
one_kind : (count : ℕ) (members : List (List ℕ)) (k m i : ℕ) → AreSortsOf count members → k < length members
    → m < length members → Contains (members_at members k) i → Contains (members_at members m) i → k ≡ m
one_kind count members k m i are hk hm h g = go (cases_lt k m) (cases_lt m k)
  where
    go : (k < m) ⊎ (m ≤ k) → (m < k) ⊎ (k ≤ m) → k ≡ m
    go (inl less) _ = absurd (are.apart k m i i hk hm less h g refl)
    go _ (inl less) = absurd (are.apart m k i i hm hk less g h refl)
    go (inr a) (inr b) = omega (arith, a, b)

both_true : (m n : ℕ) → m ≡ n → nat_eq m n ≡ true
both_true m n e = subst (λ (l : ℕ). nat_eq m l ≡ true) e (nat_eq_equiv.refl m)

pub same_pair : (c d : ChangedPair) → c.first ≡ d.first → c.second ≡ d.second → is_same_pair c d ≡ true
same_pair c d e f = rw (both_true c.first d.first e, both_true c.second d.second f) refl

no_truth : true ≡ false → ⊥
no_truth e = cc

not_twice : (found : List ChangedPair) (k place : ℕ) → AreDifferentPairs found → k < place → place < length found
    → (get_or found k no_pair).first ≡ (get_or found place no_pair).first
    → (get_or found k no_pair).second ≡ (get_or found place no_pair).second → ⊥
not_twice found k place d less within e f =
    no_truth (sym (same_pair (get_or found k no_pair) (get_or found place no_pair) e f) ∙ d k place no_pair less within)

pub found_more : (tin : Triangulation) (pieces : List Piece) (most : ℕ) (members : List (List ℕ))
    (found : List ChangedPair) (place : ℕ) (pair : ChangedPair) (xs ys zs : List ChangedPair)
    → AreSortsOf (length pieces) members → ArePairsOfKinds (length members) found
    → place < length found → pair ≡ get_or found place no_pair
    → DoesCollect tin pieces most (IsFoundBefore members found place) xs ys
    → DoesCollect tin pieces most (IsPairOfKinds members pair) ys zs
    → DoesCollect tin pieces most (IsFoundBefore members found (place + 1)) xs zs
found_more tin pieces most members found place pair xs ys zs are pairs within is before here =
    collect_more tin pieces most (IsFoundBefore members found place) (IsPairOfKinds members pair)
    (IsFoundBefore members found (place + 1)) xs ys zs before here
    (λ i j less m. ⊎_elim (λ earlier. inl (m.0, earlier, m.2)) (λ late. inr (now i j m.0 (last m.0 m.1 late) m.2))
    (cases_lt m.0 place))
    (λ i j less m. (m.0, further m.0 m.1, m.2))
    (λ i j less m. (place, omega arith, subst (λ (p : ChangedPair). IsPairOfKinds members p i j) is m))
    (λ i j less inside m n. apart m.0 m.1 i j m.2 (subst (λ (p : ChangedPair). IsPairOfKinds members p i j) is n))
  where
    last : (k : ℕ) → k < place + 1 → place ≤ k → k ≡ place
    last k less late = omega (arith, less, late)

    further : (k : ℕ) → k < place → k < place + 1
    further k less = omega (arith, less)

    now : (i j k : ℕ) → k ≡ place → IsPairOfKinds members (get_or found k no_pair) i j → IsPairOfKinds members pair i j
    now i j k e h = subst (λ (p : ChangedPair). IsPairOfKinds members p i j) (sym is)
        (subst (λ (n : ℕ). IsPairOfKinds members (get_or found n no_pair) i j) e h)

    second_in : (k : ℕ) → k < length found → (get_or found k no_pair).second < length members
    second_in k h = pairs.within (get_or found k no_pair) (found_in found k no_pair h)

    in_order : (k : ℕ) → k < length found → (get_or found k no_pair).first < (get_or found k no_pair).second
    in_order k h = pairs.earlier (get_or found k no_pair) (found_in found k no_pair h)

    first_in : (k : ℕ) → k < length found → (get_or found k no_pair).first < length members
    first_in k h = omega (arith, second_in k h, in_order k h)

    crossed : (a b c d : ℕ) → a < b → c < d → a ≡ d → b ≡ c → ⊥
    crossed a b c d h g e f = omega (arith, h, g, e, f)

    one : (k m i : ℕ) → k < length members → m < length members → Contains (members_at members k) i
        → Contains (members_at members m) i → k ≡ m
    one k m i hk hm h g = one_kind (length pieces) members k m i are hk hm h g

    apart : (k : ℕ) → k < place → (i j : ℕ) → IsPairOfKinds members (get_or found k no_pair) i j
        → IsPairOfKinds members (get_or found place no_pair) i j → ⊥
    apart k less i j m n =
        let earlier : k < length found = omega (arith, less, within) in
        let p = get_or found k no_pair in let q = get_or found place no_pair in
        ⊎_elim
        (λ h. ⊎_elim
        (λ g. not_twice found k place pairs.different less within
        (one p.first q.first i (first_in k earlier) (first_in place within) h.0 g.0)
        (one p.second q.second j (second_in k earlier) (second_in place within) h.1 g.1))
        (λ g. crossed p.first p.second q.first q.second (in_order k earlier) (in_order place within)
        (one p.first q.second i (first_in k earlier) (second_in place within) h.0 g.1)
        (one p.second q.first j (second_in k earlier) (first_in place within) h.1 g.0))
        n)
        (λ h. ⊎_elim
        (λ g. crossed p.first p.second q.first q.second (in_order k earlier) (in_order place within)
        (one p.first q.second j (first_in k earlier) (second_in place within) h.0 g.1)
        (one p.second q.first i (second_in k earlier) (first_in place within) h.1 g.0))
        (λ g. not_twice found k place pairs.different less within
        (one p.first q.first j (first_in k earlier) (first_in place within) h.0 g.0)
        (one p.second q.second i (second_in k earlier) (second_in place within) h.1 g.1))
        n)
        m

pub found_all : (tin : Triangulation) (pieces : List Piece) (most : ℕ) (members : List (List ℕ))
    (found : List ChangedPair) (place : ℕ) (xs ys : List ChangedPair) → place ≤ length found
    → (length ys ≤ most → length found ≤ place)
    → DoesCollect tin pieces most (IsFoundBefore members found place) xs ys
    → DoesCollect tin pieces most (IsFoundOf members found) xs ys
found_all tin pieces most members found place xs ys inside past collects =
    collect_as tin pieces most (IsFoundBefore members found place) (IsFoundOf members found) xs ys collects
    (λ i j less m. (get_or found m.0 no_pair, found_in found m.0 no_pair (omega (arith, m.1, inside)), m.2))
    (λ few i j less within m. one_of (past few) i j m.0 m.1 m.2)
  where
    one_of : length found ≤ place → (i j : ℕ) (pair : ChangedPair) → Contains found pair
        → IsPairOfKinds members pair i j → IsFoundBefore members found place i j
    one_of all i j pair h m = grind (arith, get_or_default)
