-- A way through all pairs of pieces, along a list of some of them that ascends.
use Rattle.std.proofs.Common.{◌≡◌, ◌⊎◌, inl, inr, ⊎_elim, ℕ, zero, suc, ◌+◌, ◌<◌, ◌≤◌, List, [], ◌∷◌, ◌++◌, length}
use Rattle.std.proofs.Common.{drop, get_or, All, Contains, refl, sym, subst, drop-cons, arith}
use Rattle.std.specs.List.{AllPairs}
use Rattle.std.proofs.lemmas.Bool.{cases_eq}
use Rattle.std.proofs.lemmas.List.{get_or_default, drop_all}
use Rattle.tin_base.specs.declared.pieces.Piece.{Piece}
use Rattle.topo_check.specs.Changes.{Numbers, DoPrecede, Pair, pair, pairs, with_each, piece_at, no_piece}

abbrev pub numbers : ℕ → ℕ → Numbers
numbers i j = record { first = i; second = j }

-- the pair of numbers is listed
abbrev pub HasNumbers : {X : Type 0} → (X → Numbers) → List X → ℕ → ℕ → Type 0
HasNumbers {X} num xs i j = (x : X) × Contains xs x × ((num x).first ≡ i) × ((num x).second ≡ j)

-- not before the pair of i and j
abbrev pub IsFrom : ℕ → ℕ → Numbers → Type 0
IsFrom i j m = (i < m.first) ⊎ ((m.first ≡ i) × (j ≤ m.second))

-- what is left of a list from the pair of i and j on; of the pairs that are not in it something else is known
pub record AreLeft {X : Type 0} (num : X → Numbers) (count : ℕ) (P : X → Type 0) (U : ℕ → ℕ → Type 0) (i j : ℕ)
    (xs : List X) : Type 0 where
  pub ascending : AllPairs (λ x y. DoPrecede (num x) (num y)) xs
  pub each : All P xs
  pub from : All (λ x. IsFrom i j (num x)) xs
  pub all : (a b : ℕ) → a < b → b < count → IsFrom i j (numbers a b) → HasNumbers num xs a b ⊎ U a b

-- what is to be shown of a list and of pairs, step by step
pub record AreSteps {X : Type 0} (num : X → Numbers) (pieces : List Piece) (P : X → Type 0) (U : ℕ → ℕ → Type 0)
    (Q : List X → List Pair → Type 0) : Type 0 where
  pub inside : (x : X) → P x → ((num x).first < (num x).second) × ((num x).second < length pieces)
  pub none : Q [] []
  pub hit : (x : X) (xs : List X) (ps : List Pair) → P x → Q xs ps
      → Q (x ∷ xs) (pair (piece_at pieces (num x).first) (piece_at pieces (num x).second) ∷ ps)
  pub miss : (i j : ℕ) (xs : List X) (ps : List Pair) → i < j → j < length pieces → U i j → Q xs ps
      → Q xs (pair (piece_at pieces i) (piece_at pieces j) ∷ ps)

-- ---- lists
in_tail : {X : Type 0} (x : X) (xs : List X) (y : X) (k : ℕ) → k < length (x ∷ xs) → get_or (x ∷ xs) k y ≡ y
    → (x ≡ y) ⊎ Contains xs y
in_tail x xs y zero within e = inl e
in_tail x xs y (suc k) within e = inr (k, omega (arith, within), e)

-- ---- what is left
-- after a pair that is not listed
passed : {X : Type 0} (num : X → Numbers) (count : ℕ) (P : X → Type 0) (U : ℕ → ℕ → Type 0) (i j : ℕ) (xs : List X)
    → AreLeft num count P U i j xs → (HasNumbers num xs i j → ⊥) → AreLeft num count P U i (suc j) xs
passed num count P U i j xs left not = record {
  ascending = left.ascending;
  each = left.each;
  from = λ k d h. ⊎_elim (λ less. inl less)
      (λ here. ⊎_elim
      (λ same. absurd (not (get_or xs k d, (k, h, get_or_default xs k (get_or xs k d) d h), here.0, same)))
      (λ other. inr (here.0, omega (arith, here.1, other)))
      (cases_eq (num (get_or xs k d)).second j))
      (left.from k d h);
  all = λ a b less within h. left.all a b less within
      (⊎_elim (λ past. inl past) (λ here. inr (here.0, omega (arith, here.1))) h);
}

-- after the first one that is listed
taken : {X : Type 0} (num : X → Numbers) (count : ℕ) (P : X → Type 0) (U : ℕ → ℕ → Type 0) (x : X) (xs : List X)
    → AreLeft num count P U (num x).first (num x).second (x ∷ xs)
    → AreLeft num count P U (num x).first (suc (num x).second) xs
taken {X = X} num count P U x xs left = record {
  ascending = λ a b d less within. left.ascending (suc a) (suc b) d (omega (arith, less)) (omega (arith, within));
  each = λ k d h. left.each (suc k) d (omega (arith, h));
  from = λ k d h. ⊎_elim (λ less. inl less) (λ here. inr (sym here.0, omega (arith, here.1)))
      (left.ascending 0 (suc k) d (omega arith) (omega (arith, h)));
  all = λ a b less within h.
      ⊎_elim
      (λ has. ⊎_elim
      (λ same. absurd (behind a b (subst (λ (y : X). (num y).first ≡ a) (sym same) has.2)
      (subst (λ (y : X). (num y).second ≡ b) (sym same) has.3) h))
      (λ other. inl (has.0, other, has.2, has.3))
      (in_tail x xs has.0 has.1.0 has.1.1 has.1.2))
      (λ else. inr else)
      (left.all a b less within (⊎_elim (λ past. inl past) (λ here. inr (here.0, omega (arith, here.1))) h));
}
  where
    behind : (a b : ℕ) → (num x).first ≡ a → (num x).second ≡ b
        → IsFrom (num x).first (suc (num x).second) (numbers a b) → ⊥
    behind a b e f (inl past) = omega (arith, e, past)
    behind a b e f (inr here) = omega (arith, f, here.1)

-- after the pairs of a piece
row_done : {X : Type 0} (num : X → Numbers) (count : ℕ) (P : X → Type 0) (U : ℕ → ℕ → Type 0) (i j : ℕ)
    (xs : List X) → ((x : X) → P x → ((num x).first < (num x).second) × ((num x).second < count)) → i < j → count ≤ j
    → AreLeft num count P U i j xs → AreLeft num count P U (suc i) (suc (suc i)) xs
row_done num count P U i j xs inside less past left = grind (arith, get_or, ⊎_elim, cases_eq)

-- the pair of i and j is not listed, where the first one listed is another
not_first : {X : Type 0} (num : X → Numbers) (count : ℕ) (P : X → Type 0) (U : ℕ → ℕ → Type 0) (i j : ℕ) (x : X)
    (xs : List X) → AreLeft num count P U i j (x ∷ xs)
    → ((num x).first ≡ i → (num x).second ≡ j → ⊥) → HasNumbers num (x ∷ xs) i j → ⊥
not_first {X = X} num count P U i j x xs left other has = go has.1.0 has.1.1 has.1.2
  where
    later : (m n : Numbers) → DoPrecede m n → n.first ≡ i → n.second ≡ j → IsFrom i j m → ⊥
    later m n (inl h) e f (inl k) = omega (arith, h, e, k)
    later m n (inl h) e f (inr k) = omega (arith, h, e, k.0)
    later m n (inr h) e f (inl k) = omega (arith, h.0, e, k)
    later m n (inr h) e f (inr k) = omega (arith, h.1, f, k.1)

    go : (k : ℕ) → k < length (x ∷ xs) → get_or (x ∷ xs) k has.0 ≡ has.0 → ⊥
    go zero within e = other (subst (λ (y : X). (num y).first ≡ i) (sym e) has.2)
        (subst (λ (y : X). (num y).second ≡ j) (sym e) has.3)
    go (suc k) within e =
        later (num x) (num (get_or xs k has.0)) (left.ascending 0 (suc k) has.0 (omega arith) within)
        (subst (λ (y : X). (num y).first ≡ i) (sym e) has.2) (subst (λ (y : X). (num y).second ≡ j) (sym e) has.3)
        (left.from 0 x (omega arith))

-- ---- the pair of i and j, before other pairs
one_pair : {X : Type 0} (num : X → Numbers) (pieces : List Piece) (P : X → Type 0) (U : ℕ → ℕ → Type 0)
    (Q : List X → List Pair → Type 0) → AreSteps num pieces P U Q → (i j : ℕ) (ps : List Pair) → i < j
    → j < length pieces
    → ((ys : List X) → AreLeft num (length pieces) P U i (suc j) ys → Q ys ps) → (xs : List X)
    → AreLeft num (length pieces) P U i j xs → Q xs (pair (piece_at pieces i) (piece_at pieces j) ∷ ps)
one_pair {X = X} num pieces P U Q steps i j ps less within rest = here
  where
    unlisted : (ys : List X) → AreLeft num (length pieces) P U i j ys → (HasNumbers num ys i j → ⊥)
        → Q ys (pair (piece_at pieces i) (piece_at pieces j) ∷ ps)
    unlisted ys l not =
        steps.miss i j ys ps less within (⊎_elim (λ has. absurd (not has)) (λ else. else)
        (l.all i j less within (inr (refl, omega arith))))
        (rest ys (passed num (length pieces) P U i j ys l not))

    listed : (y : X) (ys : List X) → AreLeft num (length pieces) P U i j (y ∷ ys) → (num y).first ≡ i
        → (num y).second ≡ j → Q (y ∷ ys) (pair (piece_at pieces i) (piece_at pieces j) ∷ ps)
    listed y ys l f g =
        subst (λ (n : ℕ). Q (y ∷ ys) (pair (piece_at pieces n) (piece_at pieces j) ∷ ps)) f
        (subst (λ (n : ℕ). Q (y ∷ ys) (pair (piece_at pieces (num y).first) (piece_at pieces n) ∷ ps)) g
        (steps.hit y ys ps (l.each 0 y (omega arith))
        (rest ys
        (subst (λ (n : ℕ). AreLeft num (length pieces) P U n (suc j) ys) f
        (subst (λ (n : ℕ). AreLeft num (length pieces) P U (num y).first (suc n) ys) g
        (taken num (length pieces) P U y ys
        (subst (λ (n : ℕ). AreLeft num (length pieces) P U n (num y).second (y ∷ ys)) (sym f)
        (subst (λ (n : ℕ). AreLeft num (length pieces) P U i n (y ∷ ys)) (sym g) l))))))))

    here : (ys : List X) → AreLeft num (length pieces) P U i j ys
        → Q ys (pair (piece_at pieces i) (piece_at pieces j) ∷ ps)
    here [] l = unlisted [] l (λ has. absurd (omega (arith, has.1.1)))
    here (y ∷ ys) l =
        ⊎_elim
        (λ f. ⊎_elim (λ g. listed y ys l f g) (λ g. unlisted (y ∷ ys) l
        (not_first num (length pieces) P U i j y ys l (λ _ same. g same))) (cases_eq (num y).second j))
        (λ f. unlisted (y ∷ ys) l (not_first num (length pieces) P U i j y ys l (λ same _. f same)))
        (cases_eq (num y).first i)

-- ---- the pairs of one piece with those from j on, and then the pairs after it
row : {X : Type 0} (num : X → Numbers) (pieces : List Piece) (P : X → Type 0) (U : ℕ → ℕ → Type 0)
    (Q : List X → List Pair → Type 0) → AreSteps num pieces P U Q → (k i j : ℕ) (xs : List X) → j + k ≡ length pieces
    → i < j
    → AreLeft num (length pieces) P U i j xs → ((ys : List X) → AreLeft num (length pieces) P U (suc i) (suc (suc i)) ys
    → Q ys (pairs (drop (suc i) pieces)))
    → Q xs (with_each (piece_at pieces i) (drop j pieces) ++ pairs (drop (suc i) pieces))
row num pieces P U Q steps zero i j xs e less left next =
    subst (λ (qs : List Piece). Q xs (with_each (piece_at pieces i) qs ++ pairs (drop (suc i) pieces)))
    (sym (drop_all j pieces (omega (arith, e))))
    (next xs (row_done num (length pieces) P U i j xs steps.inside less (omega (arith, e)) left))
row num pieces P U Q steps (suc k) i j xs e less left next =
    subst (λ (qs : List Piece). Q xs (with_each (piece_at pieces i) qs ++ pairs (drop (suc i) pieces)))
    (sym (drop-cons pieces j no_piece (omega (arith, e))))
    (one_pair num pieces P U Q steps i j (with_each (piece_at pieces i) (drop (suc j) pieces)
    ++ pairs (drop (suc i) pieces)) less (omega (arith, e))
    (λ ys l. row num pieces P U Q steps k i (suc j) ys (omega (arith, e)) (omega (arith, less)) l next) xs left)

-- ---- all pairs
walk : {X : Type 0} (num : X → Numbers) (pieces : List Piece) (P : X → Type 0) (U : ℕ → ℕ → Type 0)
    (Q : List X → List Pair → Type 0) → AreSteps num pieces P U Q → (k i : ℕ) (xs : List X) → i + k ≡ length pieces
    → AreLeft num (length pieces) P U i (suc i) xs → Q xs (pairs (drop i pieces))
walk {X = X} num pieces P U Q steps zero i xs e left =
    subst (λ (qs : List Piece). Q xs (pairs qs)) (sym (drop_all i pieces (omega (arith, e)))) (none_left xs left)
  where
    behind : (m : Numbers) → m.first < m.second → m.second < length pieces → IsFrom i (suc i) m → ⊥
    behind m less within (inl h) = omega (arith, e, less, within, h)
    behind m less within (inr h) = omega (arith, e, less, within, h.0)

    none_left : (ys : List X) → AreLeft num (length pieces) P U i (suc i) ys → Q ys []
    none_left [] l = steps.none
    none_left (y ∷ ys) l = let in_it = steps.inside y (l.each 0 y (omega arith)) in absurd
        (behind (num y) in_it.0 in_it.1 (l.from 0 y (omega arith)))
walk num pieces P U Q steps (suc k) i xs e left =
    subst (λ (qs : List Piece). Q xs (pairs qs)) (sym (drop-cons pieces i no_piece (omega (arith, e))))
    (row num pieces P U Q steps k i (suc i) xs (omega (arith, e)) (omega arith) left
    (λ ys l. walk num pieces P U Q steps k (suc i) ys (omega (arith, e)) l))

-- a list that ascends, and of the pairs that are not in it something else
pub in_order : {X : Type 0} (num : X → Numbers) (pieces : List Piece) (P : X → Type 0) (U : ℕ → ℕ → Type 0)
    (Q : List X → List Pair → Type 0) → AreSteps num pieces P U Q → (xs : List X)
    → AllPairs (λ x y. DoPrecede (num x) (num y)) xs → All P xs
    → ((a b : ℕ) → a < b → b < length pieces → HasNumbers num xs a b ⊎ U a b) → Q xs (pairs pieces)
in_order num pieces P U Q steps xs ascending each all =
    walk num pieces P U Q steps (length pieces) 0 xs (omega arith) (record {
      ascending = ascending;
      each = each;
      from = λ k d h. let in_it = steps.inside (get_or xs k d) (each k d h) in from_start (num (get_or xs k d)) in_it.0;
      all = λ a b less within _. all a b less within;
    })
  where
    from_start : (m : Numbers) → m.first < m.second → IsFrom 0 1 m
    from_start m less = ⊎_elim (λ same. inr (same, omega (arith, less))) (λ other. inl (omega (arith, other)))
        (cases_eq m.first 0)
