-- What the changes of pieces say of each two of them.
use Rattle.std.proofs.Common.{◌≡◌, ◌⊎◌, inl, inr, ℕ, suc, ◌<◌, List, [], ◌∷◌, ◌++◌, length, All, slice_index_or, Option}
use Rattle.std.proofs.Common.{None, Some, refl, sym, subst, arith}
use Rattle.std.specs.Prelude.{AllPairs}
use Rattle.std.specs.List.{AllByRecursion}
use Rattle.report_text.specs.Reports.{IsChanged}
use Rattle.std.proofs.lemmas.List.Elements.{All-cons}
use Rattle.std.proofs.lemmas.List.Kept.{AllPairs-cons}
use Rattle.tin_base.specs.declared.pieces.Change.{Change}
use Rattle.tin_base.specs.declared.pieces.Piece.{Piece}
use Rattle.tin_base.specs.Triangulation.{Triangulation}
use Rattle.topo_check.specs.Changes.{IsChangeOf, Pair, pair, with_each, pairs, put, AreChangesOf, AreChanges}
use Rattle.migrate_mode.specs.KeptRelations.{KeepTheirRelation, IsOfSomePair, IsAmong, AreAllAndOnly}

-- ---- what is so of each of some pairs
Each : (Pair → Type 0) → List Pair → Type 0
Each P [] = Unit {0}
Each P (x ∷ xs) = P x × Each P xs

each_of : (P Q : Pair → Type 0) (xs : List Pair) → ((x : Pair) → P x → Q x) → Each P xs → Each Q xs
unfolding Each
each_of P Q [] f h = tt
each_of P Q (x ∷ xs) f h = (f x h.0, each_of P Q xs f h.1)

each_join : (P : Pair → Type 0) (xs ys : List Pair) → Each P xs → Each P ys → Each P (xs ++ ys)
unfolding Each
each_join P [] ys h k = k
each_join P (x ∷ xs) ys h k = (h.0, each_join P xs ys h.1 k)

each_split : (P : Pair → Type 0) (xs ys : List Pair) → Each P (xs ++ ys) → Each P xs × Each P ys
unfolding Each
each_split P [] ys h = (tt, h)
each_split P (x ∷ xs) ys h = let (front, back) = each_split P xs ys h.1 in ((h.0, front), back)

each_with : (P : Pair → Type 0) (p : Piece) (qs : List Piece)
    → ((j : ℕ) (d : Piece) → j < length qs → P (pair p (slice_index_or qs j d))) → Each P (with_each p qs)
unfolding Each
each_with P p [] h = tt
each_with P p (q ∷ qs) h = (h 0 q (omega arith), each_with P p qs (λ j d b. h (suc j) d (omega arith)))

with_all : (R : Piece → Piece → Type 0) (p : Piece) (qs : List Piece) → Each (λ x. R x.first x.second) (with_each p qs)
    → All (R p) qs
unfolding Each
with_all R p [] h = λ k d b. absurd (omega arith)
with_all R p (q ∷ qs) h = All-cons (R p) q qs h.0 (with_all R p qs h.1)

-- what is so of each of all pairs is so of each piece with each later one
all_pairs : (R : Piece → Piece → Type 0) (ps : List Piece) → Each (λ x. R x.first x.second) (pairs ps) → AllPairs R ps
all_pairs R [] h = λ i j d less within. absurd (omega arith)
all_pairs R (p ∷ ps) h =
    let (front, back) = each_split (λ x. R x.first x.second) (with_each p ps) (pairs ps) h in
    AllPairs-cons R p ps (with_all R p ps front) (all_pairs R ps back)

-- ---- the pairs of a list
record IsPairOf (ps : List Piece) (x : Pair) : Type 0 where
  i : ℕ
  j : ℕ
  d : Piece
  less : i < j
  within : j < length ps
  first : slice_index_or ps i d ≡ x.first
  second : slice_index_or ps j d ≡ x.second

pairs_are : (ps : List Piece) → Each (IsPairOf ps) (pairs ps)
unfolding Each
pairs_are [] = tt
pairs_are (p ∷ ps) =
    each_join (IsPairOf (p ∷ ps)) (with_each p ps) (pairs ps)
    (each_with (IsPairOf (p ∷ ps)) p ps (λ j d b.
    record { i = 0; j = suc j; d = d; less = omega arith; within = omega arith; first = refl; second = refl }))
    (each_of (IsPairOf ps) (IsPairOf (p ∷ ps)) (pairs ps)
    (λ x h. record {
      i = suc h.i;
      j = suc h.j;
      d = h.d;
      less = omega (arith, h.less);
      within =
          omega (arith, h.within);
      first = h.first;
      second = h.second;
    }) (pairs_are ps))

-- ---- the changes
among_put : (tin : Triangulation) (here : Option Change) (later : List Change) (p q : Piece) → IsAmong tin later p q
    → IsAmong tin (put here later) p q
among_put tin None later p q h = h
among_put tin (Some change) later p q (other, (k, within, is), of) = (other, (suc k, omega (arith, within), is), of)

IsToldIn : Triangulation → List Change → Pair → Type 0
IsToldIn tin changes x = KeepTheirRelation tin x.first x.second ⊎ IsAmong tin changes x.first x.second

told_here : (tin : Triangulation) (x : Pair) (here : Option Change) (later : List Change)
    → IsChangeOf tin x.first x.second here → IsToldIn tin (put here later) x
unfolding IsToldIn
told_here tin x None later h = inl h
told_here tin x (Some change) later h = inr (change, (0, omega arith, refl), h)

told_later : (tin : Triangulation) (here : Option Change) (later : List Change) (x : Pair) → IsToldIn tin later x
    → IsToldIn tin (put here later) x
unfolding IsToldIn
told_later tin here later x (inl kept) = inl kept
told_later tin here later x (inr among) = inr (among_put tin here later x.first x.second among)

each_told : (tin : Triangulation) (xs : List Pair) (changes : List Change) → AreChangesOf tin xs changes
    → Each (IsToldIn tin changes) xs
unfolding Each
each_told tin [] changes h = tt
each_told tin (x ∷ xs) changes (here, later, of, others, is) =
    subst (λ (cs : List Change). Each (IsToldIn tin cs) (x ∷ xs)) (sym is) (
      told_here tin x here later of,
      each_of (IsToldIn tin later) (IsToldIn tin (put here later)) xs
          (told_later tin here later) (each_told tin xs later others),
    )

-- the change is that of a pair with this property
IsFrom : Triangulation → (Pair → Type 0) → Change → Type 0
IsFrom tin P change = (x : Pair) × P x × IsChangeOf tin x.first x.second (Some change)

from_put : (tin : Triangulation) (P : Pair → Type 0) (x : Pair) (here : Option Change) (later : List Change) → P x
    → IsChangeOf tin x.first x.second here → All (IsFrom tin P) later → All (IsFrom tin P) (put here later)
unfolding IsFrom
from_put tin P x None later is of others = others
from_put tin P x (Some change) later is of others = All-cons (IsFrom tin P) change later (x, is, of) others

each_from : (tin : Triangulation) (P : Pair → Type 0) (xs : List Pair) (changes : List Change)
    → AreChangesOf tin xs changes → Each P xs → All (IsFrom tin P) changes
unfolding Each
each_from tin P [] changes h each = subst (λ (cs : List Change). All (IsFrom tin P) cs) (sym h)
    (λ k d b. absurd (omega arith))
each_from tin P (x ∷ xs) changes (here, later, of, others, is) each =
    subst (λ (cs : List Change). All (IsFrom tin P) cs) (sym is)
    (from_put tin P x here later each.0 of (each_from tin P xs later others each.1))

of_pair : (tin : Triangulation) (pieces : List Piece) (change : Change) → IsFrom tin (IsPairOf pieces) change
    → IsOfSomePair tin pieces change
unfolding IsFrom
of_pair tin pieces change (x, h, of) = (
  h.i,
  h.j,
  h.d,
  h.less,
  h.within,
  subst (λ (p : Piece). IsChangeOf tin p (slice_index_or pieces h.j h.d)
      (Some change)) (sym h.first) (subst (λ (q : Piece). IsChangeOf tin x.first q (Some change)) (sym h.second) of),
)

told_so : (tin : Triangulation) (changes : List Change) (x : Pair) → IsToldIn tin changes x
    → KeepTheirRelation tin x.first x.second ⊎ IsAmong tin changes x.first x.second
unfolding IsToldIn
told_so tin changes x h = h

pub all_and_only : (tin : Triangulation) (pieces : List Piece) (changes : List Change) → AreChanges tin pieces changes
    → AreAllAndOnly tin pieces changes
all_and_only tin pieces changes h = record {
  all = all_pairs (λ p q. KeepTheirRelation tin p q ⊎ IsAmong tin changes p q) pieces
      (each_of (IsToldIn tin changes) (λ x. KeepTheirRelation tin x.first x.second
      ⊎ IsAmong tin changes x.first x.second) (pairs pieces) (told_so tin changes)
      (each_told tin (pairs pieces) changes h));
  only = λ k d b. of_pair tin pieces (slice_index_or changes k d)
      (each_from tin (IsPairOf pieces) (pairs pieces) changes h (pairs_are pieces) k d b);
}

pub all_keep : (tin : Triangulation) (pieces : List Piece) → AreChanges tin pieces []
    → AllPairs (KeepTheirRelation tin) pieces
all_keep tin pieces h = λ i j d less within. let are =
    all_and_only tin pieces [] h in kept _ _ (are.all i j d less within)
  where
    kept : (p q : Piece) → KeepTheirRelation tin p q ⊎ IsAmong tin [] p q → KeepTheirRelation tin p q
    kept p q (inl h) = h
    kept p q (inr (change, (k, within, is), of)) = absurd (omega (arith, within))

-- ---- what a report asks of changes
one_changed : (tin : Triangulation) (x : Pair) (here : Option Change) (later : List Change)
    → IsChangeOf tin x.first x.second here → AllByRecursion IsChanged later → AllByRecursion IsChanged (put here later)
one_changed tin x None later of h = h
one_changed tin x (Some change) later of h = (of.4, h)

of_pairs : (tin : Triangulation) (xs : List Pair) (changes : List Change) → AreChangesOf tin xs changes
    → AllByRecursion IsChanged changes
of_pairs tin [] changes h = subst (λ (cs : List Change). AllByRecursion IsChanged cs) (sym h) tt
of_pairs tin (x ∷ xs) changes (here, later, of, others, is) = grind (arith, one_changed, (of_pairs tin xs later others))

pub all_changed : (tin : Triangulation) (pieces : List Piece) (changes : List Change) → AreChanges tin pieces changes
    → AllByRecursion IsChanged changes
all_changed tin pieces changes h = of_pairs tin (pairs pieces) changes h
