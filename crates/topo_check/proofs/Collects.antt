-- Changed pairs that are collected one after another.
use Rattle.std.proofs.Common.{◌≡◌, ◌⊎◌, inl, inr, ⊎_elim, ℕ, ◌<◌, ◌≤◌, List, [], ◌∷◌, ◌++◌, length, get_or, Contains}
use Rattle.std.proofs.Common.{true, false, nat_eq, subst, arith}
use Rattle.std.proofs.lemmas.Bool.{false_from_ne_true, eqb-true, and_parts}
use Rattle.std.proofs.lemmas.List.{get_or_default, length_push}
use Rattle.std.proofs.lemmas.List.Elements.{Contains-push, Contains-push_cases, Contains-append_left}
use Rattle.std.proofs.lemmas.List.Quantifiers.{all_pairs_push}
use Rattle.tin_base.specs.declared.pieces.Piece.{Piece}
use Rattle.tin_base.specs.Triangulation.{Triangulation}
use Rattle.topo_check.specs.declared.comparisons.ChangedPair.{ChangedPair}
use Rattle.topo_check.specs.InsidePairs.{IsChanged, IsUnchanged, is_same_pair, AreDifferentPairs, HasPair, DoesCollect}

-- ---- a pair that is not listed yet

pub same_numbers : (c d : ChangedPair) → is_same_pair c d ≡ true → (c.first ≡ d.first) × (c.second ≡ d.second)
same_numbers c d e = grind (arith, and_parts, nat_eq, eqb-true)

different_push : (xs : List ChangedPair) (c : ChangedPair) → AreDifferentPairs xs → (HasPair xs c.first c.second → ⊥)
    → AreDifferentPairs (xs ++ c ∷ [])
different_push xs c d none =
    all_pairs_push (λ x y. is_same_pair x y ≡ false) xs c d
    (λ k e h. false_from_ne_true (is_same_pair (get_or xs k e) c)
    (λ t. let same = same_numbers (get_or xs k e) c t in none
    (get_or xs k e, (k, h, get_or_default xs k (get_or xs k e) e h), same.0, same.1)))

-- ---- one after another
has_more : (tin : Triangulation) (pieces : List Piece) (ys zs : List ChangedPair) (i j : ℕ)
    → ((c : ChangedPair) → Contains ys c → Contains zs c) → HasPair ys i j ⊎ IsUnchanged tin pieces i j
    → HasPair zs i j ⊎ IsUnchanged tin pieces i j
has_more tin pieces ys zs i j kept (inl has) = inl (has.0, kept has.0 has.1, has.2, has.3)
has_more tin pieces ys zs i j kept (inr same) = inr same

pub collect_more : (tin : Triangulation) (pieces : List Piece) (most : ℕ) (L M N : ℕ → ℕ → Type 0)
    (xs ys zs : List ChangedPair) → DoesCollect tin pieces most L xs ys → DoesCollect tin pieces most M ys zs
    → ((i j : ℕ) → i < j → N i j → L i j ⊎ M i j) → ((i j : ℕ) → i < j → L i j → N i j)
    → ((i j : ℕ) → i < j → M i j → N i j) → ((i j : ℕ) → i < j → j < length pieces → L i j → M i j → ⊥)
    → DoesCollect tin pieces most N xs zs
collect_more tin pieces most L M N xs ys zs first second split from_first from_second apart =
    record {
      longer = omega (arith, first.longer, second.longer);
      kept = λ c h. second.kept c (first.kept c h);
      all = λ few i j less within n.
          ⊎_elim
          (λ l. has_more tin pieces ys zs i j second.kept
          (first.all (omega (arith, few, second.longer)) i j less within l))
          (λ m. second.all few i j less within m)
          (split i j less n);
      only = λ c h.
          ⊎_elim
          (λ mid. ⊎_elim (λ before. inl before) (λ l. inr (l.0, from_first c.first c.second l.0.earlier l.1))
          (first.only c mid))
          (λ m. inr (m.0, from_second c.first c.second m.0.earlier m.1))
          (second.only c h);
      once = λ d other.
          second.once (first.once d (λ i j less within l has. other i j less within (from_first i j less l) has))
          (λ i j less within m has.
          ⊎_elim
          (λ before. other i j less within (from_second i j less m) (has.0, before, has.2, has.3))
          (λ l. apart i j less within (subst (λ (n : ℕ). L n j) has.2 (subst (λ (n : ℕ). L (has.0).first n) has.3 l.1))
          m)
          (first.only has.0 has.1));
    }

pub collect_as : (tin : Triangulation) (pieces : List Piece) (most : ℕ) (L N : ℕ → ℕ → Type 0)
    (xs ys : List ChangedPair) → DoesCollect tin pieces most L xs ys → ((i j : ℕ) → i < j → L i j → N i j)
    → (length ys ≤ most → (i j : ℕ) → i < j → j < length pieces → N i j → L i j) → DoesCollect tin pieces most N xs ys
collect_as tin pieces most L N xs ys collects to from = grind (arith, ⊎_elim)

pub collect_none : (tin : Triangulation) (pieces : List Piece) (most : ℕ) (L : ℕ → ℕ → Type 0) (xs : List ChangedPair)
    → ((i j : ℕ) → i < j → j < length pieces → L i j → IsUnchanged tin pieces i j) → DoesCollect tin pieces most L xs xs
collect_none tin pieces most L xs none = grind (arith)

pub collect_one : (tin : Triangulation) (pieces : List Piece) (most : ℕ) (L : ℕ → ℕ → Type 0) (xs : List ChangedPair)
    (c : ChangedPair) → IsChanged tin pieces c → L c.first c.second
    → ((i j : ℕ) → L i j → (c.first ≡ i) × (c.second ≡ j))
    → DoesCollect tin pieces most L xs (xs ++ c ∷ [])
collect_one tin pieces most L xs c is meant one =
    record {
      longer = omega (arith, length_push xs c);
      kept = λ d h. Contains-append_left xs (c ∷ []) d h;
      all = λ few i j less within l. inl (c, Contains-push xs c, (one i j l).0, (one i j l).1);
      only = λ d h. ⊎_elim (λ before. inl before)
          (λ same. inr (subst (λ (e : ChangedPair). IsChanged tin pieces e × L e.first e.second) same (is, meant)))
          (Contains-push_cases xs c d h);
      once = λ d other. different_push xs c d (λ has. other c.first c.second is.earlier is.in_range meant has);
    }
