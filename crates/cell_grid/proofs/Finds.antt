-- Numbers that are found one after another.
use Rattle.std.proofs.Common.{◌≡◌, ◌⊎◌, ℕ, List, [], ◌∷◌, ◌++◌, Contains, inl, inr, ⊎_elim, sym, subst}
use Rattle.std.proofs.lemmas.List.Elements.{Contains-push, Contains-push_cases, Contains-append_left}
use Rattle.plane_base.specs.declared.shapes.Rect.{Rect}
use Rattle.cell_grid.specs.Boxes.{IsBoxAt}
use Rattle.cell_grid.specs.InsideSearches.{DoesFind}

pub find_more : (boxes : List Rect) (r : Rect) (L M N : ℕ → Type 0) (xs ys zs : List ℕ) → DoesFind boxes r L xs ys
    → DoesFind boxes r M ys zs
    → ((n : ℕ) → N n → IsBoxAt boxes r n → L n ⊎ M n) → DoesFind boxes r N xs zs
find_more boxes r L M N xs ys zs first second split =
    record {
      kept = λ n h. second.kept n (first.kept n h);
      found = λ n l near. ⊎_elim (λ a. second.kept n (first.found n a near)) (λ b. second.found n b near)
          (split n l near);
      near = λ n h. ⊎_elim (λ mid. first.near n mid) (λ near. inr near) (second.near n h);
    }

pub find_as : (boxes : List Rect) (r : Rect) (L N : ℕ → Type 0) (xs ys : List ℕ) → DoesFind boxes r L xs ys
    → ((n : ℕ) → N n → IsBoxAt boxes r n → L n) → DoesFind boxes r N xs ys
find_as boxes r L N xs ys finds told =
    record { kept = finds.kept; found = λ n l near. finds.found n (told n l near) near; near = finds.near }

-- the number of a box that shares a point is put after the others
pub find_one : (boxes : List Rect) (r : Rect) (k : ℕ) (xs ys : List ℕ) → IsBoxAt boxes r k → ys ≡ xs ++ k ∷ []
    → DoesFind boxes r (λ n. n ≡ k) xs ys
find_one boxes r k xs ys near e =
    subst (λ (l : List ℕ). DoesFind boxes r (λ n. n ≡ k) xs l) (sym e) (record {
      kept = λ n h. Contains-append_left xs (k ∷ []) n h;
      found = λ n same _. subst (λ (m : ℕ). Contains (xs ++ k ∷ []) m) (sym same) (Contains-push xs k);
      near = λ n h. ⊎_elim (λ before. inl before) (λ same. inr (subst (λ (m : ℕ). IsBoxAt boxes r m) same near))
          (Contains-push_cases xs k n h);
    })
