-- The text of a ring is that of a list with the first image again.
use Rattle.std.proofs.Common.{◌≡◌, ℕ, List, [], ◌∷◌, ◌++◌, refl, sym, ap, ◌∙◌}
use Rattle.std.proofs.lemmas.List.{append_assoc}
use Rattle.sheet_base.specs.ImageLists.{texts_behind, list_text, ring_text}

-- the texts of two lists, one after the other
behind_append : {X : Type 0} (separator : List ℕ) (text : X → List ℕ) (xs ys : List X)
    → texts_behind separator text (xs ++ ys) ≡ texts_behind separator text xs ++ texts_behind separator text ys
behind_append separator text [] ys = refl
behind_append separator text (x ∷ xs) ys =
    ap (λ (rest : List ℕ). separator ++ (text x ++ rest)) (behind_append separator text xs ys)
    ∙ (ap (λ (rest : List ℕ). separator ++ rest)
    (sym (append_assoc (text x) (texts_behind separator text xs) (texts_behind separator text ys)))
    ∙ sym (append_assoc separator (text x ++ texts_behind separator text xs) (texts_behind separator text ys)))

-- a ring, as a list whose last image is the first
pub ring_again : {X : Type 0} (separator : List ℕ) (text : X → List ℕ) (image : X) (images : List X)
    → ring_text separator text (image ∷ images) ≡ list_text separator text (image ∷ (images ++ image ∷ []))
ring_again separator text image images =
    append_assoc (text image) (texts_behind separator text images) (texts_behind separator text (image ∷ []))
    ∙ ap (λ (rest : List ℕ). text image ++ rest) (sym (behind_append separator text images (image ∷ [])))
