-- The images of a path as text, each by the text that a format has for it, with its separator between them.
use Rattle.std.specs.Prelude.{ℕ, List, [], ◌∷◌, ◌++◌}

-- the texts of images, each after a separator
abbrev pub texts_behind : {X : Type 0} → List ℕ → (X → List ℕ) → List X → List ℕ
texts_behind separator text [] = []
texts_behind separator text (image ∷ images) = separator ++ (text image ++ texts_behind separator text images)

-- the texts of images with a separator between them
abbrev pub list_text : {X : Type 0} → List ℕ → (X → List ℕ) → List X → List ℕ
list_text separator text [] = []
list_text separator text (image ∷ images) = text image ++ texts_behind separator text images

-- the texts of images with a separator between them, and the first image again
abbrev pub ring_text : {X : Type 0} → List ℕ → (X → List ℕ) → List X → List ℕ
ring_text separator text [] = []
ring_text separator text (image ∷ images) =
    list_text separator text (image ∷ images) ++ texts_behind separator text (image ∷ [])
