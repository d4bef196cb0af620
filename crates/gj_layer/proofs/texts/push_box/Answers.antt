-- Answers to the goals of `push_box` in src/texts.rt.
use Rattle.std.proofs.Common.{◌≡◌, ◌++◌, ◌∷◌, [], List, ℕ, append_assoc, arith}
use Rattle.std.proofs.lemmas.Int.{to_z-of_z}
use Rattle.gj_layer.proofs.texts.push_box.Goals as goal

joined_box : (out a b : List ℕ) → (((((out ++ 91 ∷ []) ++ a) ++ 44 ∷ []) ++ b) ++ 93 ∷ []) ≡ out
    ++ (91 ∷ (a ++ (44 ∷ (b ++ 93 ∷ []))))
joined_box out a b = simp append_assoc

pub returns : goal.returns
returns c = grind (arith, to_z-of_z, joined_box)
