-- Answers to the goals of `push_numbers` in src/texts.rt.
use Rattle.std.proofs.Common.{◌≡◌, ◌++◌, ◌∷◌, [], List, ℕ, append_assoc, arith}
use Rattle.std.proofs.lemmas.Int.{to_z-of_z}
use Rattle.gj_layer.proofs.texts.push_numbers.Goals as goal

joined_numbers : (out x y height : List ℕ) → ((((out ++ x) ++ 44 ∷ []) ++ y) ++ height) ≡ out
    ++ (x ++ (44 ∷ (y ++ height)))
joined_numbers out x y height = simp append_assoc

pub returns : goal.returns
returns c = grind (arith, to_z-of_z, joined_numbers)
