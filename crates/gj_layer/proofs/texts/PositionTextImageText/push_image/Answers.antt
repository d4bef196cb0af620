-- Answers to the goals of `push_image` of positions in src/texts.rt.
use Rattle.std.proofs.Common.{◌≡◌, ◌++◌, ◌∷◌, [], List, ℕ, append_assoc, arith}
use Rattle.std.proofs.lemmas.Int.{to_z-of_z}
use Rattle.gj_layer.proofs.texts.PositionTextImageText.push_image.Goals as goal

joined_image : (out numbers : List ℕ) → (((out ++ 91 ∷ []) ++ numbers) ++ 93 ∷ []) ≡ out ++ (91 ∷ (numbers ++ 93 ∷ []))
joined_image out numbers = simp append_assoc

pub returns : goal.returns
returns c = grind (arith, to_z-of_z, joined_image)
