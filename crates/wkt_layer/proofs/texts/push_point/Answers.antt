-- Answers to the goals of `push_point` in src/texts.rt.
use Rattle.std.proofs.Common.{◌≡◌, ◌++◌, ◌∷◌, [], List, ℕ, append_assoc, ap, ◌∙◌, rules}
use Rattle.std.specs.Prelude.{FitsSigned}
use Rattle.std.proofs.lemmas.Int.{to_z-of_z}
use mir.Syntax.{w64}
use Rattle.mm_decimal.specs.MetresTexts.{mm_text}
use Rattle.wkt_layer.proofs.texts.push_point.Goals as goal

joined_point : (out x y : List ℕ) → (((out ++ x) ++ 32 ∷ []) ++ y) ≡ out ++ (x ++ (32 ∷ y))
joined_point out x y = simp append_assoc

pub returns : goal.returns
returns c =
    let fits_x : FitsSigned w64 c.args.point.x = search rules in
    let fits_y : FitsSigned w64 c.args.point.y = search rules in
    let first = simp to_z-of_z at c.in_ok-push_mm.ensures in
    let second = simp to_z-of_z at c.in_ok-push_mm-2.ensures in
    let x = mm_text c.args.point.x in let y = mm_text c.args.point.y in
    second ∙ ap (λ t. t ++ y) (c.in_ok-push.ensures.items ∙ ap (λ t. t ++ 32 ∷ []) first)
    ∙ joined_point c.args.out.now.items x y
