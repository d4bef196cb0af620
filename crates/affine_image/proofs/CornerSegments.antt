-- Points on the segment between two corners, and their images.
use Rattle.std.proofs.Common.{◌≡◌, ℕ, ◌<◌, ℤ, pos, ◌+ℤ◌, ◌-ℤ◌, ◌*ℤ◌, ◌<ℤ◌, [], ◌∷◌, length, sum, ap, ap₂, sym, ◌∙◌}
use Rattle.std.proofs.Common.{refl, arith}
use Rattle.std.proofs.lemmas.Int.{ints}
use Rattle.integer_ring.proofs.Ring.{num, ◌⊕◌, ◌⊖◌, ◌⊗◌}
use Rattle.integer_ring.proofs.Order.{to_nat, ≤-to-nonneg}
use Rattle.integer_ring.proofs.Claims.{◌≐◌, eqn, ◌⊞◌, ◌because◌, ◌⇒◌, follows, solve}
use Rattle.frac128.specs.Rounding.{half_up_of}
use Rattle.plane_base.specs.Plane.{Point, Same, weighted_sum, whole, along, IsNearAll}
use Rattle.plane_base.specs.declared.shapes.Pt.{Pt}
use Rattle.plane_base.proofs.MixLaws.Along.{along-w}
use Rattle.tin_base.specs.declared.frames.Frame.TheVariants.{Source, Target}
use Rattle.tin_base.specs.Triangulation.{Triangulation, place, corner_at, numbers_of}
use Rattle.tin_base.specs.Images.{AreLikeMixes}
use Rattle.tin_base.specs.Limits.{IsWithinLimits}
use Rattle.tin_base.proofs.TriangleLemmas.TriangleCorners.{near_points}
use Rattle.tin_base.proofs.FrameImages.Alike.{same_refl, same_moved, alike_more}
use Rattle.affine_image.specs.RoundedImages.{rounded_point}
use Rattle.affine_image.specs.Cuts.{cut_of}
use Rattle.affine_image.specs.Laws.{CutsAreImages}
use Rattle.affine_image.specs.InsideWeights.{numerator}
use Rattle.affine_image.specs.declared.weights.Weights.{Weights}
use Rattle.affine_image.proofs.HalfUp.{same_rounded}
use Rattle.affine_image.proofs.WeightedImages.{AreMixed}
use Rattle.affine_image.proofs.Near.{itself, turned}

-- ---- the corners of an edge and its first corner again are near each other
pub edge_is_near : (tin : Triangulation) (p q : ℕ) (a b : Pt) → IsWithinLimits tin → p < length tin.corners
    → q < length tin.corners → whole a ≡ place Target (corner_at tin p) → whole b ≡ place Target (corner_at tin q)
    → IsNearAll a b a
edge_is_near tin p q a b limits hp hq ea eb =
    let near = near_points tin Target p q a b limits hp hq ea eb in (near, itself a, turned a b near)

-- ---- what is rounded
spelled : (n d a b u v w : ℤ) → u ≡ n → v ≡ pos 0 → w ≡ d
    → (w -ℤ u -ℤ v) *ℤ a +ℤ u *ℤ b +ℤ v *ℤ a ≡ (d -ℤ n) *ℤ a +ℤ n *ℤ b
spelled =
    follows 7 (λ n d a b u v w. u ≐ n ⇒ v ≐ num (pos 0) ⇒ w ≐ d ⇒ (w ⊖ u ⊖ v) ⊗ a ⊕ u ⊗ b ⊕ v ⊗ a ≐ (d ⊖ n) ⊗ a ⊕ n
    ⊗ b because eqn 0 (b ⊖ a) ⊞ eqn 2 a) tt

on_axis : (n d a b u v w : ℤ) → u ≡ n → v ≡ pos 0 → w ≡ d
    → ((w -ℤ u -ℤ v) *ℤ a +ℤ u *ℤ b +ℤ v *ℤ a) *ℤ ((d -ℤ n) *ℤ pos 1 +ℤ n *ℤ pos 1) ≡ ((d -ℤ n) *ℤ a +ℤ n *ℤ b) *ℤ w
on_axis n d a b u v w eu ev ew =
    ap (λ (z : ℤ). z *ℤ ((d -ℤ n) *ℤ pos 1 +ℤ n *ℤ pos 1)) (spelled n d a b u v w eu ev ew)
    ∙ solve 4 (λ n d a b. ((d ⊖ n) ⊗ a ⊕ n ⊗ b) ⊗ ((d ⊖ n) ⊗ num (pos 1) ⊕ n ⊗ num (pos 1)) ≐ ((d ⊖ n) ⊗ a ⊕ n ⊗ b)
    ⊗ d) tt n d a b
    ∙ ap (λ (z : ℤ). ((d -ℤ n) *ℤ a +ℤ n *ℤ b) *ℤ z) (sym ew)

abbrev at : ℤ → ℤ → Pt
at x y = record { x = x; y = y }

pub cut_is : (tin : Triangulation) (p q : ℕ) (a b r : Pt) (n d : ℤ) (w : Weights)
    → whole a ≡ place Target (corner_at tin p) → whole b ≡ place Target (corner_at tin q) → pos 0 <ℤ d
    → w.second ≡ n → w.third ≡ pos 0 → w.whole ≡ d → AreMixed (record { a = a; b = b; c = a }) w r
    → r ≡ rounded_point (cut_of tin Target p q n d)
cut_is tin p q a b r n d w ea eb h eu ev ew is =
    let z = (d -ℤ n) *ℤ pos 1 +ℤ n *ℤ pos 1 in
    let x : r.x ≡ half_up_of ((d -ℤ n) *ℤ a.x +ℤ n *ℤ b.x) z = is.x
    ∙ same_rounded (numerator w a.x b.x a.x) w.whole ((d -ℤ n) *ℤ a.x +ℤ n *ℤ b.x) z w.positive (along-w n d h)
    (on_axis n d a.x b.x w.second w.third w.whole eu ev ew) in
    let y : r.y ≡ half_up_of ((d -ℤ n) *ℤ a.y +ℤ n *ℤ b.y) z = is.y
    ∙ same_rounded (numerator w a.y b.y a.y) w.whole ((d -ℤ n) *ℤ a.y +ℤ n *ℤ b.y) z w.positive (along-w n d h)
    (on_axis n d a.y b.y w.second w.third w.whole eu ev ew) in
    let there : r ≡ rounded_point (along (whole a) (whole b) n d) = ap₂ at x y in
    there ∙ ap₂ (λ (u v : Point). rounded_point (along u v n d)) ea eb

-- ---- it is an image
one_axis : (k l n d a b : ℤ) → n ≡ l → d -ℤ n ≡ k → (d -ℤ n) *ℤ a +ℤ n *ℤ b ≡ k *ℤ a +ℤ (l *ℤ b +ℤ pos 0)
one_axis = follows 6 (λ k l n d a b. n ≐ l ⇒ d ⊖ n ≐ k ⇒ (d ⊖ n) ⊗ a ⊕ n ⊗ b ≐ k ⊗ a
    ⊕ (l ⊗ b ⊕ num (pos 0)) because eqn 0 b ⊞ eqn 1 a) tt

along_weighed : (p q r : Point) (n d : ℤ) (k l : ℕ) → n ≡ pos l → d -ℤ n ≡ pos k → Same r (along p q n d)
    → Same r (weighted_sum (k ∷ l ∷ []) (p ∷ q ∷ []))
along_weighed p q r n d k l el ek same = grind (arith, same_moved, one_axis)

some_weight : (n d : ℤ) (k l : ℕ) → n ≡ pos l → d -ℤ n ≡ pos k → pos 0 <ℤ d → 0 < sum (k ∷ l ∷ [])
some_weight n d k l e f h = omega (arith, ints)

pub cuts_are_images : CutsAreImages
cuts_are_images tin t p q n d r ht hp hq param same =
    let l = to_nat n param.1 in let k = to_nat (d -ℤ n) (≤-to-nonneg n d param.2) in
    let image = cut_of tin Target p q n d in
    let like : AreLikeMixes tin Source (p ∷ q ∷ []) r image = (
      k.0 ∷ l.0 ∷ [],
      refl,
      some_weight n d k.0 l.0 l.1 k.1 param.0,
      along_weighed (place Source (corner_at tin p)) (place Source (corner_at tin q)) r n d k.0 l.0 l.1 k.1 same,
      along_weighed (place Target (corner_at tin p)) (place Target (corner_at tin q)) image n d k.0 l.0 l.1 k.1
          (same_refl image),
    ) in (
      image,
      along-w n d param.0,
      (
        t,
        ht,
        alike_more tin Source (numbers_of tin t) (p ∷ q ∷ []) r image (hp, (hq, tt))
            like,
      ),
      refl,
    )
