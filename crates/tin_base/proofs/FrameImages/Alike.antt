-- Points of one place, and two points that are the same mix of some corners in the two frames.
use Rattle.std.proofs.Common.{◌≡◌, ℕ, ◌<◌, ℤ, pos, ◌<ℤ◌, List, [], ◌∷◌, length, map, sum, sym, ◌∙◌, subst, refl, arith}
use Rattle.std.proofs.Math.ListN.{length-map}
use Rattle.std.proofs.lemmas.Int.{ints}
use Rattle.plane_base.specs.Plane.{Point, Same, weighted_sum, IsMix}
use Rattle.plane_base.proofs.MixLaws.Image.{image_unique}
pub use Rattle.plane_base.proofs.MixLaws.Mixes.{same_refl, same_sym, same_trans, same_moved}
use Rattle.tin_base.specs.declared.frames.Frame.{Frame}
use Rattle.tin_base.specs.Triangulation.{Triangulation, other, place, corner_at, places}
use Rattle.tin_base.specs.Soundness.{turn_of_three}
use Rattle.tin_base.specs.Images.{AreLikeMixes}
use Rattle.tin_base.proofs.FrameImages.Weights.{weighed-x, weighed-y, weighed-w, total-ones, HasAll, Spread, spread}

-- ---- mixes of corners
spread_same : (at : ℕ → Point) (ns ks ws : List ℕ) (p : Point) (s : Spread ns ks ws)
    → Same p (weighted_sum ws (map at ks)) → Same p (weighted_sum s.weights (map at ns))
spread_same at ns ks ws p s = grind (arith, same_moved, weighed-x, weighed-y, weighed-w)

-- a mix of some of the corners is a mix of them all, with the same weights in both frames
pub alike_more : (tin : Triangulation) (frame : Frame) (ns ks : List ℕ) (p r : Point) → HasAll ns ks
    → AreLikeMixes tin frame ks p r → AreLikeMixes tin frame ns p r
alike_more tin frame ns ks p r h m =
    let s = spread ns ks m.0 m.1 h in (
      s.weights,
      s.fit,
      subst (λ (n : ℕ). 0 < n) (sym s.all) m.2,
      spread_same (λ n. place frame (corner_at tin n)) ns ks m.0 p s m.3,
      spread_same (λ n. place (other frame) (corner_at tin n)) ns ks m.0 r s m.4,
    )

positive_of : (n : ℕ) (z : ℤ) → 0 < n → z ≡ pos n → pos 0 <ℤ z
positive_of n z h e = omega (arith, ints)

-- a mix of corners has a positive w
pub mix-w : (tin : Triangulation) (frame : Frame) (ws ns : List ℕ) → length ws ≡ length ns → 0 < sum ws
    → pos 0 <ℤ (weighted_sum ws (places tin frame ns)).w
mix-w tin frame ws ns e h = positive_of (sum ws) _ h
    (weighed-w (λ n. place frame (corner_at tin n)) ws ns ∙ total-ones ws ns e)

pub alike_in : (tin : Triangulation) (frame : Frame) (ns : List ℕ) (p r : Point) → AreLikeMixes tin frame ns p r
    → IsMix p (places tin frame ns)
alike_in tin frame ns p r m = (m.0, m.1 ∙ sym (length-map ns (λ n. place frame (corner_at tin n))), m.2, m.3)

-- the same mix in the other frame
pub alike_of : (tin : Triangulation) (frame : Frame) (ns : List ℕ) (p : Point) → IsMix p (places tin frame ns)
    → (r : Point) × (pos 0 <ℤ r.w) × AreLikeMixes tin frame ns p r
alike_of tin frame ns p m =
    let fit : length m.0 ≡ length ns = m.1 ∙ length-map ns (λ n. place frame (corner_at tin n)) in (
      weighted_sum m.0 (places tin (other frame) ns),
      mix-w tin (other frame) m.0 ns fit m.2,
      (m.0, fit, m.2, m.3, same_refl (weighted_sum m.0 (places tin (other frame) ns))),
    )

-- ---- in one triangle, any two images of a point are the same
one_triangle : (tin : Triangulation) (frame : Frame) (a b c : ℕ) (ks ls : List ℕ) → length ks ≡ 3 → length ls ≡ 3
    → 0 < sum ks → 0 < sum ls → pos 0 <ℤ turn_of_three (places tin frame (a ∷ b ∷ c ∷ []))
    → Same (weighted_sum ks (places tin frame (a ∷ b ∷ c ∷ []))) (weighted_sum ls (places tin frame (a ∷ b ∷ c ∷ [])))
    → Same (weighted_sum ks (places tin (other frame) (a ∷ b ∷ c ∷ [])))
    (weighted_sum ls (places tin (other frame) (a ∷ b ∷ c ∷ [])))
one_triangle tin frame a b c (k ∷ l ∷ m ∷ []) (r ∷ s ∷ t ∷ []) e f h i d same =
    image_unique (place frame (corner_at tin a)) (place frame (corner_at tin b)) (place frame (corner_at tin c))
    (place (other frame) (corner_at tin a)) (place (other frame) (corner_at tin b))
    (place (other frame) (corner_at tin c))
    (pos k) (pos l) (pos m) (pos r) (pos s) (pos t) d
    (mix-w tin frame (k ∷ l ∷ m ∷ []) (a ∷ b ∷ c ∷ []) refl h)
    (mix-w tin frame (r ∷ s ∷ t ∷ []) (a ∷ b ∷ c ∷ []) refl i) same
one_triangle tin frame a b c ks ls e f h i d same = absurd (omega arith)

pub alike_once : (tin : Triangulation) (frame : Frame) (ns : List ℕ) (p r s : Point) → pos 0 <ℤ p.w
    → pos 0 <ℤ turn_of_three (places tin frame ns) → AreLikeMixes tin frame ns p r → AreLikeMixes tin frame ns p s
    → Same r s
alike_once tin frame (a ∷ b ∷ c ∷ []) p r s hp d m n =
    let ns : List ℕ = a ∷ b ∷ c ∷ [] in
    let q = weighted_sum m.0 (places tin frame ns) in let q' = weighted_sum n.0 (places tin frame ns) in
    let u = weighted_sum m.0 (places tin (other frame) ns) in let u' = weighted_sum n.0 (places tin (other frame) ns) in
    let same : Same u u' = one_triangle tin frame a b c m.0 n.0 m.1 n.1 m.2 n.2 d
    (same_trans q p q' hp (same_sym p q m.3) n.3) in
    same_trans r u s (mix-w tin (other frame) m.0 ns m.1 m.2) m.4
    (same_trans u u' s (mix-w tin (other frame) n.0 ns n.1 n.2) same (same_sym s u' n.4))
alike_once tin frame ns p r s hp d m n = absurd d.lt
