-- The weights of a point of a triangle, by its turns, and the image that they give.
use Rattle.std.proofs.Common.{◌≡◌, ℕ, ◌<◌, ℤ, pos, ◌+ℤ◌, ◌-ℤ◌, ◌*ℤ◌, ◌≤ℤ◌, ◌<ℤ◌, negsuc, List, [], ◌∷◌, length, ap, ap₂}
use Rattle.std.proofs.Common.{sym, ◌∙◌, subst, arith}
use Rattle.std.proofs.Math.ListN.{length-map}
use lib.Signed.{lt_z_yes}
use Rattle.integer_ring.proofs.Ring.{num, ◌⊕◌, ◌⊖◌, ◌⊗◌}
use Rattle.integer_ring.proofs.Claims.{◌≐◌, ◌≼◌, gap, eqn, ◌⊞◌, ◌because◌, ◌⇒◌, follows}
use Rattle.frac128.specs.Rounding.{half_up_of}
use Rattle.plane_base.specs.Plane.{Point, Same, turn_of, weighted_sum, whole, corners_of, holds_of}
use Rattle.plane_base.specs.declared.shapes.Pt.{Pt}
use Rattle.plane_base.specs.declared.shapes.Tri.{Tri}
use Rattle.plane_base.proofs.MixLaws.Turns.{turn_split}
use Rattle.plane_base.proofs.TriangleLaws.InTriangle.{turns_of_mix}
use Rattle.plane_base.proofs.MixLaws.Proportions.{weights_are_turns}
use Rattle.tin_base.specs.declared.frames.Frame.TheVariants.{Source, Target}
use Rattle.tin_base.specs.Triangulation.{Triangulation, place, corner_at, places, numbers_of, IsInTriangle}
use Rattle.tin_base.proofs.FrameImages.Alike.{mix-w, same_refl}
use Rattle.affine_image.specs.RoundedImages.{IsRoundedImage}
use Rattle.affine_image.specs.InsideWeights.{numerator}
use Rattle.affine_image.specs.declared.weights.Weights.{Weights}
use Rattle.affine_image.proofs.HalfUp.{same_rounded}

abbrev NonNeg : ℤ → Type 0
NonNeg z = pos 0 ≤ℤ z

one : pos 0 <ℤ pos 1
one = lt_z_yes tt

turns : (t : Tri) (p : Pt) → pos 0 <ℤ turn_of (whole t.a) (whole t.b) (whole t.c) → holds_of t p
    → (pos 0 ≤ℤ turn_of (whole t.a) (whole t.b) (whole p)) × (pos 0 ≤ℤ turn_of (whole t.b) (whole t.c) (whole p))
    × (pos 0 ≤ℤ turn_of (whole t.c) (whole t.a) (whole p))
turns t p h inside = turns_of_mix (whole t.a) (whole t.b) (whole t.c) (whole p) one one one one h inside

-- u and v are the weights of the second and the third corner
pub not_negative : (t : Tri) (p : Pt) (u v : ℤ) → pos 0 <ℤ turn_of (whole t.a) (whole t.b) (whole t.c) → holds_of t p
    → u ≡ turn_of (whole t.c) (whole t.a) (whole p) → v ≡ turn_of (whole t.a) (whole t.b) (whole p)
    → (pos 0 ≤ℤ u) × (pos 0 ≤ℤ v)
not_negative t p u v h inside eu ev =
    let q = turns t p h inside in (subst NonNeg (sym eu) q.2, subst NonNeg (sym ev) q.0)

rest : (d v r u : ℤ) → pos 1 *ℤ d ≡ pos 1 *ℤ v +ℤ pos 1 *ℤ r +ℤ pos 1 *ℤ u → pos 0 ≤ℤ r → (u +ℤ v) ≤ℤ d
rest =
    follows 4 (λ d v r u. num (pos 1) ⊗ d ≐ num (pos 1) ⊗ v ⊕ num (pos 1) ⊗ r ⊕ num (pos 1) ⊗ u ⇒ num (pos 0) ≼ r ⇒ u
    ⊕ v ≼ d because gap 1 ⊞ eqn 0 (num (negsuc 0))) tt

pub within_whole : (t : Tri) (p : Pt) (u v d : ℤ) → pos 0 <ℤ turn_of (whole t.a) (whole t.b) (whole t.c) → holds_of t p
    → u ≡ turn_of (whole t.c) (whole t.a) (whole p) → v ≡ turn_of (whole t.a) (whole t.b) (whole p)
    → d ≡ turn_of (whole t.a) (whole t.b) (whole t.c) → (u +ℤ v) ≤ℤ d
within_whole t p u v d h inside eu ev ed =
    let a = whole t.a in let b = whole t.b in let c = whole t.c in
    let below : (turn_of c a (whole p) +ℤ turn_of a b (whole p)) ≤ℤ turn_of a b c =
    rest (turn_of a b c) (turn_of a b (whole p)) (turn_of b c (whole p)) (turn_of c a (whole p))
    (turn_split a b c (whole p)) (turns t p h inside).1 in
    subst (λ (z : ℤ). (u +ℤ v) ≤ℤ z) (sym ed)
    (subst (λ (z : ℤ). (u +ℤ z) ≤ℤ turn_of a b c) (sym ev)
    (subst (λ (z : ℤ). (z +ℤ turn_of a b (whole p)) ≤ℤ turn_of a b c) (sym eu) below))

pub positive_by : (t : Tri) (d : ℤ) → pos 0 <ℤ turn_of (whole t.a) (whole t.b) (whole t.c)
    → d ≡ turn_of (whole t.a) (whole t.b) (whole t.c) → pos 0 <ℤ d
positive_by t d h e = subst (λ (z : ℤ). pos 0 <ℤ z) (sym e) h

-- ---- the image
-- weights k, l and m of a point, and its weights u and v out of d, give one number
on_axis : (k l m u v d a b c : ℤ) → (k *ℤ pos 1 +ℤ (l *ℤ pos 1 +ℤ (m *ℤ pos 1 +ℤ pos 0))) *ℤ u ≡ pos 1 *ℤ (l *ℤ d)
    → (k *ℤ pos 1 +ℤ (l *ℤ pos 1 +ℤ (m *ℤ pos 1 +ℤ pos 0))) *ℤ v ≡ pos 1 *ℤ (m *ℤ d)
    → ((d -ℤ u -ℤ v) *ℤ a +ℤ u *ℤ b +ℤ v *ℤ c) *ℤ (k *ℤ pos 1 +ℤ (l *ℤ pos 1 +ℤ (m *ℤ pos 1 +ℤ pos 0)))
    ≡ (k *ℤ a +ℤ (l *ℤ b +ℤ (m *ℤ c +ℤ pos 0))) *ℤ d
on_axis =
    follows 9 (λ k l m u v d a b c.
    (k ⊗ num (pos 1) ⊕ (l ⊗ num (pos 1) ⊕ (m ⊗ num (pos 1) ⊕ num (pos 0)))) ⊗ u ≐ num (pos 1) ⊗ (l ⊗ d)
    ⇒ (k ⊗ num (pos 1) ⊕ (l ⊗ num (pos 1) ⊕ (m ⊗ num (pos 1) ⊕ num (pos 0)))) ⊗ v ≐ num (pos 1) ⊗ (m ⊗ d)
    ⇒ ((d ⊖ u ⊖ v) ⊗ a ⊕ u ⊗ b ⊕ v ⊗ c) ⊗ (k ⊗ num (pos 1) ⊕ (l ⊗ num (pos 1) ⊕ (m ⊗ num (pos 1) ⊕ num (pos 0))))
    ≐ (k ⊗ a ⊕ (l ⊗ b ⊕ (m ⊗ c ⊕ num (pos 0)))) ⊗ d
    because eqn 0 (b ⊖ a) ⊞ eqn 1 (c ⊖ a)) tt

weight_by : (w t l d u e : ℤ) → u ≡ t → d ≡ e → w *ℤ t ≡ pos 1 *ℤ (l *ℤ e) → w *ℤ u ≡ pos 1 *ℤ (l *ℤ d)
weight_by w t l d u e eu ed h = ap (λ (z : ℤ). w *ℤ z) eu ∙ h ∙ ap (λ (z : ℤ). pos 1 *ℤ (l *ℤ z)) (sym ed)

pub record AreWeights (s : Tri) (p : Pt) (w : Weights) : Type 0 where
  pub second : w.second ≡ turn_of (whole s.c) (whole s.a) (whole p)
  pub third : w.third ≡ turn_of (whole s.a) (whole s.b) (whole p)
  pub whole_is : w.whole ≡ turn_of (whole s.a) (whole s.b) (whole s.c)

pub record AreMixed (u : Tri) (w : Weights) (q : Pt) : Type 0 where
  pub x : q.x ≡ half_up_of (numerator w u.a.x u.b.x u.c.x) w.whole
  pub y : q.y ≡ half_up_of (numerator w u.a.y u.b.y u.c.y) w.whole

-- q is r, rounded
abbrev IsRounded : Point → Pt → Type 0
IsRounded r q = (q.x ≡ half_up_of r.x r.w) × (q.y ≡ half_up_of r.y r.w)

mixed_is : (s u : Tri) (p q : Pt) (w : Weights) (ks : List ℕ) → AreWeights s p w → AreMixed u w q → length ks ≡ 3
    → pos 0 <ℤ (weighted_sum ks (corners_of u)).w → Same (whole p) (weighted_sum ks (corners_of s))
    → IsRounded (weighted_sum ks (corners_of u)) q
mixed_is s u p q w (k ∷ l ∷ m ∷ []) are is e h same =
    let r = weighted_sum (k ∷ l ∷ m ∷ []) (corners_of u) in
    let i = weights_are_turns (whole s.a) (whole s.b) (whole s.c) (whole p) k l m same in
    let t = turn_of (whole s.a) (whole s.b) (whole s.c) in
    let second = weight_by r.w (turn_of (whole s.c) (whole s.a) (whole p)) (pos l) w.whole w.second t are.second
    are.whole_is i.of_b in
    let third = weight_by r.w (turn_of (whole s.a) (whole s.b) (whole p)) (pos m) w.whole w.third t are.third
    are.whole_is i.of_c in (
      is.x ∙ same_rounded (numerator w u.a.x u.b.x u.c.x) w.whole r.x r.w w.positive h
          (on_axis (pos k) (pos l) (pos m) w.second w.third w.whole u.a.x u.b.x u.c.x second third),
      is.y ∙ same_rounded (numerator w u.a.y u.b.y u.c.y) w.whole r.y r.w w.positive h
          (on_axis (pos k) (pos l) (pos m) w.second w.third w.whole u.a.y u.b.y u.c.y second third),
    )
mixed_is s u p q w ks are is e h same = absurd (omega arith)

abbrev at : ℤ → ℤ → Pt
at x y = record { x = x; y = y }

pub image_is : (tin : Triangulation) (t : ℕ) (s u : Tri) (p q : Pt) (w : Weights) → t < length tin.triangles
    → corners_of s ≡ places tin Source (numbers_of tin t) → corners_of u ≡ places tin Target (numbers_of tin t)
    → IsInTriangle tin Source t (whole p) → AreWeights s p w → AreMixed u w q → IsRoundedImage tin p q
image_is tin t s u p q w ht es eu m are is =
    let ns = numbers_of tin t in let ks = m.0 in
    let r = weighted_sum ks (places tin Target ns) in
    let fit : length ks ≡ length ns = m.1 ∙ length-map ns (λ n. place Source (corner_at tin n)) in
    let three : length ks ≡ 3 = m.1 ∙ ap (λ (ps : List Point). length ps) (sym es) in
    let h : pos 0 <ℤ r.w = mix-w tin Target ks ns fit m.2 in
    let rounds = mixed_is s u p q w ks are is three (subst (λ (ps : List Point). pos 0 <ℤ (weighted_sum ks ps).w) (sym eu) h)
    (subst (λ (ps : List Point). Same (whole p) (weighted_sum ks ps)) (sym es) m.3) in
    let there : IsRounded r q = subst (λ (ps : List Point). IsRounded (weighted_sum ks ps) q) eu rounds in
    (r, h, (t, ht, (ks, fit, m.2, m.3, same_refl r)), ap₂ at there.0 there.1)
