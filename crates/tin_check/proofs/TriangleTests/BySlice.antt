-- The slice of a segment by a triangle says whether they have a common point.
use Rattle.std.proofs.Common.{◌≡◌, ◌↔◌, pos, ◌+ℤ◌, Bool, IsTrue, [], ◌∷◌, Option, Some, None, is_some, refl, sym, subst}
use Rattle.plane_base.specs.Plane.{whole, corners_of, along}
use Rattle.plane_base.specs.declared.shapes.Pt.{Pt}
use Rattle.plane_base.specs.declared.shapes.Tri.{Tri}
use Rattle.plane_base.specs.Slices.{slice_of}
use Rattle.plane_base.specs.declared.stretches.Stretch.{Stretch}
use Rattle.plane_base.proofs.MixLaws.Mixes.{same_sym, mix_moved, between_weights}
use Rattle.plane_base.proofs.MixLaws.Along.{along-w}
use Rattle.tin_check.specs.CommonPoints.{HaveCommonPoint}
use Rattle.tin_check.proofs.TriangleTests.Places.{side_along, along_side}

tells : (a b : Pt) (t : Tri) (r : Option Stretch) → slice_of a b t r
    → IsTrue (is_some r) ↔ HaveCommonPoint (whole a ∷ whole b ∷ []) (corners_of t)
tells a b t None none = (λ h. cc, λ h. absurd (none_met h))
  where
    none_met : HaveCommonPoint (whole a ∷ whole b ∷ []) (corners_of t) → ⊥
    none_met h =
        let s = between_weights (whole a) (whole b) h.0 h.2 in
        let at = side_along h.0 (whole a) (whole b) s in
        let q = along (whole a) (whole b) (pos s.l) (pos s.k +ℤ pos s.l) in
        none (pos s.l) (pos s.k +ℤ pos s.l) (at.0, mix_moved h.0 q (corners_of t) h.1 (same_sym h.0 q at.1) h.3)
tells a b t (Some s) both = (
  λ h. (
    along (whole a) (whole b) s.lo.num s.lo.den,
    along-w s.lo.num s.lo.den both.0.0.0,
    along_side (whole a) (whole b) s.lo.num s.lo.den both.0.0,
    both.0.1,
  ),
  λ h. refl,
)

pub slice_tells : (a b : Pt) (t : Tri) (r : Option Stretch) (found : Bool) → slice_of a b t r → found ≡ is_some r
    → IsTrue found ↔ HaveCommonPoint (whole a ∷ whole b ∷ []) (corners_of t)
slice_tells a b t r found h e = subst (λ (x : Bool). IsTrue x ↔ HaveCommonPoint (whole a ∷ whole b ∷ []) (corners_of t))
    (sym e) (tells a b t r h)
