-- Segments whose boxes have no common point have none.
use Rattle.std.proofs.Common.{◌≡◌, ℤ, IsTrue, arith}
use Rattle.std.specs.Int.{int_min, int_max}
use lib.Signed.{lt_z}
use Rattle.plane_base.specs.Boxes.{AreApart, box_of_segment}
use Rattle.plane_base.specs.Plane.{whole}
use Rattle.plane_base.specs.declared.shapes.Pt.{Pt}
use Rattle.plane_base.proofs.Bounds.BoxLemmas.{between_in, none_in_both}
use Rattle.tin_base.specs.declared.relations.Rel.TheVariants.{Apart}
use Rattle.tin_base.specs.Relations.{HaveRelation}
use Rattle.meet_rel.specs.Signs.{AreBelow}

pub below_told : (a b c d m n : ℤ) → m ≡ int_max a b → n ≡ int_min c d
    → (IsTrue (lt_z m n) → AreBelow a b c d) × (AreBelow a b c d → IsTrue (lt_z m n))
below_told a b c d m n e f = grind (arith, lt_z)

pub apart_by_boxes : (a b c d : Pt) → AreApart (box_of_segment a b) (box_of_segment c d)
    → HaveRelation Apart (whole a) (whole b) (whole c) (whole d)
apart_by_boxes a b c d apart = λ r common.
    none_in_both (box_of_segment a b) (box_of_segment c d) apart r common.positive
    (between_in a b r common.positive common.first) (between_in c d r common.positive common.second)
