-- Images of one place are rounded to one point.
use Rattle.std.proofs.Common.{◌≡◌, pos, ◌<ℤ◌, sym, ◌∙◌, ap₂, ℤ}
use Rattle.plane_base.specs.Plane.{Point, Same}
use Rattle.plane_base.specs.declared.shapes.Pt.{Pt}
use Rattle.tin_base.proofs.FrameImages.Agreement.{all_images_agree}
use Rattle.affine_image.specs.RoundedImages.{rounded_point}
use Rattle.affine_image.specs.Laws.{RoundedImagesAgree}
use Rattle.affine_image.proofs.HalfUp.{same_rounded}

abbrev at : ℤ → ℤ → Pt
at x y = record { x = x; y = y }

same_place : (r s : Point) → pos 0 <ℤ r.w → pos 0 <ℤ s.w → Same r s → rounded_point r ≡ rounded_point s
same_place r s hr hs same = ap₂ at (same_rounded r.x r.w s.x s.w hr hs same.0)
    (same_rounded r.y r.w s.y s.w hr hs same.1)

pub rounded_images_agree : RoundedImagesAgree
rounded_images_agree tin p image also sound hp i j =
    i.3 ∙ same_place i.0 j.0 i.1 j.1 (all_images_agree tin sound p i.0 j.0 hp i.1 j.1 i.2 j.2) ∙ sym j.3
