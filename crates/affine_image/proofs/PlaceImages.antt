-- Images of one place, by whichever numbers it is given.
use Rattle.std.proofs.Common.{pos, ◌<ℤ◌}
use Rattle.plane_base.specs.Plane.{Point, Same}
use Rattle.plane_base.specs.declared.shapes.Pt.{Pt}
use Rattle.tin_base.specs.Triangulation.{Triangulation}
use Rattle.tin_base.specs.Images.{IsImage}
use Rattle.tin_base.proofs.FrameImages.Alike.{same_trans}
use Rattle.affine_image.specs.RoundedImages.{IsRoundedImageAt}

pub image_moved : (tin : Triangulation) (p q r : Point) → pos 0 <ℤ p.w → Same q p → IsImage tin p r → IsImage tin q r
image_moved tin p q r h same i = (i.0, i.1, (i.2.0, i.2.1, i.2.2, same_trans q p _ h same i.2.3, i.2.4))

pub rounded_moved : (tin : Triangulation) (p q : Point) (image : Pt) → pos 0 <ℤ p.w → Same q p
    → IsRoundedImageAt tin p image → IsRoundedImageAt tin q image
rounded_moved tin p q image h same i = (i.0, i.1, image_moved tin p q i.0 h same i.2, i.3)
