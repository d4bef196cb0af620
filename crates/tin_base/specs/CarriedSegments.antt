-- Segments in one triangle, and their images.
use Rattle.std.specs.Prelude.{◌↔◌, ◌≢◌, List, ℕ, pos, ◌<ℤ◌, ◌<◌, length}
use Rattle.plane_base.specs.Plane.{Point}
use Rattle.tin_base.specs.declared.relations.Rel.{Rel}
use Rattle.tin_base.specs.declared.frames.Frame.TheVariants.{Source}
use Rattle.tin_base.specs.Triangulation.{Triangulation, IsInTriangle}
use Rattle.tin_base.specs.Soundness.{IsSound}
use Rattle.tin_base.specs.Images.{IsImage}
use Rattle.tin_base.specs.Relations.{IsBetween, HaveRelation}
use Rattle.tin_base.specs.Segments.{IsInside, Part, ArePieces, AreChain, DoCover}
use Rattle.plane_base.specs.declared.shapes.Pt.{Pt}

-- the segment from p to q is in one source triangle, and p' and q' are the images of its ends
pub record IsCarried (tin : Triangulation) (p q p' q' : Point) : Type 0 where
  pub triangle : ℕ
  pub in_range : triangle < length tin.triangles
  pub begins : IsInTriangle tin Source triangle p
  pub ends : IsInTriangle tin Source triangle q
  pub image_begins : IsImage tin p p'
  pub image_ends : IsImage tin q q'
  pub positive : pos 0 <ℤ p.w
  pub positive_end : pos 0 <ℤ q.w
  pub positive_image : pos 0 <ℤ p'.w
  pub positive_image_end : pos 0 <ℤ q'.w

-- the images of the segment's points are points of the segment between the images of its ends
abbrev pub ImagesAreBetween : Triangulation → Point → Point → Point → Point → Type 0
ImagesAreBetween tin p q p' q' = (r r' : Point) → pos 0 <ℤ r.w → pos 0 <ℤ r'.w → IsBetween p q r → IsImage tin r r'
    → IsBetween p' q' r'

-- and each such point is an image
abbrev pub EachBetweenIsImage : Triangulation → Point → Point → Point → Point → Type 0
EachBetweenIsImage tin p q p' q' = (r' : Point) → pos 0 <ℤ r'.w → IsBetween p' q' r'
    → (r : Point) × (pos 0 <ℤ r.w) × IsBetween p q r × IsImage tin r r'

-- For each sound triangulation: the images of the points of a segment in one triangle are exactly the points between
-- the images of its ends
abbrev pub SegmentsGoToSegments : Type 0
SegmentsGoToSegments = (tin : Triangulation) → IsSound tin → (p q p' q' : Point) → IsCarried tin p q p' q'
    → ImagesAreBetween tin p q p' q' × EachBetweenIsImage tin p q p' q'

-- For each sound triangulation: two such segments, in one triangle or in two, have the relation that their images have
abbrev pub RelationsAreKept : Type 0
RelationsAreKept =
    (tin : Triangulation) → IsSound tin → (p q p' q' e f e' f' : Point) → IsCarried tin p q p' q'
    → IsCarried tin e f e' f'
    → (relation : Rel) → HaveRelation relation p q e f ↔ HaveRelation relation p' q' e' f'

-- For each sound triangulation: the pieces of a segment that is inside follow each other from its one end to the other,
-- and have all its points
abbrev pub PiecesFollow : Type 0
PiecesFollow = (tin : Triangulation) → IsSound tin → (a b : Pt) → a ≢ b → IsInside tin a b → (parts : List Part)
    → ArePieces tin a b parts → AreChain parts × DoCover parts
