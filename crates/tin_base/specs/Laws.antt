-- What holds of the images of each sound triangulation.
use Rattle.std.specs.Prelude.{◌≡◌, ℕ, ◌<◌, [], pos, ◌<ℤ◌, ◌↔◌, length}
use Rattle.plane_base.specs.Plane.{Point, Same, whole, IsNear}
use Rattle.plane_base.specs.declared.shapes.Pt.{Pt}
use Rattle.tin_base.specs.declared.frames.Frame.{Frame}
use Rattle.tin_base.specs.declared.frames.Frame.TheVariants.{Source, Target}
use Rattle.tin_base.specs.Triangulation.{Triangulation}
use Rattle.tin_base.specs.Soundness.{turn_in, DoFit, IsSound}
use Rattle.tin_base.specs.Images.{IsImage, IsInSome}
use Rattle.tin_base.specs.ExchangedFrames.{turned_of}
use Rattle.tin_base.specs.Limits.{IsWithinLimits}

-- each point in some source triangle has an image
abbrev pub EachHasImage : Triangulation → Type 0
EachHasImage tin = (p : Point) → pos 0 <ℤ p.w → IsInSome tin Source p → (r : Point) × (pos 0 <ℤ r.w) × IsImage tin p r

-- any two images of a point are the same
abbrev pub ImagesAgree : Triangulation → Type 0
ImagesAgree tin = (p r s : Point) → pos 0 <ℤ p.w → pos 0 <ℤ r.w → pos 0 <ℤ s.w → IsImage tin p r → IsImage tin p s
    → Same r s

-- points that have the same image are the same
abbrev pub ImagesDiffer : Triangulation → Type 0
ImagesDiffer tin = (p q r s : Point) → pos 0 <ℤ p.w → pos 0 <ℤ q.w → pos 0 <ℤ r.w → pos 0 <ℤ s.w → IsImage tin p r
    → IsImage tin q s → Same r s → Same p q

-- each point in some target triangle is the image of a point in a source triangle
abbrev pub EachIsImage : Triangulation → Type 0
EachIsImage tin = (r : Point) → pos 0 <ℤ r.w → IsInSome tin Target r
    → (p : Point) × (pos 0 <ℤ p.w) × IsInSome tin Source p × IsImage tin p r

-- the images of the turned triangulation are the converse
abbrev pub TurnedIsConverse : Triangulation → Type 0
TurnedIsConverse tin = (p r : Point) → IsImage (turned_of tin) r p ↔ IsImage tin p r

-- from the points of the source triangles to the points of the target triangles, images are a map, one to one and onto,
-- and turned it goes back
pub record IsOneToOne (tin : Triangulation) : Type 0 where
  pub has_image : EachHasImage tin
  pub one_image : ImagesAgree tin
  pub differ : ImagesDiffer tin
  pub onto : EachIsImage tin
  pub turned_sound : IsSound (turned_of tin)
  pub converse : TurnedIsConverse tin

-- For each sound triangulation: a point in some source triangle has an image, and any two images of it are the same
abbrev pub PointsHaveOneImage : Type 0
PointsHaveOneImage = (tin : Triangulation) → IsSound tin → EachHasImage tin × ImagesAgree tin

-- For each sound triangulation: different points have different images
abbrev pub DifferentPointsDiffer : Type 0
DifferentPointsDiffer = (tin : Triangulation) → IsSound tin → ImagesDiffer tin

-- For each sound triangulation: a point in some target triangle is an image of a point in a source triangle
abbrev pub TargetPointsAreImages : Type 0
TargetPointsAreImages = (tin : Triangulation) → IsSound tin → EachIsImage tin

-- With the frames exchanged, each sound triangulation is sound, and its images are the converse
abbrev pub ConverseIsSound : Type 0
ConverseIsSound = (tin : Triangulation) → IsSound tin → IsSound (turned_of tin) × TurnedIsConverse tin

-- a triangulation without triangles is sound
abbrev pub NoTrianglesAreSound : Type 0
NoTrianglesAreSound = (tin : Triangulation) → tin.triangles ≡ [] → IsSound tin

-- where the turns are positive it is enough to look at each two triangles in one order
abbrev pub EachPairOnceIsEnough : Type 0
EachPairOnceIsEnough =
    (tin : Triangulation) → ((frame : Frame) (t : ℕ) → t < length tin.triangles → pos 0 <ℤ turn_in tin frame t)
    → ((frame : Frame) (t u : ℕ) → t < u → u < length tin.triangles → DoFit tin frame t u) → IsSound tin

-- a triangulation of one triangle that is neither flat nor turned over is sound
abbrev pub OneTriangleIsSound : Type 0
OneTriangleIsSound = (tin : Triangulation) → length tin.triangles ≡ 1 → pos 0 <ℤ turn_in tin Source 0
    → pos 0 <ℤ turn_in tin Target 0 → IsSound tin

-- all of these laws in one, for a call that answers a sound triangulation
abbrev pub SoundIsOneToOne : Type 0
SoundIsOneToOne = (tin : Triangulation) → IsSound tin → IsOneToOne tin

-- whole points that are in source triangles are near each other, as the corners are
abbrev pub PointsInsideAreNear : Type 0
PointsInsideAreNear = (tin : Triangulation) → IsWithinLimits tin → (p q : Pt) → IsInSome tin Source (whole p)
    → IsInSome tin Source (whole q) → IsNear p q
