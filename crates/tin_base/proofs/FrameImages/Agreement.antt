-- In a sound triangulation any two images of a point are the same, and points with the same image are the same.
use Rattle.std.proofs.Common.{◌≡◌, ◌≢◌, ◌⊎◌, inl, inr, ℕ, ◌<◌, pos, ◌<ℤ◌, List, length, subst, arith}
use Rattle.plane_base.specs.Plane.{Point, Same}
use Rattle.plane_base.proofs.MixLaws.Mixes.{same_trans}
use Rattle.tin_base.specs.declared.frames.Frame.{Frame}
use Rattle.tin_base.specs.declared.frames.Frame.TheVariants.{Source, Target}
use Rattle.tin_base.specs.Triangulation.{Triangulation, numbers_of}
use Rattle.tin_base.specs.Soundness.{IsSound, common_of}
use Rattle.tin_base.specs.Images.{AreLikeMixes, IsImageFrom}
use Rattle.tin_base.specs.Laws.{EachHasImage, ImagesAgree, ImagesDiffer, EachIsImage}
use Rattle.tin_base.proofs.FrameImages.Weights.{common_in_first, common_in_second}
use Rattle.tin_base.proofs.FrameImages.Alike.{alike_more, alike_in, alike_of, alike_once}

-- images by two different triangles
by_two : (tin : Triangulation) (frame : Frame) (t u : ℕ) (p r s : Point) → IsSound tin → pos 0 <ℤ p.w → t ≢ u
    → t < length tin.triangles → u < length tin.triangles
    → AreLikeMixes tin frame (numbers_of tin t) p r → AreLikeMixes tin frame (numbers_of tin u) p s → Same r s
by_two tin frame t u p r s sound hp differ ht hu m n =
    let ts = numbers_of tin t in let us = numbers_of tin u in
    let q = alike_of tin frame (common_of tin t u) p
    ((sound.fit frame t u differ ht hu).meet p hp (alike_in tin frame ts p r m) (alike_in tin frame us p s n)) in
    let in_t : Same r q.0 = alike_once tin frame ts p r q.0 hp (sound.positive frame t ht) m
    (alike_more tin frame ts (common_of tin t u) p q.0 (common_in_first ts us) q.2) in
    let in_u : Same q.0 s = alike_once tin frame us p q.0 s hp (sound.positive frame u hu)
    (alike_more tin frame us (common_of tin t u) p q.0 (common_in_second ts us) q.2) n in
    same_trans r q.0 s q.1 in_t in_u

one_or_two : (t u : ℕ) → (t ≡ u) ⊎ (t ≢ u)
one_or_two t u = grind arith

pub images_agree : (tin : Triangulation) (frame : Frame) (p r s : Point) → IsSound tin → pos 0 <ℤ p.w
    → IsImageFrom tin frame p r → IsImageFrom tin frame p s → Same r s
images_agree tin frame p r s sound hp i j = go (one_or_two i.0 j.0)
  where
    go : (i.0 ≡ j.0) ⊎ (i.0 ≢ j.0) → Same r s
    go (inl e) = alike_once tin frame (numbers_of tin j.0) p r s hp (sound.positive frame j.0 j.1)
        (subst (λ (t : ℕ). AreLikeMixes tin frame (numbers_of tin t) p r) e i.2) j.2
    go (inr differ) = by_two tin frame i.0 j.0 p r s sound hp differ i.1 j.1 i.2 j.2

-- an image of a point is one of each point of the same place
pub image_moved : (tin : Triangulation) (frame : Frame) (p q r : Point) → pos 0 <ℤ p.w → Same q p
    → IsImageFrom tin frame p r → IsImageFrom tin frame q r
image_moved tin frame p q r hp same i =
    let m = i.2 in (i.0, i.1, (m.0, m.1, m.2, same_trans q p _ hp same m.3, m.4))

-- an image in one direction is an image in the other
pub alike_back : (tin : Triangulation) (ns : List ℕ) (p r : Point) → AreLikeMixes tin Source ns p r
    → AreLikeMixes tin Target ns r p
alike_back tin ns p r m = (m.0, m.1, m.2, m.4, m.3)

pub alike_forth : (tin : Triangulation) (ns : List ℕ) (p r : Point) → AreLikeMixes tin Target ns r p
    → AreLikeMixes tin Source ns p r
alike_forth tin ns p r m = (m.0, m.1, m.2, m.4, m.3)

image_back : (tin : Triangulation) (p r : Point) → IsImageFrom tin Source p r → IsImageFrom tin Target r p
image_back tin p r i = (i.0, i.1, alike_back tin (numbers_of tin i.0) p r i.2)

-- ---- the laws
pub each_has_image : (tin : Triangulation) → EachHasImage tin
each_has_image tin p hp i =
    let q = alike_of tin Source (numbers_of tin i.0) p i.2 in (q.0, q.1, (i.0, i.1, q.2))

pub all_images_agree : (tin : Triangulation) → IsSound tin → ImagesAgree tin
all_images_agree tin sound p r s hp hr hs i j = images_agree tin Source p r s sound hp i j

pub images_differ : (tin : Triangulation) → IsSound tin → ImagesDiffer tin
images_differ tin sound p q r s hp hq hr hs i j same =
    images_agree tin Target r p q sound hr (image_back tin p r i)
    (image_moved tin Target s r q hs same (image_back tin q s j))

pub each_is_image : (tin : Triangulation) → EachIsImage tin
each_is_image tin r hr i =
    let q = alike_of tin Target (numbers_of tin i.0) r i.2 in
    let back = alike_forth tin (numbers_of tin i.0) q.0 r q.2 in
    (q.0, q.1, (i.0, i.1, alike_in tin Source (numbers_of tin i.0) q.0 r back), (i.0, i.1, back))
