-- With the frames exchanged, a sound triangulation is sound, and its images are the converse.
use Rattle.std.proofs.Common.{◌≡◌, ◌↔◌, ℕ, pos, ◌<ℤ◌, List, [], ◌∷◌, sym, subst, refl, arith}
use Rattle.std.proofs.Math.ListN.{get_or-map}
use Rattle.plane_base.specs.Plane.{Point, Same, weighted_sum, IsMix}
use Rattle.tin_base.specs.declared.corners.Corner.{Corner}
use Rattle.tin_base.specs.declared.frames.Frame.{Frame}
use Rattle.tin_base.specs.declared.frames.Frame.TheVariants.{Source, Target}
use Rattle.tin_base.specs.Triangulation.{Triangulation, other, place, no_corner, corner_at, numbers_of, places}
use Rattle.tin_base.specs.Soundness.{turn_of_three, IsSound, DoFit, common_of}
use Rattle.tin_base.specs.Images.{AreLikeMixes, IsImage}
use Rattle.tin_base.specs.ExchangedFrames.{exchanged_corner, turned_of}
use Rattle.tin_base.specs.Laws.{IsOneToOne}
use Rattle.tin_base.proofs.FrameImages.Agreement.{each_has_image, all_images_agree, images_differ, each_is_image}

place-exchanged : (frame : Frame) (corner : Corner) → place frame (exchanged_corner corner) ≡ place (other frame) corner
place-exchanged Source corner = refl
place-exchanged Target corner = refl

pub corner_at-turned : (tin : Triangulation) (n : ℕ) → corner_at (turned_of tin) n ≡ exchanged_corner (corner_at tin n)
corner_at-turned tin n = get_or-map exchanged_corner tin.corners n no_corner

places-turned : (tin : Triangulation) (frame : Frame) (ns : List ℕ)
    → places (turned_of tin) frame ns ≡ places tin (other frame) ns
places-turned tin frame [] = refl
places-turned tin frame (n ∷ ns) = grind (arith, corner_at-turned, place-exchanged, (places-turned tin frame ns))

-- what holds of the places of some corners in the other frame, holds of their places in the frame of the turned
-- triangulation
turned_has : (P : List Point → Type 0) (tin : Triangulation) (frame : Frame) (ns : List ℕ)
    → P (places tin (other frame) ns) → P (places (turned_of tin) frame ns)
turned_has P tin frame ns h = subst P (sym (places-turned tin frame ns)) h

turned_had : (P : List Point → Type 0) (tin : Triangulation) (frame : Frame) (ns : List ℕ)
    → P (places (turned_of tin) frame ns) → P (places tin (other frame) ns)
turned_had P tin frame ns h = subst P (places-turned tin frame ns) h

turned_fits : (tin : Triangulation) (frame : Frame) (t u : ℕ) → DoFit tin (other frame) t u
    → DoFit (turned_of tin) frame t u
turned_fits tin frame t u fit =
    record {
      two_common = fit.two_common;
      meet = λ p hp in_t in_u.
          turned_has (λ (ps : List Point). IsMix p ps) tin frame (common_of tin t u)
          (fit.meet p hp
          (turned_had (λ (ps : List Point). IsMix p ps) tin frame (numbers_of tin t) in_t)
          (turned_had (λ (ps : List Point). IsMix p ps) tin frame (numbers_of tin u) in_u));
    }

pub turned_sound : (tin : Triangulation) → IsSound tin → IsSound (turned_of tin)
turned_sound tin sound =
    record {
      positive = λ frame t h. turned_has (λ (ps : List Point). pos 0 <ℤ turn_of_three ps) tin frame (numbers_of tin t)
          (sound.positive (other frame) t h);
      fit = λ frame t u differ ht hu. turned_fits tin frame t u (sound.fit (other frame) t u differ ht hu);
    }

-- like mixes of the turned triangulation are those in the other direction
alike_turned : (tin : Triangulation) (ns : List ℕ) (p r : Point) → AreLikeMixes tin Source ns p r
    → AreLikeMixes (turned_of tin) Source ns r p
alike_turned tin ns p r m = (
  m.0,
  m.1,
  m.2,
  turned_has (λ (ps : List Point). Same r (weighted_sum m.0 ps)) tin Source ns m.4,
  turned_has (λ (ps : List Point). Same p (weighted_sum m.0 ps)) tin Target ns m.3,
)

alike_unturned : (tin : Triangulation) (ns : List ℕ) (p r : Point) → AreLikeMixes (turned_of tin) Source ns r p
    → AreLikeMixes tin Source ns p r
alike_unturned tin ns p r m = (
  m.0,
  m.1,
  m.2,
  turned_had (λ (ps : List Point). Same p (weighted_sum m.0 ps)) tin Target ns m.4,
  turned_had (λ (ps : List Point). Same r (weighted_sum m.0 ps)) tin Source ns m.3,
)

pub converse : (tin : Triangulation) (p r : Point) → IsImage (turned_of tin) r p ↔ IsImage tin p r
converse tin p r = grind (arith, alike_unturned, alike_turned)

pub one_to_one : (tin : Triangulation) → IsSound tin → IsOneToOne tin
one_to_one tin sound =
    record {
      has_image = each_has_image tin;
      one_image = all_images_agree tin sound;
      differ = images_differ tin sound;
      onto = each_is_image tin;
      turned_sound = turned_sound tin sound;
      converse = converse tin;
    }
