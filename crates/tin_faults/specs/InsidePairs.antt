-- A triangle of a frame, counted so that it turns to the left. Only private functions speak of it.
use Rattle.std.specs.Prelude.{◌≡◌, ◌⊎◌, ℕ, pos, ◌<ℤ◌, List, [], ◌∷◌}
use Rattle.plane_base.specs.declared.shapes.Tri.{Tri}
use Rattle.plane_base.specs.Plane.{whole, turn_of, corners_of}
use Rattle.tin_base.specs.declared.frames.Frame.{Frame}
use Rattle.tin_base.specs.Triangulation.{Triangulation, numbers_of, places}

-- the first list, or that with its last two of three numbers exchanged
abbrev pub IsCountedEither : List ℕ → List ℕ → Type 0
IsCountedEither (i ∷ j ∷ k ∷ []) ns = (ns ≡ i ∷ j ∷ k ∷ []) ⊎ (ns ≡ i ∷ k ∷ j ∷ [])
IsCountedEither numbers ns = ⊥

-- the numbers are those of triangle t, and its corners have these places
pub record IsLeftTurned (tin : Triangulation) (frame : Frame) (t : ℕ) (corners : Tri) (numbers : List ℕ) : Type 0 where
  pub counted : IsCountedEither (numbers_of tin t) numbers
  pub places_are : corners_of corners ≡ places tin frame numbers
  pub positive : pos 0 <ℤ turn_of (whole corners.a) (whole corners.b) (whole corners.c)
