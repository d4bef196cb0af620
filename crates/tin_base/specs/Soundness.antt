-- What makes a triangulation sound: in both frames no triangle is flat or turned over, and any two of them meet in
-- their common corners and in what those span.
use Rattle.std.specs.Prelude.{◌≢◌, ℕ, ◌<◌, ◌≤◌, ℤ, pos, ◌<ℤ◌, Bool, ◌==◌, List, [], ◌∷◌, length, filter}
use Rattle.std.specs.List.{list_any}
use Rattle.plane_base.specs.Plane.{Point, turn_of, IsMix}
use Rattle.tin_base.specs.declared.frames.Frame.{Frame}
use Rattle.tin_base.specs.Triangulation.{Triangulation, numbers_of, places, IsInTriangle}

-- the turn of three points; of more or fewer it is 0
abbrev pub turn_of_three : List Point → ℤ
turn_of_three (a ∷ b ∷ c ∷ []) = turn_of a b c
turn_of_three points = pos 0

-- twice the signed area of triangle t
abbrev pub turn_in : Triangulation → Frame → ℕ → ℤ
turn_in tin frame t = turn_of_three (places tin frame (numbers_of tin t))

-- the number is one of the list
abbrev pub has : List ℕ → ℕ → Bool
has ns k = list_any (λ n. n == k) ns

-- the numbers of the first list that the second has too
abbrev pub common : List ℕ → List ℕ → List ℕ
common ks ns = filter (has ns) ks

-- the numbers of the corners that triangles t and u have in common
abbrev pub common_of : Triangulation → ℕ → ℕ → List ℕ
common_of tin t u = common (numbers_of tin t) (numbers_of tin u)

-- each point in both triangles is a mix of their common corners; where they have none, no point is in both
abbrev pub MeetInCommon : Triangulation → Frame → ℕ → ℕ → Type 0
MeetInCommon tin frame t u =
    (p : Point) → pos 0 <ℤ p.w → IsInTriangle tin frame t p → IsInTriangle tin frame u p
    → IsMix p (places tin frame (common_of tin t u))

-- two triangles fit together in a frame
pub record DoFit (tin : Triangulation) (frame : Frame) (t u : ℕ) : Type 0 where
  pub two_common : length (common_of tin t u) ≤ 2
  pub meet : MeetInCommon tin frame t u

-- each triangle has a positive turn in both frames, and any two at different places of the list fit together in both
pub record IsSound (tin : Triangulation) : Type 0 where
  pub positive : (frame : Frame) (t : ℕ) → t < length tin.triangles → pos 0 <ℤ turn_in tin frame t
  pub fit : (frame : Frame) (t u : ℕ) → t ≢ u → t < length tin.triangles → u < length tin.triangles
      → DoFit tin frame t u
