-- How far a check has come: what it has found of the triangles and of the pairs so far.
use Rattle.std.specs.Prelude.{◌≡◌, ◌⊎◌, ℕ, ◌+◌, ◌<◌, pos, ◌<ℤ◌, List, length, Option, Some, None, Contains}
use Rattle.tin_base.specs.declared.frames.Frame.{Frame}
use Rattle.tin_base.specs.Triangulation.{Triangulation}
use Rattle.tin_base.specs.Soundness.{turn_in, DoFit}
use Rattle.tin_check.specs.declared.pairs.TrianglePair.{TrianglePair}

-- the first n triangles turn to the left in both frames
abbrev pub ArePositive : Triangulation → ℕ → Type 0
ArePositive tin n = (frame : Frame) (t : ℕ) → t < n → pos 0 <ℤ turn_in tin frame t

-- in order of the first and of the second number, t and u come before a and b
abbrev pub IsBeforePair : ℕ → ℕ → ℕ → ℕ → Type 0
IsBeforePair t u a b = (t < a) ⊎ ((t ≡ a) × (u < b))

-- each pair before a and b fits together in the frame
abbrev pub DoFitBefore : Triangulation → Frame → ℕ → ℕ → Type 0
DoFitBefore tin frame a b = (t u : ℕ) → t < u → u < length tin.triangles → IsBeforePair t u a b → DoFit tin frame t u

-- each pair does
abbrev pub DoAllFit : Triangulation → Frame → Type 0
DoAllFit tin frame = (t u : ℕ) → t < u → u < length tin.triangles → DoFit tin frame t u

-- the pair does not fit together in the frame, and each pair before it does
pub record IsFirstPair (tin : Triangulation) (frame : Frame) (first second : ℕ) : Type 0 where
  pub in_order : first < second
  pub in_range : second < length tin.triangles
  pub not_fit : DoFit tin frame first second → ⊥
  pub before : DoFitBefore tin frame first second

-- the first pair that does not fit together in the frame, where there is one
abbrev pub IsFirstFound : Triangulation → Frame → Option TrianglePair → Type 0
IsFirstFound tin frame None = DoAllFit tin frame
IsFirstFound tin frame (Some pair) = IsFirstPair tin frame pair.first pair.second

-- the first pair whose first triangle is below `end` and that does not fit together, where there is one
abbrev pub IsFirstFoundBelow : Triangulation → Frame → ℕ → Option TrianglePair → Type 0
IsFirstFoundBelow tin frame end None = DoFitBefore tin frame end 0
IsFirstFoundBelow tin frame end (Some pair) = IsFirstPair tin frame pair.first pair.second

-- the second triangle of the first pair of one first triangle that does not fit together, where there is one
abbrev pub IsFirstSecond : Triangulation → Frame → ℕ → Option ℕ → Type 0
IsFirstSecond tin frame first None = DoFitBefore tin frame (first + 1) 0
IsFirstSecond tin frame first (Some second) = IsFirstPair tin frame first second

-- each later triangle is one of the list, or fits together with the first one
abbrev pub DoOthersFit : Triangulation → Frame → ℕ → List ℕ → Type 0
DoOthersFit tin frame first seconds = (u : ℕ) → first < u → u < length tin.triangles
    → Contains seconds u ⊎ DoFit tin frame first u
