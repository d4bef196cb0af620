-- Changed pairs while they are collected. Only private functions speak of it.
use Rattle.std.specs.Prelude.{◌≡◌, ◌≢◌, ◌⊎◌, ℕ, ◌<◌, ◌≤◌, List, length, All, Contains, None, Bool, false, ◌&&◌, nat_eq}
use Rattle.std.specs.List.{AllPairs}
use Rattle.plane_base.specs.declared.shapes.Rect.{Rect}
use Rattle.plane_base.specs.Boxes.{AreApart, ShareAPoint}
use Rattle.cell_grid.specs.Boxes.{box_at}
use Rattle.tin_base.specs.declared.frames.Frame.{Frame}
use Rattle.tin_base.specs.declared.frames.Frame.TheVariants.{Source, Target}
use Rattle.tin_base.specs.declared.pieces.Piece.{Piece}
use Rattle.tin_base.specs.declared.pieces.Change.{Change}
use Rattle.tin_base.specs.Triangulation.{Triangulation}
use Rattle.topo_check.specs.declared.comparisons.ChangedPair.{ChangedPair}
use Rattle.topo_check.specs.InsideBoxes.{rounded_box_of, AreBoxesOf}
use Rattle.topo_check.specs.Changes.{piece_at, HadRelation, HasRelation, IsChangeOf, Numbers, DoPrecede}

-- ---- a pair
abbrev pub numbers_of : ChangedPair → Numbers
numbers_of pair = record { first = pair.first; second = pair.second }

-- its change
abbrev pub change_of : List Piece → ChangedPair → Change
change_of pieces pair = record {
  first = (piece_at pieces pair.first).from;
  second =
      (piece_at pieces pair.second).from;
  was = pair.was;
  now = pair.now;
}

-- the relation of the two pieces was the one and is the other
pub record IsChanged (tin : Triangulation) (pieces : List Piece) (pair : ChangedPair) : Type 0 where
  pub earlier : pair.first < pair.second
  pub in_range : pair.second < length pieces
  pub had : HadRelation tin pair.was (piece_at pieces pair.first) (piece_at pieces pair.second)
  pub has : HasRelation pair.now (piece_at pieces pair.first) (piece_at pieces pair.second)
  pub differ : pair.was ≢ pair.now

abbrev pub IsUnchanged : Triangulation → List Piece → ℕ → ℕ → Type 0
IsUnchanged tin pieces i j = IsChangeOf tin (piece_at pieces i) (piece_at pieces j) None

-- ---- lists of pairs
-- whether two are pairs of the same pieces
abbrev pub is_same_pair : ChangedPair → ChangedPair → Bool
is_same_pair c d = nat_eq c.first d.first && nat_eq c.second d.second

abbrev pub AreDifferentPairs : List ChangedPair → Type 0
AreDifferentPairs pairs = AllPairs (λ c d. is_same_pair c d ≡ false) pairs

abbrev pub AreAscending : List ChangedPair → Type 0
AreAscending pairs = AllPairs (λ c d. DoPrecede (numbers_of c) (numbers_of d)) pairs

abbrev pub AreInRange : ℕ → List ChangedPair → Type 0
AreInRange count pairs = All (λ pair. (pair.first < count) × (pair.second < count)) pairs

-- the pair of these two numbers is listed
abbrev pub HasPair : List ChangedPair → ℕ → ℕ → Type 0
HasPair pairs i j = (pair : ChangedPair) × Contains pairs pair × (pair.first ≡ i) × (pair.second ≡ j)

-- pairs that have changed, each once, and all of them where they are not more than `most`
pub record AreCollected (tin : Triangulation) (pieces : List Piece) (most : ℕ) (pairs : List ChangedPair) : Type 0 where
  pub each : (pair : ChangedPair) → Contains pairs pair → IsChanged tin pieces pair
  pub different : AreDifferentPairs pairs
  pub all : length pairs ≤ most → (i j : ℕ) → i < j → j < length pieces → HasPair pairs i j ⊎ IsUnchanged tin pieces i j

-- what was collected before, and of the pairs that are meant those that have changed, each once, and all of them where
-- they are not more than `most`
pub record DoesCollect (tin : Triangulation) (pieces : List Piece) (most : ℕ) (AreMeant : ℕ → ℕ → Type 0)
    (before now : List ChangedPair) : Type 0 where
  pub longer : length before ≤ length now
  pub kept : (pair : ChangedPair) → Contains before pair → Contains now pair
  pub all : length now ≤ most → (i j : ℕ) → i < j → j < length pieces → AreMeant i j
      → HasPair now i j ⊎ IsUnchanged tin pieces i j
  pub only : (pair : ChangedPair) → Contains now pair
      → Contains before pair ⊎ (IsChanged tin pieces pair × AreMeant pair.first pair.second)
  pub once : AreDifferentPairs before → ((i j : ℕ) → i < j → j < length pieces → AreMeant i j → HasPair before i j → ⊥)
      → AreDifferentPairs now

-- ---- which pairs are meant
-- in the target frame each two are compared, and in the source frame those whose rounded boxes are apart
abbrev pub AreComparedIn : Frame → Piece → Piece → Type 0
AreComparedIn Source p q = AreApart (rounded_box_of p) (rounded_box_of q)
AreComparedIn Target p q = Unit {0}

abbrev pub IsComparedIn : Frame → List Piece → ℕ → ℕ → Type 0
IsComparedIn frame pieces i j = AreComparedIn frame (piece_at pieces i) (piece_at pieces j)

-- the pair of two numbers
abbrev pub IsPairOf : Frame → List Piece → ℕ → ℕ → ℕ → ℕ → Type 0
IsPairOf frame pieces first second i j = IsComparedIn frame pieces i j × (i ≡ first) × (j ≡ second)

-- a pair of this number and another
abbrev pub IsPairWith : Frame → List Piece → ℕ → (ℕ → Type 0) → ℕ → ℕ → Type 0
IsPairWith frame pieces number IsOther i j =
    IsComparedIn frame pieces i j × (((i ≡ number) × IsOther j) ⊎ ((j ≡ number) × IsOther i))

-- a pair whose boxes in a grid share a point
abbrev pub DoShareIn : Frame → List Piece → List Rect → ℕ → ℕ → Type 0
DoShareIn frame pieces grid i j = IsComparedIn frame pieces i j × ShareAPoint (box_at grid i) (box_at grid j)

-- the pairs where boxes of both pieces share a point are collected
pub record IsPass (tin : Triangulation) (pieces : List Piece) (most : ℕ) (frame : Frame)
    (IsBoxOf : Piece → Rect → Type 0) (before after : List ChangedPair) : Type 0 where
  pub boxes : List Rect
  pub are_boxes : AreBoxesOf IsBoxOf pieces boxes
  pub collects : DoesCollect tin pieces most (DoShareIn frame pieces boxes) before after
