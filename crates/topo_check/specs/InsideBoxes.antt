-- Boxes round pieces. Only private functions speak of them.
use Rattle.std.specs.Prelude.{◌≡◌, ℕ, ◌<◌, ℤ, pos, ◌+ℤ◌, ◌-ℤ◌, ◌*ℤ◌, ◌≤ℤ◌, ◌<ℤ◌, List, length}
use Rattle.std.specs.List.{AllByRecursion}
use Rattle.frac128.specs.declared.frac.Frac.{Frac}
use Rattle.plane_base.specs.declared.shapes.Pt.{Pt}
use Rattle.plane_base.specs.declared.shapes.Rect.{Rect}
use Rattle.plane_base.specs.Plane.{Point}
use Rattle.plane_base.specs.Boxes.{IsIn, IsOrdered, box_of_segment}
use Rattle.cell_grid.specs.Boxes.{box_at}
use Rattle.tin_base.specs.declared.corners.Corner.{Corner}
use Rattle.tin_base.specs.declared.frames.Frame.{Frame}
use Rattle.tin_base.specs.declared.frames.Frame.TheVariants.{Source}
use Rattle.tin_base.specs.declared.pieces.Piece.{Piece}
use Rattle.tin_base.specs.Triangulation.{Triangulation, corner_at, x_in, y_in}
use Rattle.tin_base.specs.Segments.{Part}
use Rattle.tin_base.specs.Relations.{IsBetween}
use Rattle.tin_base.specs.Pieces.{IsPieceOf, first_point, last_point}
use Rattle.topo_check.specs.Changes.{piece_at}

-- each point of the segment from p to q is in the box
abbrev pub HasSegment : Rect → Point → Point → Type 0
HasSegment box p q = (r : Point) → pos 0 <ℤ r.w → IsBetween p q r → IsIn box r

-- no side is further out than the points: what each of these keeps to, it keeps to
pub record IsAround (ps : List Pt) (box : Rect) : Type 0 where
  pub left : (m : ℤ) → AllByRecursion (λ p. m ≤ℤ p.x) ps → m ≤ℤ box.x0
  pub bottom : (m : ℤ) → AllByRecursion (λ p. m ≤ℤ p.y) ps → m ≤ℤ box.y0
  pub right : (m : ℤ) → AllByRecursion (λ p. p.x ≤ℤ m) ps → box.x1 ≤ℤ m
  pub top : (m : ℤ) → AllByRecursion (λ p. p.y ≤ℤ m) ps → box.y1 ≤ℤ m

-- a number is no greater than the place at a share of the way from one number to another
abbrev pub IsUpToPlace : ℤ → ℤ → Frac → ℤ → Type 0
IsUpToPlace from to share low = (low *ℤ share.den) ≤ℤ ((share.den -ℤ share.num) *ℤ from +ℤ share.num *ℤ to)

-- a number is no less
abbrev pub IsFromPlace : ℤ → ℤ → Frac → ℤ → Type 0
IsFromPlace from to share high = ((share.den -ℤ share.num) *ℤ from +ℤ share.num *ℤ to) ≤ℤ (high *ℤ share.den)

-- each corner
abbrev pub EachCorner : Triangulation → (Corner → Type 0) → Type 0
EachCorner tin P = (n : ℕ) → n < length tin.corners → P (corner_at tin n)

-- no side is further out than the corners in the frame
pub record IsAmongCorners (tin : Triangulation) (frame : Frame) (box : Rect) : Type 0 where
  pub left : (m : ℤ) → EachCorner tin (λ corner. m ≤ℤ x_in frame corner) → m ≤ℤ box.x0
  pub bottom : (m : ℤ) → EachCorner tin (λ corner. m ≤ℤ y_in frame corner) → m ≤ℤ box.y0
  pub right : (m : ℤ) → EachCorner tin (λ corner. x_in frame corner ≤ℤ m) → box.x1 ≤ℤ m
  pub top : (m : ℤ) → EachCorner tin (λ corner. y_in frame corner ≤ℤ m) → box.y1 ≤ℤ m

-- a box that the exact piece is in, and that reaches no further than the corners
pub record IsExactBox (tin : Triangulation) (p : Piece) (box : Rect) : Type 0 where
  pub ordered : IsOrdered box
  pub encloses : (part : Part) → IsPieceOf tin p part → HasSegment box (first_point p part) (last_point p part)
  pub among : IsAmongCorners tin Source box

-- the box of the segment between the rounded images of the piece's ends
abbrev pub rounded_box_of : Piece → Rect
rounded_box_of p = box_of_segment p.ia p.ib

abbrev pub IsRoundedBox : Piece → Rect → Type 0
IsRoundedBox p box = box ≡ rounded_box_of p

-- the boxes are those of the pieces, in order
pub record AreBoxesOf (IsBoxOf : Piece → Rect → Type 0) (pieces : List Piece) (boxes : List Rect) : Type 0 where
  pub same : length boxes ≡ length pieces
  pub each : (n : ℕ) → n < length pieces → IsBoxOf (piece_at pieces n) (box_at boxes n)
