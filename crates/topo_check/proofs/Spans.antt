-- Lists of boxes, and how near they are to each other.
use Rattle.std.proofs.Common.{◌≡◌, ℕ, ◌+◌, ◌<◌, ◌≤◌, ℤ, pos, ◌+ℤ◌, ◌-ℤ◌, ◌≤ℤ◌, ◌<ℤ◌, List, [], ◌∷◌, ◌++◌, length, All}
use Rattle.std.proofs.Common.{get_or, subst, arith}
use Rattle.std.proofs.lemmas.List.{get_or_append_left, get_or_push, length_push, get_or_default}
use Rattle.std.proofs.lemmas.Int.{ints}
use Rattle.plane_base.specs.declared.shapes.Pt.{Pt}
use Rattle.plane_base.specs.declared.shapes.Rect.{Rect}
use Rattle.plane_base.specs.declared.shapes.TheConstants.{SPAN}
use Rattle.plane_base.specs.Boxes.{IsOrdered}
use Rattle.cell_grid.specs.Boxes.{AreOrdered, IsWithinSpan, AreWithinSpan, box_at, no_box}
use Rattle.tin_base.specs.declared.frames.Frame.{Frame}
use Rattle.tin_base.specs.declared.frames.Frame.TheVariants.{Source, Target}
use Rattle.tin_base.specs.declared.pieces.Piece.{Piece}
use Rattle.tin_base.specs.Triangulation.{Triangulation, corner_at, x_in, y_in}
use Rattle.tin_base.specs.Limits.{IsWithinLimits}
use Rattle.meet_rel.specs.Near.{AreNear}
use Rattle.topo_check.specs.Changes.{piece_at}
use Rattle.topo_check.proofs.Cases.{below_or_not}
use Rattle.topo_check.proofs.InBoxes.{rounded_boxed}
use Rattle.topo_check.specs.InsideBoxes.{IsAround, IsAmongCorners, IsExactBox, IsRoundedBox, AreBoxesOf}
use Rattle.topo_check.specs.InsideImages.{IsImageBox}

-- ---- one number
up_to : (s c d : ℤ) → (c -ℤ d) <ℤ s → c ≤ℤ (d +ℤ (s -ℤ pos 1))
up_to s c d h = omega (arith, ints)

down_to : (s c d : ℤ) → c ≤ℤ (d +ℤ (s -ℤ pos 1)) → (c -ℤ (s -ℤ pos 1)) ≤ℤ d
down_to s c d h = omega (arith, ints)

less_apart : (s c d : ℤ) → (c -ℤ (s -ℤ pos 1)) ≤ℤ d → (c -ℤ d) <ℤ s
less_apart s c d h = omega (arith, ints)

-- ---- boxes among corners
among_span : (tin : Triangulation) (frame : Frame) (p q : Rect) → IsWithinLimits tin → IsAmongCorners tin frame p
    → IsAmongCorners tin frame q → IsWithinSpan p q
among_span tin frame p q limits hp hq = (
  less_apart SPAN q.x1 p.x0
      (hp.left (q.x1 -ℤ (SPAN -ℤ pos 1)) (λ n hn. down_to SPAN q.x1 (x_in frame (corner_at tin n))
      (hq.right (x_in frame (corner_at tin n) +ℤ (SPAN -ℤ pos 1))
      (λ m hm. up_to SPAN (x_in frame (corner_at tin m)) (x_in frame (corner_at tin n))
      (limits.near frame m n hm hn).0)))),
  less_apart SPAN q.y1 p.y0
      (hp.bottom (q.y1 -ℤ (SPAN -ℤ pos 1)) (λ n hn. down_to SPAN q.y1 (y_in frame (corner_at tin n))
      (hq.top (y_in frame (corner_at tin n) +ℤ (SPAN -ℤ pos 1))
      (λ m hm. up_to SPAN (y_in frame (corner_at tin m)) (y_in frame (corner_at tin n))
      (limits.near frame m n hm hn).1)))),
)

-- ---- boxes round points that are near each other
around_span : (a b c d : Pt) (p q : Rect) → AreNear a b c d → IsAround (a ∷ b ∷ []) p → IsAround (c ∷ d ∷ []) q
    → IsWithinSpan p q
around_span a b c d p q near hp hq =
    let ac = near.0.1 in let bc = near.0.2 in let ad = near.1.1 in let bd = near.1.2 in (
      less_apart SPAN q.x1 p.x0 (hp.left (q.x1 -ℤ (SPAN -ℤ pos 1)) (
        down_to SPAN q.x1 a.x (hq.right (a.x +ℤ (SPAN -ℤ pos 1))
            (up_to SPAN c.x a.x ac.1, (up_to SPAN d.x a.x ad.1, tt))),
        (
          down_to SPAN q.x1 b.x (hq.right (b.x +ℤ (SPAN -ℤ pos 1))
              (up_to SPAN c.x b.x bc.1, (up_to SPAN d.x b.x bd.1, tt))),
          tt,
        ),
      )),
      less_apart SPAN q.y1 p.y0 (hp.bottom (q.y1 -ℤ (SPAN -ℤ pos 1)) (
        down_to SPAN q.y1 a.y (hq.top (a.y +ℤ (SPAN -ℤ pos 1))
            (up_to SPAN c.y a.y ac.3, (up_to SPAN d.y a.y ad.3, tt))),
        (
          down_to SPAN q.y1 b.y (hq.top (b.y +ℤ (SPAN -ℤ pos 1))
              (up_to SPAN c.y b.y bc.3, (up_to SPAN d.y b.y bd.3, tt))),
          tt,
        ),
      )),
    )

-- ---- the boxes of pieces

-- boxes each of which is ordered, or among the corners
each_ordered : (boxes : List Rect) → ((n : ℕ) → n < length boxes → IsOrdered (box_at boxes n)) → AreOrdered boxes
each_ordered boxes each i d within = subst IsOrdered (get_or_default boxes i no_box d within) (each i within)

each_span : (tin : Triangulation) (frame : Frame) (boxes : List Rect) → IsWithinLimits tin
    → ((n : ℕ) → n < length boxes → IsAmongCorners tin frame (box_at boxes n)) → AreWithinSpan boxes
each_span tin frame boxes limits each i d hi j e hj =
    subst (λ p. IsWithinSpan p (get_or boxes j e)) (get_or_default boxes i no_box d hi)
    (subst (λ q. IsWithinSpan (box_at boxes i) q) (get_or_default boxes j no_box e hj)
    (among_span tin frame (box_at boxes i) (box_at boxes j) limits (each i hi) (each j hj)))

pub exact_ordered : (tin : Triangulation) (pieces : List Piece) (boxes : List Rect)
    → AreBoxesOf (IsExactBox tin) pieces boxes → AreOrdered boxes
exact_ordered tin pieces boxes h =
    each_ordered boxes (λ n hn. let is = h.each n (omega (arith, hn, h.same)) in is.ordered)

pub image_ordered : (tin : Triangulation) (pieces : List Piece) (boxes : List Rect)
    → AreBoxesOf (IsImageBox tin) pieces boxes → AreOrdered boxes
image_ordered tin pieces boxes h =
    each_ordered boxes (λ n hn. let is = h.each n (omega (arith, hn, h.same)) in is.ordered)

pub rounded_ordered : (pieces : List Piece) (boxes : List Rect) → AreBoxesOf IsRoundedBox pieces boxes
    → AreOrdered boxes
rounded_ordered pieces boxes h i d within = grind (arith, get_or_default, rounded_boxed)

pub exact_spans : (tin : Triangulation) (pieces : List Piece) (boxes : List Rect) → IsWithinLimits tin
    → AreBoxesOf (IsExactBox tin) pieces boxes → AreWithinSpan boxes
exact_spans tin pieces boxes limits h =
    each_span tin Source boxes limits (λ n hn. let is = h.each n (omega (arith, hn, h.same)) in is.among)

pub image_spans : (tin : Triangulation) (pieces : List Piece) (boxes : List Rect) → IsWithinLimits tin
    → AreBoxesOf (IsImageBox tin) pieces boxes → AreWithinSpan boxes
image_spans tin pieces boxes limits h =
    each_span tin Target boxes limits (λ n hn. let is = h.each n (omega (arith, hn, h.same)) in is.among)

pub rounded_spans : (pieces : List Piece) (boxes : List Rect)
    → All (λ p. All (λ q. AreNear p.ia p.ib q.ia q.ib) pieces) pieces → AreBoxesOf IsRoundedBox pieces boxes
    → AreWithinSpan boxes
rounded_spans pieces boxes near h i d hi j e hj = grind (arith, get_or, get_or_default, around_span, rounded_boxed)

-- ---- while boxes are put after each other
pub record AreBoxesSoFar (IsBoxOf : Piece → Rect → Type 0) (pieces : List Piece) (boxes : List Rect) (i : ℕ) : Type 0
  where
    pub same : length boxes ≡ i
    pub few : i ≤ length pieces
    pub each : (n : ℕ) → n < i → IsBoxOf (piece_at pieces n) (box_at boxes n)

pub more_boxes : (IsBoxOf : Piece → Rect → Type 0) (pieces : List Piece) (boxes later : List Rect) (i : ℕ) (box : Rect)
    → i < length pieces → AreBoxesSoFar IsBoxOf pieces boxes i → IsBoxOf (piece_at pieces i) box
    → later ≡ boxes ++ box ∷ [] → AreBoxesSoFar IsBoxOf pieces later (i + 1)
more_boxes IsBoxOf pieces boxes later i box within h is e =
    grind (arith, length_push, below_or_not, get_or_append_left, get_or_push)

pub all_boxes : (IsBoxOf : Piece → Rect → Type 0) (pieces : List Piece) (boxes : List Rect) (i : ℕ) → length pieces ≤ i
    → AreBoxesSoFar IsBoxOf pieces boxes i → AreBoxesOf IsBoxOf pieces boxes
all_boxes IsBoxOf pieces boxes i past h = grind (arith)
