-- Where a triangle is: its corners are near each other.
use Rattle.std.proofs.Common.{◌≡◌, ℕ, ◌<◌, List, [], length, get_or, ap, ◌∙◌, arith}
use Rattle.std.proofs.lemmas.List.{get_or_default}
use Rattle.plane_base.specs.Plane.{whole, IsNear}
use Rattle.plane_base.specs.declared.shapes.Pt.{Pt}
use Rattle.tin_base.specs.declared.corners.Corner.{Corner}
use Rattle.tin_base.specs.declared.frames.Frame.{Frame}
use Rattle.tin_base.specs.Triangulation.{Triangulation, place, no_corner, corner_at}
use Rattle.tin_base.specs.Limits.{IsWithinLimits}

-- two corners, as points
pub near_points : (tin : Triangulation) (frame : Frame) (m n : ℕ) (p q : Pt) → IsWithinLimits tin
    → m < length tin.corners → n < length tin.corners → whole p ≡ place frame (corner_at tin m)
    → whole q ≡ place frame (corner_at tin n) → IsNear p q
near_points tin frame m n p q limits hm hn e f = grind arith

-- the corners as they are read: the numbers of triangle t, and a corner at one of them
abbrev pub IsRead : {X : Type 0} → List X → ℕ → X → Type 0
IsRead xs i x = x ≡ get_or xs i x

number_below : (tin : Triangulation) (t k : ℕ) (numbers : List ℕ) → IsWithinLimits tin → t < length tin.triangles
    → k < 3 → IsRead tin.triangles t numbers → get_or numbers k 0 < length tin.corners
number_below tin t k numbers limits ht hk read = grind (arith, get_or_default, get_or)

place_read : (tin : Triangulation) (frame : Frame) (n : ℕ) (corner : Corner) (p : Pt) → n < length tin.corners
    → IsRead tin.corners n corner → whole p ≡ place frame corner → whole p ≡ place frame (corner_at tin n)
place_read tin frame n corner p hn read is = is
    ∙ ap (λ (c : Corner). place frame c) (read ∙ get_or_default tin.corners n corner no_corner hn)

pub near_reads : (tin : Triangulation) (frame : Frame) (t j k : ℕ) (numbers : List ℕ) (c d : Corner) (p q : Pt)
    → IsWithinLimits tin → t < length tin.triangles → j < 3 → k < 3 → IsRead tin.triangles t numbers
    → IsRead tin.corners (get_or numbers j 0) c → IsRead tin.corners (get_or numbers k 0) d → whole p ≡ place frame c
    → whole q ≡ place frame d → IsNear p q
near_reads tin frame t j k numbers c d p q limits ht hj hk read read_c read_d is_p is_q =
    let hm = number_below tin t j numbers limits ht hj read in
    let hn = number_below tin t k numbers limits ht hk read in
    near_points tin frame (get_or numbers j 0) (get_or numbers k 0) p q limits hm hn
    (place_read tin frame (get_or numbers j 0) c p hm read_c is_p)
    (place_read tin frame (get_or numbers k 0) d q hn read_d is_q)
