-- Boxes of whole sides round points at parameters of a segment, and round a piece's exact ends.
use Rattle.std.proofs.Common.{◌≡◌, ◌↔◌, ℤ, pos, negsuc, ◌+ℤ◌, ◌-ℤ◌, ◌*ℤ◌, ◌≤ℤ◌, ◌<ℤ◌, ◌^◌, ◌-◌, [], ◌∷◌, SFits, arith}
use Rattle.std.proofs.lemmas.Int.{ints}
use mir.Syntax.{w64}
use Rattle.integer_ring.proofs.Ring.{num, ◌⊕◌, ◌⊖◌, ◌⊗◌}
use Rattle.integer_ring.proofs.Claims.{◌≼◌, ◌≺◌, gap, over, ◌⊞◌, ◌⊠◌, ◌because◌, ◌otherwise◌, ◌⇒◌, follows}
use Rattle.std.specs.Int.{int_div_euclid}
use Rattle.integer_ring.proofs.Floor.{floor-≤, floor-<}
use Rattle.frac128.specs.declared.frac.Frac.{Frac}
use Rattle.plane_base.specs.Plane.{Point, IsShort}
use Rattle.plane_base.specs.Slices.{IsParam}
use Rattle.plane_base.specs.declared.shapes.Pt.{Pt}
use Rattle.plane_base.specs.declared.shapes.Rect.{Rect}
use Rattle.plane_base.specs.declared.shapes.TheConstants.{SPAN}
use Rattle.plane_base.specs.Boxes.{IsIn, AreIn, common_of}
use Rattle.plane_base.proofs.Bounds.BoxLemmas.{mix_in, common_within, common_has, ordered_by}
use Rattle.tin_base.specs.declared.frames.Frame.TheVariants.{Source}
use Rattle.tin_base.specs.declared.pieces.Piece.{Piece}
use Rattle.tin_base.specs.Triangulation.{Triangulation}
use Rattle.tin_base.specs.Segments.{Part}
use Rattle.tin_base.specs.Relations.{IsBetween}
use Rattle.tin_base.specs.Pieces.{IsPieceOf, IsPieceInside, first_point, last_point}
use Rattle.meet_rel.specs.Clips.{at}
use Rattle.meet_rel.proofs.ClipEnds.{has_ends}
use Rattle.meet_rel.proofs.Scale.{mix_first}
use Rattle.meet_rel.proofs.Ways.{at-w}
use Rattle.topo_check.specs.InsideBoxes.{IsExactBox, IsUpToPlace, IsFromPlace}
use Rattle.topo_check.proofs.InBoxes.{among_within}

-- ---- a share of a way
-- a quotient rounded down is no less than what 0 and the way are no less than
not_below : (n d z q m : ℤ) → pos 0 <ℤ d → pos 0 ≤ℤ n → n ≤ℤ d → m ≤ℤ pos 0 → m ≤ℤ z → (n *ℤ z) <ℤ (q *ℤ d +ℤ d)
    → m ≤ℤ q
not_below =
    follows 5 (λ n d z q m. num (pos 0) ≺ d ⇒ num (pos 0) ≼ n ⇒ n ≼ d ⇒ m ≼ num (pos 0) ⇒ m ≼ z ⇒ n ⊗ z ≺ q ⊗ d
    ⊕ d ⇒ m ≼ q
    otherwise over 5 ⊞ over 6 ⊠ gap 0 ⊞ gap 1 ⊠ gap 4 ⊞ gap 2 ⊠ gap 3) tt

-- and no greater
not_above : (n d z q m : ℤ) → pos 0 <ℤ d → pos 0 ≤ℤ n → n ≤ℤ d → pos 0 ≤ℤ m → z ≤ℤ m → (q *ℤ d) ≤ℤ (n *ℤ z) → q ≤ℤ m
not_above =
    follows 5 (λ n d z q m. num (pos 0) ≺ d ⇒ num (pos 0) ≼ n ⇒ n ≼ d ⇒ num (pos 0) ≼ m ⇒ z ≼ m ⇒ q ⊗ d ≼ n ⊗ z ⇒ q ≼ m
    otherwise gap 5 ⊞ over 6 ⊠ gap 0 ⊞ gap 1 ⊠ gap 4 ⊞ gap 3 ⊠ gap 2 ⊞ over 0) tt

pub floor_low : (n d z m : ℤ) → IsParam n d → m ≤ℤ pos 0 → m ≤ℤ z → m ≤ℤ int_div_euclid (n *ℤ z) d
floor_low n d z m p h k = not_below n d z (int_div_euclid (n *ℤ z) d) m p.0 p.1 p.2 h k (floor-< (n *ℤ z) d p.0)

pub floor_high : (n d z m : ℤ) → IsParam n d → pos 0 ≤ℤ m → z ≤ℤ m → int_div_euclid (n *ℤ z) d ≤ℤ m
floor_high n d z m p h k = not_above n d z (int_div_euclid (n *ℤ z) d) m p.0 p.1 p.2 h k (floor-≤ (n *ℤ z) d p.0)

-- ---- a share of the way from one number to another
pub low_place : (from to n d q r : ℤ) → r ≡ from +ℤ q → (q *ℤ d) ≤ℤ (n *ℤ (to -ℤ from))
    → (r *ℤ d) ≤ℤ ((d -ℤ n) *ℤ from +ℤ n *ℤ to)
low_place from to n d q r e h = rw e (go from to n d q h)
  where
    go : (from to n d q : ℤ) → (q *ℤ d) ≤ℤ (n *ℤ (to -ℤ from)) → ((from +ℤ q) *ℤ d) ≤ℤ ((d -ℤ n) *ℤ from +ℤ n *ℤ to)
    go = follows 5 (λ from to n d q. q ⊗ d ≼ n ⊗ (to ⊖ from) ⇒ (from ⊕ q) ⊗ d ≼ (d ⊖ n) ⊗ from ⊕ n ⊗ to because gap 0)
        tt

pub high_place : (from to n d q r : ℤ) → r ≡ from -ℤ q → (q *ℤ d) ≤ℤ (n *ℤ (from -ℤ to))
    → ((d -ℤ n) *ℤ from +ℤ n *ℤ to) ≤ℤ (r *ℤ d)
high_place from to n d q r e h = rw e (go from to n d q h)
  where
    go : (from to n d q : ℤ) → (q *ℤ d) ≤ℤ (n *ℤ (from -ℤ to)) → ((d -ℤ n) *ℤ from +ℤ n *ℤ to) ≤ℤ ((from -ℤ q) *ℤ d)
    go = follows 5 (λ from to n d q. q ⊗ d ≼ n ⊗ (from ⊖ to) ⇒ (d ⊖ n) ⊗ from ⊕ n ⊗ to ≼ (from ⊖ q) ⊗ d because gap 0)
        tt

-- between two numbers that fit
pub sum_fits : (from to q : ℤ) → SFits w64 from → SFits w64 to → ((m : ℤ) → m ≤ℤ pos 0 → m ≤ℤ (to -ℤ from) → m ≤ℤ q)
    → ((m : ℤ) → pos 0 ≤ℤ m → (to -ℤ from) ≤ℤ m → q ≤ℤ m) → SFits w64 (from +ℤ q)
sum_fits from to q hf ht low high =
    let l : (negsuc (2 ^ 63 - 1) -ℤ from) ≤ℤ q =
    low (negsuc (2 ^ 63 - 1) -ℤ from) (omega (arith, ints)) (omega (arith, ints)) in
    let m : q ≤ℤ (pos (2 ^ 63 - 1) -ℤ from) =
    high (pos (2 ^ 63 - 1) -ℤ from) (omega (arith, ints)) (omega (arith, ints)) in
    omega (arith, ints)

pub difference_fits : (from to q : ℤ) → SFits w64 from → SFits w64 to
    → ((m : ℤ) → m ≤ℤ pos 0 → m ≤ℤ (from -ℤ to) → m ≤ℤ q) → ((m : ℤ) → pos 0 ≤ℤ m → (from -ℤ to) ≤ℤ m → q ≤ℤ m)
    → SFits w64 (from -ℤ q)
difference_fits from to q hf ht low high =
    let l : (from -ℤ pos (2 ^ 63 - 1)) ≤ℤ q =
    low (from -ℤ pos (2 ^ 63 - 1)) (omega (arith, ints)) (omega (arith, ints)) in
    let m : q ≤ℤ (from -ℤ negsuc (2 ^ 63 - 1)) =
    high (from -ℤ negsuc (2 ^ 63 - 1)) (omega (arith, ints)) (omega (arith, ints)) in
    omega (arith, ints)

pub short_fits : (z : ℤ) → IsShort z → SFits w64 z
short_fits z h = omega (arith, ints)

pub short_back : (a b : ℤ) → IsShort (b -ℤ a) → IsShort (a -ℤ b)
short_back a b h = omega (arith, ints)

pub near_short : (a b : ℤ) → (a -ℤ b) <ℤ SPAN → (b -ℤ a) <ℤ SPAN → IsShort (b -ℤ a)
near_short a b h k = omega (arith, ints)

-- ---- the box of two points at parameters
side_low : (m l n d p q : ℤ) → pos 0 <ℤ d → m ≤ℤ l → (l *ℤ d) ≤ℤ ((d -ℤ n) *ℤ p +ℤ n *ℤ q)
    → (m *ℤ ((d -ℤ n) *ℤ pos 1 +ℤ n *ℤ pos 1)) ≤ℤ ((d -ℤ n) *ℤ p +ℤ n *ℤ q)
side_low =
    follows 6 (λ m l n d p q. num (pos 0) ≺ d ⇒ m ≼ l ⇒ l ⊗ d ≼ (d ⊖ n) ⊗ p ⊕ n ⊗ q ⇒ m
    ⊗ ((d ⊖ n) ⊗ num (pos 1) ⊕ n ⊗ num (pos 1)) ≼ (d ⊖ n) ⊗ p ⊕ n ⊗ q because gap 1 ⊠ gap 0 ⊞ gap 2) tt

side_high : (m h n d p q : ℤ) → pos 0 <ℤ d → h ≤ℤ m → ((d -ℤ n) *ℤ p +ℤ n *ℤ q) ≤ℤ (h *ℤ d)
    → ((d -ℤ n) *ℤ p +ℤ n *ℤ q) ≤ℤ (m *ℤ ((d -ℤ n) *ℤ pos 1 +ℤ n *ℤ pos 1))
side_high =
    follows 6 (λ m h n d p q. num (pos 0) ≺ d ⇒ h ≼ m ⇒ (d ⊖ n) ⊗ p ⊕ n ⊗ q ≼ h ⊗ d ⇒ (d ⊖ n) ⊗ p ⊕ n ⊗ q ≼ m
    ⊗ ((d ⊖ n) ⊗ num (pos 1) ⊕ n ⊗ num (pos 1)) because gap 1 ⊠ gap 0 ⊞ gap 2) tt

pub place_in : (box : Rect) (a b : Pt) (f : Frac) (left bottom right top : ℤ) → IsParam f.num f.den
    → IsUpToPlace a.x b.x f left → IsUpToPlace a.y b.y f bottom → IsFromPlace a.x b.x f right
    → IsFromPlace a.y b.y f top
    → box.x0 ≤ℤ left → box.y0 ≤ℤ bottom → right ≤ℤ box.x1 → top ≤ℤ box.y1 → IsIn box (at a b f)
place_in box a b f left bottom right top param l o r t hl ho hr ht = record {
  left = side_low box.x0 left f.num f.den a.x b.x param.0 hl l;
  right = side_high box.x1 right f.num f.den a.x b.x param.0 hr r;
  bottom = side_low box.y0 bottom f.num f.den a.y b.y param.0 ho o;
  top = side_high box.y1 top f.num f.den a.y b.y param.0 ht t;
}

-- ---- the box of a piece's exact ends
pub tightened : (tin : Triangulation) (piece : Piece) (lo hi : Frac) (ends outer : Rect) → IsPieceInside tin piece
    → IsExactBox tin piece outer
    → ((part : Part) → IsPieceOf tin piece part → (r : Point) → pos 0 <ℤ r.w
    → IsBetween (first_point piece part) (last_point piece part) r
    ↔ IsBetween (at piece.a piece.b lo) (at piece.a piece.b hi) r)
    → AreIn ends (at piece.a piece.b lo ∷ at piece.a piece.b hi ∷ []) → IsExactBox tin piece (common_of ends outer)
tightened tin piece lo hi ends outer inside is points in_ends =
    let part = inside.is_piece.0 in let of = inside.is_piece.1 in
    let first = (has_ends tin piece part of).first_positive in record {
      ordered = ordered_by box (first_point piece part) first
          (each part of (first_point piece part) first (mix_first (first_point piece part) (last_point piece part)));
      encloses = each;
      among = among_within tin Source outer box (common_within ends outer).1 is.among;
    }
  where
    box : Rect
    box = common_of ends outer

    each : (part : Part) → IsPieceOf tin piece part → (r : Point) → pos 0 <ℤ r.w
        → IsBetween (first_point piece part) (last_point piece part) r → IsIn (common_of ends outer) r
    each part of r hr between =
        common_has ends outer r
        (mix_in ends (at piece.a piece.b lo ∷ at piece.a piece.b hi ∷ [])
        (at-w piece.a piece.b lo, (at-w piece.a piece.b hi, tt)) in_ends r hr ((points part of r hr).0 between))
        (is.encloses part of r hr between)
