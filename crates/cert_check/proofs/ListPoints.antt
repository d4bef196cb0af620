-- Right lists and the points of their segments: where a list is right its segment is inside, and the triangles of a
-- segment's pieces are a right list.
use Rattle.std.proofs.Common.{◌≡◌, ◌≢◌, ◌⊎◌, inl, inr, ℕ, suc, ◌+◌, ◌<◌, List, [], ◌∷◌, length, map, refl, sym, subst}
use Rattle.std.proofs.Common.{arith}
use Rattle.plane_base.specs.Plane.{whole}
use Rattle.plane_base.specs.declared.shapes.Pt.{Pt}
use Rattle.plane_base.proofs.MixLaws.Mixes.{mix_moved, between_weights}
use Rattle.tin_base.specs.declared.frames.Frame.TheVariants.{Source}
use Rattle.tin_base.specs.Triangulation.{Triangulation, numbers_of, places}
use Rattle.tin_base.specs.Images.{IsInSome}
use Rattle.tin_base.specs.Soundness.{IsSound}
use Rattle.tin_base.specs.Segments.{Spot, spot_at, at_a, at_b, IsBefore, IsNotAfter, IsSameSpot, IsInside, IsPart, Part}
use Rattle.tin_base.specs.Segments.{part_at, ArePieces, ArePiecesAt, ArePiecesOf, AreChain}
use Rattle.tin_base.proofs.SegmentSpots.Ends.{IsSpot, before_or, no_later, no_later_trans, up_to_same, from_same}
use Rattle.tin_base.proofs.SegmentSpots.Parts.{between_in}
use Rattle.tin_base.proofs.SegmentSpots.Spots.{spot-w, first_inside, point_inside}
use Rattle.tin_base.proofs.PieceChains.Chain.{chain}
use Rattle.sheet_pieces.proofs.PartSequences.{same_or}
use Rattle.cert_check.specs.RightLists.{AreFollowing, IsOneWith, IsRightList}

-- ---- the points of a segment
upto_b : (s : Spot) → IsNotAfter s at_b
upto_b s = omega arith

from_a : (s : Spot) → IsNotAfter at_a s
from_a s = omega arith

-- each spot from x on is in a triangle of the list
covered : (tin : Triangulation) (a b : Pt) (x : Spot) (t : ℕ) (ts : List ℕ) (s : Spot) → IsSound tin
    → AreFollowing tin a b x (t ∷ ts) → IsSpot x → IsSpot s → IsNotAfter x s → IsInSome tin Source (spot_at a b s)
covered tin a b x t [] s sound (first, last, part, same, ends) some_x some from =
    let at_end : IsNotAfter s last = no_later_trans s at_b last (omega arith) (upto_b s) (from_same last at_b ends) in
    let early : IsNotAfter first s = no_later_trans first x s some_x (up_to_same first x same) from in
    let in_t = between_in tin a b t first last s (sound.positive Source t part.in_range) part.has_first part.has_last
    some early at_end in
    (t, part.in_range, in_t.inside)
covered tin a b x t (u ∷ us) s sound (first, last, part, same, follow) some_x some from =
    go (before_or last s) (let h = part.has_last in covered tin a b last u us s sound follow h.some some)
  where
    early : IsNotAfter first s
    early = no_later_trans first x s some_x (up_to_same first x same) from

    go : IsBefore last s ⊎ IsNotAfter s last → (IsNotAfter last s → IsInSome tin Source (spot_at a b s))
        → IsInSome tin Source (spot_at a b s)
    go (inl h) others = others (no_later last s h)
    go (inr h) others =
        let in_t = between_in tin a b t first last s (sound.positive Source t part.in_range) part.has_first
        part.has_last some early h in
        (t, part.in_range, in_t.inside)

ends_differ : IsSameSpot at_a at_b → ⊥
ends_differ e = absurd (omega arith)

pub following_inside : (tin : Triangulation) (a b : Pt) (numbers : List ℕ) → IsSound tin
    → AreFollowing tin a b at_a numbers → IsInside tin a b
following_inside tin a b [] sound follow p hp m = absurd (ends_differ follow)
following_inside tin a b (t ∷ ts) sound follow p hp m =
    let i = between_weights (whole a) (whole b) p m in
    let s : Spot = record { of_a = i.k; of_b = i.l } in
    let has = covered tin a b at_a t ts s sound follow (omega arith) i.some (from_a s) in (
      has.0,
      has.1,
      mix_moved (spot_at a b s) p (places tin Source (numbers_of tin has.0)) (spot-w a b s i.some) i.same
          has.2,
    )

one_inside : (tin : Triangulation) (a : Pt) (numbers : List ℕ) → IsOneWith tin a numbers
    → IsInSome tin Source (whole a)
one_inside tin a numbers h = grind arith

pub right_inside : (tin : Triangulation) (a b : Pt) (numbers : List ℕ) → IsSound tin → IsRightList tin a b numbers
    → IsInside tin a b
right_inside tin a b numbers sound right = go (same_or a b)
  where
    go : (a ≡ b) ⊎ (a ≢ b) → IsInside tin a b
    go (inl e) = subst (λ (q : Pt). IsInside tin a q) e (point_inside tin a (one_inside tin a numbers (right.0 e)))
    go (inr differ) = following_inside tin a b numbers sound (right.1 differ)

-- ---- the triangles of pieces

-- what of the parts from x on is needed
pub record IsRow (tin : Triangulation) (a b : Pt) (x : Spot) (parts : List Part) : Type 0 where
  pub part : (i : ℕ) → i < length parts → IsPart tin a b (part_at parts i).triangle (part_at parts i).first
      (part_at parts i).last
  pub begins : 0 < length parts → IsSameSpot (part_at parts 0).first x
  pub joined : (i : ℕ) → suc i < length parts → IsSameSpot (part_at parts (suc i)).first (part_at parts i).last
  pub ends : (i : ℕ) → suc i ≡ length parts → IsSameSpot (part_at parts i).last at_b
  pub none : 0 ≡ length parts → IsSameSpot x at_b

pub row_rest : (tin : Triangulation) (a b : Pt) (x : Spot) (p : Part) (ps : List Part) → IsRow tin a b x (p ∷ ps)
    → IsRow tin a b p.last ps
row_rest tin a b x p ps row = record {
  part = λ i h. row.part (suc i) (omega arith);
  begins = λ some. row.joined 0 (omega arith);
  joined = λ i h. row.joined (suc i) (omega arith);
  ends = λ i e. row.ends (suc i) (omega arith);
  none = λ e. row.ends 0 (omega arith);
}

following_of : (tin : Triangulation) (a b : Pt) (x : Spot) (parts : List Part) → IsRow tin a b x parts
    → AreFollowing tin a b x (map (λ (part : Part). part.triangle) parts)
following_of tin a b x [] row = row.none refl
following_of tin a b x (p ∷ ps) row = (
  p.first,
  p.last,
  row.part 0 (omega arith),
  row.begins (omega arith),
  following_of
      tin a b p.last ps (row_rest tin a b x p ps row),
)

one_of : (tin : Triangulation) (a : Pt) (parts : List Part) → IsInside tin a a → ArePiecesAt tin a parts
    → IsOneWith tin a (map (λ (part : Part). part.triangle) parts)
one_of tin a parts inside none = grind (arith, first_inside)

pub row_of : (tin : Triangulation) (a b : Pt) (parts : List Part) → IsSound tin → a ≢ b → IsInside tin a b
    → ArePieces tin a b parts → IsRow tin a b at_a parts
row_of tin a b parts sound differ inside are = go (chain tin a b parts sound differ inside are)
  where
    next : (i : ℕ) → i + 1 ≡ suc i
    next i = omega arith

    below : (i n : ℕ) → suc i < n → i + 1 < n
    below i n h = omega arith

    last : (i n : ℕ) → suc i ≡ n → i + 1 ≡ n
    last i n e = omega arith

    nothing : (n : ℕ) → 0 ≡ n → 0 < n → ⊥
    nothing n e h = absurd (omega arith)

    go : AreChain parts → IsRow tin a b at_a parts
    go row = record {
      part = are.part;
      begins = λ some. row.begins;
      joined = λ i h. sym (subst (λ (n : ℕ). IsSameSpot (part_at parts i).last (part_at parts n).first) (next i)
          (row.joined i (below i (length parts) h)));
      ends = λ i e. row.ends i (last i (length parts) e);
      none = λ e. absurd (nothing (length parts) e row.some);
    }

pub pieces_right : (tin : Triangulation) (a b : Pt) (parts : List Part) → IsSound tin → IsInside tin a b
    → ArePiecesOf tin a b parts → IsRightList tin a b (map (λ (part : Part). part.triangle) parts)
pieces_right tin a b parts sound inside pieces = (
  λ e. one_of tin a parts (subst (λ (q : Pt). IsInside tin a q) (sym e) inside) (pieces.0 e),
  λ differ. following_of tin a b at_a parts (row_of tin a b parts sound differ inside (pieces.1 differ)),
)
