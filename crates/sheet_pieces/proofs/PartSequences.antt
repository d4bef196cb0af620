-- The parts of a segment that is inside follow each other from its first end to its last, and so do the images of their
-- ends.
use Rattle.std.proofs.Common.{◌≡◌, ◌≢◌, ◌⊎◌, inl, inr, ℕ, zero, suc, ◌+◌, ◌<◌, ℤ, pos, ◌<ℤ◌, List, [], ◌∷◌}
use Rattle.std.proofs.Common.{length, sym, subst, arith}
use Rattle.std.proofs.lemmas.Int.{ints}
use Rattle.plane_base.specs.Plane.{Same, whole}
use Rattle.plane_base.specs.declared.shapes.Pt.{Pt}
use Rattle.plane_base.proofs.MixLaws.Mixes.{same_trans, weights_between}
use Rattle.tin_base.specs.Triangulation.{Triangulation}
use Rattle.tin_base.specs.Soundness.{IsSound}
use Rattle.tin_base.specs.Segments.{spot_at, at_a, at_b, IsInside, Part, part_at, ArePieces}
use Rattle.tin_base.specs.Segments.{ArePiecesAt, ArePiecesOf, AreChain}
use Rattle.tin_base.proofs.SegmentSpots.Spots.{one, spot-w, spot_first, spot_last, first_axis, spot_of_point}
pub use Rattle.tin_base.proofs.SegmentSpots.Spots.{same_of_spots}
use Rattle.tin_base.proofs.PieceChains.Chain.{chain}

-- ---- two points are the same, or not
int_same_or : (x y : ℤ) → (x ≡ y) ⊎ (x ≢ y)
int_same_or x y = grind (arith, ints)

pub same_or : (a b : Pt) → (a ≡ b) ⊎ (a ≢ b)
same_or a b = grind (arith, int_same_or)

-- ---- the parts of a segment that is inside
pub record AreInLine (a b : Pt) (parts : List Part) : Type 0 where
  pub some : 0 < length parts
  pub begins : Same (spot_at a b (part_at parts 0).first) (whole a)
  pub joined : (i : ℕ) → i + 1 < length parts
      → Same (spot_at a b (part_at parts i).last) (spot_at a b (part_at parts (i + 1)).first)
  pub ends : (i : ℕ) → i + 1 ≡ length parts → Same (spot_at a b (part_at parts i).last) (whole b)
  pub first-w : (i : ℕ) → i < length parts → pos 0 <ℤ (spot_at a b (part_at parts i).first).w
  pub last-w : (i : ℕ) → i < length parts → pos 0 <ℤ (spot_at a b (part_at parts i).last).w

way_in_line : (tin : Triangulation) (a b : Pt) (parts : List Part) → IsSound tin → a ≢ b → IsInside tin a b
    → ArePieces tin a b parts → AreInLine a b parts
way_in_line tin a b parts sound differ inside pieces = go (chain tin a b parts sound differ inside pieces)
  where
    go : AreChain parts → AreInLine a b parts
    go follow = record {
      some = follow.some;
      begins = same_trans (spot_at a b (part_at parts 0).first) (spot_at a b at_a) (whole a) one
          (same_of_spots a b (part_at parts 0).first at_a follow.begins) (spot_first a b);
      joined = λ i h. same_of_spots a b (part_at parts i).last (part_at parts (i + 1)).first (follow.joined i h);
      ends = λ i e. same_trans (spot_at a b (part_at parts i).last) (spot_at a b at_b) (whole b) one
          (same_of_spots a b (part_at parts i).last at_b (follow.ends i e)) (spot_last a b);
      first-w = λ i h. let part = pieces.part i h in let has =
          part.has_first in spot-w a b (part_at parts i).first has.some;
      last-w = λ i h. let part = pieces.part i h in let has =
          part.has_last in spot-w a b (part_at parts i).last has.some;
    }

one_part : (a : Pt) (part : Part) → part.first ≡ at_a → part.last ≡ at_a → AreInLine a a (part ∷ [])
one_part a part ef el = grind (arith, spot_of_point, one)

point_in_line : (tin : Triangulation) (a : Pt) (parts : List Part) → IsInside tin a a → ArePiecesAt tin a parts
    → AreInLine a a parts
point_in_line tin a [] inside none = absurd
    (none (inside (whole a) one (weights_between (whole a) (whole a) (whole a)
    (record { k = 1; l = 0; some = omega arith; same = (sym (first_axis a.x a.x), sym (first_axis a.y a.y)) }))))
point_in_line tin a (part ∷ []) inside pieces = one_part a part pieces.3 pieces.4
point_in_line tin a (part ∷ next ∷ parts) inside pieces = absurd pieces

pub in_line : (tin : Triangulation) (a b : Pt) (parts : List Part) → IsSound tin → IsInside tin a b
    → ArePiecesOf tin a b parts → AreInLine a b parts
in_line tin a b parts sound inside pieces = go (same_or a b)
  where
    go : (a ≡ b) ⊎ (a ≢ b) → AreInLine a b parts
    go (inl e) = subst (λ (q : Pt). AreInLine a q parts) e
        (point_in_line tin a parts (subst (λ (q : Pt). IsInside tin a q) (sym e) inside) (pieces.0 e))
    go (inr differ) = way_in_line tin a b parts sound differ inside (pieces.1 differ)
