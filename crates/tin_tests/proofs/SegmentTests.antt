-- What the test of a triangle and two of its segments needs.
use Rattle.std.proofs.Common.{◌≡◌, ◌⊎◌, inl, inr, ℕ, ◌<◌, ℤ, pos, ◌<ℤ◌, List, length, get_or, All}
use Rattle.std.proofs.Common.{refl, sym, subst, arith}
use lib.Signed.{lt_z_yes}
use Rattle.plane_base.specs.Plane.{IsNear, whole}
use Rattle.plane_base.specs.declared.shapes.Pt.{Pt}
use Rattle.plane_base.proofs.MixLaws.Mixes.{mix_moved}
use Rattle.plane_base.proofs.Bounds.NearPoints.{near_small}
use Rattle.tin_base.specs.declared.frames.Frame.TheVariants.{Source}
use Rattle.tin_base.specs.declared.pieces.Piece.{Piece}
use Rattle.tin_base.specs.Triangulation.{Triangulation, numbers_of, places, IsInTriangle}
use Rattle.tin_base.specs.Segments.{Part, at_a, at_b, spot_at, IsPart}
use Rattle.tin_base.specs.Pieces.{IsPieceOf, IsPieceInside}
use Rattle.meet_rel.proofs.ClipEnds.{same_or_different, different_not, some_a}
use Rattle.meet_rel.proofs.Ways.{AreDifferent}
use Rattle.topo_check.specs.Changes.{AreComparable, AreAllComparable}
use Rattle.tin_tests.specs.Small.{IsSmall, IsSmallPiece, IsTried}
use Rattle.tin_base.proofs.SegmentSpots.Spots.{spot_first, spot_last}

one : pos 0 <ℤ pos 1
one = lt_z_yes tt

-- ---- nearness
near : (p q : Pt) → IsSmall p → IsSmall q → IsNear p q
near p q h k = near_small p q h.x h.y k.x k.y

comparable : (tin : Triangulation) (p q : Piece) → IsPieceInside tin p → IsPieceInside tin q → IsSmallPiece p
    → IsSmallPiece q → AreComparable tin p q
comparable tin p q hp hq sp sq =
    record {
      first = hp;
      second = hq;
      near = (
        (near p.ia p.ib sp.ia sp.ib, near p.ia q.ia sp.ia sq.ia, near p.ib q.ia sp.ib sq.ia),
        (near p.ia p.ib sp.ia sp.ib, near p.ia q.ib sp.ia sq.ib, near p.ib q.ib sp.ib sq.ib),
        near q.ia q.ib sq.ia sq.ib,
      );
    }

-- pieces that the tests compare, each with each
pub all_comparable : (tin : Triangulation) (ps : List Piece) → All (λ p. IsTried tin p) ps → AreAllComparable tin ps
all_comparable tin ps h i d hi j e hj = let p = h i d hi in let q =
    h j e hj in comparable tin (get_or ps i d) (get_or ps j e) p.0 q.0 p.1 q.1

-- ---- a segment with both ends in the triangle is its own piece
whole_part : (tin : Triangulation) (a b : Pt) → 0 < length tin.triangles → IsInTriangle tin Source 0 (whole a)
    → IsInTriangle tin Source 0 (whole b) → IsPart tin a b 0 at_a at_b
whole_part tin a b ht ma mb =
    record {
      in_range = ht;
      has_first = record {
        some = some_a;
        inside =
            mix_moved (whole a) (spot_at a b at_a) (places tin Source (numbers_of tin 0)) one (spot_first a b) ma;
      };
      has_last = record {
        some = omega arith;
        inside =
            mix_moved (whole b) (spot_at a b at_b) (places tin Source (numbers_of tin 0)) one (spot_last a b) mb;
      };
      differ = omega arith;
      none_before = λ s h. omega arith;
      none_after = λ s h. omega arith;
    }

pub own_piece : (tin : Triangulation) (piece : Piece) → 0 < length tin.triangles → piece.tri ≡ 0
    → IsInTriangle tin Source 0 (whole piece.a) → IsInTriangle tin Source 0 (whole piece.b) → IsPieceInside tin piece
own_piece tin piece ht et ma mb =
    record { is_piece = go (same_or_different piece.a piece.b); begins = (0, ht, ma); ends = (0, ht, mb) }
  where
    none : {A : Type 0} → AreDifferent piece.a piece.b → piece.a ≡ piece.b → A
    none d e = absurd (different_not piece.a piece.b d e)

    go : (piece.a ≡ piece.b) ⊎ AreDifferent piece.a piece.b → (part : Part) × IsPieceOf tin piece part
    go (inl e) = (
      record { triangle = piece.tri; first = at_a; last = at_a },
      record {
        triangle = refl;
        of_point = λ _. record {
          in_range = subst (λ (t : ℕ). t < length tin.triangles) (sym et) ht;
          has_point =
              subst (λ (t : ℕ). IsInTriangle tin Source t (whole piece.a)) (sym et) ma;
          begins = refl;
          ends = refl;
        };
        of_segment = λ n. absurd (n e);
      },
    )
    go (inr d) = (
      record { triangle = piece.tri; first = at_a; last = at_b },
      record {
        triangle = refl;
        of_point = λ e. none d e;
        of_segment = λ _. subst (λ (t : ℕ). IsPart tin piece.a piece.b t at_a at_b) (sym et)
            (whole_part tin piece.a piece.b ht ma mb);
      },
    )
