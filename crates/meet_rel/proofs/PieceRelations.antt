-- Pieces are carried as segments of one triangle are, so they keep their relations.
use Rattle.plane_base.specs.Plane.{Point}
use Rattle.tin_base.specs.declared.pieces.Piece.{Piece}
use Rattle.tin_base.specs.Triangulation.{Triangulation}
use Rattle.tin_base.specs.Segments.{Part}
use Rattle.tin_base.specs.Pieces.{IsPieceOf, first_point, last_point}
use Rattle.tin_base.specs.CarriedSegments.{IsCarried}
use Rattle.tin_base.proofs.FrameImages.Agreement.{each_has_image}
use Rattle.tin_base.proofs.FrameImages.SegmentImages.{relation_kept}
use Rattle.meet_rel.specs.Laws.{AreImages, PiecesKeepRelations}
use Rattle.meet_rel.proofs.ClipEnds.{has_ends}

-- the ends of a piece have images
pub images_of : (tin : Triangulation) (piece : Piece) (part : Part) → IsPieceOf tin piece part
    → (first : Point) × (last : Point) × AreImages tin piece part first last
images_of tin piece part h =
    let e = has_ends tin piece part h in
    let f = each_has_image tin (first_point piece part) e.first_positive (piece.tri, e.in_range, e.first) in
    let l = each_has_image tin (last_point piece part) e.last_positive (piece.tri, e.in_range, e.last) in
    (f.0, l.0, record { first_positive = f.1; last_positive = l.1; of_first = f.2; of_last = l.2 })

carried : (tin : Triangulation) (piece : Piece) (part : Part) (a b : Point) → IsPieceOf tin piece part
    → AreImages tin piece part a b → IsCarried tin (first_point piece part) (last_point piece part) a b
carried tin piece part a b h i =
    let e = has_ends tin piece part h in
    record {
      triangle = piece.tri;
      in_range = e.in_range;
      begins = e.first;
      ends = e.last;
      image_begins = i.of_first;
      image_ends = i.of_last;
      positive = e.first_positive;
      positive_end = e.last_positive;
      positive_image = i.first_positive;
      positive_image_end = i.last_positive;
    }

pub pieces_keep_relations : PiecesKeepRelations
pieces_keep_relations tin sound p q s t hp hq a b c d ip iq =
    record {
      kept = λ relation. relation_kept tin (first_point p s) (last_point p s) a b (first_point q t)
          (last_point q t) c d sound (carried tin p s a b hp ip) (carried tin q t c d hq iq) relation;
    }
