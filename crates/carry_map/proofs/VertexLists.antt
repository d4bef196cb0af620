-- What is gathered of vertices, one after the other.
use Rattle.std.proofs.Common.{◌≡◌, ℕ, ◌+◌, ◌-◌, ◌≤◌, List, [], ◌∷◌, ◌++◌, Option, Some, None, take, drop, length}
use Rattle.std.proofs.Common.{append_assoc, ap, refl, sym, ◌∙◌, subst, arith}
use Rattle.std.proofs.Math.Seq.{drop-append_seam}
use Rattle.std.proofs.lemmas.List.{take_all, append-nil, length-append, length-map}
use Rattle.std.specs.List.{cons_option}
use Rattle.plane_base.specs.declared.shapes.Pt.{Pt}
use Rattle.tin_base.specs.declared.pieces.Piece.{Piece}
use Rattle.tin_base.specs.Triangulation.{Triangulation}
use Rattle.sheet_base.specs.PointHeights.{Height, Position, points_with_heights, points_of, heights_of}
use Rattle.sheet_base.proofs.PositionLists.{paired_points, paired_heights}
use Rattle.tin_base.specs.Segments.{IsInside}
use Rattle.affine_image.specs.RoundedImages.{IsRoundedImage}
use Rattle.sheet_pieces.specs.SpotHeights.{crossing_heights}
use Rattle.sheet_pieces.proofs.SpotHeights.{crossing_count}
use Rattle.sheet_pieces.specs.SheetSegments.{SheetSegment, PathVertex, segments_begun}
use Rattle.sheet_pieces.specs.SheetPieces.{first_place, ArePiecesOfAll, AreInside}
use Rattle.sheet_pieces.specs.SheetImages.{AreCrossings, joined_runs, begins_from}
use Rattle.sheet_pieces.proofs.PieceParts.{inner_ends}
use Rattle.sheet_pieces.proofs.PairedHeights.{crossings_paired, ends_count}
use Rattle.sheet_pieces.proofs.PlaneRuns.{items_on}
use Rattle.sheet_pieces.proofs.Runs.{runs_more, begins_more, inside_more}
use Rattle.sheet_pieces.proofs.PathSegments.{begun_append}
use Rattle.carry_map.specs.CarriedLists.{inner_images, AreSegmentTold, IsSegmentCarried, AreCarried}

-- ---- what comes after the first part of a list
pub behind_front : {X : Type 0} (before own all : List X) (n : ℕ) → all ≡ before ++ own → n ≡ length before
    → take (length all - n) (drop n all) ≡ own
behind_front before own all n e f = subst (λ (xs : List _). take (length xs - n) (drop n xs) ≡ own) (sym e)
    (subst (λ (m : ℕ). take (length (before ++ own) - m) (drop m (before ++ own)) ≡ own) (sym f) there)
  where
    there : take (length (before ++ own) - length before) (drop (length before) (before ++ own)) ≡ own
    there = ap (λ (xs : List _). take (length (before ++ own) - length before) xs) (drop-append_seam before own)
        ∙ take_all (length (before ++ own) - length before) own (enough (length-append before own))
      where
        enough : length (before ++ own) ≡ length before + length own
            → length own ≤ length (before ++ own) - length before
        enough h = omega arith

-- ---- segments and pieces
pub pieces_more : (tin : Triangulation) (layer : ℕ) (ss ts : List SheetSegment) (ps qs : List Piece)
    → ArePiecesOfAll tin layer ss ps → ArePiecesOfAll tin layer ts qs → ArePiecesOfAll tin layer (ss ++ ts) (ps ++ qs)
pieces_more tin layer [] ts ps qs h k = subst (λ (xs : List Piece). ArePiecesOfAll tin layer ts (xs ++ qs)) (sym h) k
pieces_more tin layer (s ∷ ss) ts ps qs h k = (
  h.0,
  h.1 ++ qs,
  ap (λ (xs : List Piece). xs ++ qs) h.2 ∙ append_assoc h.0 h.1 qs,
  h.3,
  pieces_more tin layer ss ts h.1 qs h.4 k,
)

-- ---- carried
pub carried_none : (tin : Triangulation) (layer : ℕ) (points : List Pt) (heights : List Height) (run : List ℕ)
    (pieces : List Piece) → AreCarried tin layer [] points points heights heights run run pieces pieces
carried_none tin layer points heights run pieces = record {
  runs = [];
  of_vertices = tt;
  points_are = sym (append-nil points);
  heights_are = sym (append-nil heights);
  run_are = sym (append-nil run);
  own = [];
  pieces_are = sym (append-nil pieces);
  of_segments = refl;
  inside = tt;
}

pub carried_on : (tin : Triangulation) (layer : ℕ) (vs ws : List PathVertex) (x y z : List Pt) (a b c : List Height)
    (r s t : List ℕ) (p q o : List Piece) → AreCarried tin layer vs x y a b r s p q
    → AreCarried tin layer ws y z b c s t q o → AreCarried tin layer (vs ++ ws) x z a c r t p o
carried_on tin layer vs ws x y z a b c r s t p q o g h = record {
  runs = g.runs ++ h.runs;
  of_vertices = runs_more tin vs ws g.runs h.runs g.of_vertices h.of_vertices;
  points_are = items_on (λ (position : Position). position.point) x y z g.runs h.runs g.points_are h.points_are;
  heights_are = items_on (λ (position : Position). position.height) a b c g.runs h.runs g.heights_are h.heights_are;
  run_are = h.run_are ∙ ap (λ (ms : List ℕ). ms ++ begins_from (length y) h.runs) g.run_are
      ∙ append_assoc r (begins_from (length x) g.runs) (begins_from (length y) h.runs)
      ∙ ap (λ (ms : List ℕ). r ++ ms) (ap (λ (m : ℕ). begins_from (length x) g.runs ++ begins_from m h.runs)
      (ap (λ (xs : List Pt). length xs) g.points_are ∙ length-append x (points_of (joined_runs g.runs))
      ∙ ap (λ (n : ℕ). length x + n) (length-map (joined_runs g.runs) (λ (position : Position). position.point)))
      ∙ sym (begins_more (length x) g.runs h.runs));
  own = g.own ++ h.own;
  pieces_are = h.pieces_are ∙ ap (λ (xs : List Piece). xs ++ h.own) g.pieces_are ∙ append_assoc p g.own h.own;
  of_segments = subst (λ (ss : List SheetSegment). ArePiecesOfAll tin layer ss (g.own ++ h.own))
      (sym (begun_append vs ws))
      (pieces_more tin layer (segments_begun vs) (segments_begun ws) g.own h.own g.of_segments h.of_segments);
  inside = subst (λ (ss : List SheetSegment). AreInside tin ss) (sym (begun_append vs ws))
      (inside_more tin (segments_begun vs) (segments_begun ws) g.inside h.inside);
}

-- a vertex that begins no segment
pub carried_last : (tin : Triangulation) (layer : ℕ) (vertex : PathVertex) (image : Pt) (points points' : List Pt)
    (heights heights' : List Height) (run run' : List ℕ) (pieces : List Piece) → vertex.segment ≡ None
    → IsRoundedImage tin vertex.point image
    → points' ≡ points ++ image ∷ [] → heights' ≡ heights ++ vertex.height ∷ [] → run' ≡ run ++ length points ∷ []
    → AreCarried tin layer (vertex ∷ []) points points' heights heights' run run' pieces pieces
carried_last tin layer vertex image points points' heights heights' run run' pieces none is e g f = record {
  runs = (record { point = image; height = vertex.height } ∷ []) ∷ [];
  of_vertices = ((is, refl, subst (λ (s : Option SheetSegment). AreCrossings tin s []) (sym none) refl), tt);
  points_are = e;
  heights_are = g;
  run_are = f;
  own = [];
  pieces_are = sym (append-nil pieces);
  of_segments = subst (λ (s : Option SheetSegment). ArePiecesOfAll tin layer (cons_option s []) []) (sym none) refl;
  inside = subst (λ (s : Option SheetSegment). AreInside tin (cons_option s [])) (sym none) tt;
}

-- and one that does
pub carried_way : (tin : Triangulation) (layer : ℕ) (vertex : PathVertex) (segment : SheetSegment) (image : Pt)
    (points points' points'' : List Pt) (heights heights' heights'' : List Height) (run run' : List ℕ)
    (pieces pieces' : List Piece)
    → vertex.segment ≡ Some segment → IsRoundedImage tin vertex.point image
    → points' ≡ points ++ image ∷ [] → heights' ≡ heights ++ vertex.height ∷ [] → run' ≡ run ++ length points ∷ []
    → IsInside tin segment.a segment.b
    → IsSegmentCarried tin segment.a segment.b segment.heights (first_place layer segment) points' points'' heights'
    heights'' pieces pieces'
    → AreCarried tin layer (vertex ∷ []) points points'' heights heights'' run run' pieces pieces'
carried_way tin layer vertex segment image points points' points'' heights heights' heights'' run run' pieces pieces'
    some is e g f inside carried = go carried.told carried.crossings carried.rises
  where
    go : (told : AreSegmentTold tin segment.a segment.b (first_place layer segment) pieces pieces')
        → points'' ≡ points' ++ inner_images told.own
        → heights'' ≡ heights' ++ crossing_heights segment.a segment.b segment.heights told.parts
        → AreCarried tin layer (vertex ∷ []) points points'' heights heights'' run run' pieces pieces'
    go told points_on heights_on =
        let ends = inner_ends tin segment.a segment.b (first_place layer segment) told.parts told.own told.told in
        let hs = crossing_heights segment.a segment.b segment.heights told.parts in
        let images = inner_images told.own in
        let count : length images ≡ length hs = ends_count tin segment.a segment.b told.parts images ends
        ∙ sym (crossing_count segment.a segment.b segment.heights told.parts) in
        let behind = points_with_heights images hs in
        let first : Position = record { point = image; height = vertex.height } in
        let crossings = crossings_paired tin segment told.parts images told.cut ends count in
        record {
          runs = (first ∷ behind) ∷ [];
          of_vertices = (
            (is, refl, subst (λ (s : Option SheetSegment). AreCrossings tin s behind) (sym some) crossings),
            tt,
          );
          points_are = points_on ∙ ap (λ (xs : List Pt). xs ++ images) e ∙ append_assoc points (image ∷ []) images
              ∙ ap (λ (xs : List Pt). points ++ (image ∷ xs)) (sym (paired_points images hs count)
              ∙ ap (λ (ps : List Position). points_of ps) (sym (append-nil behind)));
          heights_are = heights_on ∙ ap (λ (zs : List Height). zs ++ hs) g
              ∙ append_assoc heights (vertex.height ∷ []) hs
              ∙ ap (λ (zs : List Height). heights ++ (vertex.height ∷ zs)) (sym (paired_heights images hs count)
              ∙ ap (λ (ps : List Position). heights_of ps) (sym (append-nil behind)));
          run_are = f;
          own = told.own;
          pieces_are = told.are;
          of_segments = subst (λ (s : Option SheetSegment). ArePiecesOfAll tin layer (cons_option s []) told.own)
              (sym some) (
                told.own,
                [],
                sym (append-nil told.own),
                record { parts = told.parts; cut = told.cut; told = told.told },
                refl,
              );
          inside = subst (λ (s : Option SheetSegment). AreInside tin (cons_option s [])) (sym some) (inside, tt);
        }

-- as many heights as points
pub carried_each : (tin : Triangulation) (layer : ℕ) (vs : List PathVertex) (x y : List Pt) (a b : List Height)
    (r s : List ℕ) (p q : List Piece) → AreCarried tin layer vs x y a b r s p q → length a ≡ length x
    → length b ≡ length y
carried_each tin layer vs x y a b r s p q carried e =
    ap (λ (zs : List Height). length zs) carried.heights_are ∙ length-append a (heights_of (joined_runs carried.runs))
    ∙ ap (λ (n : ℕ). length a + n) (length-map (joined_runs carried.runs) (λ (position : Position). position.height)
    ∙ sym (length-map (joined_runs carried.runs) (λ (position : Position). position.point)))
    ∙ ap (λ (n : ℕ). n + length (points_of (joined_runs carried.runs))) e
    ∙ sym (length-append x (points_of (joined_runs carried.runs)))
    ∙ ap (λ (ps : List Pt). length ps) (sym carried.points_are)
