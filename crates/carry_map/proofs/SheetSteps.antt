-- A sheet, path by path.
use Rattle.std.proofs.Common.{◌≡◌, ℕ, suc, ◌+◌, ◌*◌, ◌<◌, ◌≤◌, List, [], take, drop, length, ap, sym, ◌∙◌, subst, arith}
use Rattle.std.proofs.lemmas.List.{length-append, take_all}
use Rattle.plane_base.specs.declared.shapes.Pt.{Pt}
use Rattle.sheet_base.specs.declared.paths.PathRow.{PathRow}
use Rattle.sheet_base.specs.PointHeights.{Height}
use Rattle.tin_base.specs.declared.pieces.Piece.{Piece}
use Rattle.tin_base.specs.Triangulation.{Triangulation}
use Rattle.sheet_pieces.specs.SheetSegments.{SheetSegment, PathVertex, path_vertices, vertices_from, segments_begun}
use Rattle.sheet_pieces.proofs.SheetPaths.{IsRowAt, one_path_more, split_paths}
use Rattle.carry_map.specs.declared.faults.CarryFault.{CarryFault}
use Rattle.carry_map.specs.CarriedLists.{AreCarried}
use Rattle.carry_map.specs.Causes.{IsCause}
use Rattle.carry_map.proofs.VertexLists.{carried_each, carried_on}
use Rattle.carry_map.proofs.LayerStops.{cause_between}

-- ---- what holds after some paths
pub record IsSheetCarried (tin : Triangulation) (layer : ℕ) (points : List Pt) (heights : List Height)
    (rows : List PathRow) (most : ℕ) (x : List Pt) (a : List Height) (r : List ℕ) (p p' : List Piece) (i : ℕ) : Type 0
  where
    pub carried : AreCarried tin layer (vertices_from points heights 0 (take i rows)) [] x [] a [] r p p'
    pub room : length p' ≤ most
    pub few : length x ≤ 2 * length p'
    pub each : length a ≡ length x

pub sheet_next : (tin : Triangulation) (layer : ℕ) (points : List Pt) (heights : List Height) (rows : List PathRow)
    (most : ℕ) (x y : List Pt) (a b : List Height) (r s : List ℕ) (p p' q : List Piece) (i : ℕ) (row : PathRow)
    → i < length rows → IsRowAt rows i row → IsSheetCarried tin layer points heights rows most x a r p p' i
    → AreCarried tin layer (path_vertices points heights i row) x y a b r s p' q → length q ≤ most
    → length y ≤ 2 * length q → IsSheetCarried tin layer points heights rows most y b s p q (i + 1)
sheet_next tin layer points heights rows most x y a b r s p p' q i row h e state carried room few = record {
  carried = subst (λ (vs : List PathVertex). AreCarried tin layer vs [] y [] b [] s p q)
      (sym (one_path_more points heights rows i row h e))
      (carried_on tin layer (vertices_from points heights 0 (take i rows)) (path_vertices points heights i row) [] x
      y []
      a b [] r s p p' q state.carried carried);
  room = room;
  few = few;
  each = carried_each tin layer (path_vertices points heights i row) x y a b r s p' q carried state.each;
}

-- all paths, of the points and heights of the sheet
pub sheet_all : (tin : Triangulation) (layer : ℕ) (points points' : List Pt) (heights heights' : List Height)
    (rows : List PathRow) (most : ℕ) (x : List Pt) (a : List Height) (r : List ℕ) (p p' : List Piece) (i : ℕ)
    → points ≡ points' → heights ≡ heights' → length rows ≤ i
    → IsSheetCarried tin layer points heights rows most x a r p p' i
    → AreCarried tin layer (vertices_from points' heights' 0 rows) [] x [] a [] r p p'
sheet_all tin layer points points' heights heights' rows most x a r p p' i e f all state =
    subst (λ (ps : List Pt). AreCarried tin layer (vertices_from ps heights' 0 rows) [] x [] a [] r p p') e
    (subst (λ (zs : List Height). AreCarried tin layer (vertices_from points zs 0 rows) [] x [] a [] r p p') f
    (subst (λ (rs : List PathRow). AreCarried tin layer (vertices_from points heights 0 rs) [] x [] a [] r p p')
    (take_all i rows all) state.carried))

-- no more than two images for each piece, by the lengths of their lists
pub twice_counted : (k x m p : ℕ) → k ≡ x → m ≡ p → x ≤ 2 * p → k ≤ 2 * m
twice_counted k x m p e f twice = omega arith

-- ---- why it is not carried
pub sheet_cause : (tin : Triangulation) (layer : ℕ) (points : List Pt) (heights : List Height) (rows : List PathRow)
    (most : ℕ) (x : List Pt) (a : List Height) (r : List ℕ) (p p' : List Piece) (i : ℕ) (row : PathRow)
    (fault : CarryFault) → i < length rows → IsRowAt rows i row
    → IsSheetCarried tin layer points heights rows most x a r p p' i
    → IsCause tin layer (length p') most (segments_begun (path_vertices points heights i row)) fault
    → IsCause tin layer (length p) most (segments_begun (vertices_from points heights 0 rows)) fault
sheet_cause tin layer points heights rows most x a r p p' i row fault h e state cause = go state.carried
  where
    go : AreCarried tin layer (vertices_from points heights 0 (take i rows)) [] x [] a [] r p p'
        → IsCause tin layer (length p) most (segments_begun (vertices_from points heights 0 rows)) fault
    go carried =
        let grown : length p' ≡ length p + length carried.own = ap (λ (ps : List Piece). length ps) carried.pieces_are
        ∙ length-append p carried.own in
        subst (λ (ss : List SheetSegment). IsCause tin layer (length p) most ss fault)
        (sym (split_paths points heights rows i row h e))
        (cause_between tin layer (length p) most (segments_begun (vertices_from points heights 0 (take i rows)))
        (segments_begun (path_vertices points heights i row))
        (segments_begun (vertices_from points heights (i + 1) (drop (suc i) rows))) carried.own fault
        carried.inside carried.of_segments (subst
        (λ (n : ℕ). IsCause tin layer n most (segments_begun (path_vertices points heights i row)) fault) grown cause))
