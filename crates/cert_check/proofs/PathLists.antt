-- The images of vertices by the lines of their segments, one after the other.
use Rattle.std.proofs.Common.{◌≡◌, ℕ, suc, ◌+◌, ◌-◌, ◌<◌, ◌≤◌, List, [], ◌∷◌, ◌++◌, Option, Some, None, length}
use Rattle.std.proofs.Common.{append_assoc, ap, refl, sym, ◌∙◌, subst, arith}
use Rattle.std.specs.Prelude.{IfErr, Result}
use Rattle.std.specs.Result.{IsErrAnd}
use Rattle.std.specs.List.{AllByRecursion, cons_option}
use Rattle.std.proofs.lemmas.List.{append-nil, length-append, length-map}
use Rattle.std.proofs.lemmas.Grind.{flat_map-append}
use Rattle.plane_base.specs.declared.shapes.Pt.{Pt}
use Rattle.sheet_base.specs.declared.paths.PathRow.{PathRow}
use Rattle.sheet_base.specs.PointHeights.{Height, Position, height_in}
use Rattle.sheet_base.specs.ReadBack.{Ends, height_ends_at}
use Rattle.sheet_base.specs.Segments.{points_in, segments_in, begin_of, end_of}
use Rattle.sheet_base.specs.Sheets.{IsPathFrom}
use Rattle.tin_base.specs.Triangulation.{Triangulation}
use Rattle.affine_image.specs.RoundedImages.{IsRoundedImage}
use Rattle.sheet_pieces.specs.SheetSegments.{SheetSegment, PathVertex, segment_at, vertex_at, path_vertices}
use Rattle.sheet_pieces.specs.SheetSegments.{segments_begun}
use Rattle.sheet_pieces.specs.SheetImages.{AreCrossings}
use Rattle.sheet_pieces.proofs.PathVertices.{few, first_vertices, one_vertex_more, begins_one, begins_none, next_begins}
use Rattle.sheet_pieces.proofs.PathVertices.{split_at}
use Rattle.sheet_pieces.proofs.PlaneRuns.{items_on}
use Rattle.sheet_pieces.proofs.Runs.{runs_more, begins_more}
use Rattle.sheet_pieces.proofs.PathSegments.{begun_append}
use Rattle.cert_check.specs.Certificates.{line_text, lines_text, IsList}
use Rattle.cert_check.specs.Lines.{IsLine, BeginsWithLine}
use Rattle.cert_check.specs.RightLists.{IsRightList, AreRightLists}
use Rattle.cert_check.specs.declared.faults.CertFault.{CertFault}
use Rattle.cert_check.specs.declared.faults.CertFault.TheVariants.{Layer, Form, Count, Segment as WrongSegment, Differs}
use Rattle.cert_check.specs.declared.faults.CertFault.TheVariants.{NoMemory}
use Rattle.cert_check.specs.declared.path_segments.NumberedSegment.{NumberedSegment}
use Rattle.cert_check.specs.declared.path_segments.NumberedPath.{NumberedPath}
use Rattle.cert_check.specs.InsideSheetLists.{HasLines, IsRunBehind, AreImaged, IsSegmentImaged}
use Rattle.cert_check.specs.InsideSheetLists.{HasWrongLine}
use Rattle.cert_check.specs.InsideSheetLists.{IsWayCause, IsStopCause, IsTriangleWith}
use Rattle.cert_check.proofs.LineNumbers.{still_lines}

-- ---- right lists
pub right_more : (tin : Triangulation) (ss ts : List SheetSegment) (ls ms : List (List ℕ)) → AreRightLists tin ss ls
    → AreRightLists tin ts ms → AreRightLists tin (ss ++ ts) (ls ++ ms)
right_more tin [] ts [] ms h k = k
right_more tin (s ∷ ss) ts (l ∷ ls) ms h k = (h.0, right_more tin ss ts ls ms h.1 k)
right_more tin ss ts ls ms h k = absurd h

pub right_length : (tin : Triangulation) (ss : List SheetSegment) (ls : List (List ℕ)) → AreRightLists tin ss ls
    → length ls ≡ length ss
right_length tin [] [] h = refl
right_length tin (s ∷ ss) (l ∷ ls) h = ap suc (right_length tin ss ls h.1)
right_length tin ss ls h = absurd h

pub lists_more : (ls ms : List (List ℕ)) → AllByRecursion IsList ls → AllByRecursion IsList ms
    → AllByRecursion IsList (ls ++ ms)
lists_more [] ms h k = k
lists_more (l ∷ ls) ms h k = (h.0, lists_more ls ms h.1 k)

pub texts_more : (ls ms : List (List ℕ)) → lines_text (ls ++ ms) ≡ lines_text ls ++ lines_text ms
texts_more ls ms = flat_map-append line_text ls ms

-- ---- vertices after vertices
pub imaged_none : (tin : Triangulation) (points : List Pt) (heights : List Height) (run text : List ℕ)
    → AreImaged tin [] points points heights heights run run text text
imaged_none tin points heights run text = record {
  runs = [];
  of_vertices = tt;
  points_are = sym (append-nil points);
  heights_are = sym (append-nil heights);
  run_are = sym (append-nil run);
  lists = [];
  are_lists = tt;
  are_right = tt;
  spelled = refl;
}

pub imaged_on : (tin : Triangulation) (vs ws : List PathVertex) (x y z : List Pt) (u v w : List Height)
    (r s t a b c : List ℕ) → AreImaged tin vs x y u v r s a b → AreImaged tin ws y z v w s t b c
    → AreImaged tin (vs ++ ws) x z u w r t a c
imaged_on tin vs ws x y z u v w r s t a b c g h = record {
  runs = g.runs ++ h.runs;
  of_vertices = runs_more tin vs ws g.runs h.runs g.of_vertices h.of_vertices;
  points_are = items_on (λ (position : Position). position.point) x y z g.runs h.runs g.points_are h.points_are;
  heights_are = items_on (λ (position : Position). position.height) u v w g.runs h.runs g.heights_are h.heights_are;
  run_are = grind (arith, append_assoc, length-append, length-map, begins_more);
  lists = g.lists ++ h.lists;
  are_lists = lists_more g.lists h.lists g.are_lists h.are_lists;
  are_right = grind (arith, begun_append, right_more);
  spelled = grind (arith, append_assoc, texts_more);
}

-- as many heights as points
pub imaged_each : (tin : Triangulation) (vs : List PathVertex) (x y : List Pt) (u v : List Height)
    (r s a b : List ℕ) → AreImaged tin vs x y u v r s a b → length u ≡ length x → length v ≡ length y
imaged_each tin vs x y u v r s a b imaged e = grind (arith, length-append, length-map)

-- a vertex that begins no segment
imaged_last : (tin : Triangulation) (vertex : PathVertex) (image : Pt) (points points' : List Pt)
    (heights heights' : List Height) (run run' text rest : List ℕ) → vertex.segment ≡ None
    → IsRoundedImage tin vertex.point image → points' ≡ points ++ image ∷ []
    → heights' ≡ heights ++ vertex.height ∷ [] → run' ≡ run ++ length points ∷ [] → rest ≡ text
    → AreImaged tin (vertex ∷ []) points points' heights heights' run run' text rest
imaged_last tin vertex image points points' heights heights' run run' text rest none is e g f same = record {
  runs = (record { point = image; height = vertex.height } ∷ []) ∷ [];
  of_vertices = ((is, refl, subst (λ (s : Option SheetSegment). AreCrossings tin s []) (sym none) refl), tt);
  points_are = e;
  heights_are = g;
  run_are = f;
  lists = [];
  are_lists = tt;
  are_right = subst (λ (s : Option SheetSegment). AreRightLists tin (cons_option s []) []) (sym none) tt;
  spelled = sym same;
}

-- and one that does
imaged_way : (tin : Triangulation) (vertex : PathVertex) (segment : SheetSegment) (points points' : List Pt)
    (heights heights' : List Height) (run run' text rest : List ℕ) → vertex.segment ≡ Some segment
    → vertex.point ≡ segment.a → vertex.height ≡ segment.heights.from
    → IsSegmentImaged tin segment.a segment.b segment.heights points points' heights heights' run run' text rest
    → AreImaged tin (vertex ∷ []) points points' heights heights' run run' text rest
imaged_way tin vertex segment points points' heights heights' run run' text rest some point high imaged =
    go imaged.behind imaged.line
  where
    go : IsRunBehind tin segment.a segment.b segment.heights points points' heights heights'
        → IsLine text imaged.list rest
        → AreImaged tin (vertex ∷ []) points points' heights heights' run run' text rest
    go behind line =
        let crossings : AreCrossings tin (Some segment) behind.crossings =
        (behind.parts, behind.cut, behind.last_images, behind.last_heights) in
        let first : Position = record { point = behind.image; height = segment.heights.from } in
        record {
          runs = (first ∷ behind.crossings) ∷ [];
          of_vertices = (
            (
              subst (λ (p : Pt). IsRoundedImage tin p behind.image) (sym point) behind.is_image,
              sym high,
              subst (λ (s : Option SheetSegment). AreCrossings tin s behind.crossings) (sym some) crossings,
            ),
            tt,
          );
          points_are = grind (arith, append-nil);
          heights_are = grind (arith, append-nil);
          run_are = imaged.run_are;
          lists = imaged.list ∷ [];
          are_lists = (line.list, tt);
          are_right = grind arith;
          spelled = line.spelled ∙ ap (λ (xs : List ℕ). xs ++ rest) (sym (append-nil (line_text imaged.list)));
        }

-- ---- what holds after some vertices of a path
pub record IsPathImaged (tin : Triangulation) (points : List Pt) (heights : List Height) (path : ℕ) (row : PathRow)
    (x x' : List Pt) (u u' : List Height) (r r' a a' : List ℕ) (j triangle : ℕ) : Type 0 where
  pub imaged : AreImaged tin (first_vertices points heights path row j) x x' u u' r r' a a'
  pub each : length u' ≡ length x'
  pub listed : length (segments_begun (first_vertices points heights path row j)) ≡ j
  pub last : 0 < j → j < points_in row → IsTriangleWith tin triangle (begin_of points row j)
  pub count : length x' + length a' + j ≤ length x + length a

pub path_start : (tin : Triangulation) (points : List Pt) (heights : List Height) (path : ℕ) (row : PathRow)
    (x : List Pt) (u : List Height) (r a : List ℕ) (triangle : ℕ) → length u ≡ length x
    → IsPathImaged tin points heights path row x x u u r r a a 0 triangle
path_start tin points heights path row x u r a triangle each = grind (arith, imaged_none)

-- the heights of the ends of a way
abbrev pub way_ends : NumberedSegment → Ends Height
way_ends way = record { from = way.ends.from; to = way.ends.to }

-- the way is the path's segment of this number
pub record IsWayAt (points : List Pt) (heights : List Height) (track : NumberedPath) (j : ℕ) (way : NumberedSegment) : Type 0 where
  pub path : way.path ≡ track.path
  pub number : way.number ≡ j
  pub a : way.a ≡ begin_of points track.row j
  pub b : way.b ≡ end_of points track.row j
  pub ends : way_ends way ≡ height_ends_at heights track.row j

pub path_next : (tin : Triangulation) (points : List Pt) (heights : List Height) (track : NumberedPath)
    (x x' y : List Pt) (u u' v : List Height) (r r' s a a' b : List ℕ) (j triangle triangle' : ℕ) (way : NumberedSegment)
    → IsPathFrom track.row.first track.row → j < segments_in track.row
    → IsPathImaged tin points heights track.path track.row x x' u u' r r' a a' j triangle
    → IsWayAt points heights track j way
    → IsSegmentImaged tin way.a way.b (way_ends way) x' y u' v r' s a' b
    → IsTriangleWith tin triangle' way.b → length y + length b + 1 ≤ length x' + length a'
    → IsPathImaged tin points heights track.path track.row x y u v r s a b (j + 1) triangle'
path_next tin points heights track x x' y u u' v r r' s a a' b j triangle triangle' way path h state is imaged last
    count = record {
      imaged = grind (arith, one_vertex_more, both);
      each = imaged_each tin (vertex_at points heights track.path track.row j ∷ []) x' y u' v r' s a' b here state.each;
      listed = grind (arith, one_vertex_more, begun_append, first_vertices, begins_one, length-append);
      last = grind (arith, next_begins);
      count = (let c = state.count in omega (arith, c, count));
    }
  where
    here : AreImaged tin (vertex_at points heights track.path track.row j ∷ []) x' y u' v r' s a' b
    here = imaged_way tin (vertex_at points heights track.path track.row j)
        (segment_at points heights track.path track.row j) x' y u' v r' s
        a' b (begins_one points heights track.path track.row j h) refl refl
        (grind arith)

    both : AreImaged tin (first_vertices points heights track.path track.row j
        ++ vertex_at points heights track.path track.row j ∷ []) x y u v r s a b
    both = grind (arith, imaged_on, first_vertices, here)

-- there is a line for each segment
pub path_line : (tin : Triangulation) (points : List Pt) (heights : List Height) (path : ℕ) (row : PathRow)
    (x x' : List Pt) (u u' : List Height) (r r' a a' : List ℕ) (j triangle : ℕ) → HasLines a (segments_in row)
    → j < segments_in row → IsPathImaged tin points heights path row x x' u u' r r' a a' j triangle
    → (more : List ℕ) × BeginsWithLine a' more
path_line tin points heights path row x x' u u' r r' a a' j triangle has h state = let i =
    state.imaged in still_lines a a' i.lists j (segments_in row) has i.spelled i.are_lists
    (right_length tin (segments_begun (first_vertices points heights path row j)) i.lists i.are_right
    ∙ state.listed) h

-- ---- the end of the path
pub but_last : (row : PathRow) (j : ℕ) → IsPathFrom row.first row → j ≡ segments_in row → (j ≡ points_in row → ⊥)
    → j + 1 ≡ points_in row
but_last row j from e other = grind (arith, few)

pub last_place : (row : PathRow) (j : ℕ) → row.first < row.past → j + 1 ≡ points_in row → row.first + j ≡ row.past - 1
last_place row j h e = grind arith

-- each vertex but the last begins a segment
pub path_but_last : (tin : Triangulation) (points : List Pt) (heights : List Height) (path : ℕ) (row : PathRow)
    (x x' y : List Pt) (u u' v : List Height) (r r' s a a' b : List ℕ) (j triangle : ℕ) (image : Pt)
    (height : Height) → IsPathFrom row.first row → j ≡ segments_in row → (j ≡ points_in row → ⊥)
    → IsPathImaged tin points heights path row x x' u u' r r' a a' j triangle
    → IsRoundedImage tin (begin_of points row j) image → height ≡ height_in heights (row.past - 1)
    → y ≡ x' ++ image ∷ [] → v ≡ u' ++ height ∷ [] → s ≡ r' ++ length x' ∷ [] → b ≡ a'
    → AreImaged tin (path_vertices points heights path row) x y u v r s a b
path_but_last tin points heights path row x x' y u u' v r r' s a a' b j triangle image height from e other state is high
    ey ev es eb =
    subst (λ (n : ℕ). AreImaged tin (first_vertices points heights path row n) x y u v r s a b)
    (but_last row j from e other)
    (grind (arith, one_vertex_more, imaged_on, first_vertices, imaged_last, begins_none, last_place, but_last))

-- ---- why it is not passed
pub path_cause : (tin : Triangulation) (points : List Pt) (heights : List Height) (track : NumberedPath) (x x' : List Pt)
    (u u' : List Height) (r r' a a' : List ℕ) (j triangle : ℕ) (way : NumberedSegment) (fault : CertFault)
    → IsPathFrom track.row.first track.row → j < segments_in track.row
    → IsPathImaged tin points heights track.path track.row x x' u u' r r' a a' j triangle
    → IsWayAt points heights track j way
    → IsWayCause tin way a' fault
    → IsStopCause tin (segments_begun (path_vertices points heights track.path track.row)) a fault
path_cause tin points heights track x x' u u' r r' a a' j triangle way (Layer f) path h state is cause = absurd cause
path_cause tin points heights track x x' u u' r r' a a' j triangle way (Form f) path h state is cause = absurd cause
path_cause tin points heights track x x' u u' r r' a a' j triangle way (Count f g) path h state is cause = absurd cause
path_cause tin points heights track x x' u u' r r' a a' j triangle way (Differs f) path h state is cause = absurd cause
path_cause tin points heights track x x' u u' r r' a a' j triangle way NoMemory path h state is cause = tt
path_cause tin points heights track x x' u u' r r' a a' j triangle way (WrongSegment p n) path h state is cause =
    grind (
      arith,
      first_vertices points heights track.path track.row j,
      split_at points heights track.path track.row j path h,
    )

-- ---- the exit of a `?`
pub exits : {A : Type 0} (Q : CertFault → Type 0) (fault : CertFault) (r : Result A CertFault)
    → IsErrAnd r (λ e. e ≡ fault) → Q fault → IfErr r Q
exits Q fault r h q = grind arith

-- ---- the whole path
pub path_all : (tin : Triangulation) (points : List Pt) (heights : List Height) (path : ℕ) (row : PathRow)
    (x x' : List Pt) (u u' : List Height) (r r' a a' : List ℕ) (j triangle : ℕ) → j ≡ points_in row
    → IsPathImaged tin points heights path row x x' u u' r r' a a' j triangle
    → AreImaged tin (path_vertices points heights path row) x x' u u' r r' a a'
path_all tin points heights path row x x' u u' r r' a a' j triangle e state =
    subst (λ (n : ℕ). AreImaged tin (first_vertices points heights path row n) x x' u u' r r' a a') e state.imaged

pub wrong_line : (tin : Triangulation) (a b : Pt) (text numbers items rest : List ℕ) → IsLine text numbers rest
    → items ≡ numbers → (IsRightList tin a b items → ⊥) → HasWrongLine tin a b text
wrong_line tin a b text numbers items rest line e wrong = grind arith
