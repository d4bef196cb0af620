-- The images of a sheet by the lines of its segments, path by path.
use Rattle.std.proofs.Common.{◌≡◌, ℕ, suc, ◌+◌, ◌<◌, ◌≤◌, ◌^◌, List, [], ◌∷◌, ◌++◌, take, drop, length, append_assoc}
use Rattle.std.proofs.Common.{ap, refl, sym, ◌∙◌, subst, arith}
use Rattle.std.proofs.lemmas.List.{append-nil, append_cancel_left, length-append, take_all}
use Rattle.plane_base.specs.declared.shapes.Pt.{Pt}
use Rattle.sheet_base.specs.declared.paths.PathRow.{PathRow}
use Rattle.sheet_base.specs.PointHeights.{Height}
use Rattle.sheet_base.specs.Segments.{segments_in}
use Rattle.sheet_base.specs.Sheets.{IsPathFrom}
use Rattle.tin_base.specs.Triangulation.{Triangulation}
use Rattle.sheet_pieces.specs.SheetSegments.{SheetSegment, PathVertex, path_vertices, vertices_from, segments_begun}
use Rattle.sheet_pieces.proofs.SegmentCounts.{begun_in}
use Rattle.sheet_pieces.proofs.SheetPaths.{IsRowAt, one_path_more, split_paths}
use Rattle.cert_check.specs.Certificates.{head_text, lines_text}
use Rattle.cert_check.specs.Lines.{HasCount}
use Rattle.cert_check.specs.Checks.{IsFirstNotRight}
use Rattle.cert_check.specs.declared.faults.CertFault.{CertFault}
use Rattle.cert_check.specs.declared.faults.CertFault.TheVariants.{Layer, Form, Count, Segment as WrongSegment, Differs}
use Rattle.cert_check.specs.declared.faults.CertFault.TheVariants.{NoMemory}
use Rattle.cert_check.specs.InsideSheetLists.{HasLines, AreImaged, IsStoppedAt, IsStopCause, IsImageCause}
use Rattle.cert_check.specs.InsideSheetLists.{HasRightLists}
use Rattle.cert_check.proofs.LineNumbers.{LinesLeft, lines_left, still_enough}
use Rattle.cert_check.proofs.PathLists.{imaged_none, imaged_on, imaged_each, lists_more, texts_more, right_more}
use Rattle.cert_check.proofs.PathLists.{right_length}

-- ---- what holds after some paths
pub record IsSheetImaged (tin : Triangulation) (points : List Pt) (heights : List Height) (rows : List PathRow)
    (x : List Pt) (u : List Height) (r text rest : List ℕ) (i : ℕ) : Type 0 where
  pub imaged : AreImaged tin (vertices_from points heights 0 (take i rows)) [] x [] u [] r text rest
  pub each : length u ≡ length x
  pub count : length x + length rest ≤ length text

pub sheet_start : (tin : Triangulation) (points : List Pt) (heights : List Height) (rows : List PathRow) (x : List Pt)
    (u : List Height) (r text rest : List ℕ) → x ≡ [] → u ≡ [] → r ≡ [] → rest ≡ text
    → IsSheetImaged tin points heights rows x u r text rest 0
sheet_start tin points heights rows x u r text rest ex eu er e = grind (arith, imaged_none)

pub sheet_next : (tin : Triangulation) (points : List Pt) (heights : List Height) (rows : List PathRow) (x y : List Pt)
    (u v : List Height) (r s text a b : List ℕ) (i : ℕ) (row : PathRow) → i < length rows → IsRowAt rows i row
    → IsSheetImaged tin points heights rows x u r text a i
    → AreImaged tin (path_vertices points heights i row) x y u v r s a b
    → length y + length b ≤ length x + length a → IsSheetImaged tin points heights rows y v s text b (i + 1)
sheet_next tin points heights rows x y u v r s text a b i row h e state imaged few = record {
  imaged = subst (λ (vs : List PathVertex). AreImaged tin vs [] y [] v [] s text b)
      (sym (one_path_more points heights rows i row h e))
      (grind (arith, imaged_on));
  each = imaged_each tin (path_vertices points heights i row) x y u v r s a b imaged state.each;
  count = (let c = state.count in omega (arith, c, few));
}

-- there are lines for the segments of the next path
pub sheet_lines : (tin : Triangulation) (points : List Pt) (heights : List Height) (rows : List PathRow)
    (x : List Pt) (u : List Height) (r text a : List ℕ) (i n : ℕ) (row : PathRow) → i < length rows → IsRowAt rows i row
    → IsPathFrom row.first row
    → n ≡ length (segments_begun (vertices_from points heights 0 rows)) → HasLines text n
    → IsSheetImaged tin points heights rows x u r text a i → HasLines a (segments_in row)
sheet_lines tin points heights rows x u r text a i n row h e path en has state = go state.imaged
  where
    done : List SheetSegment
    done = segments_begun (vertices_from points heights 0 (take i rows))

    own : List SheetSegment
    own = segments_begun (path_vertices points heights i row)

    behind : List SheetSegment
    behind = segments_begun (vertices_from points heights (i + 1) (drop (suc i) rows))

    fits : (k l m o b : ℕ) → n ≡ k → k ≡ l + o → o ≡ m + b → (j : ℕ) → j ≡ l → (q : ℕ) → m ≡ q → j + q ≤ n
    fits k l m o b e f g j ej q eq = omega arith

    go : AreImaged tin (vertices_from points heights 0 (take i rows)) [] x [] u [] r text a
        → HasLines a (segments_in row)
    go imaged =
        still_enough text a imaged.lists (segments_in row) n has imaged.spelled imaged.are_lists
        (fits (length (segments_begun (vertices_from points heights 0 rows))) (length done) (length own)
        (length (own ++ behind)) (length behind) en
        (ap (λ (ss : List SheetSegment). length ss) (split_paths points heights rows i row h e)
        ∙ length-append done (own ++ behind))
        (length-append own behind)
        (length imaged.lists) (right_length tin done imaged.lists imaged.are_right) (segments_in row)
        (begun_in points heights i row path))

-- ---- why it is not passed
pub sheet_cause : (tin : Triangulation) (points : List Pt) (heights : List Height) (rows : List PathRow)
    (x : List Pt) (u : List Height) (r text a : List ℕ) (i : ℕ) (row : PathRow) (fault : CertFault) → i < length rows
    → IsRowAt rows i row
    → IsSheetImaged tin points heights rows x u r text a i
    → IsStopCause tin (segments_begun (path_vertices points heights i row)) a fault
    → IsStopCause tin (segments_begun (vertices_from points heights 0 rows)) text fault
sheet_cause tin points heights rows x u r text a i row (Layer f) h e state cause = absurd cause
sheet_cause tin points heights rows x u r text a i row (Form f) h e state cause = absurd cause
sheet_cause tin points heights rows x u r text a i row (Count f g) h e state cause = absurd cause
sheet_cause tin points heights rows x u r text a i row (Differs f) h e state cause = absurd cause
sheet_cause tin points heights rows x u r text a i row NoMemory h e state cause = tt
sheet_cause tin points heights rows x u r text a i row (WrongSegment p n) h e state stop = go state.imaged
  where
    done : List SheetSegment
    done = segments_begun (vertices_from points heights 0 (take i rows))

    behind : List SheetSegment
    behind = segments_begun (vertices_from points heights (i + 1) (drop (suc i) rows))

    go : AreImaged tin (vertices_from points heights 0 (take i rows)) [] x [] u [] r text a
        → IsStoppedAt tin (segments_begun (vertices_from points heights 0 rows)) text p n
    go imaged = record {
      before = done ++ stop.before;
      segment = stop.segment;
      behind = stop.behind ++ behind;
      right = imaged.lists ++ stop.right;
      list = stop.list;
      rest = stop.rest;
      segments_are = split_paths points heights rows i row h e
          ∙ ap (λ (ss : List SheetSegment). done ++ (ss ++ behind)) stop.segments_are
          ∙ ap (λ (ss : List SheetSegment). done ++ ss) (append_assoc stop.before (stop.segment ∷ stop.behind) behind)
          ∙ sym (append_assoc done stop.before (stop.segment ∷ (stop.behind ++ behind)));
      are_lists = lists_more imaged.lists stop.right imaged.are_lists stop.are_lists;
      is_list = stop.is_list;
      spelled = grind (arith, append_assoc, texts_more);
      are_right = right_more tin done stop.before imaged.lists stop.right imaged.are_right stop.are_right;
      not_right = stop.not_right;
      path_is = stop.path_is;
      number_is = stop.number_is;
    }

-- ---- all paths
pub sheet_all : (tin : Triangulation) (points points' : List Pt) (heights heights' : List Height)
    (rows : List PathRow) (x : List Pt) (u : List Height) (r text rest : List ℕ) (i : ℕ) → i ≡ length rows
    → points ≡ points' → heights ≡ heights'
    → IsSheetImaged tin points heights rows x u r text rest i
    → AreImaged tin (vertices_from points' heights' 0 rows) [] x [] u [] r text rest
sheet_all tin points points' heights heights' rows x u r text rest i e ep eh state = grind (arith, take_all)

-- ---- with the certificate
-- the lines of a certificate
pub has_lines : (cert text : List ℕ) (n : ℕ) → cert ≡ head_text ++ text → HasCount cert n → HasLines text n
has_lines cert text n e (lists, count, is) = grind (arith, append_cancel_left)

nil_of : (lists others : List (List ℕ)) (k : ℕ) → length (lists ++ others) ≡ k → length lists ≡ k → others ≡ []
nil_of lists [] k e f = refl
nil_of lists (l ∷ others) k e f = grind (arith, length-append)

pub right_all : (tin : Triangulation) (vertices : List PathVertex) (x : List Pt) (u : List Height)
    (r cert text rest : List ℕ)
    → cert ≡ head_text ++ text → HasCount cert (length (segments_begun vertices))
    → AreImaged tin vertices [] x [] u [] r text rest → HasRightLists tin (segments_begun vertices) cert
right_all tin vertices x u r cert text rest e (lists, count, is) imaged =
    go (grind (arith, lines_left, append_cancel_left))
  where
    go : LinesLeft lists imaged.lists rest → HasRightLists tin (segments_begun vertices) cert
    go left =
        let none : left.others ≡ [] = grind (arith, nil_of, right_length) in
        let all : lists ≡ imaged.lists = grind (arith, append-nil) in (grind arith)

pub image_cause : (tin : Triangulation) (segments : List SheetSegment) (cert text : List ℕ) (fault : CertFault)
    → cert ≡ head_text ++ text → HasCount cert (length segments) → IsStopCause tin segments text fault
    → IsImageCause tin segments cert fault
image_cause tin segments cert text (Layer f) e has cause = absurd cause
image_cause tin segments cert text (Form f) e has cause = absurd cause
image_cause tin segments cert text (Count f g) e has cause = absurd cause
image_cause tin segments cert text (Differs f) e has cause = absurd cause
image_cause tin segments cert text NoMemory e has cause = tt
image_cause tin segments cert text (WrongSegment p n) e (lists, count, is) stop =
    (grind (arith, go, lines_left, lists_more, spelled))
  where
    spelled : lines_text lists ≡ lines_text (stop.right ++ stop.list ∷ []) ++ stop.rest
    spelled = grind (arith, append_cancel_left, append-nil, append_assoc, texts_more)

    go : LinesLeft lists (stop.right ++ stop.list ∷ []) stop.rest → IsFirstNotRight tin segments lists p n
    go left = grind (arith, append_assoc)

pub no_head : (cert : List ℕ) (n : ℕ) → HasCount cert n → ((rest : List ℕ) → cert ≡ head_text ++ rest → ⊥) → ⊥
no_head cert n (lists, count, is) none = none (lines_text lists) is.spelled

pub text_short : (cert text : List ℕ) → cert ≡ head_text ++ text → length cert < 2 ^ 32 → length text < 2 ^ 32
text_short cert text e h = grind (arith, length-append)
