-- What is read of a triangulation file is within the limits of triangulations.
use Rattle.std.proofs.Common.{◌≡◌, ℕ, zero, suc, ◌<◌, List, [], ◌∷◌, map, length, get_or, Bool, true, false, All}
use Rattle.std.proofs.Common.{refl, sym, subst, arith}
use Rattle.std.specs.Prelude.{if◌then◌else◌, Result, Ok, Err, pos, int_lt}
use Rattle.std.specs.List.{AllByRecursion}
use Rattle.std.proofs.lemmas.List.{length-map}
use Rattle.jtext.specs.Values.{Json, Members, null, truth, numeral, quoted, array, object}
use Rattle.sheet_base.specs.declared.flags.How.{How}
use Rattle.tin_base.specs.declared.corners.Corner.{Corner}
use Rattle.tin_base.specs.declared.frames.Frame.{Frame}
use Rattle.tin_base.specs.declared.frames.Frame.TheVariants.{Source, Target}
use Rattle.tin_base.specs.Triangulation.{Triangulation, no_corner}
use Rattle.tin_base.specs.Limits.{IsCornerInReach, IsWithinLimits}
use Rattle.tin_file.specs.Corners.{corners_of, number_of_row, counterclockwise_face, source_turn, spans}
use Rattle.tin_file.specs.Keys.{when_passed, and_then}
use Rattle.tin_file.specs.Headings.{heading}
use Rattle.tin_file.specs.Vertices.{vertices}
use Rattle.tin_file.specs.Triangles.{triangles}
use Rattle.tin_file.specs.TinFiles.{made_of, within_spans, rows_of, reading}
use Rattle.tin_file.specs.RowContents.{corners_in, IsBelow, IsFaceOf, AreFacesOf}
use Rattle.tin_file.specs.declared.vertices.VertexRow.{VertexRow}
use Rattle.tin_file.specs.declared.faults.TinFault.{TinFault}
use Rattle.tin_file.proofs.CallerLemmas.CompleteRows.{face_there, narrow, near_all, row_within}
use Rattle.tin_file.proofs.CallerLemmas.Fresh.{are_different, kept_few, kept_are}
use Rattle.tin_file.proofs.CallerLemmas.NumberExtremes.{at_of}
use Rattle.tin_file.proofs.CallerLemmas.RowsRead.{same_ok}
use Rattle.tin_file.proofs.CallerLemmas.Whole.{split_then, AreVertices, vertices_are, AreTriangles, triangles_are}
use Rattle.runs.specs.Laws.{ReadTinsAreWithinLimits}

-- ---- the faces of rows
made_face : List Corner → List ℕ → List ℕ
made_face rows face = counterclockwise_face (corners_of rows) (map (number_of_row rows) face)

face_below : (rows : List Corner) (face : List ℕ) → IsBelow (length rows) face
    → IsFaceOf (corners_of rows) (made_face rows face)
unfolding made_face
face_below rows (p ∷ q ∷ r ∷ []) h = by_test (int_lt (source_turn (corners_of rows) a b c) (pos 0))
  where
    a : ℕ
    a = number_of_row rows p

    b : ℕ
    b = number_of_row rows q

    c : ℕ
    c = number_of_row rows r

    by_test : (test : Bool) → IsFaceOf (corners_of rows) (if test then number_of_row rows p ∷ number_of_row rows r
        ∷ number_of_row rows q ∷ [] else number_of_row rows p ∷ number_of_row rows q ∷ number_of_row rows r ∷ [])
    by_test true = (row_within rows p h.0, row_within rows r h.2, row_within rows q h.1)
    by_test false = (row_within rows p h.0, row_within rows q h.1, row_within rows r h.2)
face_below rows [] h = absurd h
face_below rows (p ∷ []) h = absurd h
face_below rows (p ∷ q ∷ []) h = absurd h
face_below rows (p ∷ q ∷ r ∷ s ∷ more) h = absurd h

faces_below : (rows : List Corner) (faces : List (List ℕ)) → AllByRecursion (IsBelow (length rows)) faces
    → AreFacesOf (corners_of rows) (map (made_face rows) faces)
faces_below rows [] h = tt
faces_below rows (face ∷ faces) h = (face_below rows face h.0, faces_below rows faces h.1)

three_of : (count : ℕ) (face : List ℕ) → IsBelow count face → length face ≡ 3
three_of count (p ∷ q ∷ r ∷ []) h = refl
three_of count [] h = absurd h
three_of count (p ∷ []) h = absurd h
three_of count (p ∷ q ∷ []) h = absurd h
three_of count (p ∷ q ∷ r ∷ s ∷ more) h = absurd h

each_below : (count : ℕ) (face : List ℕ) → IsBelow count face → All (λ n. n < count) face
each_below count (p ∷ q ∷ r ∷ []) h = at
  where
    at : (k d : ℕ) → k < 3 → get_or (p ∷ q ∷ r ∷ []) k d < count
    at zero d within = h.0
    at (suc zero) d within = h.1
    at (suc (suc zero)) d within = h.2
    at (suc (suc (suc k))) d within = absurd (omega arith)
each_below count [] h = absurd h
each_below count (p ∷ []) h = absurd h
each_below count (p ∷ q ∷ []) h = absurd h
each_below count (p ∷ q ∷ r ∷ s ∷ more) h = absurd h

-- ---- all together
AreReached : Corner → Type 0
AreReached corner = IsCornerInReach Source corner × IsCornerInReach Target corner

made_within : (rows : List VertexRow) (faces : List (List ℕ)) → AreVertices rows → AreTriangles (length rows) faces
    → Ok tt ≡ spans (corners_of (corners_in rows)) → IsWithinLimits (made_of rows faces)
unfolding AreReached made_face
made_within rows faces h k spanned = record {
  three = λ t within. three_of (length corners) (get_or (map (made_face all) faces) t [])
      (face_there corners (map (made_face all) faces) t are within);
  in_range = λ t within. each_below (length corners) (get_or (map (made_face all) faces) t [])
      (face_there corners (map (made_face all) faces) t are within);
  in_reach = λ frame n within. reach_at frame n within;
  near = near_all corners (narrow corners spanned);
  different = are_different all;
  corner_count = omega (arith, kept_few [] all, as_long, h.few_rows);
  triangle_count = omega (arith, length-map faces (made_face all), k.few_faces);
}
  where
    all : List Corner
    all = corners_in rows

    corners : List Corner
    corners = corners_of all

    as_long : length all ≡ length rows
    as_long = length-map rows (λ (row : VertexRow). row.corner)

    are : AreFacesOf corners (map (made_face all) faces)
    are = faces_below all faces (subst (λ n. AllByRecursion (IsBelow n) faces) (sym as_long) k.below)

    reached : AllByRecursion AreReached corners
    reached = kept_are AreReached [] all h.reach

    reach_at : (frame : Frame) (n : ℕ) → n < length corners → IsCornerInReach frame (get_or corners n no_corner)
    reach_at Source n within = (at_of AreReached corners n reached within).0
    reach_at Target n within = (at_of AreReached corners n reached within).1

-- ---- from the text on
spans_of : (rows : List VertexRow) (faces : List (List ℕ)) (tin : Triangulation) → within_spans rows faces ≡ Ok tin
    → (Ok tt ≡ spans (corners_of (corners_in rows))) × (made_of rows faces ≡ tin)
spans_of rows faces tin h = by (spans (corners_of (corners_in rows))) refl h
  where
    by : (r : Result (Unit {0}) TinFault) → spans (corners_of (corners_in rows)) ≡ r
        → when_passed r (Ok (made_of rows faces)) ≡ Ok tin
        → (Ok tt ≡ spans (corners_of (corners_in rows))) × (made_of rows faces ≡ tin)
    by (Ok done) e h = (sym e, same_ok (made_of rows faces) tin h)
    by (Err fault) e h = cc

of_members : (how : How) (members : Members) (tin : Triangulation)
    → and_then (rows_of how members) (heading how members) ≡ Ok tin → IsWithinLimits tin
of_members how members tin h =
    let (columns, found, read) = split_then (rows_of how members) (heading how members) tin h in
    let (rows, listed, made) =
    split_then (λ rows. and_then (within_spans rows) (triangles columns.triangles (length rows) members))
    (vertices how columns.vertices members) tin read in
    let (faces, told, last) = split_then (within_spans rows) (triangles columns.triangles (length rows) members) tin
    made
    in
    let (spanned, is) = spans_of rows faces tin last in
    subst IsWithinLimits is
    (made_within rows faces (vertices_are how columns.vertices members rows listed)
    (triangles_are columns.triangles (length rows) members faces told) spanned)

of_value : (how : How) (value : Json) (tin : Triangulation) → reading how value ≡ Ok tin → IsWithinLimits tin
of_value how (object blank members) tin h = of_members how members tin h
of_value how null tin h = cc
of_value how (truth is) tin h = cc
of_value how (numeral text) tin h = cc
of_value how (quoted chars) tin h = cc
of_value how (array blank elements) tin h = cc

pub read_tins_are_within_limits : ReadTinsAreWithinLimits
read_tins_are_within_limits how text tin (whole, is, read) = of_value how whole.value tin read
