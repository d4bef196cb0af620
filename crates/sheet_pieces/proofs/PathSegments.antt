-- The images of a sheet's paths have the segments between the images of its pieces' ends.
use Rattle.std.proofs.Common.{◌≡◌, ◌≢◌, ◌⊎◌, inr, ℕ, zero, suc, ◌+◌, ◌-◌, ◌<◌, ◌≤◌, true, false, ltb, List, []}
use Rattle.std.proofs.Common.{◌∷◌, ◌++◌, Option, Some, None, take, map, length, append_assoc, append-nil, length-append}
use Rattle.std.proofs.Common.{ap, ap₂, refl, sym, ◌∙◌, subst, arith}
use Rattle.std.specs.Prelude.{slice_get}
use Rattle.std.specs.List.{cons_option, range_with_len}
use Rattle.std.proofs.lemmas.Grind.{flat_map-append}
use Rattle.std.proofs.lemmas.List.{map-append}
use Rattle.std.proofs.lemmas.List.FromFn.{length-map-range_with_len}
use Rattle.plane_base.specs.Plane.{whole}
use Rattle.plane_base.specs.declared.shapes.Pt.{Pt}
use Rattle.sheet_base.specs.declared.paths.PathKind.{PathKind}
use Rattle.sheet_base.specs.declared.paths.PathKind.TheVariants.{Dot, Line, Loop}
use Rattle.sheet_base.specs.declared.paths.PathRow.{PathRow}
use Rattle.sheet_base.specs.PointHeights.{Height}
use Rattle.sheet_base.specs.Segments.{points_in, segments_of, segments_in, point_at, end_of}
use Rattle.sheet_base.specs.Sheets.{IsPathFrom, AreTiled}
use Rattle.sheet_base.specs.ImageFits.{Runs, run_begin}
use Rattle.sheet_base.specs.ReadBack.{Ends, ends_at, ends_in, ends_of, row_of_images}
use Rattle.tin_base.specs.declared.pieces.Piece.{Piece}
use Rattle.tin_base.specs.Triangulation.{Triangulation}
use Rattle.tin_base.specs.Soundness.{IsSound}
use Rattle.tin_base.specs.Segments.{IsInside}
use Rattle.affine_image.specs.RoundedImages.{IsRoundedImage}
use Rattle.sheet_pieces.specs.SheetSegments.{SheetSegment, PathVertex, segment_at, vertex_at, path_vertices}
use Rattle.sheet_pieces.specs.SheetSegments.{vertices_from}
use Rattle.sheet_pieces.specs.SheetSegments.{segments_begun, sheet_vertices}
use Rattle.sheet_pieces.specs.SheetPieces.{first_place, ArePiecesOfSegment, ArePiecesOfAll, AreInside}
use Rattle.sheet_pieces.specs.SheetImages.{joined_runs}
use Rattle.sheet_pieces.specs.SheetLaws.{AreImagesJoined, image_ends, ImageSegmentsArePieces}
use Rattle.tin_base.proofs.SegmentSpots.Spots.{one}
use Rattle.affine_image.proofs.RoundedImages.{rounded_images_agree}
use Rattle.sheet_pieces.proofs.PlaneRuns.{ArePlaneCrossings, IsPlaneRun, ArePlaneRuns, plane, plane_runs}
use Rattle.sheet_pieces.proofs.SheetImages.{plane_joint}
use Rattle.sheet_pieces.proofs.SheetImages.{AreJoined, begin_is, run_count, alone_run}
use Rattle.sheet_pieces.proofs.PieceParts.{end_images, inner_ends, piece_images_are_joined}
use Rattle.sheet_pieces.proofs.OneCut.{cut_alike, ends_one}
use Rattle.plain_laws.proofs.Lists.{take_front}

-- ---- from point to point
abbrev pub between_points : List Pt → List (Ends Pt)
between_points [] = []
between_points (p ∷ []) = []
between_points (p ∷ q ∷ points) = record { from = p; to = q } ∷ between_points (q ∷ points)

between_append : (xs : List Pt) (y : Pt) (ys : List Pt)
    → between_points (xs ++ y ∷ ys) ≡ between_points (xs ++ y ∷ []) ++ between_points (y ∷ ys)
between_append (x ∷ z ∷ xs) y ys = let one : Ends Pt =
    record { from = x; to = z } in ap (λ es. one ∷ es) (between_append (z ∷ xs) y ys)
between_append xs y ys = refl

-- ---- the pieces of one segment
next_joined : (p : Piece) (pieces : List Piece)
    → ((i : ℕ) (piece next : Piece) → slice_get (p ∷ pieces) i ≡ Some piece → slice_get (p ∷ pieces) (i + 1) ≡ Some next
    → piece.ib ≡ next.ia)
    → image_ends (p ∷ pieces) ≡ between_points (p.ia ∷ end_images (p ∷ pieces))
next_joined p [] joint = refl
next_joined p (q ∷ pieces) joint =
    let one : Ends Pt = record { from = p.ia; to = p.ib } in
    let first : p.ib ≡ q.ia = joint 0 p q refl refl in
    ap (λ es. one ∷ es)
    (next_joined q pieces (λ i piece next e f. joint (suc i) piece next e
    (let g : suc i + 1 ≡ suc (i + 1) = omega arith in ap (slice_get (p ∷ q ∷ pieces)) g ∙ f))
    ∙ ap (λ x. between_points (x ∷ end_images (q ∷ pieces))) (sym first))

last_end : (p : Piece) (pieces : List Piece) (z : Pt)
    → ((i : ℕ) (piece : Piece) → i + 1 ≡ length (p ∷ pieces) → slice_get (p ∷ pieces) i ≡ Some piece → piece.ib ≡ z)
    → end_images (take (length (p ∷ pieces) - 1) (p ∷ pieces)) ++ z ∷ [] ≡ end_images (p ∷ pieces)
last_end p [] z ends = let e = ends 0 p refl refl in ap (λ x. x ∷ []) (sym e)
last_end p (q ∷ pieces) z ends =
    ap (λ n. end_images (take n (p ∷ q ∷ pieces)) ++ z ∷ []) (counted (length pieces))
    ∙ ap (λ xs. p.ib ∷ xs) (last_end q pieces z (λ i piece e f. ends (suc i) piece (omega (arith, e)) f))
  where
    counted : (n : ℕ) → suc (suc n) - 1 ≡ suc (suc n - 1)
    counted n = omega arith

agree : (tin : Triangulation) (p image also : Pt) → IsSound tin → IsRoundedImage tin p image → IsRoundedImage tin p also
    → image ≡ also
agree tin p image also sound i j = rounded_images_agree tin (whole p) image also sound one i j

-- the run of a segment's first end, and the image of its last one
segment_between : (tin : Triangulation) (layer : ℕ) (segment : SheetSegment) (image : Pt) (crossings : List Pt)
    (pieces : List Piece) (z : Pt) → IsSound tin → IsInside tin segment.a segment.b
    → IsRoundedImage tin segment.a image → ArePlaneCrossings tin (Some segment) crossings
    → ArePiecesOfSegment tin layer segment pieces → IsRoundedImage tin segment.b z
    → image_ends pieces ≡ between_points (image ∷ (crossings ++ z ∷ []))
segment_between tin layer segment image crossings pieces z sound inside is (parts, cut, ends) are at_end =
    go pieces (piece_images_are_joined tin layer segment pieces sound inside are) same
  where
    same : crossings ≡ end_images (take (length pieces - 1) pieces)
    same = ends_one tin segment.a segment.b parts are.parts crossings (end_images (take (length pieces - 1) pieces))
        sound (cut_alike tin segment.a segment.b parts are.parts cut are.cut) ends
        (inner_ends tin segment.a segment.b (first_place layer segment) are.parts pieces are.told)

    go : (pieces : List Piece) → AreImagesJoined tin segment pieces
        → crossings ≡ end_images (take (length pieces - 1) pieces)
        → image_ends pieces ≡ between_points (image ∷ (crossings ++ z ∷ []))
    go [] joint same = absurd (omega (arith, joint.some))
    go (p ∷ pieces) joint same =
        let first : p.ia ≡ image = agree tin segment.a p.ia image sound (joint.begins p refl) is in
        next_joined p pieces joint.joined ∙ ap (λ x. between_points (x ∷ end_images (p ∷ pieces))) first
        ∙ ap (λ xs. between_points (image ∷ xs))
        (sym (last_end p pieces z (λ i piece e f. agree tin segment.b piece.ib z sound (joint.ends i piece e f)
        at_end)))
        ∙ ap (λ xs. between_points (image ∷ (xs ++ z ∷ []))) (sym same)

-- ---- the pieces of a path
-- a segment begins at this vertex and ends there
record Goes (vertex : PathVertex) (to : Pt) : Type 0 where
  segment : SheetSegment
  begun : vertex.segment ≡ Some segment
  from_here : segment.a ≡ vertex.point
  to_there : segment.b ≡ to

-- each vertex begins a segment to the next one, and the last one a segment to this point, or none
abbrev DoFollow : List PathVertex → Option Pt → Type 0
DoFollow [] end = ⊥
DoFollow (v ∷ []) None = v.segment ≡ None
DoFollow (v ∷ []) (Some to) = Goes v to
DoFollow (v ∷ w ∷ vs) end = Goes v w.point × DoFollow (w ∷ vs) end

abbrev IsEndImage : Triangulation → Option Pt → Option Pt → Type 0
IsEndImage tin None None = Unit {0}
IsEndImage tin (Some to) (Some z) = IsRoundedImage tin to z
IsEndImage tin end z = ⊥

-- points, and one more after them or none
abbrev with_end : List Pt → Option Pt → List Pt
with_end points None = points
with_end points (Some z) = points ++ z ∷ []

with_append : (xs ys : List Pt) (z : Option Pt) → with_end (xs ++ ys) z ≡ xs ++ with_end ys z
with_append xs ys None = refl
with_append xs ys (Some z) = append_assoc xs ys (z ∷ [])

module _ (tin : Triangulation) (layer : ℕ) (sound : IsSound tin) where
  -- the pieces of the segment that begins at a vertex
  vertex_between : (v : PathVertex) (to z image : Pt) (crossings : List Pt) (segments : List SheetSegment)
      (own rest : List Piece) (segment : SheetSegment) → Goes v to → v.segment ≡ Some segment
      → IsRoundedImage tin v.point image
      → ArePlaneCrossings tin v.segment crossings → IsRoundedImage tin to z → ArePiecesOfSegment tin layer segment own
      → IsInside tin segment.a segment.b
      → image_ends own ≡ between_points (image ∷ (crossings ++ z ∷ []))
  vertex_between v to z image crossings segments own rest segment goes begun is cross at_end are inside =
      let same : goes.segment ≡ segment = let e = sym goes.begun ∙ begun in cc in
      let a : segment.a ≡ v.point = ap (λ (s : SheetSegment). s.a) (sym same) ∙ goes.from_here in
      let b : segment.b ≡ to = ap (λ (s : SheetSegment). s.b) (sym same) ∙ goes.to_there in
      segment_between tin layer segment image crossings own z sound inside
      (subst (λ (p : Pt). IsRoundedImage tin p image) (sym a) is)
      (subst (λ s. ArePlaneCrossings tin s crossings) begun cross) are
      (subst (λ (p : Pt). IsRoundedImage tin p z) (sym b) at_end)

  path_between : (vs : List PathVertex) (end z : Option Pt) (runs : List (List Pt)) (own : List Piece) → DoFollow vs end
      → IsEndImage tin end z → ArePlaneRuns tin vs runs → ArePiecesOfAll tin layer (segments_begun vs) own
      → AreInside tin (segments_begun vs) → image_ends own ≡ between_points (with_end (joined_runs runs) z)
  path_between [] end z runs own follow at_end are pieces inside = absurd follow
  path_between (v ∷ vs) end z [] own follow at_end are pieces inside = absurd are
  path_between (v ∷ vs) end z ([] ∷ runs) own follow at_end are pieces inside = absurd are.0
  path_between (v ∷ []) end z (run ∷ next ∷ runs) own follow at_end are pieces inside = absurd are.1
  path_between (v ∷ []) None None ((image ∷ crossings) ∷ []) own follow at_end are pieces inside =
      grind (arith, ArePlaneCrossings)
  path_between (v ∷ []) None (Some z) ((image ∷ crossings) ∷ []) own follow at_end are pieces inside = absurd at_end
  path_between (v ∷ []) (Some to) None ((image ∷ crossings) ∷ []) own follow at_end are pieces inside = absurd at_end
  path_between (v ∷ []) (Some to) (Some z) ((image ∷ crossings) ∷ []) own follow at_end are pieces inside =
      go (subst (λ s. ArePiecesOfAll tin layer (cons_option s []) own) follow.begun pieces)
      (subst (λ s. AreInside tin (cons_option s [])) follow.begun inside)
    where
      go : ArePiecesOfAll tin layer (follow.segment ∷ []) own → AreInside tin (follow.segment ∷ [])
          → image_ends own ≡ between_points (((image ∷ crossings) ++ []) ++ z ∷ [])
      go (first, rest, all, is, none) within =
          let r = are.0 in
          ap image_ends (all ∙ ap (λ ps. first ++ ps) none ∙ append-nil first)
          ∙ vertex_between v to z image crossings [] first rest follow.segment follow follow.begun r.0 r.1 at_end is
          within.0
          ∙ ap (λ xs. between_points (xs ++ z ∷ [])) (sym (append-nil (image ∷ crossings)))
  path_between (v ∷ w ∷ vs) end z ((image ∷ crossings) ∷ []) own follow at_end are pieces inside = absurd are.1
  path_between (v ∷ w ∷ vs) end z ((image ∷ crossings) ∷ [] ∷ runs) own follow at_end are pieces inside = let r =
      are.1 in absurd r.0
  path_between (v ∷ w ∷ vs) end z ((image ∷ crossings) ∷ (other ∷ more) ∷ runs) own (goes, follow) at_end are pieces
      inside =
      go (subst (λ s. ArePiecesOfAll tin layer (cons_option s (segments_begun (w ∷ vs))) own) goes.begun pieces)
      (subst (λ s. AreInside tin (cons_option s (segments_begun (w ∷ vs)))) goes.begun inside)
      (λ rest is within. path_between (w ∷ vs) end z ((other ∷ more) ∷ runs) rest follow at_end are.1 is within)
    where
      go : ArePiecesOfAll tin layer (goes.segment ∷ segments_begun (w ∷ vs)) own
          → AreInside tin (goes.segment ∷ segments_begun (w ∷ vs))
          → ((rest : List Piece) → ArePiecesOfAll tin layer (segments_begun (w ∷ vs)) rest
          → AreInside tin (segments_begun (w ∷ vs))
          → image_ends rest ≡ between_points (with_end (joined_runs ((other ∷ more) ∷ runs)) z))
          → image_ends own ≡ between_points (with_end (joined_runs ((image ∷ crossings) ∷ (other ∷ more) ∷ runs)) z)
      go (first, rest, all, is, others) within later =
          let r = are.0 in
          let follow_run = are.1 in
          let next_run = follow_run.0 in
          let behind = more ++ joined_runs runs in
          let head : with_end (other ∷ behind) z ≡ other ∷ with_end behind z = with_append (other ∷ []) behind z in
          let here = vertex_between v w.point other image crossings (segments_begun (w ∷ vs)) first rest goes.segment
          goes goes.begun r.0 r.1 next_run.0 is within.0 in
          ap image_ends all ∙ map-append (λ (piece : Piece). let e : Ends Pt =
          record { from = piece.ia; to = piece.ib } in e) first rest
          ∙ ap (λ es. es ++ image_ends rest) here
          ∙ ap (λ es. between_points (image ∷ (crossings ++ other ∷ [])) ++ es)
          (later rest others within.1 ∙ ap between_points head)
          ∙ sym (between_append (image ∷ crossings) other (with_end behind z))
          ∙ ap between_points (ap (λ xs. (image ∷ crossings) ++ xs) (sym head)
          ∙ sym (with_append (image ∷ crossings) (other ∷ behind) z))

-- ---- the vertices of a path
below : (j n : ℕ) → j < n → ltb j n ≡ true
below j n h = grind arith

not_below : (j n : ℕ) → n ≤ j → ltb j n ≡ false
not_below j n h = grind arith

module _ (points : List Pt) (heights : List Height) (path : ℕ) (row : PathRow) (some : row.first < row.past) where
  begun_at : (j : ℕ) → j < segments_in row → (vertex_at points heights path row j).segment
      ≡ Some (segment_at points heights path row j)
  begun_at j h = rw (below j (segments_in row) h) refl

  none_at : (j : ℕ) → segments_in row ≤ j → (vertex_at points heights path row j).segment ≡ None
  none_at j h = rw (not_below j (segments_in row) h) refl

  goes_on : (j : ℕ) → j < segments_in row → j + 1 < points_in row
      → Goes (vertex_at points heights path row j) (vertex_at points heights path row (j + 1)).point
  goes_on j h next = grind (arith, begun_at, below)

  goes_back : (j : ℕ) → j < segments_in row → j + 1 ≡ points_in row
      → Goes (vertex_at points heights path row j) (point_at points row.first)
  goes_back j h last = grind (arith, begun_at, not_below)

  closed_follow : segments_in row ≡ points_in row → (count j : ℕ) → j + suc count ≡ points_in row
      → DoFollow (map (vertex_at points heights path row) (range_with_len j (suc count)))
      (Some (point_at points row.first))
  closed_follow all zero j e = goes_back j (omega (arith, all, e)) e
  closed_follow all (suc count) j e = grind (arith, goes_on, (closed_follow all count (j + 1) (omega (arith, e))))

  open_follow : segments_in row + 1 ≡ points_in row → (count j : ℕ) → j + suc count ≡ points_in row
      → DoFollow (map (vertex_at points heights path row) (range_with_len j (suc count))) None
  open_follow all zero j e = none_at j (omega (arith, all, e))
  open_follow all (suc count) j e = grind (arith, goes_on, (open_follow all count (j + 1) (omega (arith, e))))

-- ---- the segments of a path whose points are among others
point_here : (before : List Pt) (p : Pt) (behind : List Pt) (n : ℕ) → n ≡ length before
    → point_at (before ++ p ∷ behind) n ≡ p
point_here [] p behind n e = ap (point_at (p ∷ behind)) e
point_here (q ∷ before) p behind zero e = absurd (omega (arith, e))
point_here (q ∷ before) p behind (suc n) e = point_here before p behind n (omega (arith, e))

module _ (points : List Pt) (row : PathRow) where
  -- a point and the next one of the path are the ends of a segment, and the next one comes after the point
  neighbours : (before : List Pt) (p q : Pt) (own behind : List Pt) (j : ℕ)
      → points ≡ before ++ p ∷ (q ∷ (own ++ behind)) → row.first + j ≡ length before
      → row.first + j + suc (suc (length own)) ≡ row.past
      → (point_at points (row.first + j) ≡ p) × (end_of points row j ≡ q)
      × (points ≡ (before ++ p ∷ []) ++ q ∷ (own ++ behind)) × (row.first + (j + 1) ≡ length (before ++ p ∷ []))
  neighbours before p q own behind j split at past =
      let again : points ≡ (before ++ p ∷ []) ++ q ∷ (own ++ behind) = split
      ∙ sym (append_assoc before (p ∷ []) (q ∷ (own ++ behind))) in
      let size : row.first + (j + 1) ≡ length (before ++ p ∷ []) = let e =
      length-append before (p ∷ []) in omega (arith, e, at) in
      let place : row.first + j + 1 ≡ length (before ++ p ∷ []) = omega (arith, size) in (
        ap (λ ps. point_at ps (row.first + j)) split
            ∙ point_here before p (q ∷ (own ++ behind)) (row.first + j) at,
        ap (point_at points) (rw (below (row.first + j + 1) row.past (omega (arith, past))) refl)
            ∙ ap (λ ps. point_at ps (row.first + j + 1)) again
            ∙ point_here (before ++ p ∷ []) q (own ++ behind) (row.first + j + 1) place,
        again,
        size,
      )

  closed_ends : (before : List Pt) (p : Pt) (own behind : List Pt) (j : ℕ) → points ≡ before ++ p ∷ (own ++ behind)
      → row.first + j ≡ length before → row.first + j + suc (length own) ≡ row.past
      → map (ends_at points row) (range_with_len j (suc (length own)))
      ≡ between_points ((p ∷ own) ++ point_at points row.first ∷ [])
  closed_ends before p [] behind j split at past = grind (arith, point_here, not_below)
  closed_ends before p (q ∷ own) behind j split at past =
      grind (arith, neighbours, (closed_ends (before ++ p ∷ []) q own behind (j + 1)))

  open_ends : (before : List Pt) (p : Pt) (own behind : List Pt) (j : ℕ) → points ≡ before ++ p ∷ (own ++ behind)
      → row.first + j ≡ length before → row.first + j + suc (length own) ≡ row.past
      → map (ends_at points row) (range_with_len j (length own)) ≡ between_points (p ∷ own)
  open_ends before p [] behind j split at past = refl
  open_ends before p (q ∷ own) behind j split at past =
      grind (arith, neighbours, (open_ends (before ++ p ∷ []) q own behind (j + 1)))

-- ---- one path
joined_many : (tin : Triangulation) (vs : List PathVertex) (runs : List (List Pt)) → ArePlaneRuns tin vs runs
    → length vs ≤ length (joined_runs runs)
joined_many tin [] [] are = omega arith
joined_many tin (v ∷ vs) ([] ∷ runs) are = absurd are.0
joined_many tin (v ∷ vs) ((image ∷ crossings) ∷ runs) are =
    grind (arith, length-append, (joined_many tin vs runs are.1))
joined_many tin vs runs are = absurd are

segments_of_one : (kind : PathKind) → segments_of kind 1 ≡ 1
segments_of_one Dot = refl
segments_of_one _ = refl

-- a loop, a path of one point, or a line of more
data PathCase (kind : PathKind) (count : ℕ) : Type 0 where
  loop : kind ≡ Loop → PathCase kind count
  single : (kind ≢ Loop) → count ≡ 1 → PathCase kind count
  line : kind ≡ Line → 2 ≤ count → PathCase kind count

less_or_same : (n : ℕ) → 0 < n → (n ≡ 1) ⊎ (2 ≤ n)
less_or_same n h = grind arith

path_case : (kind : PathKind) (count : ℕ) → 0 < count → (kind ≡ Dot → count ≡ 1) → PathCase kind count
path_case Dot count h dot = single (λ e. cc) (dot refl)
path_case Loop count h dot = loop refl
path_case Line count h dot = grind (arith, less_or_same)

line_segments : (n : ℕ) → 2 ≤ n → segments_of Line n + 1 ≡ n
line_segments n h = omega (arith, h)

module _ (tin : Triangulation) (layer : ℕ) (sound : IsSound tin) (points : List Pt) (heights : List Height) (path : ℕ)
    (row : PathRow) (from : IsPathFrom row.first row) (images : List Pt) (now : PathRow) (before behind : List Pt)
  where
    -- the path's points are all the images of some runs, which come after others
    record AreRunsBehind (runs : List (List Pt)) : Type 0 where
      kind : now.kind ≡ row.kind
      split : images ≡ before ++ (joined_runs runs ++ behind)
      first : now.first ≡ length before
      past : now.past ≡ now.first + length (joined_runs runs)

    closed_again : (runs : List (List Pt)) (own : List Piece) → AreRunsBehind runs
        → ArePlaneRuns tin (path_vertices points heights path row) runs
        → ArePiecesOfAll tin layer (segments_begun (path_vertices points heights path row)) own
        → AreInside tin (segments_begun (path_vertices points heights path row)) → (count : ℕ)
        → points_in row ≡ suc count
        → segments_in row ≡ points_in row → segments_in now ≡ length (joined_runs runs) → ends_in images now ≡ image_ends own
    closed_again runs own stands are pieces inside count e all now_all =
        go runs stands (subst (λ n. ArePlaneRuns tin (map (vertex_at points heights path row) (range_with_len 0 n))
        runs)
        e are)
        now_all
        (λ z f. path_between tin layer sound (path_vertices points heights path row) (Some (point_at points row.first))
        (Some z)
        runs own
        (subst (λ n. DoFollow (map (vertex_at points heights path row) (range_with_len 0 n))
        (Some (point_at points row.first)))
        (sym e) (closed_follow points heights path row from.some all count 0 (omega (arith, e)))) f are pieces inside)
      where
        go : (runs : List (List Pt)) → AreRunsBehind runs
            → ArePlaneRuns tin (map (vertex_at points heights path row) (range_with_len 0 (suc count))) runs
            → segments_in now ≡ length (joined_runs runs)
            → ((z : Pt) → IsRoundedImage tin (point_at points row.first) z
            → image_ends own ≡ between_points (joined_runs runs ++ z ∷ [])) → ends_in images now ≡ image_ends own
        go [] stands are now_all on = absurd are
        go ([] ∷ runs) stands are now_all on = absurd are.0
        go ((image ∷ crossings) ∷ runs) stands are now_all on =
            let r = are.0 in
            let place : row.first + 0 ≡ row.first = omega arith in
            let at : IsRoundedImage tin (point_at points row.first) image =
            subst (λ n. IsRoundedImage tin (point_at points n) image) place r.0 in
            let xs = crossings ++ joined_runs runs in
            let first : point_at images now.first ≡ image = ap (λ ps. point_at ps now.first) stands.split
            ∙ point_here before image (xs ++ behind) now.first stands.first in
            ap (λ n. map (ends_at images now) (range_with_len 0 n)) now_all
            ∙ closed_ends images now before image xs behind 0 stands.split (omega (arith, stands.first))
            (omega (arith, stands.past))
            ∙ ap (λ z. between_points ((image ∷ xs) ++ z ∷ [])) first ∙ sym (on image at)

    open_again : (runs : List (List Pt)) (own : List Piece) → AreRunsBehind runs
        → ArePlaneRuns tin (path_vertices points heights path row) runs
        → ArePiecesOfAll tin layer (segments_begun (path_vertices points heights path row)) own
        → AreInside tin (segments_begun (path_vertices points heights path row)) → (count : ℕ)
        → points_in row ≡ suc count
        → segments_in row + 1 ≡ points_in row → segments_in now + 1 ≡ length (joined_runs runs)
        → ends_in images now ≡ image_ends own
    open_again runs own stands are pieces inside count e all now_all =
        go runs stands (subst (λ n. ArePlaneRuns tin (map (vertex_at points heights path row) (range_with_len 0 n))
        runs)
        e are)
        now_all
        (path_between tin layer sound (path_vertices points heights path row) None None runs own
        (subst (λ n. DoFollow (map (vertex_at points heights path row) (range_with_len 0 n)) None) (sym e)
        (open_follow points heights path row from.some all count 0 (omega (arith, e)))) tt are pieces inside)
      where
        go : (runs : List (List Pt)) → AreRunsBehind runs
            → ArePlaneRuns tin (map (vertex_at points heights path row) (range_with_len 0 (suc count))) runs
            → segments_in now + 1 ≡ length (joined_runs runs)
            → image_ends own ≡ between_points (joined_runs runs) → ends_in images now ≡ image_ends own
        go [] stands are now_all on = absurd are
        go ([] ∷ runs) stands are now_all on = absurd are.0
        go ((image ∷ crossings) ∷ runs) stands are now_all on =
            let xs = crossings ++ joined_runs runs in
            ap (λ n. map (ends_at images now) (range_with_len 0 n))
            (let e : segments_in now ≡ length xs = omega (arith, now_all) in e)
            ∙ open_ends images now before image xs behind 0 stands.split (omega (arith, stands.first))
            (omega (arith, stands.past)) ∙ sym on

    path_again : (runs : List (List Pt)) (own : List Piece) → AreRunsBehind runs
        → ArePlaneRuns tin (path_vertices points heights path row) runs
        → ArePiecesOfAll tin layer (segments_begun (path_vertices points heights path row)) own
        → AreInside tin (segments_begun (path_vertices points heights path row)) → ends_in images now ≡ image_ends own
    path_again runs own stands are pieces inside =
        go (path_case row.kind (points_in row) some (λ dot. let e = from.dot dot in omega (arith, e)))
      where
        some : 0 < points_in row
        some = let h = from.some in omega (arith, h)

        counted : points_in row ≡ suc (points_in row - 1)
        counted = omega (arith, some)

        size : points_in now ≡ length (joined_runs runs)
        size = omega (arith, stands.past)

        vertices : length (path_vertices points heights path row) ≡ points_in row
        vertices = length-map-range_with_len (vertex_at points heights path row) 0 (points_in row)

        single_run : (kind : row.kind ≢ Loop) → points_in row ≡ 1 → length (joined_runs runs) ≡ 1
        single_run kind e = by_runs runs (subst (λ n. ArePlaneRuns tin
            (map (vertex_at points heights path row) (range_with_len 0 n))
            runs) e are)
          where
            by_runs : (runs : List (List Pt)) → ArePlaneRuns tin (vertex_at points heights path row 0 ∷ []) runs
                → length (joined_runs runs) ≡ 1
            by_runs [] are = absurd are
            by_runs (run ∷ next ∷ runs) are = absurd are.1
            by_runs (run ∷ []) are =
                let at : points_in row - 1 ≡ 0 = omega (arith, e) in
                let alone = alone_run tin points heights path row run from (inr e)
                (subst (λ n. IsPlaneRun tin (vertex_at points heights path row n) run) (sym at) are.0) in
                ap length (append-nil run) ∙ alone

        go : PathCase row.kind (points_in row) → ends_in images now ≡ image_ends own
        go (loop is) =
            closed_again runs own stands are pieces inside (points_in row - 1) counted
            (ap (λ k. segments_of k (points_in row)) is)
            (ap (λ k. segments_of k (points_in now)) (stands.kind ∙ is) ∙ size)
        go (single other e) =
            let one = single_run other e in
            closed_again runs own stands are pieces inside (points_in row - 1) counted
            (ap (segments_of row.kind) e ∙ segments_of_one row.kind ∙ sym e)
            (ap (segments_of now.kind) (size ∙ one) ∙ segments_of_one now.kind ∙ sym one)
        go (line is more) =
            let many = joined_many tin (path_vertices points heights path row) runs are in
            let long : 2 ≤ points_in now = omega (arith, size, many, vertices, more) in
            open_again runs own stands are pieces inside (points_in row - 1) counted
            (ap (λ k. segments_of k (points_in row) + 1) is ∙ line_segments (points_in row) more)
            (ap (λ k. segments_of k (points_in now) + 1) (stands.kind ∙ is) ∙ line_segments (points_in now) long ∙ size)

-- ---- all paths, one after the other
record SplitRuns (tin : Triangulation) (vs ws : List PathVertex) (runs : List (List Pt)) : Type 0 where
  front : List (List Pt)
  back : List (List Pt)
  split : runs ≡ front ++ back
  of_front : ArePlaneRuns tin vs front
  of_back : ArePlaneRuns tin ws back

split_runs : (tin : Triangulation) (vs ws : List PathVertex) (runs : List (List Pt)) → ArePlaneRuns tin (vs ++ ws) runs
    → SplitRuns tin vs ws runs
split_runs tin [] ws runs are = record { front = []; back = runs; split = refl; of_front = tt; of_back = are }
split_runs tin (v ∷ vs) ws [] are = absurd are
split_runs tin (v ∷ vs) ws (run ∷ runs) are =
    let s = split_runs tin vs ws runs are.1 in
    record {
      front = run ∷ s.front;
      back = s.back;
      split = ap (λ rs. run ∷ rs) s.split;
      of_front =
          (are.0, s.of_front);
      of_back = s.of_back;
    }

pub begun_append : (vs ws : List PathVertex) → segments_begun (vs ++ ws) ≡ segments_begun vs ++ segments_begun ws
begun_append [] ws = refl
begun_append (v ∷ vs) ws = grind (arith, (begun_append vs ws))

record SplitPieces (tin : Triangulation) (layer : ℕ) (ss ts : List SheetSegment) (pieces : List Piece) : Type 0 where
  front : List Piece
  back : List Piece
  split : pieces ≡ front ++ back
  of_front : ArePiecesOfAll tin layer ss front
  of_back : ArePiecesOfAll tin layer ts back

split_pieces : (tin : Triangulation) (layer : ℕ) (ss ts : List SheetSegment) (pieces : List Piece)
    → ArePiecesOfAll tin layer (ss ++ ts) pieces → SplitPieces tin layer ss ts pieces
split_pieces tin layer [] ts pieces are = grind arith
split_pieces tin layer (s ∷ ss) ts pieces (own, rest, all, is, others) =
    let t = split_pieces tin layer ss ts rest others in
    record {
      front = own ++ t.front;
      back = t.back;
      split = all ∙ ap (λ ps. own ++ ps) t.split ∙ sym (append_assoc own t.front t.back);
      of_front = (own, t.front, refl, is, t.of_front);
      of_back = t.of_back;
    }

pub split_inside : (tin : Triangulation) (ss ts : List SheetSegment) → AreInside tin (ss ++ ts)
    → AreInside tin ss × AreInside tin ts
split_inside tin [] ts all = (tt, all)
split_inside tin (s ∷ ss) ts all = let (front, back) = split_inside tin ss ts all.1 in ((all.0, front), back)

begins_behind_runs : (images : Runs) (front back : List (List Pt)) (n : ℕ) → AreJoined images (front ++ back)
    → n ≡ length front → run_begin images n ≡ length (joined_runs front)
begins_behind_runs images front back n joint e =
    let fits : length front ≤ length (front ++ back) = let f = length-append front back in omega (arith, f) in
    ap (run_begin images) e ∙ begin_is images (front ++ back) (length front) joint fits
    ∙ ap (λ rs. length (joined_runs rs)) (take_front front back)

module _ (tin : Triangulation) (layer : ℕ) (sound : IsSound tin) (points : List Pt) (heights : List Height)
    (images : Runs) where
  paths_again : (path : ℕ) (rows : List PathRow) (first past : ℕ) (before runs : List (List Pt)) (pieces : List Piece)
      → AreTiled rows first past → first ≡ length before → AreJoined images (before ++ runs)
      → ArePlaneRuns tin (vertices_from points heights path rows) runs
      → ArePiecesOfAll tin layer (segments_begun (vertices_from points heights path rows)) pieces
      → AreInside tin (segments_begun (vertices_from points heights path rows))
      → ends_of images.points (map (row_of_images images) rows) ≡ image_ends pieces
  paths_again path [] first past before runs pieces tiled at joint are pieces_are inside =
      ap image_ends (sym pieces_are)
  paths_again path (row ∷ rows) first past before runs pieces tiled at joint are pieces_are inside =
      go (split_runs tin (path_vertices points heights path row) (vertices_from points heights (path + 1) rows) runs
      are)
      (split_pieces tin layer (segments_begun (path_vertices points heights path row))
      (segments_begun (vertices_from points heights (path + 1) rows)) pieces
      (subst (λ ss. ArePiecesOfAll tin layer ss pieces)
      (begun_append (path_vertices points heights path row) (vertices_from points heights (path + 1) rows)) pieces_are))
      (split_inside tin (segments_begun (path_vertices points heights path row))
      (segments_begun (vertices_from points heights (path + 1) rows))
      (subst (AreInside tin) (begun_append (path_vertices points heights path row)
      (vertices_from points heights (path + 1) rows))
      inside))
      (λ ahead rest own place joined_so of_rest of_own within. paths_again (path + 1) rows row.past past ahead rest own
      tiled.1 place joined_so of_rest of_own within)
    where
      go : SplitRuns tin (path_vertices points heights path row) (vertices_from points heights (path + 1) rows) runs
          → SplitPieces tin layer (segments_begun (path_vertices points heights path row))
          (segments_begun (vertices_from points heights (path + 1) rows)) pieces
          → AreInside tin (segments_begun (path_vertices points heights path row))
          × AreInside tin (segments_begun (vertices_from points heights (path + 1) rows))
          → ((ahead rest : List (List Pt)) (own : List Piece) → row.past ≡ length ahead
          → AreJoined images (ahead ++ rest) → ArePlaneRuns tin (vertices_from points heights (path + 1) rows) rest
          → ArePiecesOfAll tin layer (segments_begun (vertices_from points heights (path + 1) rows)) own
          → AreInside tin (segments_begun (vertices_from points heights (path + 1) rows))
          → ends_of images.points (map (row_of_images images) rows) ≡ image_ends own)
          → ends_of images.points (map (row_of_images images) (row ∷ rows)) ≡ image_ends pieces
      go r p within later =
          let here = tiled.0 in
          let some = here.some in
          let begins = here.begins in
          let from : IsPathFrom row.first row = record { begins = refl; some = here.some; dot = here.dot } in
          let count : length r.front ≡ row.past - row.first =
          run_count tin (path_vertices points heights path row) r.front r.of_front
          ∙ length-map-range_with_len (vertex_at points heights path row) 0 (points_in row) in
          let ahead = before ++ r.front in
          let place : row.past ≡ length ahead = let e =
          length-append before r.front in omega (arith, e, count, at, begins, some) in
          let all : before ++ runs ≡ ahead ++ r.back = ap (λ rs. before ++ rs) r.split
          ∙ sym (append_assoc before r.front r.back) in
          let joint_ahead : AreJoined images (ahead ++ r.back) = subst (AreJoined images) all joint in
          let joint_here : AreJoined images (before ++ (r.front ++ r.back)) =
          subst (AreJoined images) (ap (λ rs. before ++ rs) r.split) joint in
          let first_is : run_begin images row.first ≡ length (joined_runs before) =
          begins_behind_runs images before runs row.first joint (begins ∙ at) in
          let both : joined_runs ahead ≡ joined_runs before ++ joined_runs r.front =
          flat_map-append (λ (run : List Pt). run) before r.front in
          let past_is : run_begin images row.past ≡ run_begin images row.first + length (joined_runs r.front) =
          let e = begins_behind_runs images ahead r.back row.past joint_ahead place in let f = ap length both in let g =
          length-append (joined_runs before) (joined_runs r.front) in omega (arith, e, f, g, first_is) in
          let split : images.points ≡ joined_runs before ++ (joined_runs r.front ++ joined_runs r.back) =
          joint_here.points ∙ flat_map-append (λ (run : List Pt). run) before (r.front ++ r.back)
          ∙ ap (λ xs. joined_runs before ++ xs) (flat_map-append (λ (run : List Pt). run) r.front r.back) in
          ap₂ (λ xs ys. xs ++ ys)
          (path_again tin layer sound points heights path row from images.points (row_of_images images row) (joined_runs before)
          (joined_runs r.back) r.front p.front (record { kind = refl; split = split; first = first_is; past = past_is })
          r.of_front p.of_front within.0)
          (later ahead r.back p.back place joint_ahead r.of_back p.of_back within.1)
          ∙ sym (map-append (λ (piece : Piece). let e : Ends Pt = record { from = piece.ia; to = piece.ib } in e)
          p.front
          p.back) ∙ ap image_ends (sym p.split)

pub image_segments_are_pieces : ImageSegmentsArePieces
image_segments_are_pieces tin layer sheet images pieces sound is inside are pieces_are =
    paths_again tin layer sound sheet.points sheet.heights images 0 sheet.paths 0 (length sheet.points) []
    (plane are.runs) pieces is.tiled refl (plane_joint images are.runs are.points are.run)
    (plane_runs tin (sheet_vertices sheet) are.runs are.of_vertices) pieces_are inside
