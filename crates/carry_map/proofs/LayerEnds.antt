-- Each layer that is read is carried, or has a first segment that is not.
use Rattle.std.proofs.Common.{◌≡◌, ◌⊎◌, inl, inr, ℕ, suc, ◌+◌, ◌≤◌, ◌^◌, List, [], ◌∷◌, ◌++◌, Option, Some, None}
use Rattle.std.proofs.Common.{length, refl, ap, sym, ◌∙◌, arith}
use Rattle.std.specs.List.{cons_option}
use Rattle.std.proofs.lemmas.List.{length-append}
use Rattle.plane_base.specs.declared.shapes.Pt.{Pt}
use Rattle.sheet_base.specs.declared.edits.Edit.{Edit}
use Rattle.sheet_base.specs.declared.flags.How.{How}
use Rattle.sheet_base.specs.Sheets.{Contents, IsSheet}
use Rattle.sheet_base.specs.ImageFits.{Runs, DoFit}
use Rattle.sheet_base.specs.Splices.{splice_of}
use Rattle.sheet_base.specs.PointHeights.{Height}
use Rattle.sheet_base.specs.ReadBack.{Ends}
use Rattle.sheet_base.specs.ReadSheets.{IsSheetOf, SheetsAreOfBytes, SheetsReadBack}
use Rattle.tin_base.specs.declared.pieces.Piece.{Piece}
use Rattle.tin_base.specs.Triangulation.{Triangulation}
use Rattle.tin_base.specs.Segments.{Part}
use Rattle.sheet_pieces.specs.SheetSegments.{SheetSegment, PathVertex, segments_begun, sheet_vertices, sheet_segments}
use Rattle.sheet_pieces.specs.SheetPieces.{first_place, ArePiecesOfAll}
use Rattle.sheet_pieces.specs.SheetImages.{AreEndsOfAllButLast, joined_runs, AreImagesOf}
use Rattle.sheet_pieces.proofs.SheetImages.{images_fit, run_many}
use Rattle.sheet_pieces.proofs.OneCut.{cut_alike, alike_length}
use Rattle.sheet_pieces.proofs.PlaneRuns.{ArePlaneCrossings, ArePlaneRuns, plane, plane_runs, plane_joined}
use Rattle.sheet_pieces.proofs.PieceParts.{told_length}
use Rattle.carry_map.specs.Outcomes.{HasCarried, HasFirstFault}
use Rattle.carry_map.specs.LayerEnds.{HasLayer, LacksLayer, LayerEndExists}
use Rattle.carry_map.proofs.ImageSegments.{own_segments}
use Rattle.carry_map.proofs.Outcomes.{outcome}

-- ---- how many images there are
ends_few : (tin : Triangulation) (a b : Pt) (parts : List Part) (images : List Pt)
    → AreEndsOfAllButLast tin a b parts images → length images ≤ length parts
ends_few tin a b [] images ends = let none = ap (λ (ps : List Pt). length ps) ends in omega (arith, none)
ends_few tin a b (part ∷ []) images ends = let none = ap (λ (ps : List Pt). length ps) ends in omega (arith, none)
ends_few tin a b (part ∷ next ∷ parts) [] ends = absurd ends
ends_few tin a b (part ∷ next ∷ parts) (image ∷ images) ends =
    let rest = ends_few tin a b (next ∷ parts) images ends.1 in omega (arith, rest)

-- the runs of vertices have no more images than there are vertices and pieces of their segments
runs_few : (tin : Triangulation) (layer : ℕ) (vertices : List PathVertex) (runs : List (List Pt)) (pieces : List Piece)
    → ArePlaneRuns tin vertices runs → ArePiecesOfAll tin layer (segments_begun vertices) pieces
    → length (joined_runs runs) ≤ length runs + length pieces
runs_few tin layer [] [] pieces runs_are are = omega arith
runs_few tin layer [] (run ∷ runs) pieces runs_are are = absurd runs_are
runs_few tin layer (vertex ∷ vertices) [] pieces runs_are are = absurd runs_are
runs_few tin layer (vertex ∷ vertices) ([] ∷ runs) pieces runs_are are = absurd runs_are.0
runs_few tin layer (vertex ∷ vertices) ((image ∷ images) ∷ runs) pieces runs_are are =
    by vertex.segment runs_are.0.1 are
    (λ rest others. runs_few tin layer vertices runs rest runs_are.1 others)
  where
    size : length ((image ∷ images) ++ joined_runs runs) ≡ length (image ∷ images) + length (joined_runs runs)
    size = length-append (image ∷ images) (joined_runs runs)

    by : (segment : Option SheetSegment) → ArePlaneCrossings tin segment images
        → ArePiecesOfAll tin layer (cons_option segment (segments_begun vertices)) pieces
        → ((rest : List Piece) → ArePiecesOfAll tin layer (segments_begun vertices) rest
        → length (joined_runs runs) ≤ length runs + length rest)
        → length ((image ∷ images) ++ joined_runs runs) ≤ suc (length runs) + length pieces
    by None none are rest =
        let few = rest pieces are in
        let no_more = ap (λ (ps : List Pt). length ps) none in omega (arith, few, no_more, size)
    by (Some segment) (parts, cut, ends) (own, others, all, of_segment, of_others) rest =
        let few = rest others of_others in
        let crossings = ends_few tin segment.a segment.b parts images ends in
        let alike = alike_length parts of_segment.parts
        (cut_alike tin segment.a segment.b parts of_segment.parts cut of_segment.cut) in
        let told = told_length tin segment.a segment.b (first_place layer segment) of_segment.parts own
        of_segment.told in
        let both = ap (λ (ps : List Piece). length ps) all ∙ length-append own others in
        omega (arith, few, crossings, alike, told, both, size)

images_few : (tin : Triangulation) (layer : ℕ) (sheet : Contents) (images : Runs) (pieces : List Piece)
    → IsSheet sheet → AreImagesOf tin sheet images → ArePiecesOfAll tin layer (sheet_segments sheet) pieces
    → length images.points ≤ length sheet.points + length pieces
images_few tin layer sheet images pieces is images_are are =
    let runs = plane images_are.runs in
    let of_vertices = plane_runs tin (sheet_vertices sheet) images_are.runs images_are.of_vertices in
    let all = ap (λ (ps : List Pt). length ps) (images_are.points ∙ sym (plane_joined images_are.runs)) in
    let few = runs_few tin layer (sheet_vertices sheet) runs pieces of_vertices are in
    let many = run_many tin sheet runs is of_vertices in
    omega (arith, all, few, many)

-- ---- a layer
sheet_small : (bytes : List ℕ) (sheet : Contents) → length bytes ≤ 2 ^ 26 → IsSheetOf bytes sheet → IsSheet sheet
sheet_small bytes sheet small of =
    let points = of.points in record {
      tiled = of.tiled;
      few = omega (arith, points, small);
      one_height_each = of.one_height_each;
      heights_in_reach = of.heights_in_reach;
    }

pub layer_end : (reads : How → List ℕ → Contents → Type 0) (text : List ℕ → How → Contents → Runs → Edit → List ℕ)
    (reads_back : How → List ℕ → Contents → Runs → Type 0) (reads_heights : Ends Height → Ends Height → Type 0)
    → SheetsAreOfBytes reads → SheetsReadBack reads text reads_back reads_heights
    → LayerEndExists reads text reads_back
layer_end reads text reads_back reads_heights are_of_bytes read_back tin sound limits how bytes small sheet read layer
    most before room
    most_few = by (outcome tin sound layer (length before) most room sheet is)
  where
    of : IsSheetOf bytes sheet
    of = are_of_bytes how bytes sheet read

    is : IsSheet sheet
    is = sheet_small bytes sheet small of

    made : HasCarried tin layer (length before) most sheet
        → HasLayer (reads how) (text bytes how) (reads_back how bytes) tin bytes layer most before
    made has =
        let own_room = has.room in
        let own = own_room.pieces in
        let images = has.images in
        let points = of.points in
        let few = images_few tin layer sheet images own is has.are_images own_room.are in
        let enough = own_room.room in
        let fit : DoFit sheet images =
        images_fit tin sheet images limits sound is own_room.inside has.are_images
        (omega (arith, few, points, small, enough, most_few)) in
        let size = length-append before own in
        record {
          carried = record {
            text = splice_of bytes (text bytes how sheet images) sheet.edits;
            paths = length sheet.paths;
            segments = length (sheet_segments sheet);
            pieces = length own;
            inexact = sheet.inexact;
            dropped = sheet.dropped;
          };
          after = before ++ own;
          is_carried = record {
            sheet = sheet;
            read = read;
            inside = own_room.inside;
            edits = of.edits;
            images = images;
            are_images = has.are_images;
            fit = fit;
            text_is = refl;
            own = own;
            are_pieces = own_room.are;
            stand = refl;
            paths = refl;
            segments = refl;
            pieces = refl;
            inexact = refl;
            dropped = refl;
          };
          few = omega (arith, size, enough);
          back = record {
            sheet = sheet;
            read = read;
            images = images;
            are_images = has.are_images;
            back = λ kept. let written = read_back how bytes sheet images read fit kept in
                record {
                  sheet = written.back;
                  is_read = written.is_read;
                  segments = written.segments
                      ∙ own_segments tin layer sheet images before (before ++ own) own (length before) sound is
                      own_room.inside has.are_images own_room.are refl refl;
                };
          };
        }

    by : HasCarried tin layer (length before) most sheet ⊎ HasFirstFault tin layer (length before) most sheet
        → HasLayer (reads how) (text bytes how) (reads_back how bytes) tin bytes layer most before
        ⊎ LacksLayer (reads how bytes) tin layer (length before) most
    by (inl has) = inl (made has)
    by (inr (inl (path, number, first))) = inr (inl (path, number, (sheet, read, first)))
    by (inr (inr first)) = inr (inr (sheet, read, first))
