-- The written drawing is read again.
use Rattle.std.proofs.Common.{◌≡◌, ◌≢◌, ◌⊎◌, ℕ, zero, suc, ◌+◌, ◌-◌, ◌<◌, ◌≤◌, Bool, true, false, cond, ap, refl, sym}
use Rattle.std.proofs.Common.{◌∙◌, subst, List, [], ◌∷◌, ◌++◌, length, map, Option, None, Some, All, arith}
use Rattle.std.proofs.Common.{inl, inr, ◌^◌, flat_map, Ok, Result, Err}
use Rattle.std.specs.Prelude.{◌&&◌, nat_lt}
use Rattle.std.specs.Option.{is_some}
use Rattle.std.proofs.lemmas.Bool.Decides.{nat_tests}
use Rattle.std.proofs.lemmas.List.{append_assoc, length-append, length-take, length-drop, get_or-take, get_or-drop}
use Rattle.std.proofs.lemmas.List.{get_or-append-add}
use Rattle.std.specs.List.{list_any}
use Rattle.plane_base.specs.declared.shapes.Pt.{Pt}
use Rattle.sheet_base.specs.declared.paths.PathKind.{PathKind}
use Rattle.sheet_base.specs.declared.paths.PathKind.TheVariants as paths
use Rattle.sheet_base.specs.declared.paths.PathRow.{PathRow}
use Rattle.sheet_base.specs.PointHeights.{Height, height_in}
use Rattle.sheet_base.specs.Sheets.{Contents}
use Rattle.sheet_base.specs.ImageFits.{Runs, run_begin, EndsAlone, HaveCrossingHeights, DoFit}
use Rattle.sheet_base.proofs.HeightLists.{none_in}
use Rattle.sheet_base.proofs.ImageRuns.{spread, ends_within}
use Rattle.sheet_base.specs.declared.edits.Edit.{Edit}
use Rattle.sheet_base.specs.declared.flags.How.{How}
use Rattle.sheet_base.specs.declared.faults.LayerFault.{LayerFault}
use Rattle.sheet_base.specs.Splices.{splice_of}
use Rattle.sheet_base.specs.ReadBack.{ends_of, height_ends_of, row_of_images, IsReadBack}
use Rattle.sheet_base.specs.Faults.{and_then}
use Rattle.dxf_pairs.specs.declared.pairs.Pair.{Pair}
use Rattle.dxf_pairs.specs.Groups.{Group, groups_of}
use Rattle.dxf_pairs.specs.Laws.{AreTiles, PairsTile, PairsAreTheGroups}
use Rattle.dxf_pairs.specs.InLines.{AreInLines, GroupsFollow, PairsAreInLines}
use Rattle.dxf_pairs.specs.declared.faults.PairFault.{PairFault}
use Rattle.dxf_pairs.specs.Pairs.{drawing}
use Rattle.dxf_entities.specs.declared.drawing.Rise.{Rise}
use Rattle.dxf_entities.specs.Shapes.{Shape, heights_by, rows_of, with_shapes}
use Rattle.dxf_entities.specs.declared.section_places.Where.TheVariants.{Outside}
use Rattle.dxf_entities.specs.declared.handles.TheConstants.{MOST_DIGITS}
use Rattle.dxf_entities.specs.SectionPlaces.{entities_of}
use Rattle.dxf_entities.specs.Seeds.{seed_of, seed_edits}
use Rattle.dxf_copies.specs.Rendering.{Reading, next_behind, drawing_text}
use Rattle.dxf_copies.specs.PairGroups.{groups_for}
use Rattle.dxf_copies.specs.LevelEnds.{AreReadAgain}
use Rattle.dxf_layer.specs.InsideEditOrder.{in_order}
use Rattle.dxf_layer.specs.InsideWalks.{free, walk_of}
use Rattle.dxf_layer.specs.Drawings.{contents_of_seed, drawing_sheet}
use Rattle.dxf_layer.specs.InsideSheets.{walked_sheet_of}
use Rattle.dxf_layer.specs.ReadBack.{IsNextShort, DoesReadBack}
use Rattle.dxf_entities.proofs.WholeShapes.{IsWholeBy, AreWhole, edits_are}
use Rattle.dxf_entities.proofs.OutlineEnds.{rows_behind, points_of, heights_in, heights_of, one_each, run_heights}
use Rattle.dxf_entities.proofs.OutlineEnds.{AreAll, RisesFit, imaged_outlines, rows_are, points_are, heights_are}
use Rattle.dxf_entities.proofs.OutlineEnds.{all_ends, all_heights, shapes_points, shapes_heights, imaged_points}
use Rattle.dxf_entities.proofs.OutlineEnds.{imaged_heights}
use Rattle.dxf_entities.proofs.Members.{Follow, tiles_follow}
use Rattle.dxf_entities.proofs.GroupShapes.{is_seeded, Outline, outlines, told}
use Rattle.dxf_entities.proofs.Sections.{all_aside}
use Rattle.dxf_entities.proofs.WrittenGroups.{AreRead, ends, is_drawing}
use Rattle.dxf_entities.proofs.SectionSeeds.{seed_found}
use Rattle.dxf_copies.proofs.ValueTurns.{AreGoodImages, stand, stands_for}
use Rattle.dxf_copies.proofs.GroupDrawings.{alone, walk, entities_told, outlines_of, AreBack, mapped_match}
use Rattle.dxf_layer.proofs.WrittenDrawings.EntityCases.{AloneFor, DotsAlone}
use Rattle.dxf_layer.proofs.SheetEdits.SheetOrder.{walk_good, entities_spread}
use Rattle.dxf_layer.proofs.WrittenDrawings.EntitiesAgain.{stand_in_order, all_again}
use Rattle.dxf_layer.proofs.EntityWalks.WalkTrails.{trail, trail_edits}
use Rattle.dxf_layer.proofs.WrittenDrawings.LightWritten.{lights_written}
use Rattle.dxf_layer.proofs.WrittenDrawings.WrittenWalks.{pairs_some, seed_silent, seed_no_harm, AreAgain, each_same, HasSome}
use Rattle.dxf_layer.proofs.EntityWalks.StepGroups.{drawing_told}
use Rattle.dxf_layer.proofs.WrittenDrawings.WrittenPairs.{written}
use Rattle.dxf_layer.proofs.EntityWalks.WalkedSheets.{sheet_read, sheet_walked}

-- ---- images that fit a drawing's sheet are good for its walk
good_images : (sheet : Contents) (images : Runs) → DoFit sheet images → AreGoodImages images (length sheet.points)
good_images sheet images fits = record {
  runs = record {
    rises = λ from past order inside.
        let so_many : from + (past - from) ≡ past = omega (arith, order) in
        let room = spread sheet images fits from (past - from) (omega (arith, so_many, inside)) in
        let e = ap (run_begin images) so_many in
        omega (arith, order, room, e);
    inside = λ point within. ends_within sheet images fits point within;
  };
  reach = fits.in_reach;
  height_each = fits.height_each;
  heights_reach = fits.heights_in_reach;
}

-- ---- the heights of images
-- the point after which an image is, among some
record IsOf (images : Runs) (first past image : ℕ) : Type 0 where
  point : ℕ
  from : first ≤ point
  upto : point < past
  begins : run_begin images point ≤ image
  ends : image < run_begin images (point + 1)

point_in : (images : Runs) (first count image : ℕ) → run_begin images first ≤ image
    → image < run_begin images (first + count) → IsOf images first (first + count) image
point_in images first zero image begins ends = grind (arith, ends)
point_in images first (suc count) image begins ends = grind (arith, ends, (point_in images first count image begins))

-- a shape's points have heights or none, all of them
own_some : (rise : Option Rise) (points : List Pt) (k : ℕ) → k < length points
    → is_some (height_in (heights_by rise points) k) ≡ is_some rise
own_some None points k within = ap is_some (none_in _ k)
own_some (Some rise) [] k within = absurd (omega arith)
own_some (Some rise) (begin ∷ points) zero within = refl
own_some (Some rise) (begin ∷ points) (suc k) within = ends points k (omega arith)
  where
    ends : (points : List Pt) (k : ℕ) → k < length points
        → is_some (height_in (map (λ (end : Pt). Some rise.end.mm) points) k) ≡ true
    ends [] k within = absurd (omega arith)
    ends (point ∷ points) zero within = refl
    ends (point ∷ points) (suc k) within = ends points k (omega arith)

both_same : (some : Bool) → (some && some) ≡ some
both_same true = refl
both_same false = refl

-- where the points of a path have heights, or none has, so do their images
images_some : (sheet : Contents) (images : Runs) (row : PathRow) (some : Bool) → DoFit sheet images
    → HaveCrossingHeights sheet images row → row.past ≤ length sheet.points
    → ((point : ℕ) → row.first ≤ point → point < row.past → is_some (height_in sheet.heights point) ≡ some)
    → (image : ℕ) → IsOf images row.first row.past image → is_some (height_in images.heights image) ≡ some
images_some sheet images row some fits crossings inside own image of = by (same_or of.begins)
  where
    point : ℕ
    point = of.point

    same_or : run_begin images point ≤ image → (run_begin images point ≡ image) ⊎ (run_begin images point < image)
    same_or h = grind arith

    next_inside : (more : Bool) → nat_lt (point + 1) row.past ≡ more
        → is_some (height_in sheet.heights (cond more (point + 1) row.first)) ≡ some
    next_inside true is = own (point + 1) (omega (arith, of.from)) (grind (arith, nat_tests, is))
    next_inside false is = own row.first (omega arith) (omega (arith, of.from, of.upto))

    by : (run_begin images point ≡ image) ⊎ (run_begin images point < image)
        → is_some (height_in images.heights image) ≡ some
    by (inl same) = ap (λ (n : ℕ). is_some (height_in images.heights n)) (sym same)
        ∙ (ap is_some (fits.own_heights point (omega (arith, of.upto, inside))) ∙ own point of.from of.upto)
    by (inr more) =
        let here = own point of.from of.upto in
        let next = next_inside (nat_lt (point + 1) row.past) refl in
        crossings point image of.from of.upto more of.ends ∙ rw (here, next) (both_same some)

all_be : (some : Bool) (heights : List Height)
    → ((k : ℕ) → k < length heights → is_some (height_in heights k) ≡ some) → AreAll some heights
all_be some [] each = tt
all_be some (height ∷ heights) each = (each 0 (omega arith), all_be some heights (λ k less. each (suc k) (omega arith)))

part_some : (images : Runs) (first past : ℕ) (some : Bool) → run_begin images past ≤ length images.heights
    → ((image : ℕ) → run_begin images first ≤ image → image < run_begin images past
    → is_some (height_in images.heights image) ≡ some) → AreAll some (run_heights images first past)
part_some images first past some room each = grind (arith, length-drop, all_be, length-take, get_or-take, get_or-drop)

-- the images of the points of shapes after some others
rises_fit : (sheet : Contents) (images : Runs) → DoFit sheet images → (front : List Height) (first : ℕ)
    (shapes : List Shape) → length front ≡ first → sheet.heights ≡ front ++ heights_of shapes
    → first + length (points_of shapes) ≤ length sheet.points
    → All (HaveCrossingHeights sheet images) (rows_behind first shapes) → AreWhole shapes → RisesFit images first shapes
rises_fit sheet images fits front first [] count are inside crossings whole = tt
rises_fit sheet images fits front first (shape ∷ shapes) count are inside crossings whole = (
  by_kind shape.kind whole.0 crossings,
  rises_fit sheet images fits (front ++ heights_in shape) past shapes
      (length-append front (heights_in shape) ∙ omega (arith, count, one_each shape))
      (are ∙ sym (append_assoc front (heights_in shape) (heights_of shapes)))
      (omega (arith, inside, sizes)) (crossings_behind shape.kind crossings) whole.1,
)
  where
    past : ℕ
    past = first + length shape.points

    sizes : length (shape.points ++ points_of shapes) ≡ length shape.points + length (points_of shapes)
    sizes = length-append shape.points (points_of shapes)

    own : (point : ℕ) → first ≤ point → point < past → is_some (height_in sheet.heights point) ≡ is_some shape.rise
    own point from upto =
        let k = point - first in
        let within : k < length shape.points = omega (arith, from, upto) in
        let place : length front + k ≡ point = omega (arith, count, from) in
        let at = ap (λ (hs : List Height). height_in hs point) are ∙ (ap (λ (n : ℕ). height_in (front ++
        (heights_in shape ++ heights_of shapes)) n) (sym place) ∙ (get_or-append-add front
        (heights_in shape ++ heights_of shapes) k None ∙ in_front (heights_in shape) (heights_of shapes) k
        (omega (arith, within, one_each shape)))) in ap is_some at ∙ own_some _ _ k within
      where
        in_front : (hs more : List Height) (k : ℕ) → k < length hs → height_in (hs ++ more) k ≡ height_in hs k
        in_front [] more k within = absurd (omega arith)
        in_front (h ∷ hs) more zero within = refl
        in_front (h ∷ hs) more (suc k) within = in_front hs more k (omega arith)

    crossings_behind : (kind : Option PathKind)
        → All (HaveCrossingHeights sheet images) (rows_of kind first past ++ rows_behind past shapes)
        → All (HaveCrossingHeights sheet images) (rows_behind past shapes)
    crossings_behind None all = all
    crossings_behind (Some kind) all = λ i d within. all (suc i) d (omega arith)

    by_kind : (kind : Option PathKind) → IsWholeBy kind (length shape.points)
        → All (HaveCrossingHeights sheet images) (rows_of kind first past ++ rows_behind past shapes)
        → AreAll (is_some shape.rise) (run_heights images first past)
    by_kind None count_is all = grind (arith, past, AreAll)
    by_kind (Some kind) count_is all =
        let row : PathRow = record { kind = kind; first = first; past = past } in
        let room = ends_within sheet images fits past (omega (arith, inside, sizes)) in
        part_some images first past _ (omega (arith, room, fits.height_each)) (λ image begins ends. images_some sheet
        images row _ fits (all 0 row (omega arith)) (omega (arith, inside, sizes)) own image (point_in images first
        (length shape.points) image begins ends))

-- the rows from some on
tail_all : (images : Runs) (row : PathRow) (rows : List PathRow) → All (EndsAlone images) (row ∷ rows)
    → All (EndsAlone images) rows
tail_all images row rows all i d inside = all (suc i) d (omega arith)

first_all : (images : Runs) (row : PathRow) (rows : List PathRow) → All (EndsAlone images) (row ∷ rows)
    → EndsAlone images row
first_all images row rows all = all 0 row (omega arith)

dot_off : paths.Dot ≢ paths.Loop
dot_off is = cc

dots_alone : (images : Runs) (first : ℕ) (shapes : List Shape) → AreWhole shapes → RisesFit images first shapes
    → All (EndsAlone images) (rows_behind first shapes) → DotsAlone images first shapes
dots_alone images first [] whole fit all = tt
dots_alone images first (shape ∷ shapes) whole fit all =
    let one = by_kind shape.kind whole.0 all (dots_alone images (first + length shape.points) shapes whole.1 fit.1) in
    ((one.0, fit.0), one.1)
  where
    by_kind : (kind : Option PathKind) → IsWholeBy kind (length shape.points)
        → All (EndsAlone images) (rows_of kind first (first + length shape.points)
        ++ rows_behind (first + length shape.points) shapes)
        → (All (EndsAlone images) (rows_behind (first + length shape.points) shapes)
        → DotsAlone images (first + length shape.points) shapes)
        → AloneFor kind images first × DotsAlone images (first + length shape.points) shapes
    by_kind None count all rest = (tt, rest all)
    by_kind (Some paths.Dot) count all rest =
        let row : PathRow = record { kind = paths.Dot; first = first; past = first + length shape.points } in (
          first_all images row (rows_behind (first + length shape.points) shapes) all (inl dot_off) first
              (omega (arith, count)),
          rest (tail_all images row (rows_behind (first + length shape.points) shapes) all),
        )
    by_kind (Some paths.Line) count all rest = (
      tt,
      rest (tail_all images (record { kind = paths.Line; first = first; past = first + length shape.points })
          (rows_behind (first + length shape.points) shapes) all),
    )
    by_kind (Some paths.Loop) count all rest = (
      tt,
      rest (tail_all images (record { kind = paths.Loop; first = first; past = first + length shape.points })
          (rows_behind (first + length shape.points) shapes) all),
    )

-- ---- what is written of a drawing is read again as a drawing
-- the paths of what is read of a drawing are whole
shapes_whole : (bytes : List ℕ) (how : How) (pairs : List Pair) (past : ℕ) → Follow 0 pairs past
    → (seed : Option Pair) (shapes : List Shape) → walk_of bytes how seed free (entities_of bytes pairs) ≡ Ok shapes
    → AreWhole shapes
shapes_whole bytes how pairs past follow seed shapes is =
    (walk_good 0 0 bytes how seed _ free 0 0 past shapes (omega arith) (entities_spread bytes pairs past follow)
    (all_aside bytes (entities_of bytes pairs)) is).whole

-- the edits of a drawing's sheet are those of the next handle and of its entities
edits_same : (read : Reading) (how : How) (seed : Option Pair) (shapes : List Shape)
    → walk_of read.bytes how seed free (entities_of read.bytes read.pairs) ≡ Ok shapes
    → read.sheet ≡ walked_sheet_of seed shapes → flat_map (groups_for read) read.pairs ≡ flat_map
    (stand read (seed_edits seed ++ trail read.bytes how seed 0 0 free (entities_of read.bytes read.pairs))) read.pairs
edits_same read how seed shapes walk sheet_is =
    let all = (with_shapes (contents_of_seed seed) shapes).edits in
    let trails : all ≡ seed_edits seed ++ trail read.bytes how seed 0 0 free (entities_of read.bytes read.pairs) =
    edits_are (contents_of_seed seed) shapes ∙ ap (λ (e : List Edit). seed_edits seed ++ e)
    (trail_edits read.bytes how seed 0 0 free (entities_of read.bytes read.pairs) shapes walk) in
    let ordered : read.sheet.edits ≡ in_order all = ap (λ (s : Contents). s.edits) sheet_is in
    grind (arith, each_same, stand, trail, stands_for, stand_in_order)

-- the groups in the place of a drawing's pairs
groups_again : GroupsFollow → (read : Reading) (how : How) (past : ℕ) → AreTiles 0 1 read.pairs past
    → AreInLines read.bytes read.pairs → (seed : Option Pair) → seed_of read.bytes read.pairs ≡ seed
    → (shapes : List Shape) → walk_of read.bytes how seed free (entities_of read.bytes read.pairs) ≡ Ok shapes
    → read.sheet ≡ walked_sheet_of seed shapes → DoFit read.sheet read.images → next_behind read < 16 ^ MOST_DIGITS
    → AreAgain read.bytes how (is_seeded seed) read.images 0 free Outside read.pairs
    (imaged_outlines read.images 0 shapes) (flat_map (groups_for read) read.pairs)
groups_again follow read how past tiles lines seed seed_is shapes walk sheet_is fits few =
    let count = length read.sheet.points in
    let good = good_images read.sheet read.images fits in
    let follows = tiles_follow 0 1 read.pairs past tiles in
    let some = pairs_some read.bytes 0 1 past read.pairs tiles lines in
    let points : read.sheet.points ≡ points_of shapes = ap (λ (s : Contents). s.points) sheet_is
    ∙ points_are (contents_of_seed seed) shapes in
    let rows : read.sheet.paths ≡ rows_behind 0 shapes = ap (λ (s : Contents). s.paths) sheet_is
    ∙ rows_are (contents_of_seed seed) shapes in
    let whole = shapes_whole read.bytes how read.pairs past follows seed shapes walk in
    let alone : All (EndsAlone read.images) (rows_behind 0 shapes) =
    subst (λ (r : List PathRow). All (EndsAlone read.images) r) rows fits.alone in
    let heights : read.sheet.heights ≡ heights_of shapes = ap (λ (s : Contents). s.heights) sheet_is
    ∙ heights_are (contents_of_seed seed) shapes in
    let rises = rises_fit read.sheet read.images fits [] 0 shapes refl heights (omega (arith, ap length points))
    (subst (λ (r : List PathRow). All (HaveCrossingHeights read.sheet read.images) r) rows fits.crossing_heights)
    whole in
    let again = all_again read how seed count follow good
    (lights_written follow read how seed count good fits.few past tiles) past tiles lines (seed_edits seed)
    (seed_no_harm read past follows some few seed seed_is)
    (length read.pairs) [] read.pairs Outside free 0 0 shapes [] (omega arith) (record {
      are = refl;
      is = walk;
      silent = seed_silent read.bytes read.pairs past follows some seed seed_is;
      rows = rows;
      before_is = refl;
      inside = omega (arith, ap length points);
      lone = dots_alone read.images 0 shapes whole rises alone;
    }) in grind (arith, AreAgain, is_seeded, imaged_outlines, edits_same, walk)

-- ---- what is written of a drawing reads back: its segments are those between the images, with their heights
-- the ends of the segments of a drawing's sheet, and their heights
record HasEnds (sheet : Contents) (outs : List Outline) : Type 0 where
  points : ends_of sheet.points sheet.paths ≡ all_ends outs
  heights : height_ends_of sheet.heights sheet.paths ≡ all_heights outs

sheet_ends : (bytes : List ℕ) (how : How) (pairs : List Pair) (past : ℕ) → AreTiles 0 1 pairs past
    → (seed : Option Pair) (shapes : List Shape) → walk_of bytes how seed free (entities_of bytes pairs) ≡ Ok shapes
    → HasEnds (walked_sheet_of seed shapes) (outlines shapes)
sheet_ends bytes how pairs past tiles seed shapes is =
    let whole = shapes_whole bytes how pairs past (tiles_follow 0 1 pairs past tiles) seed shapes is in
    grind (arith, points_are, points_of, rows_are, shapes_points, heights_are, heights_of, shapes_heights)

-- and of the images
record HaveEnds (sheet : Contents) (images : Runs) (outs : List Outline) : Type 0 where
  points : ends_of images.points (map (row_of_images images) sheet.paths) ≡ all_ends outs
  heights : height_ends_of images.heights (map (row_of_images images) sheet.paths) ≡ all_heights outs

image_ends : (bytes : List ℕ) (how : How) (pairs : List Pair) (past : ℕ) → AreTiles 0 1 pairs past
    → (seed : Option Pair) (shapes : List Shape) → walk_of bytes how seed free (entities_of bytes pairs) ≡ Ok shapes
    → (sheet : Contents) (images : Runs) → sheet ≡ walked_sheet_of seed shapes → DoFit sheet images
    → HaveEnds sheet images (imaged_outlines images 0 shapes)
image_ends bytes how pairs past tiles seed shapes is sheet images sheet_is fits =
    let whole = shapes_whole bytes how pairs past (tiles_follow 0 1 pairs past tiles) seed shapes is in
    let points : sheet.points ≡ points_of shapes = ap (λ (s : Contents). s.points) sheet_is
    ∙ points_are (contents_of_seed seed) shapes in
    let heights : sheet.heights ≡ heights_of shapes = ap (λ (s : Contents). s.heights) sheet_is ∙ heights_are _ shapes
    in
    let rows : sheet.paths ≡ rows_behind 0 shapes = ap (λ (s : Contents). s.paths) sheet_is ∙ rows_are _ shapes in
    let good = good_images sheet images fits in
    let inside : 0 + length (points_of shapes) ≤ length sheet.points = omega (arith, ap length points) in
    let rises = rises_fit sheet images fits [] 0 shapes refl heights inside
    (subst (λ (r : List PathRow). All (HaveCrossingHeights sheet images) r) rows fits.crossing_heights) whole in
    record {
      points = ap (λ (r : List PathRow). ends_of images.points (map (row_of_images images) r)) rows ∙ imaged_points images _
          good.runs 0 shapes inside whole;
      heights = ap (λ (r : List PathRow). height_ends_of images.heights (map (row_of_images images) r)) rows ∙ imaged_heights
          images _ good.runs fits.height_each 0 shapes inside whole rises;
    }

-- what a drawing's text is read as
abbrev IsBack : How → Contents → Runs → List ℕ → Type 0
IsBack how sheet images text = IsReadBack (λ bytes back. drawing_sheet how bytes ≡ Ok back) AreReadAgain sheet images
    text

-- a text with some groups, by the walk over these
by_groups : PairsTile → PairsAreTheGroups → (how : How) (text : List ℕ) (groups : List Group) → groups_of text ≡ groups
    → list_any ends groups ≡ true → (outs wanted : List Outline) → outlines_of how groups ≡ Some outs
    → (sheet : Contents) (images : Runs) → AreBack outs wanted → HaveEnds sheet images wanted
    → IsBack how sheet images text
by_groups tile pairs_are how text groups groups_are some outs wanted walk_is sheet images same have =
    by_walk (walk_of text how (seed_of text new.pairs) free (entities_of text new.pairs)) refl
    (ap (λ (seed : Option Pair). told outlines (walk_of text how seed free (entities_of text new.pairs)))
    (seed_found text new.pairs)
    ∙ (drawing_told text how new.pairs ∙ (ap (outlines_of how) (pairs_are text new.pairs new.is ∙ groups_are)
    ∙ walk_is))) where
      new : AreRead (drawing text)
      new = is_drawing text (subst (λ (g : List Group). list_any ends g ≡ true) (sym groups_are) some)

      by_walk : (result : Result (List Shape) LayerFault)
          → walk_of text how (seed_of text new.pairs) free (entities_of text new.pairs) ≡ result
          → told outlines result ≡ Some outs → IsBack how sheet images text
      by_walk (Err fault) is tells = absurd (cc)
      by_walk (Ok shapes) is tells =
          let (past, inside, tiles) = tile text new.pairs new.is in
          let list_is : outlines shapes ≡ outs = cc in
          let own = sheet_ends text how new.pairs past tiles (seed_of text new.pairs) shapes is in
          let back = walked_sheet_of (seed_of text new.pairs) shapes in
          grind (arith, sheet_read, all_ends, mapped_match, all_heights)

some_pairs : (bytes : List ℕ) (pairs : List Pair) → AreInLines bytes pairs → HasSome pairs
some_pairs bytes [] lines = absurd lines
some_pairs bytes (pair ∷ pairs) lines = tt

pub read_back : PairsTile → PairsAreInLines → GroupsFollow → PairsAreTheGroups
    → (how : How) (bytes : List ℕ) (sheet : Contents) (images : Runs) → drawing_sheet how bytes ≡ Ok sheet
    → DoFit sheet images
    → DoesReadBack how bytes sheet images → IsReadBack (λ text back. drawing_sheet how text ≡ Ok back)
    AreReadAgain sheet images
    (splice_of bytes (drawing_text bytes sheet images) sheet.edits)
read_back tile in_lines follow are_groups how bytes sheet images sheet_is fits short =
    by_pairs (drawing bytes) refl where
      by_pairs : (result : Result (List Pair) PairFault) → drawing bytes ≡ result
          → IsBack how sheet images (splice_of bytes (drawing_text bytes sheet images) sheet.edits)
      by_pairs (Err fault) pairs_are = absurd (subst
          (λ (r : Result (List Pair) PairFault). IsNextShort r bytes sheet images) pairs_are short)
      by_pairs (Ok pairs) pairs_are =
          by_walk (walk_of bytes how (seed_of bytes pairs) free (entities_of bytes pairs)) refl
          (sheet_walked bytes how pairs sheet (tile bytes pairs pairs_are) pairs_are sheet_is) where
            read : Reading
            read = record { bytes = bytes; pairs = pairs; sheet = sheet; images = images }

            few : next_behind read < 16 ^ MOST_DIGITS
            few = subst (λ (r : Result (List Pair) PairFault). IsNextShort r bytes sheet images) pairs_are short

            by_walk : (result : Result (List Shape) LayerFault)
                → walk_of bytes how (seed_of bytes pairs) free (entities_of bytes pairs) ≡ result
                → and_then (λ (s : List Shape). Ok (walked_sheet_of (seed_of bytes pairs) s)) result ≡ Ok sheet
                → IsBack how sheet images (splice_of bytes (drawing_text bytes sheet images) sheet.edits)
            by_walk (Err fault) walk_is made = absurd (cc)
            by_walk (Ok shapes) walk_is made =
                let (past, inside, tiles) = tile bytes pairs pairs_are in
                let same : sheet ≡ walked_sheet_of (seed_of bytes pairs) shapes = cc in
                let again = groups_again follow read how past tiles (in_lines bytes pairs pairs_are)
                (seed_of bytes pairs)
                refl shapes walk_is same fits few in
                let walks = again.again alone (inl refl) in
                let groups = flat_map (groups_for read) pairs in
                let outs : outlines_of how groups ≡ Some walks.outs =
                ap (λ (seeded : Bool). walk how seeded alone (entities_told Outside groups)) (again.kept.seeded
                ∙ ap is_seeded (sym (seed_found bytes pairs))) ∙ walks.walk_is in
                by_groups tile are_groups how (splice_of bytes (drawing_text bytes sheet images) sheet.edits) groups
                (written tile in_lines follow how bytes pairs sheet images pairs_are sheet_is fits)
                (again.kept.ending (some_pairs bytes pairs (in_lines bytes pairs pairs_are))) walks.outs
                (imaged_outlines images 0 shapes) outs sheet images
                walks.same
                (image_ends bytes how pairs past tiles (seed_of bytes pairs) shapes walk_is sheet images same fits)
