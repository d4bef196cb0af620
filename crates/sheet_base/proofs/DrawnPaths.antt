-- Paths as a sheet keeps them, with their heights, and the same paths with images in place of their points.
use Rattle.std.proofs.Common.{◌≡◌, inl, inr, ◌⊎◌, ℕ, zero, suc, ◌+◌, ◌-◌, ◌<◌, ◌≤◌, Bool, true, false, List, [], ◌∷◌}
use Rattle.std.proofs.Common.{◌++◌, length, take, drop, refl, sym, ap, ◌∙◌, subst, append_assoc, arith, length-append}
use Rattle.std.specs.Prelude.{map, flat_map, slice_index_or, nat_lt, ◌&&◌}
use Rattle.std.specs.List.{AllByRecursion}
use Rattle.std.specs.Option.{is_some}
use Rattle.std.proofs.lemmas.Grind.{flat_map-append}
use Rattle.std.proofs.lemmas.Bool.{ltb-true}
use Rattle.std.proofs.lemmas.List.{take-append-drop, drop_all, length-take-le, length-drop}
use Rattle.std.proofs.lemmas.List.Elements.{recursion_from_All}
use Rattle.plane_base.specs.declared.shapes.Pt.{Pt}
use Rattle.sheet_base.specs.declared.paths.PathKind.{PathKind}
use Rattle.sheet_base.specs.declared.paths.PathKind.TheVariants.{Dot, Line, Loop}
use Rattle.sheet_base.specs.declared.paths.PathRow.{PathRow}
use Rattle.sheet_base.specs.PointHeights.{Height, Position, height_in, points_with_heights, heights_of}
use Rattle.sheet_base.specs.PointHeights.{IsHeightWithinReach}
use Rattle.sheet_base.specs.Segments.{next_in}
use Rattle.sheet_base.specs.Sheets.{Contents}
use Rattle.sheet_base.specs.ImageFits.{Runs, run_begin, positions_in, positions_of, no_path, path_positions, EndsAlone}
use Rattle.sheet_base.specs.ImageFits.{HaveCrossingHeights, IsWithinReach, DoFit}
use Rattle.sheet_base.specs.ReadBack.{row_of_images}
use Rattle.sheet_base.proofs.ListParts.{drop_twice, all_parts}
use Rattle.sheet_base.proofs.ImageRuns.{last_end, spread, ends_within}

-- what holds of a path of each kind
pub by_kind : (P : PathKind → Type 0) → P Dot → P Line → P Loop → (kind : PathKind) → P kind
by_kind P dot line loop Dot = dot
by_kind P dot line loop Line = line
by_kind P dot line loop Loop = loop

-- what a sheet keeps of a path
pub record Drawn : Type 0 where
  pub kind : PathKind
  pub positions : List Position

abbrev pub all_positions : List Drawn → List Position
all_positions paths = flat_map (λ (path : Drawn). path.positions) paths

-- the row of a path whose first point has this number, and the rows of paths from it on
abbrev pub row_from : ℕ → Drawn → PathRow
row_from first path = record { kind = path.kind; first = first; past = first + length path.positions }

abbrev pub rows_of : ℕ → List Drawn → List PathRow
rows_of first [] = []
rows_of first (path ∷ paths) = row_from first path ∷ rows_of (first + length path.positions) paths

-- the same paths with images in place of their points: the images of the path of each number are given
abbrev pub redrawn : (ℕ → List Position) → ℕ → List Drawn → List Drawn
redrawn images number [] = []
redrawn images number (path ∷ paths) = record { kind = path.kind; positions = images number }
    ∷ redrawn images (number + 1) paths

-- an image and its height are within reach
abbrev pub IsPositionWithinReach : Position → Type 0
IsPositionWithinReach image = IsWithinReach image.point × IsHeightWithinReach image.height

-- the point has a height, or it has none
abbrev pub IsRaised : Bool → Position → Type 0
IsRaised raised position = is_some position.height ≡ raised

-- images that may take the place of a path's points: at least as many, and one where it is a dot; where all the points
-- have a height, so have the images, and where none has one
pub record DoSuit (path : Drawn) (images : List Position) : Type 0 where
  pub some : 0 < length images
  pub many : length path.positions ≤ length images
  pub dot : path.kind ≡ Dot → length images ≡ 1
  pub reach : AllByRecursion IsPositionWithinReach images
  pub raised : (raised : Bool) → AllByRecursion (IsRaised raised) path.positions
      → AllByRecursion (IsRaised raised) images

abbrev pub AllSuit : (ℕ → List Position) → ℕ → List Drawn → Type 0
AllSuit images number [] = Unit {0}
AllSuit images number (path ∷ paths) = DoSuit path (images number) × AllSuit images (number + 1) paths

-- a path has points, and just one where it is a dot
pub record IsSome (path : Drawn) : Type 0 where
  pub some : 0 < length path.positions
  pub dot : path.kind ≡ Dot → length path.positions ≡ 1

-- ---- lists of paths, one after the other
pub suit_parts : {A : Type 0} (drawn : A → Drawn) (images : ℕ → List Position) (number : ℕ) (paths more : List A)
    → AllSuit images number (map drawn (paths ++ more))
    → AllSuit images number (map drawn paths) × AllSuit images (number + length paths) (map drawn more)
suit_parts drawn images number [] more all = let e : number ≡ number + 0 =
    omega arith in (tt, subst (λ n. AllSuit images n (map drawn more)) e all)
suit_parts drawn images number (path ∷ paths) more all =
    let e : number + 1 + length paths ≡ number + suc (length paths) = omega arith in
    let (front, back) = suit_parts drawn images (number + 1) paths more all.1 in
    ((all.0, front), subst (λ n. AllSuit images n (map drawn more)) e back)

pub redrawn_append : {A : Type 0} (drawn : A → Drawn) (images : ℕ → List Position) (number : ℕ) (paths more : List A)
    → redrawn images number (map drawn (paths ++ more)) ≡ redrawn images number (map drawn paths)
    ++ redrawn images (number + length paths) (map drawn more)
redrawn_append drawn images number [] more = let e : number ≡ number + 0 =
    omega arith in ap (λ n. redrawn images n (map drawn more)) e
redrawn_append drawn images number (path ∷ paths) more =
    let e : number + 1 + length paths ≡ number + suc (length paths) = omega arith in
    let one : Drawn = record { kind = (drawn path).kind; positions = images number } in
    ap (λ xs. one ∷ xs) (redrawn_append drawn images (number + 1) paths more
    ∙ ap (λ n. redrawn images (number + 1) (map drawn paths) ++ redrawn images n (map drawn more)) e)

-- ---- the images of each path
row_lookup : (first : ℕ) (done : List Drawn) (path : Drawn) (more : List Drawn)
    → slice_index_or (rows_of first (done ++ path ∷ more)) (length done) no_path
    ≡ row_from (first + length (all_positions done)) path
row_lookup first [] path more = let e : first ≡ first + 0 = omega arith in ap (λ n. row_from n path) e
row_lookup first (one ∷ done) path more =
    let e : first + length one.positions + length (all_positions done) ≡ first
    + length (one.positions ++ all_positions done) =
    let f = length-append one.positions (all_positions done) in omega (arith, f) in
    row_lookup (first + length one.positions) done path more ∙ ap (λ n. row_from n path) e

-- the images of the path of each number, from this number on, are those of its points, whose first one has that
-- number
abbrev AreParts : Runs → (ℕ → List Position) → ℕ → ℕ → List Drawn → Type 0
AreParts images of number first [] = Unit {0}
AreParts images of number first (path ∷ paths) =
    (of number ≡ positions_of images first (first + length path.positions))
    × AreParts images of (number + 1) (first + length path.positions) paths

parts_are : (images : Runs) (done paths : List Drawn)
    → AreParts images (path_positions (rows_of 0 (done ++ paths)) images) (length done) (length (all_positions done))
    paths
parts_are images done [] = tt
parts_are images done (path ∷ paths) =
    let first = length (all_positions done) in
    let e : 0 + first ≡ first = omega arith in
    let row : slice_index_or (rows_of 0 (done ++ path ∷ paths)) (length done) no_path ≡ row_from first path =
    row_lookup 0 done path paths ∙ ap (λ n. row_from n path) e in
    let size : length (done ++ path ∷ []) ≡ length done + 1 = length-append done (path ∷ []) in
    let kept : length (all_positions (done ++ path ∷ [])) ≡ first + length path.positions =
    let f = ap length (flat_map-append (λ (d : Drawn). d.positions) done (path ∷ [])) in let g =
    length-append (all_positions done) (path.positions ++ []) in let h =
    length-append path.positions [] in omega (arith, f, g, h) in (
      ap (λ (r : PathRow). positions_of images r.first r.past) row,
      subst (λ n. AreParts images (path_positions (rows_of 0 (done ++ path ∷ paths)) images) n
          (first + length path.positions) paths) size
          (subst (λ n. AreParts images (path_positions (rows_of 0 (done ++ path ∷ paths)) images)
          (length (done ++ path ∷ [])) n paths) kept
          (subst (λ ps. AreParts images (path_positions (rows_of 0 ps) images) (length (done ++ path ∷ []))
          (length (all_positions (done ++ path ∷ []))) paths) (append_assoc done (path ∷ []) paths)
          (parts_are images (done ++ path ∷ []) paths))),
    )

-- ---- heights of a list's part, by number and one by one
pub paired_length : (ps : List Pt) (hs : List Height) → length hs ≡ length ps → length (points_with_heights ps hs) ≡ length ps
paired_length [] hs e = refl
paired_length (p ∷ ps) [] e = absurd (omega (arith, e))
paired_length (p ∷ ps) (h ∷ hs) e = let f = paired_length ps hs (omega (arith, e)) in ap suc f

part_raised : (begin count : ℕ) (ps : List Pt) (hs : List Height) (raised : Bool) → length hs ≡ length ps
    → ((number : ℕ) → begin ≤ number → number < begin + count → is_some (height_in hs number) ≡ raised)
    → AllByRecursion (IsRaised raised) (take count (drop begin (points_with_heights ps hs)))
part_raised zero (suc count) (p ∷ ps) [] raised e known = absurd (omega (arith, e))
part_raised zero (suc count) (p ∷ ps) (h ∷ hs) raised e known = (
  known 0 (omega arith) (omega arith),
  part_raised zero count ps hs raised (omega (arith, e))
      (λ number from upto. known (suc number) (omega arith) (omega (arith, upto))),
)
part_raised (suc begin) zero [] hs raised e known = tt
part_raised (suc begin) count (p ∷ ps) [] raised e known = absurd (omega (arith, e))
part_raised (suc begin) count (p ∷ ps) (h ∷ hs) raised e known =
    part_raised begin count ps hs raised (omega (arith, e))
    (λ number from upto. known (suc number) (omega (arith, from)) (omega (arith, upto)))
part_raised _ count ps hs raised e known = tt

pub part_reached : (ps : List Pt) (hs : List Height) → AllByRecursion IsWithinReach ps
    → AllByRecursion IsHeightWithinReach hs → AllByRecursion IsPositionWithinReach (points_with_heights ps hs)
part_reached (p ∷ ps) (h ∷ hs) all each =
    ((all.0, each.0), part_reached ps hs all.1 each.1)
part_reached ps hs all each = tt

-- what is true of all images is true of some
pub all_of : (images : Runs) (first past : ℕ) → AllByRecursion IsPositionWithinReach (positions_in images)
    → AllByRecursion IsPositionWithinReach (positions_of images first past)
all_of images first past reach =
    (all_parts IsPositionWithinReach (run_begin images past - run_begin images first)
    (drop (run_begin images first) (positions_in images))
    (all_parts IsPositionWithinReach (run_begin images first) (positions_in images) reach).1).0

-- the heights of a path's points, by their numbers in the sheet
height_kept : (front path back : List Position) (raised : Bool) → AllByRecursion (IsRaised raised) path → (number : ℕ)
    → length front ≤ number → number < length front + length path
    → is_some (height_in (heights_of (front ++ (path ++ back))) number) ≡ raised
height_kept [] [] back raised all number from upto = absurd (omega (arith, upto))
height_kept [] (one ∷ path) back raised all zero from upto = all.0
height_kept [] (one ∷ path) back raised all (suc number) from upto =
    height_kept [] path back raised all.1 number (omega arith) (omega (arith, upto))
height_kept (one ∷ front) path back raised all zero from upto = absurd (omega (arith, from))
height_kept (one ∷ front) path back raised all (suc number) from upto =
    height_kept front path back raised all number (omega (arith, from)) (omega (arith, upto))

both_same : (a b raised : Bool) → a ≡ raised → b ≡ raised → (a && b) ≡ raised
both_same true b raised e f = f
both_same false b raised e f = e

-- ---- the point after which an image is
record IsBehind (images : Runs) (first past image : ℕ) : Type 0 where
  point : ℕ
  begins : first ≤ point
  within : point < past
  from : run_begin images point ≤ image
  upto : image < run_begin images (point + 1)

below_or : (m n : ℕ) → (m < n) ⊎ (n ≤ m)
below_or m n = grind arith

same_or : (m n : ℕ) → m ≤ n → (m ≡ n) ⊎ (m < n)
same_or m n h = grind arith

behind_of : (images : Runs) (first count image : ℕ) → run_begin images first ≤ image
    → image < run_begin images (first + count) → IsBehind images first (first + count) image
behind_of images first zero image from before =
    let e : first + 0 ≡ first = omega arith in let f =
    ap (run_begin images) e in absurd (omega (arith, from, before, f))
behind_of images first (suc count) image from before =
    go (below_or image (run_begin images (first + count))) (λ less. behind_of images first count image from less)
  where
    next : first + count + 1 ≡ first + suc count
    next = omega arith

    go : (image < run_begin images (first + count)) ⊎ (run_begin images (first + count) ≤ image)
        → (image < run_begin images (first + count) → IsBehind images first (first + count) image)
        → IsBehind images first (first + suc count) image
    go (inl less) before_it =
        let is = before_it less in
        let small = is.within in
        record {
          point = is.point;
          begins = is.begins;
          within = omega (arith, small);
          from = is.from;
          upto = is.upto;
        }
    go (inr at) before_it = record {
      point = first + count;
      begins = omega arith;
      within = omega arith;
      from = at;
      upto = subst (λ (n : ℕ). image < run_begin images n) (sym next) before;
    }

next_on : (path : PathRow) (point : ℕ) → path.first ≤ point → point < path.past
    → (path.first ≤ next_in path point) × (next_in path point < path.past)
next_on path point from upto = by_test (nat_lt (point + 1) path.past) refl
  where
    by_test : (b : Bool) → nat_lt (point + 1) path.past ≡ b
        → (path.first ≤ next_in path point) × (next_in path point < path.past)
    by_test true is = rw is (omega (arith, from), ltb-true (point + 1) path.past is)
    by_test false is = rw is (omega arith, omega (arith, from, upto))

-- ---- a sheet of these paths, and images that fit it
module _ (sheet : Contents) (images : Runs) (fit : DoFit sheet images) where
  pub all_reach : AllByRecursion IsPositionWithinReach (positions_in images)
  all_reach = part_reached images.points images.heights (recursion_from_All IsWithinReach images.points fit.in_reach)
      (recursion_from_All IsHeightWithinReach images.heights fit.heights_in_reach)

  positions_length : (first past : ℕ) → past ≤ length sheet.points
      → length (positions_of images first past) ≡ run_begin images past - run_begin images first
  positions_length first past within =
      let a = ends_within sheet images fit past within in
      let b = length-drop (run_begin images first) (positions_in images) in
      let c = paired_length images.points images.heights fit.height_each in
      length-take-le (run_begin images past - run_begin images first)
      (drop (run_begin images first) (positions_in images)) (omega (arith, a, b, c))

  -- where all points of a path have a height, or none has one, so it is with their images
  images_raised : (row : PathRow) (raised : Bool) → row.first ≤ row.past → row.past ≤ length sheet.points
      → HaveCrossingHeights sheet images row
      → ((number : ℕ) → row.first ≤ number → number < row.past → is_some (height_in sheet.heights number) ≡ raised)
      → AllByRecursion (IsRaised raised) (positions_of images row.first row.past)
  images_raised row raised order within crossings known =
      part_raised (run_begin images row.first) (run_begin images row.past - run_begin images row.first) images.points
      images.heights raised fit.height_each each
    where
      each : (image : ℕ) → run_begin images row.first ≤ image
          → image < run_begin images row.first + (run_begin images row.past - run_begin images row.first)
          → is_some (height_in images.heights image) ≡ raised
      each image from upto =
          let count : row.first + (row.past - row.first) ≡ row.past = omega (arith, order) in
          let a = spread sheet images fit row.first (row.past - row.first) (omega (arith, within, order)) in
          let b = ap (run_begin images) count in
          at (behind_of images row.first (row.past - row.first) image from (omega (arith, upto, a, b)))
        where
          at : IsBehind images row.first (row.first + (row.past - row.first)) image
              → is_some (height_in images.heights image) ≡ raised
          at behind =
              let small = behind.within in
              let inside : behind.point < row.past = omega (arith, small, order) in
              by (same_or (run_begin images behind.point) image behind.from) inside
            where
              by : (run_begin images behind.point ≡ image) ⊎ (run_begin images behind.point < image)
                  → behind.point < row.past → is_some (height_in images.heights image) ≡ raised
              by (inl own) inside =
                  ap (λ n. is_some (height_in images.heights n)) (sym own)
                  ∙ ap is_some (fit.own_heights behind.point (omega (arith, inside, within)))
                  ∙ known behind.point behind.begins inside
              by (inr more) inside =
                  let (next_from, next_upto) = next_on row behind.point behind.begins inside in
                  crossings behind.point image behind.begins inside more behind.upto
                  ∙ both_same (is_some (height_in sheet.heights behind.point))
                  (is_some (height_in sheet.heights (next_in row behind.point))) raised
                  (known behind.point behind.begins inside)
                  (known (next_in row behind.point) next_from next_upto)

  all_suit : (of : ℕ → List Position) (number : ℕ) (front : List Position) (paths : List Drawn)
      → AreParts images of number (length front) paths
      → sheet.heights ≡ heights_of (front ++ all_positions paths)
      → length front + length (all_positions paths) ≤ length sheet.points → AllByRecursion IsSome paths
      → AllByRecursion (EndsAlone images) (rows_of (length front) paths)
      → AllByRecursion (HaveCrossingHeights sheet images) (rows_of (length front) paths)
      → AllByRecursion IsPositionWithinReach (positions_in images)
      → AllSuit of number paths
  all_suit of number front [] are heights within some alone crossings reach = tt
  all_suit of number front (path ∷ paths) are heights within some alone crossings reach =
      let first = length front in
      let both = length-append path.positions (all_positions paths) in
      let past = first + length path.positions in
      let fits : past ≤ length sheet.points = omega (arith, within, both) in
      let count : length (of number) ≡ run_begin images past - run_begin images first = ap length are.0
      ∙ positions_length first past fits in
      let room = spread sheet images fit first (length path.positions) fits in
      let one = some.0.some in
      let size : first + length path.positions ≡ length (front ++ path.positions) =
      sym (length-append front path.positions) in (
        record {
          some = omega (arith, count, room, one);
          many = omega (arith, count, room);
          dot = λ is.
              let single : length path.positions ≡ 1 = some.0.dot is in
              let e : first + 1 ≡ past = omega (arith, single) in
              let a : run_begin images (first + 1) ≡ run_begin images first + 1 =
              alone.0 (inl (λ loop. let f = sym is ∙ loop in cc)) first e in
              let b = ap (run_begin images) e in
              omega (arith, count, a, b);
          reach = subst (AllByRecursion IsPositionWithinReach) (sym are.0) (all_of images first past reach);
          raised = λ raised all.
              subst (AllByRecursion (IsRaised raised)) (sym are.0)
              (images_raised (row_from first path) raised (omega arith) fits crossings.0
              (λ n from upto. ap (λ hs. is_some (height_in hs n)) heights
              ∙ height_kept front path.positions (all_positions paths) raised all n from upto));
        },
        all_suit of (number + 1) (front ++ path.positions) paths
            (subst (λ n. AreParts images of (number + 1) n paths) size are.1)
            (heights ∙ ap heights_of (sym (append_assoc front path.positions (all_positions paths))))
            (omega (arith, within, both, size)) some.1
            (subst (λ n. AllByRecursion (EndsAlone images) (rows_of n paths)) size alone.1)
            (subst (λ n. AllByRecursion (HaveCrossingHeights sheet images) (rows_of n paths)) size crossings.1)
            reach,
      )

  positions_redrawn : (of : ℕ → List Position) (number first : ℕ) (paths : List Drawn)
      → AreParts images of number first paths
      → first + length (all_positions paths) ≡ length sheet.points
      → all_positions (redrawn of number paths) ≡ drop (run_begin images first) (positions_in images)
  positions_redrawn of number first [] are all =
      let e : first ≡ length sheet.points = let z : length {A = Position} [] ≡ 0 = refl in omega (arith, all, z) in
      let f : run_begin images first ≡ length images.points = ap (run_begin images) e ∙ last_end sheet images fit in
      let g = paired_length images.points images.heights fit.height_each in
      sym (drop_all (run_begin images first) (positions_in images) (omega (arith, f, g)))
  positions_redrawn of number first (path ∷ paths) are all =
      let both = length-append path.positions (all_positions paths) in
      let past = first + length path.positions in
      let room = spread sheet images fit first (length path.positions) (omega (arith, all, both)) in
      let count = run_begin images past - run_begin images first in
      let e : run_begin images first + count ≡ run_begin images past = omega (arith, room) in
      ap (λ xs. xs ++ all_positions (redrawn of (number + 1) paths)) are.0
      ∙ ap (λ xs. positions_of images first past ++ xs)
      (positions_redrawn of (number + 1) past paths are.1 (omega (arith, all, both)))
      ∙ ap (λ xs. positions_of images first past ++ xs)
      (sym (drop_twice (run_begin images first) count (positions_in images)
      ∙ ap (λ n. drop n (positions_in images)) e))
      ∙ take-append-drop count (drop (run_begin images first) (positions_in images))

  rows_redrawn : (of : ℕ → List Position) (number first : ℕ) (paths : List Drawn)
      → AreParts images of number first paths
      → first + length (all_positions paths) ≤ length sheet.points
      → rows_of (run_begin images first) (redrawn of number paths) ≡ map (row_of_images images) (rows_of first paths)
  rows_redrawn of number first [] are within = refl
  rows_redrawn of number first (path ∷ paths) are within =
      let both = length-append path.positions (all_positions paths) in
      let past = first + length path.positions in
      let fits : past ≤ length sheet.points = omega (arith, within, both) in
      let count : length (of number) ≡ run_begin images past - run_begin images first = ap length are.0
      ∙ positions_length first past fits in
      let room = spread sheet images fit first (length path.positions) fits in
      let e : run_begin images first + length (of number) ≡ run_begin images past = omega (arith, count, room) in
      ap (λ n. let row : PathRow = record { kind = path.kind; first = run_begin images first; past = n } in row
      ∷ rows_of n (redrawn of (number + 1) paths)) e
      ∙ ap (λ rows. let row : PathRow = record {
        kind = path.kind;
        first = run_begin images first;
        past =
            run_begin images past;
      } in row ∷ rows)
      (rows_redrawn of (number + 1) past paths are.1 (omega (arith, within, both)))

  -- the sheet has these paths
  module _ (paths : List Drawn) (rows : sheet.paths ≡ rows_of 0 paths)
      (count : length sheet.points ≡ length (all_positions paths)) where
    parts : AreParts images (path_positions sheet.paths images) 0 0 paths
    parts = subst (λ rs. AreParts images (path_positions rs images) 0 0 paths) (sym rows) (parts_are images [] paths)

    pub sheet_suits : sheet.heights ≡ heights_of (all_positions paths) → AllByRecursion IsSome paths
        → AllSuit (path_positions sheet.paths images) 0 paths
    sheet_suits heights some =
        all_suit (path_positions sheet.paths images) 0 [] paths parts heights (omega (arith, count)) some
        (subst (AllByRecursion (EndsAlone images)) rows (recursion_from_All (EndsAlone images) sheet.paths fit.alone))
        (subst (AllByRecursion (HaveCrossingHeights sheet images)) rows
        (recursion_from_All (HaveCrossingHeights sheet images) sheet.paths fit.crossing_heights)) all_reach

    pub positions_again : all_positions (redrawn (path_positions sheet.paths images) 0 paths) ≡ positions_in images
    positions_again =
        positions_redrawn (path_positions sheet.paths images) 0 0 paths parts (omega (arith, count))
        ∙ ap (λ n. drop n (positions_in images)) fit.begins

    pub rows_again : rows_of 0 (redrawn (path_positions sheet.paths images) 0 paths) ≡ map (row_of_images images) sheet.paths
    rows_again =
        ap (λ n. rows_of n (redrawn (path_positions sheet.paths images) 0 paths)) (sym fit.begins)
        ∙ rows_redrawn (path_positions sheet.paths images) 0 0 paths parts (omega (arith, count))
        ∙ ap (map (row_of_images images)) (sym rows)
