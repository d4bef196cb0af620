-- The ends of the segments of paths are those of their outlines: their points, and their heights.
use Rattle.std.proofs.Common.{◌≡◌, ℕ, zero, suc, ◌+◌, ◌-◌, ◌<◌, ◌≤◌, Bool, true, false, cond, refl, ap, sym, ◌∙◌, subst}
use Rattle.std.proofs.Common.{List, [], ◌∷◌, ◌++◌, length, map, take, drop, flat_map, min, Option, None, Some, arith}
use Rattle.std.specs.Prelude.{nat_lt, ⊤, slice_index_or}
use Rattle.std.specs.List.{range_with_len}
use Rattle.std.specs.Option.{is_some}
use Rattle.std.proofs.lemmas.List.{append_assoc, append-nil, length-append, length-take-le, length-drop, get_or-take}
use Rattle.std.proofs.lemmas.List.{map-append, get_or-drop, length-map, length-replicate, length-take}
use Rattle.std.proofs.lemmas.Bool.Decides.{nat_tests}
use Rattle.plane_base.specs.declared.shapes.Pt.{Pt}
use Rattle.sheet_base.specs.declared.paths.PathKind.{PathKind}
use Rattle.sheet_base.specs.declared.paths.PathKind.TheVariants.{Dot, Line, Loop}
use Rattle.sheet_base.specs.declared.paths.PathRow.{PathRow}
use Rattle.sheet_base.specs.PointHeights.{Height, no_heights}
use Rattle.sheet_base.specs.Sheets.{Contents}
use Rattle.sheet_base.specs.Segments.{segments_of, segments_in, next_in, no_point}
use Rattle.sheet_base.specs.ReadBack.{Ends, ends_of, height_ends_of, row_of_images}
use Rattle.sheet_base.specs.ImageFits.{Runs, run_begin, images_of}
use Rattle.dxf_entities.specs.declared.drawing.Rise.{Rise}
use Rattle.dxf_entities.specs.Shapes.{Shape, heights_by, rows_of, with_shape, with_shapes}
use Rattle.std.proofs.Math.Seq.{take-append_seam, drop-append_seam}
use Rattle.dxf_entities.proofs.WholeShapes.{IsWholeBy, AreWhole}
use Rattle.dxf_entities.proofs.GroupShapes.{Outline, outlines}

-- ---- over a list of any kind, in order of the points
-- those of a row
abbrev pub part : {X : Type 0} → List X → ℕ → ℕ → List X
part items first past = take (past - first) (drop first items)

-- a path with this many points of its own
abbrev pub own_row : PathKind → ℕ → PathRow
own_row kind count = record { kind = kind; first = 0; past = count }

-- the ends of segments
abbrev pub both_at : {X : Type 0} → X → List X → PathRow → ℕ → Ends X
both_at none items path segment = record {
  from = slice_index_or items (path.first + segment) none;
  to = slice_index_or items (next_in path (path.first + segment)) none;
}

abbrev pub both_in : {X : Type 0} → X → List X → PathRow → List (Ends X)
both_in none items path = map (both_at none items path) (range_with_len 0 (segments_in path))

abbrev pub both_of : {X : Type 0} → X → List X → List PathRow → List (Ends X)
both_of none items paths = flat_map (both_in none items) paths

abbrev pub both_by : {X : Type 0} → X → Option PathKind → List X → List (Ends X)
both_by none None items = []
both_by none (Some kind) items = both_in none items (own_row kind (length items))

-- the ends of the outlines of a drawing
abbrev pub ends_by : Option PathKind → List Pt → List (Ends Pt)
ends_by kind points = both_by no_point kind points

abbrev pub outline_ends : Outline → List (Ends Pt)
outline_ends o = ends_by o.kind o.points

abbrev pub all_ends : List Outline → List (Ends Pt)
all_ends list = flat_map outline_ends list

-- and their heights
abbrev pub no_height : Height
no_height = None

abbrev pub outline_heights : Outline → List (Ends Height)
outline_heights o = both_by no_height o.kind o.heights

abbrev pub all_heights : List Outline → List (Ends Height)
all_heights list = flat_map outline_heights list

pub mapped_on : {B : Type 0} (f g : ℕ → B) (from other count : ℕ) → ((k : ℕ) → k < count → f (from + k) ≡ g (other + k))
    → map f (range_with_len from count) ≡ map g (range_with_len other count)
mapped_on f g from other zero same = refl
mapped_on f g from other (suc count) same =
    let none : from + 0 ≡ from = omega arith in
    let no_other : other + 0 ≡ other = omega arith in
    let here : f from ≡ g other = subst (λ n. f from ≡ g n) no_other
    (subst (λ n. f n ≡ g (other + 0)) none (same 0 (omega arith))) in
    let rest = mapped_on f g (from + 1) (other + 1) count (λ k less.
    let on : from + suc k ≡ from + 1 + k = omega arith in
    let other_on : other + suc k ≡ other + 1 + k = omega arith in subst (λ n. f (from + 1 + k) ≡ g n) other_on
    (subst (λ n. f n ≡ g (other + suc k)) on (same (suc k) (omega arith)))) in cc

few_segments : (kind : PathKind) (count k : ℕ) → 0 < count → k < segments_of kind count → k < count
few_segments Dot count k some less = omega arith
few_segments Line count k some less = omega arith
few_segments Loop count k some less = less

-- the rows of shapes after this many points
abbrev pub rows_behind : ℕ → List Shape → List PathRow
rows_behind first [] = []
rows_behind first (shape ∷ shapes) = rows_of shape.kind first (first + length shape.points)
    ++ rows_behind (first + length shape.points) shapes

-- a list for each shape, one after the other
abbrev pub items_of : {X : Type 0} → (Shape → List X) → List Shape → List X
items_of items [] = []
items_of items (shape ∷ shapes) = items shape ++ items_of items shapes

abbrev pub points_in : Shape → List Pt
points_in shape = shape.points

abbrev pub heights_in : Shape → List Height
heights_in shape = heights_by shape.rise shape.points

abbrev pub points_of : List Shape → List Pt
points_of shapes = items_of points_in shapes

abbrev pub heights_of : List Shape → List Height
heights_of shapes = items_of heights_in shapes

-- each point of a shape has a height or none
pub one_each : (shape : Shape) → length (heights_in shape) ≡ length shape.points
one_each shape = grind (arith, length-replicate, length-map)

pub rows_are : (before : Contents) (shapes : List Shape)
    → (with_shapes before shapes).paths ≡ before.paths ++ rows_behind (length before.points) shapes
rows_are before [] = sym (append-nil before.paths)
rows_are before (shape ∷ shapes) =
    grind (arith, length-append, append_assoc, (rows_are (with_shape before shape) shapes))

pub points_are : (before : Contents) (shapes : List Shape)
    → (with_shapes before shapes).points ≡ before.points ++ points_of shapes
points_are before [] = sym (append-nil before.points)
points_are before (shape ∷ shapes) = points_are (with_shape before shape) shapes
    ∙ append_assoc before.points shape.points (points_of shapes)

pub heights_are : (before : Contents) (shapes : List Shape)
    → (with_shapes before shapes).heights ≡ before.heights ++ heights_of shapes
heights_are before [] = sym (append-nil before.heights)
heights_are before (shape ∷ shapes) = heights_are (with_shape before shape) shapes
    ∙ append_assoc before.heights (heights_in shape) (heights_of shapes)

-- where a path of the kind has points
abbrev pub HasPoints : Option PathKind → ℕ → Type 0
HasPoints None count = Unit {0}
HasPoints (Some kind) count = 0 < count

has_points : (kind : Option PathKind) (count : ℕ) → IsWholeBy kind count → HasPoints kind count
has_points None count whole = tt
has_points (Some Dot) count whole = omega (arith, whole)
has_points (Some Line) count whole = whole
has_points (Some Loop) count whole = whole

middle_part : {X : Type 0} (front own more : List X) (first past : ℕ) → first ≡ length front
    → past ≡ first + length own → part (front ++ (own ++ more)) first past ≡ own
middle_part front own more first past first_is past_is =
    let count : past - first ≡ length own = omega arith in
    let left = drop-append_seam front (own ++ more) in
    let left_too : drop first (front ++ (own ++ more)) ≡ own ++ more =
    ap (λ n. drop n (front ++ (own ++ more))) first_is ∙ left in grind (arith, take-append_seam)

-- the places of runs rise up to the number of images
pub record AreRuns (images : Runs) (count : ℕ) : Type 0 where
  pub rises : (from past : ℕ) → from < past → past ≤ count → run_begin images from < run_begin images past
  pub inside : (point : ℕ) → point ≤ count → run_begin images point ≤ length images.points

module _ {X : Type 0} (none : X) where
  at : (items : List X) (first past k : ℕ) → k < past - first
      → slice_index_or items (first + k) none ≡ slice_index_or (part items first past) k none
  at items first past k within = sym (get_or-take (past - first) (drop first items) k none within
      ∙ get_or-drop first items k none)

  after : (items own : List X) (first past k : ℕ) → k < past - first → length own ≡ past - first
      → own ≡ part items first past → (more other : Bool) → nat_lt (first + k + 1) past ≡ more
      → nat_lt (0 + k + 1) (length own) ≡ other → slice_index_or items (cond more (first + k + 1) first) none
      ≡ slice_index_or own (cond other (0 + k + 1) 0) none
  after items own first past k within size own_is true true is too = grind (arith, at)
  after items own first past k within size own_is true false is too = absurd (grind (arith, nat_tests, is, too, size))
  after items own first past k within size own_is false true is too = absurd (grind (arith, nat_tests, is, too, size))
  after items own first past k within size own_is false false is too = grind (arith, at)

  same_at : (items : List X) (path : PathRow) (own : List X) (k : ℕ) → k < path.past - path.first
      → length own ≡ path.past - path.first → own ≡ part items path.first path.past
      → both_at none items path (0 + k) ≡ both_at none own (own_row path.kind (length own)) (0 + k)
  same_at items path own k within size own_is = grind (arith, at, after)

  -- a path of some items, and the same path of these alone
  part_ends : (items : List X) (kind : PathKind) (first past : ℕ) → first < past → past ≤ length items
      → both_in none items (record { kind = kind; first = first; past = past })
      ≡ both_in none (part items first past) (own_row kind (length (part items first past)))
  part_ends items kind first past some inside =
      let path : PathRow = record { kind = kind; first = first; past = past } in
      let own = part items first past in
      let rest = length-drop first items in
      let size : length own ≡ past - first = length-take-le (past - first) (drop first items) (omega arith) in
      let count : length own - 0 ≡ past - first = omega arith in
      ap (λ n. map (both_at none items path) (range_with_len 0 (segments_of kind n))) (sym count)
      ∙ mapped_on (both_at none items path) (both_at none own (own_row kind (length own))) 0 0
      (segments_of kind (length own - 0))
      (λ k less.
      let within : k < past - first = few_segments kind (past - first) k (omega arith)
      (subst (λ n. k < segments_of kind n) count less) in same_at items path own k within size refl)

  row_ends : (items : List X) (kind : Option PathKind) (first past : ℕ) → first ≤ past → past ≤ length items
      → HasPoints kind (past - first)
      → both_of none items (rows_of kind first past) ≡ both_by none kind (part items first past)
  row_ends items None first past order inside some = refl
  row_ends items (Some kind) first past order inside some = grind (arith, append-nil, part_ends)

  ends_both : (items : List X) (rows more : List PathRow)
      → both_of none items (rows ++ more) ≡ both_of none items rows ++ both_of none items more
  ends_both items [] more = refl
  ends_both items (row ∷ rows) more = ap (λ rest. both_in none items row ++ rest) (ends_both items rows more)
      ∙ sym (append_assoc (both_in none items row) (both_of none items rows) (both_of none items more))

  -- the ends of shapes
  abbrev pub parts_of : (Shape → List X) → List Shape → List (Ends X)
  parts_of items [] = []
  parts_of items (shape ∷ shapes) = both_by none shape.kind (items shape) ++ parts_of items shapes

  -- after other items
  shapes_ends : (items : Shape → List X) → ((shape : Shape) → length (items shape) ≡ length shape.points)
      → (front : List X) (shapes : List Shape) → AreWhole shapes
      → both_of none (front ++ items_of items shapes) (rows_behind (length front) shapes) ≡ parts_of items shapes
  shapes_ends items each front [] whole = refl
  shapes_ends items each front (shape ∷ shapes) whole =
      let own = items shape in
      let e = each shape in
      let first = length front in
      let past = length front + length shape.points in
      let all = front ++ (own ++ items_of items shapes) in
      let size = length-append front (own ++ items_of items shapes) in
      let sizes = length-append own (items_of items shapes) in
      let count : length shape.points ≡ past - first = omega arith in
      let here = row_ends all shape.kind first past (omega arith) (omega (arith, size, sizes, e)) (subst
      (HasPoints shape.kind) count (has_points shape.kind (length shape.points) whole.0)) ∙ ap (both_by none shape.kind)
      (middle_part front own (items_of items shapes) first past refl (omega (arith, e))) in
      let joined = length-append front own in
      let on : length (front ++ own) ≡ past = omega (arith, joined, e) in
      let rest = shapes_ends items each (front ++ own) shapes whole.1 in
      let rest_too = ap (λ (p : List X). both_of none p (rows_behind past shapes)) (sym (append_assoc front own
      (items_of items shapes))) ∙ (ap (λ n. both_of none ((front ++ own) ++ items_of items shapes)
      (rows_behind n shapes)) (sym on) ∙ rest) in grind (arith, ends_both)

  -- the ends of the images of shapes
  abbrev pub image_parts : List X → Runs → ℕ → List Shape → List (Ends X)
  image_parts items images first [] = []
  image_parts items images first (shape ∷ shapes) = both_by none shape.kind
      (part items (run_begin images first) (run_begin images (first + length shape.points)))
      ++ image_parts items images (first + length shape.points) shapes

  image_row : (items : List X) (images : Runs) (count : ℕ) → AreRuns images count
      → length items ≡ length images.points → (kind : Option PathKind) (first past : ℕ)
      → past ≤ count → HasPoints kind (past - first)
      → both_of none items (map (row_of_images images) (rows_of kind first past))
      ≡ both_by none kind (part items (run_begin images first) (run_begin images past))
  image_row items images count runs each None first past inside some = refl
  image_row items images count runs each (Some kind) first past inside some = grind (arith, append-nil, part_ends)

  imaged_ends : (items : List X) (images : Runs) (count : ℕ) → AreRuns images count
      → length items ≡ length images.points → (first : ℕ) (shapes : List Shape)
      → first + length (points_of shapes) ≤ count → AreWhole shapes
      → both_of none items (map (row_of_images images) (rows_behind first shapes)) ≡ image_parts items images first shapes
  imaged_ends items images count runs each first [] inside whole = refl
  imaged_ends items images count runs each first (shape ∷ shapes) inside whole =
      let past = first + length shape.points in
      let size = length-append shape.points (points_of shapes) in
      let number : length shape.points ≡ past - first = omega arith in
      let here = image_row items images count runs each shape.kind first past (omega arith)
      (subst (HasPoints shape.kind) number (has_points shape.kind (length shape.points) whole.0)) in
      let rest = imaged_ends items images count runs each past shapes (omega arith) whole.1 in
      grind (arith, map-append, ends_both)

-- ---- points and heights
parts_points : (shapes : List Shape) → parts_of no_point points_in shapes ≡ all_ends (outlines shapes)
parts_points [] = refl
parts_points (shape ∷ shapes) = ap (λ e. ends_by shape.kind shape.points ++ e) (parts_points shapes)

parts_heights : (shapes : List Shape) → parts_of no_height heights_in shapes ≡ all_heights (outlines shapes)
parts_heights [] = refl
parts_heights (shape ∷ shapes) = ap (λ e. both_by no_height shape.kind (heights_in shape) ++ e) (parts_heights shapes)

pub shapes_points : (shapes : List Shape) → AreWhole shapes
    → ends_of (points_of shapes) (rows_behind 0 shapes) ≡ all_ends (outlines shapes)
shapes_points shapes whole = shapes_ends no_point points_in (λ shape. refl) [] shapes whole ∙ parts_points shapes

pub shapes_heights : (shapes : List Shape) → AreWhole shapes
    → height_ends_of (heights_of shapes) (rows_behind 0 shapes) ≡ all_heights (outlines shapes)
shapes_heights shapes whole = shapes_ends no_height heights_in one_each [] shapes whole ∙ parts_heights shapes

-- the heights of the images of some points
abbrev pub run_heights : Runs → ℕ → ℕ → List Height
run_heights images first past = part images.heights (run_begin images first) (run_begin images past)

-- those that are wanted: of a line that has some, and else none
abbrev pub heights_for : Option Rise → List Pt → List Height → List Height
heights_for None points heights = no_heights (length points)
heights_for (Some rise) points heights = heights

-- the outlines of the images of shapes after this many points
abbrev pub imaged_outline : Runs → ℕ → Shape → Outline
imaged_outline images first shape = record {
  kind = shape.kind;
  points = images_of images first (first + length shape.points);
  heights = heights_for shape.rise (images_of images first (first + length shape.points))
      (run_heights images first (first + length shape.points));
}

abbrev pub imaged_outlines : Runs → ℕ → List Shape → List Outline
imaged_outlines images first [] = []
imaged_outlines images first (shape ∷ shapes) =
    imaged_outline images first shape ∷ imaged_outlines images (first + length shape.points) shapes

-- all have a height, or none has one
abbrev pub AreAll : Bool → List Height → Type 0
AreAll some [] = ⊤
AreAll some (height ∷ heights) = (is_some height ≡ some) × AreAll some heights

-- the images of a line that has heights have some, all others have none
abbrev pub RisesFit : Runs → ℕ → List Shape → Type 0
RisesFit images first [] = ⊤
RisesFit images first (shape ∷ shapes) =
    AreAll (is_some shape.rise) (run_heights images first (first + length shape.points))
    × RisesFit images (first + length shape.points) shapes

none_have : (heights : List Height) → AreAll false heights → heights ≡ no_heights (length heights)
none_have [] all = refl
none_have (None ∷ heights) all = ap (λ (hs : List Height). None ∷ hs) (none_have heights all.1)
none_have (Some z ∷ heights) all = absurd (let is = all.0 in cc)

-- the wanted heights are those of the images
pub heights_wanted : (rise : Option Rise) (points : List Pt) (heights : List Height) → length heights ≡ length points
    → AreAll (is_some rise) heights → heights ≡ heights_for rise points heights
heights_wanted None points heights each all = none_have heights all ∙ ap no_heights each
heights_wanted (Some rise) points heights each all = refl

pub part_length : {X Y : Type 0} (xs : List X) (ys : List Y) (first past : ℕ) → length xs ≡ length ys
    → length (part xs first past) ≡ length (part ys first past)
part_length xs ys first past each = simp (length-take, length-drop) (ap (λ n. min (past - first) (n - first)) each)

image_points : (images : Runs) (first : ℕ) (shapes : List Shape)
    → image_parts no_point images.points images first shapes ≡ all_ends (imaged_outlines images first shapes)
image_points images first [] = refl
image_points images first (shape ∷ shapes) = grind (arith, (image_points images (first + length shape.points) shapes))

image_heights : (images : Runs) (first : ℕ) (shapes : List Shape) → length images.heights ≡ length images.points
    → RisesFit images first shapes
    → image_parts no_height images.heights images first shapes ≡ all_heights (imaged_outlines images first shapes)
image_heights images first [] each fit = refl
image_heights images first (shape ∷ shapes) each fit =
    grind (arith, heights_wanted, part_length, (image_heights images (first + length shape.points) shapes each fit.1))

pub imaged_points : (images : Runs) (count : ℕ) → AreRuns images count → (first : ℕ) (shapes : List Shape)
    → first + length (points_of shapes) ≤ count → AreWhole shapes
    → ends_of images.points (map (row_of_images images) (rows_behind first shapes))
    ≡ all_ends (imaged_outlines images first shapes)
imaged_points images count runs first shapes inside whole =
    imaged_ends no_point images.points images count runs refl first shapes inside whole
    ∙ image_points images first shapes

pub imaged_heights : (images : Runs) (count : ℕ) → AreRuns images count → length images.heights ≡ length images.points
    → (first : ℕ) (shapes : List Shape) → first + length (points_of shapes) ≤ count → AreWhole shapes
    → RisesFit images first shapes
    → height_ends_of images.heights (map (row_of_images images) (rows_behind first shapes))
    ≡ all_heights (imaged_outlines images first shapes)
imaged_heights images count runs each first shapes inside whole fit =
    imaged_ends no_height images.heights images count runs each first shapes inside whole
    ∙ image_heights images first shapes each fit
