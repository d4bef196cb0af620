-- How coordinates that are one path at most turn into the path's images.
use Rattle.std.proofs.Common.{◌≡◌, ℕ, ◌-◌, ◌<◌, ◌≤◌, Bool, true, List, [], ◌∷◌, ◌++◌, length, map, take, refl, sym, ap}
use Rattle.std.proofs.Common.{◌∙◌, subst, arith, length-append}
use Rattle.std.specs.Prelude.{Some, None, Ok, sum_by, if◌then◌else◌}
use Rattle.std.specs.List.{AllByRecursion}
use Rattle.std.proofs.Math.Seq.{take-append_seam}
use Rattle.std.proofs.lemmas.List.{length-map, length-take}
use Rattle.std.proofs.lemmas.Bool.Decides.{Decides-int_eq}
use Rattle.jtext.specs.Values.{Json, Elements, array, no_element, element, spelling, IsValue}
use Rattle.jtext.specs.Nodes.{inner_place, element_start, next_place}
use Rattle.sheet_base.specs.PointHeights.{Height, Position, height_in, points_of, heights_of}
use Rattle.sheet_base.specs.declared.paths.PathKind.TheVariants as kinds
use Rattle.sheet_base.specs.declared.edits.Edit.{Edit}
use Rattle.sheet_base.specs.Segments.{point_at}
use Rattle.sheet_base.proofs.Swaps.{kept_swapped}
use Rattle.gj_layer.specs.declared.forms.Trace.{Trace}
use Rattle.gj_layer.specs.declared.forms.Trace.TheVariants as traces
use Rattle.gj_layer.specs.declared.forms.ValueForm.TheVariants as forms
use Rattle.gj_layer.specs.declared.positions.PositionRead.{PositionRead}
use Rattle.sheet_base.specs.Faults.{and_then}
use Rattle.gj_layer.specs.Positions.{position, positions, in_front, position_of, lost_of}
use Rattle.sheet_base.specs.Rings.{is_same_height, is_closed}
use Rattle.sheet_base.proofs.RingLemmas.{closed_by}
use Rattle.gj_layer.specs.Paths.{Path, Part, nothing, path_of, end_of, dot_of, line_of, has_one_end, is_ring}
use Rattle.gj_layer.specs.Paths.{ring_of, paths_of_trace, part_of}
use Rattle.gj_layer.specs.Texts.{list_text, ring_text}
use Rattle.gj_layer.proofs.OpenObjects.Fine.{split_then, position_is, closed_ring, ring_many}
use Rattle.sheet_base.proofs.DrawnPaths.{IsPositionWithinReach}
use Rattle.gj_layer.proofs.WrittenPaths.DrawnImages.{AllSuit, IsDrawn}
use Rattle.gj_layer.proofs.WrittenPaths.ImageValues.{image_value, ArePositionsAt, ring_spelled}
use Rattle.gj_layer.proofs.WrittenValues.Turns.{DoesSay, ValueTurned}
use Rattle.gj_layer.proofs.WrittenPaths.PathTurns.{path_drawn, some_read, alone, dot_turned, list_turned}

-- ---- lists of images
one_image : (images : List Position) → length images ≡ 1 → (image : Position) × (images ≡ image ∷ [])
one_image (image ∷ []) is = (image, refl)
one_image images is = absurd (omega (arith, is))

some_images : (images : List Position) → 0 < length images
    → (image : Position) × (others : List Position) × (images ≡ image ∷ others)
some_images [] some = absurd (omega (arith, some))
some_images (image ∷ others) some = (image, others, refl)

-- ---- a ring that is closed by its first image
last_place : (points : List Position) (p : Position)
    → point_at (points_of (points ++ p ∷ [])) (length points) ≡ p.point
last_place [] p = refl
last_place (q ∷ points) p = last_place points p

last_height : (points : List Position) (p : Position)
    → height_in (heights_of (points ++ p ∷ [])) (length points) ≡ p.height
last_height [] p = refl
last_height (q ∷ points) p = last_height points p

same_height : (height : Height) → is_same_height height height ≡ true
same_height None = refl
same_height (Some z) = (Decides-int_eq z z).1 refl

closed_again : (image : Position) (others : List Position) → 3 ≤ length (image ∷ others)
    → is_ring ((image ∷ others) ++ image ∷ []) ≡ true
closed_again image others many =
    let points = (image ∷ others) ++ image ∷ [] in
    let size = length-append (image ∷ others) (image ∷ []) in
    let places = length-map points (λ (vertex : Position). vertex.point) in
    let levels = length-map points (λ (vertex : Position). vertex.height) in
    let last : length (points_of points) - 1 ≡ length (image ∷ others) = omega (arith, size, places) in
    let top : length (heights_of points) - 1 ≡ length (image ∷ others) = omega (arith, size, levels) in
    let closed : is_closed (points_of points) ≡ true =
    closed_by (points_of points) (omega (arith, size, places, many))
    (sym (ap (point_at (points_of points)) last ∙ last_place (image ∷ others) image)) in
    let even : has_one_end (heights_of points) ≡ true =
    ap (is_same_height image.height) (ap (height_in (heights_of points)) top ∙ last_height (image ∷ others) image)
    ∙ same_height image.height in
    rw (closed, even) refl

ring_made : (at : ℕ) (all : List PositionRead) (points : List Position) → map position_of all ≡ points
    → is_ring points ≡ true → ring_of at all ≡ Ok (path_of kinds.Loop (take (length points - 1) points) all)
ring_made at all points are closed = grind (arith)

some_all : (exact : Bool) (place : ℕ) (before : List ℕ) (value : Json) (after : List ℕ) (rest : Elements)
    (all : List PositionRead) → positions exact place (element before value after rest) ≡ Ok all
    → (one : PositionRead) × (more : List PositionRead) × (all ≡ one ∷ more)
some_all exact place before value after rest all is =
    let start = element_start place before in
    let (first, first_is, onward) = split_then
    (λ one. and_then (in_front one) (positions exact (next_place start value after) rest))
    (position exact start value) all is in
    let (others, others_are, made) = split_then (in_front first) (positions exact (next_place start value after) rest)
    all onward in
    (first, others, cc)

module _ (exact : Bool) (text : Edit → List ℕ) (images : ℕ → List Position) (says : DoesSay text images) where
  line_read : (number at : ℕ) (blank : List ℕ) (elements : Elements) (path : Path) (points : List Position)
      → path.kind ≡ kinds.Line → images number ≡ points → 0 < length points
      → ArePositionsAt points (positions exact (inner_place at blank) elements)
      → IsDrawn images number (path ∷ []) (and_then (part_of number)
      (paths_of_trace exact traces.Line at (array blank elements)))
  line_read number at blank elements path points kind_is images_are some p =
      grind (arith, IsDrawn, path_drawn, some_read)

  ring_read : (number at : ℕ) (blank : List ℕ) (elements : Elements) (path : Path) (image : Position)
      (others : List Position)
      → path.kind ≡ kinds.Loop → images number ≡ image ∷ others → 3 ≤ length (image ∷ others)
      → ArePositionsAt ((image ∷ others) ++ image ∷ []) (positions exact (inner_place at blank) elements)
      → IsDrawn images number (path ∷ []) (and_then (part_of number)
      (paths_of_trace exact traces.Ring at (array blank elements)))
  ring_read number at blank elements path image others kind_is images_are many p =
      let points = (image ∷ others) ++ image ∷ [] in
      let size = length-append (image ∷ others) (image ∷ []) in
      let last : length points - 1 ≡ length (image ∷ others) = omega (arith, size) in
      let kept : take (length points - 1) points ≡ image ∷ others = ap (λ n. take n points) last
      ∙ take-append_seam (image ∷ others) (image ∷ []) in
      subst (λ r. IsDrawn images number (path ∷ []) (and_then (part_of number) (and_then (ring_of at) r))) (sym p.is)
      (subst (λ r. IsDrawn images number (path ∷ []) (and_then (part_of number) r))
      (sym (ring_made at p.all points p.places (closed_again image others many)))
      (path_drawn images number path kinds.Loop (take (length points - 1) points) p.all (sym kind_is)
      (kept ∙ sym images_are) p.exact_all (some_read points p.all p.places (omega (arith, size)))))

  none_turned : (trace : Trace) (number start depth : ℕ) (blank : List ℕ)
      → ((at : ℕ) → paths_of_trace exact trace at (array blank no_element) ≡ Ok []) → IsValue depth (array blank no_element)
      → ValueTurned exact text images (forms.Path trace) number start depth (array blank no_element) nothing
  none_turned trace number start depth blank none valid = record {
    now = array blank no_element;
    swap = kept_swapped text start (spelling (array blank no_element));
    valid = valid;
    reads = λ at. record {
      part = nothing;
      is = ap (and_then (part_of number)) (none at);
      drawn_are = refl;
      exact_all =
          refl;
    };
  }

  dot_traced : (trace : Trace) → ((at : ℕ) (image : Position)
      → paths_of_trace exact trace at (image_value image) ≡ and_then dot_of (position exact at (image_value image)))
      → (number start depth : ℕ) (blank : List ℕ) (elements : Elements) (part : Part)
      → IsValue depth (array blank elements) → and_then (part_of number)
      (and_then dot_of (position exact start (array blank elements))) ≡ Ok part
      → AllSuit images number part.paths → ValueTurned exact text images (forms.Path trace) number start depth
      (array blank elements) part
  dot_traced trace is_dot number start depth blank elements part valid is suit =
      let value = array blank elements in
      let (paths, read, made) = split_then (part_of number) (and_then dot_of (position exact start value)) part is in
      let (one, one_is, dot) = split_then dot_of (position exact start value) paths read in
      let path : Path = record {
        kind = kinds.Dot;
        positions = position_of one ∷ [];
        lost = sum_by lost_of (one ∷ []);
        start =
            one.start;
        end = one.end;
      } in
      let same : path_of kinds.Dot (position_of one ∷ []) (one ∷ []) ≡ paths = cc in
      let whole : alone exact text images says number path ≡ part = let e = ap (part_of number) same ∙ made in cc in
      let suits = subst (λ (p : Part). AllSuit images number p.paths) (sym whole) suit in
      let ends = position_is exact start value one one_is in
      let (image, images_are) = one_image (images number) (suits.0.dot refl) in
      let reach = subst (AllByRecursion IsPositionWithinReach) images_are suits.0.reach in
      subst (ValueTurned exact text images (forms.Path trace) number start depth value) whole
      (dot_turned exact text images says trace is_dot number start depth blank elements path image refl ends.0 ends.1
      images_are reach.0 valid)

  line_turned : (number start depth : ℕ) (blank before : List ℕ) (value : Json) (after : List ℕ) (rest : Elements)
      (one : PositionRead) (more : List PositionRead) (part : Part)
      → IsValue depth (array blank (element before value after rest))
      → positions exact (inner_place start blank) (element before value after rest) ≡ Ok (one ∷ more)
      → part_of number (path_of kinds.Line (map position_of (one ∷ more)) (one ∷ more)) ≡ Ok part
      → AllSuit images number part.paths
      → ValueTurned exact text images (forms.Path traces.Line) number start depth
      (array blank (element before value after rest)) part
  line_turned number start depth blank before value after rest one more part valid all_is made suit =
      let path : Path = record {
        kind = kinds.Line;
        positions = map position_of (one ∷ more);
        lost =
            sum_by lost_of (one ∷ more);
        start = one.start;
        end = end_of one more;
      } in
      let whole : alone exact text images says number path ≡ part = cc in
      let suits = subst (λ (p : Part). AllSuit images number p.paths) (sym whole) suit in
      let (image, others, images_are) = some_images (images number) suits.0.some in
      let reach = subst (AllByRecursion IsPositionWithinReach) images_are suits.0.reach in
      subst (ValueTurned exact text images (forms.Path traces.Line) number start depth
      (array blank (element before value after rest))) whole
      (list_turned exact text images says traces.Line number start depth blank before value after rest path one more
      all_is refl refl valid image others (says.paths number path ∙ ap list_text images_are) reach
      (λ at elements p. line_read number at blank elements path (image ∷ others) refl images_are (omega arith) p))

  ring_turned : (number start depth : ℕ) (blank before : List ℕ) (value : Json) (after : List ℕ) (rest : Elements)
      (one : PositionRead) (more : List PositionRead) (part : Part)
      → IsValue depth (array blank (element before value after rest))
      → positions exact (inner_place start blank) (element before value after rest) ≡ Ok (one ∷ more)
      → 4 ≤ length (map position_of (one ∷ more))
      → part_of number (path_of kinds.Loop (take (length (map position_of (one ∷ more)) - 1)
      (map position_of (one ∷ more)))
      (one ∷ more)) ≡ Ok part
      → AllSuit images number part.paths → ValueTurned exact text images (forms.Path traces.Ring) number start depth
      (array blank (element before value after rest)) part
  ring_turned number start depth blank before value after rest one more part valid all_is four made suit =
      let points = map position_of (one ∷ more) in
      let path : Path = record {
        kind = kinds.Loop;
        positions = take (length points - 1) points;
        lost =
            sum_by lost_of (one ∷ more);
        start = one.start;
        end = end_of one more;
      } in
      let whole : alone exact text images says number path ≡ part = cc in
      let suits = subst (λ (p : Part). AllSuit images number p.paths) (sym whole) suit in
      let (image, others, images_are) = some_images (images number) suits.0.some in
      let reach = subst (AllByRecursion IsPositionWithinReach) images_are suits.0.reach in
      let kept = length-take (length points - 1) points in
      let many = suits.0.many in
      let count = ap length images_are in
      subst (ValueTurned exact text images (forms.Path traces.Ring) number start depth
      (array blank (element before value after rest))) whole
      (list_turned exact text images says traces.Ring number start depth blank before value after rest path one more
      all_is refl refl valid image (others ++ image ∷ [])
      (says.paths number path ∙ ap ring_text images_are ∙ ring_spelled image others)
      (reach.0, reach_append others image reach.1 reach.0)
      (λ at elements p. ring_read number at blank elements path image others refl images_are
      (omega (arith, kept, many, count, four)) p))
    where
      reach_append : (others : List Position) (image : Position) → AllByRecursion IsPositionWithinReach others
          → IsPositionWithinReach image
          → AllByRecursion IsPositionWithinReach (others ++ image ∷ [])
      reach_append [] image all one = (one, tt)
      reach_append (next ∷ others) image all one = (all.0, reach_append others image all.1 one)

  pub traced_turned : (trace : Trace) (number start depth : ℕ) (blank : List ℕ) (elements : Elements) (part : Part)
      → IsValue depth (array blank elements)
      → and_then (part_of number) (paths_of_trace exact trace start (array blank elements)) ≡ Ok part
      → AllSuit images number part.paths
      → ValueTurned exact text images (forms.Path trace) number start depth (array blank elements) part
  traced_turned traces.Point number start depth blank (element before value after rest) part valid is suit =
      dot_traced traces.Point (λ at image. refl) number start depth blank (element before value after rest) part valid
      is suit
  traced_turned traces.Position number start depth blank elements part valid is suit =
      dot_traced traces.Position (λ at image. refl) number start depth blank elements part valid is suit
  traced_turned traces.Line number start depth blank (element before value after rest) part valid is suit =
      let here = positions exact (inner_place start blank) (element before value after rest) in
      let (paths, read, made) = split_then (part_of number) (and_then line_of here) part is in
      let (all, all_is, line) = split_then line_of here paths read in
      let (one, more, all_are) = some_all exact (inner_place start blank) before value after rest all all_is in
      let same : path_of kinds.Line (map position_of all) all ≡ paths = cc in
      line_turned number start depth blank before value after rest one more part valid (all_is ∙ ap Ok all_are)
      (ap (λ ps. part_of number (path_of kinds.Line (map position_of ps) ps)) (sym all_are) ∙ ap (part_of number) same
      ∙ made) suit
  traced_turned traces.Ring number start depth blank no_element part valid is suit = cc
  traced_turned traces.Ring number start depth blank (element before value after rest) part valid is suit =
      let here = positions exact (inner_place start blank) (element before value after rest) in
      let (paths, read, made) = split_then (part_of number) (and_then (ring_of start) here) part is in
      let (all, all_is, ring) = split_then (ring_of start) here paths read in
      let (one, more, all_are) = some_all exact (inner_place start blank) before value after rest all all_is in
      let (closed, same) = closed_ring start all paths ring in
      let four = ring_many (map position_of all) closed in
      ring_turned number start depth blank before value after rest one more part valid (all_is ∙ ap Ok all_are)
      (subst (λ ps. 4 ≤ length (map position_of ps)) all_are four)
      (ap (λ ps. part_of number (path_of kinds.Loop (take (length (map position_of ps) - 1) (map position_of ps)) ps))
      (sym all_are) ∙ ap (part_of number) same ∙ made) suit
  traced_turned trace other start depth blank elements part valid is suit =
      let none : nothing ≡ part = cc in subst (ValueTurned exact text images (forms.Path trace) other start depth
      (array blank elements)) none (none_turned trace other start depth blank (λ at. refl) valid)
