-- How the positions of a path turn into its images.
use Rattle.std.proofs.Common.{◌≡◌, ℕ, zero, suc, ◌+◌, ◌<◌, Bool, List, [], ◌∷◌, ◌++◌, length, map, refl, sym, ap, ◌∙◌}
use Rattle.std.proofs.Common.{subst, append_assoc, append-nil, arith, length-append}
use Rattle.std.specs.Prelude.{Ok, sum_by}
use Rattle.std.specs.List.{AllByRecursion}
use Rattle.std.proofs.lemmas.List.Sums.{sum_by-cons}
use Rattle.std.proofs.lemmas.List.{length-map}
use Rattle.jtext.specs.Values.{Json, Elements, array, object, no_element, element}
use Rattle.jtext.specs.Values.{spelling, elements_text, AreBlank, IsArrayBlank, IsValue, AreElements}
use Rattle.jtext.specs.Nodes.{inner_place, element_start, next_place}
use Rattle.sheet_base.specs.PointHeights.{Position}
use Rattle.sheet_base.specs.declared.paths.PathKind.{PathKind}
use Rattle.sheet_base.specs.declared.paths.PathKind.TheVariants as kinds
use Rattle.sheet_base.specs.declared.edits.Edit.{Edit}
use Rattle.sheet_base.proofs.Swaps.{Swapped, edit_swapped, front_swapped, behind_swapped}
use Rattle.gj_layer.specs.declared.forms.Trace.{Trace}
use Rattle.gj_layer.specs.declared.forms.ValueForm.TheVariants as forms
use Rattle.gj_layer.specs.declared.positions.PositionRead.{PositionRead}
use Rattle.sheet_base.specs.Faults.{and_then}
use Rattle.gj_layer.specs.Positions.{position, positions, in_front, position_of, lost_of}
use Rattle.gj_layer.specs.Paths.{Path, Part, path_of, end_of, dot_of, paths_of_trace, part_of, edit_of}
use Rattle.gj_layer.specs.Texts.{image_text, list_text}
use Rattle.gj_layer.proofs.OpenObjects.Fine.{split_then, position_is}
use Rattle.sheet_base.proofs.DrawnPaths.{Drawn, IsPositionWithinReach}
use Rattle.gj_layer.proofs.WrittenPaths.DrawnImages.{kind_text, IsDrawn}
use Rattle.gj_layer.proofs.WrittenPaths.ImageValues.{image_value, image_spelled, image_is_value, IsPositionAt, image_read}
use Rattle.gj_layer.proofs.WrittenPaths.ImageValues.{image_elements, elements_spelled, elements_are_values, ArePositionsAt}
use Rattle.gj_layer.proofs.WrittenPaths.ImageValues.{images_read}
use Rattle.gj_layer.proofs.WrittenValues.Turns.{DoesSay, ValueTurned, bracketed}

-- ---- where the positions of an array are
-- from the first position to the last are these bytes, and then white space
record IsSpan (place : ℕ) (before : List ℕ) (elements : Elements) (one : PositionRead) (more : List PositionRead) : Type
    0 where
  middle : List ℕ
  tail : List ℕ
  split : elements_text elements ≡ before ++ (middle ++ tail)
  start : one.start ≡ place + length before
  end : end_of one more ≡ place + length before + length middle
  blank : AreBlank tail

-- what is read of the first element and of the others
record AreCut (exact : Bool) (place : ℕ) (before : List ℕ) (value : Json) (after : List ℕ) (rest : Elements)
    (one : PositionRead) (more : List PositionRead) : Type 0 where
  first : position exact (element_start place before) value ≡ Ok one
  others : positions exact (next_place (element_start place before) value after) rest ≡ Ok more

cut : (exact : Bool) (place : ℕ) (before : List ℕ) (value : Json) (after : List ℕ) (rest : Elements)
    (one : PositionRead)
    (more : List PositionRead) → positions exact place (element before value after rest) ≡ Ok (one ∷ more)
    → AreCut exact place before value after rest one more
cut exact place before value after rest one more is = grind (arith, split_then)

span : (exact : Bool) (depth place : ℕ) (before : List ℕ) (value : Json) (after : List ℕ) (rest : Elements)
    (one : PositionRead) (more : List PositionRead)
    → positions exact place (element before value after rest) ≡ Ok (one ∷ more)
    → AreElements depth (element before value after rest)
    → IsSpan place before (element before value after rest) one more
span exact depth place before value after no_element one [] is valid =
    let c = cut exact place before value after no_element one [] is in
    let ends = position_is exact (element_start place before) value one c.first in
    record {
      middle = spelling value;
      tail = after;
      split = ap (λ text. before ++ (spelling value ++ text)) (append-nil after);
      start = ends.0;
      end = ends.1;
      blank = valid.2;
    }
span exact depth place before value after no_element one (next ∷ more) is valid =
    let c = cut exact place before value after no_element one (next ∷ more) is in let e = c.others in cc
span exact depth place before value after (element ahead second behind rest) one [] is valid =
    let c = cut exact place before value after (element ahead second behind rest) one [] is in
    let start = next_place (element_start place before) value after in
    let (first, first_is, onward) = split_then _ (position exact (element_start start ahead) second) [] c.others in
    let (others, others_are, made) = split_then (in_front first)
    (positions exact (next_place (element_start start ahead) second behind) rest) [] onward in
    cc
span exact depth place before value after (element ahead second behind rest) one (next ∷ more) is valid =
    let c = cut exact place before value after (element ahead second behind rest) one (next ∷ more) is in
    let start = element_start place before in
    go (position_is exact start value one c.first)
    (span exact depth (next_place start value after) ahead second behind rest next more c.others valid.3)
  where
    go : (one.start ≡ element_start place before) × (one.end ≡ element_start place before + length (spelling value))
        → IsSpan (next_place (element_start place before) value after) ahead (element ahead second behind rest) next
        more
        → IsSpan place before (element before value after (element ahead second behind rest)) one (next ∷ more)
    go ends s =
        let inner = 44 ∷ (ahead ++ s.middle) in
        let middle = spelling value ++ (after ++ inner) in
        let a = length-append (spelling value) (after ++ inner) in
        let b = length-append after inner in
        let c = length-append ahead s.middle in
        let e = s.end in
        record {
          middle = middle;
          tail = s.tail;
          split = ap (λ text. before ++ (spelling value ++ (after ++ 44 ∷ text)))
              (s.split ∙ sym (append_assoc ahead s.middle s.tail))
              ∙ ap (λ text. before ++ (spelling value ++ text)) (sym (append_assoc after inner s.tail))
              ∙ ap (λ text. before ++ text) (sym (append_assoc (spelling value) (after ++ inner) s.tail));
          start = ends.0;
          end = omega (arith, a, b, c, e);
          blank = s.blank;
        }

-- a position is an array
position_deep : (exact : Bool) (start : ℕ) (value : Json) (one : PositionRead) → position exact start value ≡ Ok one
    → IsValue 0 value → ⊥
position_deep exact start (array blank elements) one is valid = absurd valid
position_deep exact start (object blank members) one is valid = absurd valid
position_deep exact start _ one is valid = cc

-- ---- what is read of the images
pub path_drawn : (images : ℕ → List Position) (number : ℕ) (path : Path) (kind : PathKind) (points : List Position)
    (all : List PositionRead) → kind ≡ path.kind → points ≡ images number → sum_by lost_of all ≡ 0 → 0 < length all
    → IsDrawn images number (path ∷ []) (part_of number (path_of kind points all))
path_drawn images number path kind points [] kind_is points_are exact_all some = absurd (omega (arith, some))
path_drawn images number path kind points (one ∷ more) kind_is points_are exact_all some =
    grind (arith, Drawn, sum_by-cons)

pub some_read : (images : List Position) (all : List PositionRead) → map position_of all ≡ images → 0 < length images
    → 0 < length all
some_read images all are some = let a = ap length are in let b = length-map all position_of in omega (arith, a, b, some)

module _ (exact : Bool) (text : Edit → List ℕ) (images : ℕ → List Position) (says : DoesSay text images) where
  -- the part of one path
  abbrev pub alone : ℕ → Path → Part
  alone number path = record { paths = path ∷ []; edits = edit_of number path ∷ [] }

  dot_read : (number at : ℕ) (path : Path) (image : Position) → path.kind ≡ kinds.Dot → images number ≡ image ∷ []
      → IsPositionWithinReach image
      → IsDrawn images number (path ∷ []) (and_then (part_of number)
      (and_then dot_of (position exact at (image_value image))))
  dot_read number at path image kind_is images_are within = go (image_read exact at image within)
    where
      go : IsPositionAt image (position exact at (image_value image))
          → IsDrawn images number (path ∷ []) (and_then (part_of number)
          (and_then dot_of (position exact at (image_value image))))
      go p = grind (arith, IsDrawn, path_drawn, sum_by-cons)

  pub dot_turned : (trace : Trace) → ((at : ℕ) (image : Position)
      → paths_of_trace exact trace at (image_value image) ≡ and_then dot_of (position exact at (image_value image)))
      → (number start depth : ℕ) (blank : List ℕ) (elements : Elements) (path : Path) (image : Position)
      → path.kind ≡ kinds.Dot → path.start ≡ start → path.end ≡ start + length (spelling (array blank elements))
      → images number ≡ image ∷ [] → IsPositionWithinReach image → IsValue depth (array blank elements)
      → ValueTurned exact text images (forms.Path trace) number start depth (array blank elements) (alone number path)
  dot_turned trace is_dot number start zero blank elements path image kind_is start_is end_is images_are within valid =
      absurd valid
  dot_turned trace is_dot number start (suc depth) blank elements path image kind_is start_is end_is images_are within
      valid =
      let says_so : text (edit_of number path) ≡ spelling (image_value image) =
      says.paths number path ∙ ap (λ k. kind_text k (images number)) kind_is ∙ ap list_text images_are
      ∙ append-nil (image_text image) ∙ sym (image_spelled image) in
      record {
        now = image_value image;
        swap = subst (Swapped text start (spelling (array blank elements)) (edit_of number path ∷ [])) says_so
            (edit_swapped text start (spelling (array blank elements)) (edit_of number path) start_is end_is);
        valid = image_is_value depth image within;
        reads = λ at. subst (λ r. IsDrawn images number (path ∷ []) (and_then (part_of number) r))
            (sym (is_dot at image)) (dot_read number at path image kind_is images_are within);
      }

  -- positions in an array, that turn into these images
  pub list_turned : (trace : Trace) (number start depth : ℕ) (blank before : List ℕ) (value : Json) (after : List ℕ)
      (rest : Elements) (path : Path) (one : PositionRead) (more : List PositionRead)
      → positions exact (inner_place start blank) (element before value after rest) ≡ Ok (one ∷ more)
      → path.start ≡ one.start → path.end ≡ end_of one more
      → IsValue depth (array blank (element before value after rest))
      → (image : Position) (others : List Position) → text (edit_of number path) ≡ list_text (image ∷ others)
      → AllByRecursion IsPositionWithinReach (image ∷ others)
      → ((at : ℕ) (elements : Elements) → ArePositionsAt (image ∷ others)
      (positions exact (inner_place at blank) elements)
      → IsDrawn images number (path ∷ []) (and_then (part_of number) (paths_of_trace exact trace at (array blank elements))))
      → ValueTurned exact text images (forms.Path trace) number start depth
      (array blank (element before value after rest)) (alone number path)
  list_turned trace number start zero blank before value after rest path one more is start_is end_is valid image others
      says_so within reads = absurd valid
  list_turned trace number start (suc zero) blank before value after rest path one more is start_is end_is valid image
      others says_so within reads =
      absurd (position_deep exact (element_start (inner_place start blank) before) value one
      (cut exact (inner_place start blank) before value after rest one more is).first valid.1.1)
  list_turned trace number start (suc (suc depth)) blank before value after rest path one more is start_is end_is valid
      image others says_so within reads =
      go (span exact (suc depth) (inner_place start blank) before value after rest one more is valid.1)
    where
      go : IsSpan (inner_place start blank) before (element before value after rest) one more
          → ValueTurned exact text images (forms.Path trace) number start (suc (suc depth))
          (array blank (element before value after rest)) (alone number path)
      go s =
          let place = inner_place start blank in
          let edit = edit_of number path in
          let inner = front_swapped text place (place + length before) before (s.middle ++ s.tail) (edit ∷ [])
          (text edit ++ s.tail) refl
          (behind_swapped text (place + length before) s.middle s.tail (edit ∷ []) (text edit)
          (edit_swapped text (place + length before) s.middle edit (start_is ∙ s.start) (end_is ∙ s.end))) in
          let now : before ++ (text edit ++ s.tail) ≡ elements_text (image_elements before image others s.tail) =
          ap (λ t. before ++ (t ++ s.tail)) says_so ∙ sym (elements_spelled before image others s.tail) in
          record {
            now = array blank (image_elements before image others s.tail);
            swap = bracketed text start 91 93 blank (elements_text (element before value after rest)) (edit ∷ [])
                (elements_text (image_elements before image others s.tail))
                (subst (λ t. Swapped text place (elements_text (element before value after rest)) (edit ∷ []) t) now
                (subst (λ t. Swapped text place t (edit ∷ []) (before ++ (text edit ++ s.tail))) (sym s.split)
                inner));
            valid = (array_blank others, elements_are_values depth before image others s.tail valid.1.0 s.blank within);
            reads = λ at. reads at (image_elements before image others s.tail)
                (images_read exact (inner_place at blank) before image others s.tail within);
          }
        where
          array_blank : (others : List Position) → IsArrayBlank blank (image_elements before image others s.tail)
          array_blank [] = valid.0
          array_blank (next ∷ others) = valid.0
