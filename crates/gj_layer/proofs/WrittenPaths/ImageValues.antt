-- The texts of images are JSON values, and are read as positions at these images.
use Rattle.std.proofs.Common.{◌≡◌, ℕ, suc, ◌+◌, ◌≤◌, inl, inr, Bool, true, false, List, [], ◌∷◌}
use Rattle.std.proofs.Common.{◌++◌, refl, sym, ap, ◌∙◌, append_assoc, append-nil, arith, ℤ, pos}
use Rattle.std.proofs.Common.{negsuc}
use Rattle.std.specs.Prelude.{map, sum_by, unsigned_abs, Option, Some, None, Result, Ok}
use Rattle.std.specs.List.{AllByRecursion}
use Rattle.std.proofs.lemmas.List.Sums.{sum_by-cons}
use Rattle.mm_decimal.specs.MetresTexts.{mm_text}
use Rattle.mm_decimal.specs.declared.limits.TheConstants.{LIMIT}
use Rattle.mm_decimal.specs.declared.numerals.MmRead.{MmRead}
use Rattle.mm_decimal.proofs.RoundTrip.{written_reads}
use Rattle.mm_decimal.proofs.MeasuredAnswers.{answer_is_measured}
use Rattle.jtext.specs.Numbers.{IsNumber}
use Rattle.jtext.proofs.CallerLemmas.DecimalTexts.{thousandths_number}
use Rattle.jtext.specs.Values.{Json, Elements, numeral, array, no_element, element, spelling, elements_text}
use Rattle.jtext.specs.Values.{elements_behind, AreBlank, IsValue, AreElements}
use Rattle.jtext.specs.Nodes.{element_start, next_place}
use Rattle.sheet_base.specs.declared.faults.LayerFault.{LayerFault}
use Rattle.sheet_base.specs.PointHeights.{Height, Position, IsHeightWithinReach}
use Rattle.gj_layer.specs.declared.positions.PositionRead.{PositionRead}
use Rattle.sheet_base.specs.Faults.{and_then}
use Rattle.gj_layer.specs.Positions.{accepted_read, number, array_position}
use Rattle.gj_layer.specs.Positions.{position, positions, in_front, height_from, position_of, lost_height, lost_of}
use Rattle.gj_layer.specs.Texts.{numbers_text, image_text, texts_behind, list_text, ring_text}
use Rattle.sheet_base.proofs.DrawnPaths.{IsPositionWithinReach}
use Rattle.sheet_base.proofs.ImageTexts.{ring_again}

-- ---- a written number is a JSON number
number_is : (mm : ℤ) → unsigned_abs mm ≤ LIMIT → IsNumber (mm_text mm)
number_is (pos size) within = thousandths_number [] (inl refl) size (omega (arith, within))
number_is (negsuc size) within = thousandths_number (45 ∷ []) (inr refl) (suc size) (omega (arith, within))

-- ---- it is read as its millimetres
abbrev read_of : ℤ → MmRead
read_of mm = record { mm = mm; exact = true }

accepted_always : (exact : Bool) (at : ℕ) (mm : ℤ) → accepted_read exact at (Ok (read_of mm)) ≡ Ok (read_of mm)
accepted_always true at mm = refl
accepted_always false at mm = refl

number_read : (exact : Bool) (at : ℕ) (mm : ℤ) → unsigned_abs mm ≤ LIMIT
    → number exact at (numeral (mm_text mm)) ≡ Ok (read_of mm)
number_read exact at mm within =
    ap (accepted_read exact at) (sym (answer_is_measured (mm_text mm) (Ok (read_of mm)) (written_reads mm within)))
    ∙ accepted_always exact at mm

-- ---- an image's value
-- two numbers and a height, and the elements after them
abbrev pub height_and : Height → Elements → Elements
height_and None rest = rest
height_and (Some z) rest = element [] (numeral (mm_text z)) [] rest

abbrev pub numbers_and : ℤ → ℤ → Height → Elements → Elements
numbers_and x y height rest = element [] (numeral (mm_text x)) []
    (element [] (numeral (mm_text y)) [] (height_and height rest))

pub numbers_spelled : (x y : ℤ) (height : Height) (rest : Elements)
    → elements_text (numbers_and x y height rest) ≡ numbers_text x y height ++ elements_behind rest
numbers_spelled x y None rest = grind (arith, append-nil, append_assoc)
numbers_spelled x y (Some z) rest = grind (arith, append_assoc)

pub numbers_are : (depth : ℕ) (x y : ℤ) (height : Height) (rest : Elements) → unsigned_abs x ≤ LIMIT
    → unsigned_abs y ≤ LIMIT → IsHeightWithinReach height → AreElements depth rest
    → AreElements depth (numbers_and x y height rest)
numbers_are depth x y None rest x_in y_in z_in more = (tt, number_is x x_in, tt, (tt, number_is y y_in, tt, more))
numbers_are depth x y (Some z) rest x_in y_in z_in more =
    (tt, number_is x x_in, tt, (tt, number_is y y_in, tt, (tt, number_is z z_in, tt, more)))

abbrev pub image_value : Position → Json
image_value image = array [] (numbers_and image.point.x image.point.y image.height no_element)

pub image_spelled : (image : Position) → spelling (image_value image) ≡ image_text image
image_spelled image = grind (arith, numbers_spelled, append-nil)

pub image_is_value : (depth : ℕ) (image : Position) → IsPositionWithinReach image
    → IsValue (suc depth) (image_value image)
image_is_value depth image within =
    (refl, numbers_are depth image.point.x image.point.y image.height no_element within.0.0 within.0.1 within.1 tt)

-- a position at the image, whose numbers lost no digits
pub record IsPositionAt (image : Position) (read : Result PositionRead LayerFault) : Type 0 where
  pub one : PositionRead
  pub is : read ≡ Ok one
  pub place : position_of one ≡ image
  pub exact_all : lost_of one ≡ 0

abbrev height_read : Height → Option MmRead
height_read None = None
height_read (Some z) = Some (read_of z)

abbrev read_at : ℕ → ℕ → ℤ → ℤ → Height → PositionRead
read_at start end x y height =
    record { x = read_of x; y = read_of y; z = height_read height; start = start; end = end }

numbers_read : (exact : Bool) (start end place : ℕ) (x y : ℤ) (height : Height) → unsigned_abs x ≤ LIMIT
    → unsigned_abs y ≤ LIMIT → IsHeightWithinReach height
    → array_position exact start end place (numbers_and x y height no_element) ≡ Ok (read_at start end x y height)
numbers_read exact start end place x y None x_in y_in z_in = grind (arith, number_read)
numbers_read exact start end place x y (Some z) x_in y_in z_in = grind (arith, number_read)

height_same : (height : Height) → height_from (height_read height) ≡ height
height_same None = refl
height_same (Some z) = refl

height_exact : (height : Height) → lost_height (height_read height) ≡ 0
height_exact None = refl
height_exact (Some z) = refl

pub image_read : (exact : Bool) (at : ℕ) (image : Position) → IsPositionWithinReach image
    → IsPositionAt image (position exact at (image_value image))
image_read exact at image within = grind (arith, height_exact, numbers_read, height_same)

-- ---- images one after the other, between what comes before the first one and after the last
abbrev pub image_elements : List ℕ → Position → List Position → List ℕ → Elements
image_elements before image [] tail = element before (image_value image) tail no_element
image_elements before image (next ∷ images) tail =
    element before (image_value image) [] (image_elements [] next images tail)

image_behind : (before : List ℕ) (image : Position) (images : List Position) (tail : List ℕ)
    → elements_behind (image_elements before image images tail) ≡ 44
    ∷ elements_text (image_elements before image images tail)
image_behind before image [] tail = refl
image_behind before image (next ∷ images) tail = refl

pub elements_spelled : (before : List ℕ) (image : Position) (images : List Position) (tail : List ℕ)
    → elements_text (image_elements before image images tail) ≡ before ++ (list_text (image ∷ images) ++ tail)
elements_spelled before image [] tail =
    ap (λ text. before ++ (text ++ (tail ++ []))) (image_spelled image)
    ∙ ap (λ text. before ++ (image_text image ++ text)) (append-nil tail)
    ∙ ap (λ text. before ++ (text ++ tail)) (sym (append-nil (image_text image)))
elements_spelled before image (next ∷ images) tail =
    ap (λ text. before ++ (text ++ elements_behind (image_elements [] next images tail))) (image_spelled image)
    ∙ ap (λ text. before ++ (image_text image ++ text))
    (image_behind [] next images tail ∙ ap (λ text. 44 ∷ text) (elements_spelled [] next images tail))
    ∙ ap (λ text. before ++ text) (sym (append_assoc (image_text image) (44 ∷ (image_text next ++ texts_behind images))
    tail))

pub elements_are_values : (depth : ℕ) (before : List ℕ) (image : Position) (images : List Position) (tail : List ℕ)
    → AreBlank before → AreBlank tail → AllByRecursion IsPositionWithinReach (image ∷ images)
    → AreElements (suc depth) (image_elements before image images tail)
elements_are_values depth before image [] tail b t within = (b, image_is_value depth image within.0, t, tt)
elements_are_values depth before image (next ∷ images) tail b t within =
    (b, image_is_value depth image within.0, tt, elements_are_values depth [] next images tail tt t within.1)

-- positions at the images
pub record ArePositionsAt (images : List Position) (read : Result (List PositionRead) LayerFault) : Type 0 where
  pub all : List PositionRead
  pub is : read ≡ Ok all
  pub places : map position_of all ≡ images
  pub exact_all : sum_by lost_of all ≡ 0

positions_on : (image : Position) (images : List Position) (one : Result PositionRead LayerFault)
    (others : Result (List PositionRead) LayerFault) → IsPositionAt image one → ArePositionsAt images others
    → ArePositionsAt (image ∷ images) (and_then (λ one. and_then (in_front one) others) one)
positions_on image images one others first rest = grind (arith, sum_by-cons)

pub images_read : (exact : Bool) (at : ℕ) (before : List ℕ) (image : Position) (images : List Position) (tail : List ℕ)
    → AllByRecursion IsPositionWithinReach (image ∷ images)
    → ArePositionsAt (image ∷ images) (positions exact at (image_elements before image images tail))
images_read exact at before image [] tail within =
    let start = element_start at before in
    positions_on image [] (position exact start (image_value image)) (Ok []) (image_read exact start image within.0)
    (record { all = []; is = refl; places = refl; exact_all = refl })
images_read exact at before image (next ∷ images) tail within =
    let start = element_start at before in
    positions_on image (next ∷ images) (position exact start (image_value image))
    (positions exact (next_place start (image_value image) []) (image_elements [] next images tail))
    (image_read exact start image within.0) (images_read exact (next_place start (image_value image) []) [] next images
    tail within.1)

-- ---- the first image once more
pub ring_spelled : (image : Position) (images : List Position)
    → ring_text (image ∷ images) ≡ list_text (image ∷ (images ++ image ∷ []))
ring_spelled image images = ring_again (44 ∷ []) image_text image images
