-- The texts of images are points, and are read as these images.
use Rattle.std.proofs.Common.{◌≡◌, ℕ, zero, suc, ◌+◌, ◌/◌, ◌%◌, ◌^◌, ◌<◌, ◌≤◌, Bool, true, false, List, [], ◌∷◌, ◌++◌}
use Rattle.std.proofs.Common.{length, refl, sym, ap, ◌∙◌, subst, append_assoc, append-nil, arith, length-append}
use Rattle.std.proofs.Common.{decimal, ℤ, pos, negsuc}
use Rattle.std.specs.Prelude.{map, sum_by, unsigned_abs, Ok, Option, Some, None}
use Rattle.std.specs.Option.{is_some}
use Rattle.std.specs.List.{list_all, AllByRecursion}
use Rattle.std.specs.Char.{is_ascii_alphabetic}
use Rattle.std.proofs.lemmas.Fmt.{decimal_by_steps}
use Rattle.std.proofs.lemmas.Bool.{and_parts}
use Rattle.std.proofs.lemmas.List.Sums.{sum_by-cons}
use Rattle.mm_decimal.specs.MetresTexts.{mm_text, metres_text, digit_text}
use Rattle.mm_decimal.specs.AnswerValues.{millimetres_of}
use Rattle.mm_decimal.specs.declared.limits.TheConstants.{LIMIT}
use Rattle.mm_decimal.specs.declared.numerals.MmRead.{MmRead}
use Rattle.mm_decimal.proofs.RoundTrip.{written_reads}
use Rattle.mm_decimal.proofs.MeasuredAnswers.{answer_is_measured}
use Rattle.sheet_base.specs.PointHeights.{Height, Position, IsHeightWithinReach}
use Rattle.text_places.specs.Blanks.{is_blank_byte}
use Rattle.wkt_layer.specs.Tokens.{Number, comma, number, is_numeric}
use Rattle.wkt_layer.specs.Numbers.{Point, does_fit, IsThird, IsPoint, height_in_third}
use Rattle.wkt_layer.specs.Numbers.{position_of, mm_in, lost_of}
use Rattle.wkt_layer.specs.Numbers.{lost_in, lost_in_third}
use Rattle.wkt_layer.specs.Geometries.{third_tokens, point_tokens}
use Rattle.wkt_layer.specs.Faults.{joined_points}
use Rattle.wkt_layer.specs.Texts.{height_text, image_text, list_text}
use Rattle.sheet_base.proofs.DrawnPaths.{IsPositionWithinReach, IsRaised}
use Rattle.wkt_layer.proofs.WrittenLayers.TokenCuts.{lexed, Stops, passes_front, number_case, number_length, gap_lexed, token_lexed}

-- ---- a written number has a number's bytes alone, and begins as a number does
record IsDigitByte (byte : ℕ) : Type 0 where
  letter : is_ascii_alphabetic byte ≡ false
  blank : is_blank_byte byte ≡ false
  numeric : is_numeric byte ≡ true

digit_byte : (n : ℕ) → n < 10 → IsDigitByte (48 + n)
digit_byte (suc (suc (suc (suc (suc (suc (suc (suc (suc (suc n)))))))))) small = absurd (omega (arith, small))
digit_byte n small = record { letter = refl; blank = refl; numeric = refl }

all_append : (xs ys : List ℕ) → list_all is_numeric xs ≡ true → list_all is_numeric ys ≡ true
    → list_all is_numeric (xs ++ ys) ≡ true
all_append [] ys a b = b
all_append (x ∷ xs) ys a b = let parts = and_parts (is_numeric x) (list_all is_numeric xs) a in rw parts.0
    (all_append xs ys parts.1 b)

-- a digit or a minus before number's bytes
pub record IsNumberText (text : List ℕ) : Type 0 where
  pub byte : ℕ
  pub more : List ℕ
  pub is : text ≡ byte ∷ more
  pub letter : is_ascii_alphabetic byte ≡ false
  pub blank : is_blank_byte byte ≡ false
  pub numeric : list_all is_numeric text ≡ true

digit_numeric : (n : ℕ) → list_all is_numeric (digit_text n) ≡ true
digit_numeric n = let d = digit_byte (n % 10) (omega arith) in rw d.numeric refl

decimal_number : (n : ℕ) → n < 2 ^ 64 → IsNumberText (decimal n)
decimal_number = decimal_by_steps (λ n digits. IsNumberText digits)
    (λ n small. let d = digit_byte n small in record {
      byte = 48 + n;
      more = [];
      is = refl;
      letter = d.letter;
      blank =
          d.blank;
      numeric = rw d.numeric refl;
    })
    (λ n digits large h. record {
      byte = h.byte;
      more = h.more ++ digit_text n;
      is = ap (λ text. text ++ digit_text n) h.is;
      letter = h.letter;
      blank = h.blank;
      numeric = all_append digits (digit_text n) h.numeric (digit_numeric n);
    })

metres_number : (size : ℕ) → size < 2 ^ 64 → IsNumberText (metres_text size)
metres_number size small =
    let h = decimal_number (size / 1000) (omega arith) in
    let back = 46 ∷ (digit_text (size / 100) ++ (digit_text (size / 10) ++ digit_text size)) in
    record {
      byte = h.byte;
      more = h.more ++ back;
      is = ap (λ text. text ++ back) h.is;
      letter = h.letter;
      blank = h.blank;
      numeric = all_append (decimal (size / 1000)) back h.numeric
          (all_append (digit_text (size / 100)) (digit_text (size / 10) ++ digit_text size) (digit_numeric (size / 100))
          (all_append (digit_text (size / 10)) (digit_text size) (digit_numeric (size / 10)) (digit_numeric size)));
    }

pub written_number : (mm : ℤ) → unsigned_abs mm ≤ LIMIT → IsNumberText (mm_text mm)
written_number (pos size) within = metres_number size (omega (arith, within))
written_number (negsuc size) within =
    let h = metres_number (suc size) (omega (arith, within)) in
    record { byte = 45; more = metres_text (suc size); is = refl; letter = refl; blank = refl; numeric = h.numeric }

-- ---- it is read as its millimetres
measured_written : (mm : ℤ) → unsigned_abs mm ≤ LIMIT
    → (let read : MmRead = record { mm = mm; exact = true } in millimetres_of (mm_text mm) ≡ Ok read)
measured_written mm within = sym (answer_is_measured (mm_text mm) (Ok (record { mm = mm; exact = true }))
    (written_reads mm within))

abbrev pub number_at : ℕ → ℤ → Number
number_at at mm = record { start = at; text = mm_text mm }

number_lexed : (at : ℕ) (mm : ℤ) (behind : List ℕ) → unsigned_abs mm ≤ LIMIT → Stops is_numeric behind
    → lexed at (mm_text mm ++ behind) ≡ number (number_at at mm) ∷ lexed (at + length (mm_text mm)) behind
number_lexed at mm behind within stops = go (mm_text mm) (written_number mm within)
  where
    go : (text : List ℕ) → IsNumberText text → (let n : Number =
        record { start = at; text = text } in lexed at (text ++ behind) ≡ number n ∷ lexed (at + length text) behind)
    go text h = subst (λ t. let n : Number = record { start = at; text = t } in lexed at (t ++ behind) ≡ number n
        ∷ lexed (at + length t) behind) (sym h.is) (at_once h)
      where
        at_once : (h : IsNumberText text) → (let n : Number =
            record { start = at; text = h.byte ∷ h.more } in lexed at ((h.byte ∷ h.more) ++ behind) ≡ number n
            ∷ lexed (at + length (h.byte ∷ h.more)) behind)
        at_once h =
            let all : list_all is_numeric (h.byte ∷ h.more) ≡ true =
            subst (λ t. list_all is_numeric t ≡ true) h.is h.numeric in
            let first = and_parts (is_numeric h.byte) (list_all is_numeric h.more) all in
            token_lexed at h.byte h.more behind h.blank
            (number_length h.byte (h.more ++ behind) h.letter first.0
            ∙ passes_front is_numeric (h.byte ∷ h.more) behind all stops)
            ∙ ap (λ t. t ∷ lexed (at + length (h.byte ∷ h.more)) behind)
            (number_case at h.byte (h.byte ∷ h.more) h.letter first.0)

-- ---- points
abbrev pub new_third : ℕ → Height → Option Number
new_third at None = None
new_third at (Some height) = Some (number_at at height)

abbrev pub new_point : ℕ → Position → Point
new_point at image =
    record {
      x = number_at at image.point.x;
      y = number_at (at + length (mm_text image.point.x) + 1) image.point.y;
      z = new_third (at + length (mm_text image.point.x) + 1 + length (mm_text image.point.y) + 1) image.height;
    }

-- each after a comma and a space
abbrev pub new_points : ℕ → List Position → List Point
new_points at [] = []
new_points at (image ∷ images) = new_point (at + 2) image ∷ new_points (at + 2 + length (image_text image)) images

space_lexed : (at : ℕ) (behind : List ℕ) → lexed at (32 ∷ behind) ≡ lexed (at + 1) behind
space_lexed at behind = gap_lexed at (32 ∷ []) behind refl

comma_lexed : (at : ℕ) (behind : List ℕ) → lexed at (44 ∷ behind) ≡ comma ∷ lexed (at + 1) behind
comma_lexed at behind = token_lexed at 44 [] behind refl refl

-- a height, where there is one
third_lexed : (at : ℕ) (height : Height) (behind : List ℕ) → IsHeightWithinReach height → Stops is_numeric behind
    → lexed at (height_text height ++ behind)
    ≡ third_tokens (new_third (at + 1) height) ++ lexed (at + length (height_text height)) behind
third_lexed at None behind within stops = let e : at ≡ at + 0 = omega arith in ap (λ n. lexed n behind) e
third_lexed at (Some height) behind within stops = grind (arith, space_lexed, number_lexed, lexed)

third_stops : (height : Height) (behind : List ℕ) → Stops is_numeric behind
    → Stops is_numeric (height_text height ++ behind)
third_stops None behind stops = stops
third_stops (Some height) behind stops = refl

point_lexed : (at : ℕ) (image : Position) (behind : List ℕ) → IsPositionWithinReach image → Stops is_numeric behind
    → lexed at (image_text image ++ behind) ≡ point_tokens (new_point at image)
    ++ lexed (at + length (image_text image)) behind
point_lexed at image behind within stops =
    grind (arith, length-append, lexed, append_assoc, number_lexed, space_lexed, third_stops, third_lexed)

pub points_lexed : (at : ℕ) (image : Position) (images : List Position) (behind : List ℕ)
    → AllByRecursion IsPositionWithinReach (image ∷ images) → Stops is_numeric behind
    → lexed at (list_text (image ∷ images) ++ behind)
    ≡ joined_points (new_point at image) (new_points (at + length (image_text image)) images)
    ++ lexed (at + length (list_text (image ∷ images))) behind
points_lexed at image [] behind within stops =
    let nil : image_text image ++ [] ≡ image_text image = append-nil (image_text image) in
    ap (λ text. lexed at (text ++ behind)) nil ∙ point_lexed at image behind within.0 stops
    ∙ ap (λ text. point_tokens (new_point at image) ++ lexed (at + length text) behind) (sym nil)
points_lexed at image (next ∷ images) behind within stops =
    let first = image_text image in
    let later = list_text (next ∷ images) in
    let all : list_text (image ∷ next ∷ images) ++ behind ≡ first ++ 44 ∷ 32 ∷ (later ++ behind) =
    append_assoc first (44 ∷ 32 ∷ later) behind in
    let place : at + length first + 1 + 1 ≡ at + length first + 2 = omega arith in
    let size : at + length first + 2 + length later ≡ at + length (list_text (image ∷ next ∷ images)) = let e =
    length-append first (44 ∷ 32 ∷ later) in omega (arith, e) in
    let tail = joined_points (new_point (at + length first + 2) next)
    (new_points (at + length first + 2 + length (image_text next)) images) in
    ap (lexed at) all ∙ point_lexed at image (44 ∷ 32 ∷ (later ++ behind)) within.0 refl
    ∙ ap (λ ts. point_tokens (new_point at image) ++ ts)
    (comma_lexed (at + length first) (32 ∷ (later ++ behind))
    ∙ ap (λ ts. comma ∷ ts)
    (space_lexed (at + length first + 1) (later ++ behind) ∙ ap (λ n. lexed n (later ++ behind)) place
    ∙ points_lexed (at + length first + 2) next images behind within.1 stops
    ∙ ap (λ n. tail ++ lexed n behind) size))
    ∙ sym (append_assoc (point_tokens (new_point at image)) (comma ∷ tail)
    (lexed (at + length (list_text (image ∷ next ∷ images))) behind))

-- ---- what is read of them
third_is : (at : ℕ) (height : Height) → IsHeightWithinReach height → height_in_third (new_third at height) ≡ height
third_is at None within = refl
third_is at (Some height) within =
    ap (λ r. let h : Height = Some (mm_in r) in h) (measured_written height within)

pub new_position : (at : ℕ) (image : Position) → IsPositionWithinReach image → position_of (new_point at image) ≡ image
new_position at image within = grind (arith, measured_written, third_is)

fits_always : (exact : Bool) (mm : ℤ) → (let read : MmRead =
    record { mm = mm; exact = true } in does_fit exact (Ok read) ≡ true)
fits_always true mm = refl
fits_always false mm = refl

number_fits : (exact : Bool) (mm : ℤ) → unsigned_abs mm ≤ LIMIT → does_fit exact (millimetres_of (mm_text mm)) ≡ true
number_fits exact mm within = ap (does_fit exact) (measured_written mm within) ∙ fits_always exact mm

third_fits : (exact raised : Bool) (at : ℕ) (height : Height) → is_some height ≡ raised → IsHeightWithinReach height
    → IsThird exact raised (new_third at height)
third_fits exact false at None is within = tt
third_fits exact true at None is within = cc
third_fits exact true at (Some height) is within = number_fits exact height within
third_fits exact false at (Some height) is within = cc

pub new_is_point : (exact raised : Bool) (at : ℕ) (image : Position) → IsRaised raised image
    → IsPositionWithinReach image
    → IsPoint exact raised (new_point at image)
new_is_point exact raised at image is within = grind (arith, number_fits, third_fits)

third_loses_none : (at : ℕ) (height : Height) → IsHeightWithinReach height → lost_in_third (new_third at height) ≡ 0
third_loses_none at None within = refl
third_loses_none at (Some height) within = ap lost_in (measured_written height within)

pub new_loses_none : (at : ℕ) (image : Position) → IsPositionWithinReach image → lost_of (new_point at image) ≡ 0
new_loses_none at image within = grind (arith, measured_written, third_loses_none)

pub new_positions : (at : ℕ) (images : List Position) → AllByRecursion IsPositionWithinReach images
    → map position_of (new_points at images) ≡ images
new_positions at [] within = refl
new_positions at (image ∷ images) within =
    grind (arith, new_position, (new_positions (at + 2 + length (image_text image)) images within.1))

pub new_are_points : (exact raised : Bool) (at : ℕ) (images : List Position) → AllByRecursion (IsRaised raised) images
    → AllByRecursion IsPositionWithinReach images
    → AllByRecursion (IsPoint exact raised) (new_points at images)
new_are_points exact raised at [] are within = tt
new_are_points exact raised at (image ∷ images) are within = (
  new_is_point exact raised (at + 2) image are.0 within.0,
  new_are_points exact raised (at + 2 + length (image_text image)) images are.1 within.1,
)

pub new_lose_none : (at : ℕ) (images : List Position) → AllByRecursion IsPositionWithinReach images
    → sum_by lost_of (new_points at images) ≡ 0
new_lose_none at [] within = refl
new_lose_none at (image ∷ images) within =
    grind (arith, new_loses_none, sum_by-cons, (new_lose_none (at + 2 + length (image_text image)) images within.1))

pub new_count : (at : ℕ) (images : List Position) → length (new_points at images) ≡ length images
new_count at [] = refl
new_count at (image ∷ images) = ap suc (new_count (at + 2 + length (image_text image)) images)

-- ---- the text of an image, piece by piece
pub image_pushed : (out both all x y z : List ℕ) → both ≡ out ++ (x ++ (32 ∷ y)) → all ≡ both ++ z
    → all ≡ out ++ (x ++ (32 ∷ (y ++ z)))
image_pushed out both all x y z one two = grind (arith, append_assoc)
