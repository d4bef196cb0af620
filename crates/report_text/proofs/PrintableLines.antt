-- The lines of a report have no byte below 32.
use Rattle.std.proofs.Common.{◌≡◌, ℕ, suc, ◌+◌, ◌<◌, ◌≤◌, ◌^◌, Bool, true, false, List, [], ◌∷◌, ◌++◌, length, codes}
use Rattle.std.proofs.Common.{map, get_or, refl, arith, Option, Some, None}
use Rattle.std.specs.Fmt.{decimal}
use Rattle.std.specs.List.{AllByRecursion, concat}
use Rattle.std.proofs.lemmas.Fmt.{decimal_is_IsNumeral}
use Rattle.std.proofs.lemmas.Str.Parse.{digit_at}
use Rattle.tin_base.specs.declared.pieces.Change.{Change}
use Rattle.tin_base.specs.declared.pieces.Place.{Place}
use Rattle.tin_base.specs.declared.relations.Rel.{Rel}
use Rattle.tin_base.specs.declared.relations.Rel.TheVariants.{Apart, Touching, Crossing, Overlapping}
use Rattle.ring_side.specs.declared.kinds.Side.{Side}
use Rattle.ring_side.specs.declared.kinds.Side.TheVariants.{Inside, Border, Outside}
use Rattle.ring_side.specs.declared.kinds.Way.{Way}
use Rattle.ring_side.specs.declared.kinds.Way.TheVariants.{Positive, Negative, Zero}
use Rattle.ring_side.specs.declared.kinds.Spot.{Spot}
use Rattle.ring_side.specs.declared.kinds.SideChange.{SideChange}
use Rattle.ring_side.specs.declared.kinds.SideChange.TheVariants.{Turn, Point}
use Rattle.report_text.specs.declared.rows.LayerRow.{LayerRow}
use Rattle.report_text.specs.Beginnings.{IsLine}
use Rattle.report_text.specs.InsideFields.{are_printable}
use Rattle.text_fields.specs.Fields.{field}
use Rattle.report_text.specs.ReportText.{title, tin_counts, tin_line, sizes, losses, layer_line, extents_line}
use Rattle.report_text.specs.ReportText.{extents_lines, layer_lines, place_text, relation_word, change_line, count_line}
use Rattle.report_text.specs.ReportText.{end_line, report_lines, are_told, ring_text, spot_text, way_word, side_word}
use Rattle.report_text.specs.ReportText.{turn_line, point_line, side_line, side_count_line, side_lines}
use Rattle.report_text.specs.Reports.{ReportContents, IsPrintable, IsReport, IsHeld, IsLayerHeld, IsPlaceHeld}
use Rattle.report_text.specs.Reports.{IsChangeHeld, IsRingHeld, IsSpotHeld, IsSideHeld, AreSidesHeld}
use Rattle.report_text.proofs.Names.{printable_is}
use Rattle.report_text.proofs.LineTexts.{line_of_printable}

both_printable : (a b : List ℕ) → IsPrintable a → IsPrintable b → IsPrintable (a ++ b)
both_printable [] b is_a is_b = is_b
both_printable (byte ∷ a) b is_a is_b = (is_a.0, both_printable a b is_a.1 is_b)

-- texts that are joined
joined : (texts : List (List ℕ)) → AllByRecursion IsPrintable texts → IsPrintable (concat texts)
joined [] are = tt
joined (text ∷ texts) are = both_printable text (concat texts) are.0 (joined texts are.1)

by_index : (text : List ℕ) → ((i : ℕ) → i < length text → 32 ≤ get_or text i 0) → IsPrintable text
by_index [] at = tt
by_index (byte ∷ text) at = (at 0 (omega arith), by_index text (λ i within. at (suc i) (omega arith)))

decimal_printable : (number : ℕ) → number < 2 ^ 64 → IsPrintable (decimal number)
decimal_printable number small = by_index (decimal number)
    (λ i within. let digit = digit_at (decimal number) i (decimal_is_IsNumeral number small).0.1 within in omega
    (arith, digit.0))

field_printable : (word : List ℕ) (number : ℕ) → are_printable word ≡ true → number < 2 ^ 64
    → IsPrintable (field word number)
field_printable word number is small = both_printable word (decimal number) (printable_is word is)
    (decimal_printable number small)

short_printable : (word : List ℕ) (number : ℕ) → are_printable word ≡ true → number < 2 ^ 32
    → IsPrintable (field word number)
short_printable word number is small = field_printable word number is (omega (arith, small))

title_line : (told : Bool) → IsLine (title told)
unfolding title
title_line false = line_of_printable (title false) (printable_is (title false) refl)
title_line true = line_of_printable (title true) (printable_is (title true) refl)

end_is_line : IsLine end_line
unfolding end_line
end_is_line = line_of_printable end_line (printable_is end_line refl)

tin_is_line : (report : ReportContents) → IsReport report → IsHeld report → IsLine (tin_line report)
unfolding tin_line
tin_is_line report kept held =
    let counts : IsPrintable (tin_counts report) =
    joined (field (codes "triangulation corners ") report.corners ∷ field (codes " triangles ") report.triangles
    ∷ field (codes " inexact ") report.inexact ∷ []) (
      short_printable (codes "triangulation corners ") report.corners refl held.corners,
      (
        short_printable (codes " triangles ") report.triangles refl held.triangles,
        (field_printable (codes " inexact ") report.inexact refl held.inexact, tt),
      ),
    ) in
    line_of_printable (tin_line report) (joined (tin_counts report ∷ codes " name " ∷ report.name ∷ [])
    (counts, (printable_is (codes " name ") refl, (kept.name, tt))))

layer_is_line : (number : ℕ) (row : LayerRow) → number < 2 ^ 64 → IsLayerHeld row → IsPrintable row.name
    → IsLine (layer_line number row)
unfolding layer_line
layer_is_line number row small held printable =
    let sized : IsPrintable (sizes row) =
    joined (field (codes " paths ") row.paths ∷ field (codes " segments ") row.segments
    ∷ field (codes " pieces ") row.pieces ∷ []) (
      short_printable (codes " paths ") row.paths refl held.paths,
      (
        short_printable (codes " segments ") row.segments refl held.segments,
        (short_printable (codes " pieces ") row.pieces refl held.pieces, tt),
      ),
    ) in
    let lost : IsPrintable (losses row) =
    joined (field (codes " inexact ") row.inexact ∷ field (codes " dropped ") row.dropped ∷ []) (
      field_printable (codes " inexact ") row.inexact refl held.inexact,
      (field_printable (codes " dropped ") row.dropped refl held.dropped, tt),
    ) in
    line_of_printable (layer_line number row)
    (joined (field (codes "layer ") number ∷ sizes row ∷ losses row ∷ codes " name " ∷ row.name ∷ []) (
      field_printable (codes "layer ") number refl small,
      (sized, (lost, (printable_is (codes " name ") refl, (printable, tt)))),
    ))

extents_is_line : (number : ℕ) → number < 2 ^ 64 → IsLine (extents_line number)
unfolding extents_line
extents_is_line number small =
    line_of_printable (extents_line number)
    (both_printable (field (codes "extents ") number) (codes " as they were")
    (field_printable (codes "extents ") number refl small) (printable_is (codes " as they were") refl))

count_is_line : (count : ℕ) → count < 2 ^ 64 → IsLine (count_line count)
unfolding count_line
count_is_line count small = line_of_printable (count_line count) (field_printable (codes "changes ") count refl small)

place_printable : (place : Place) → IsPlaceHeld place → IsPrintable (place_text place)
place_printable place held =
    joined (decimal place.layer ∷ field (codes "/") place.path ∷ field (codes "/") place.segment
    ∷ field (codes "/") place.piece ∷ []) (
      short_printable [] place.layer refl held.layer,
      (
        short_printable (codes "/") place.path refl held.path,
        (
          short_printable (codes "/") place.segment refl held.segment,
          (short_printable (codes "/") place.piece refl held.piece, tt),
        ),
      ),
    )

word_printable : (relation : Rel) → IsPrintable (relation_word relation)
word_printable Apart = printable_is (codes "apart") refl
word_printable Touching = printable_is (codes "touching") refl
word_printable Crossing = printable_is (codes "crossing") refl
word_printable Overlapping = printable_is (codes "overlapping") refl

change_is_line : (change : Change) → IsChangeHeld change → IsLine (change_line change)
unfolding change_line
change_is_line change held =
    let space : IsPrintable (codes " ") = printable_is (codes " ") refl in
    line_of_printable (change_line change)
    (joined (codes "change " ∷ place_text change.first ∷ codes " " ∷ place_text change.second ∷ codes " "
    ∷ relation_word change.was ∷ codes " " ∷ relation_word change.now ∷ []) (
      printable_is (codes "change ") refl,
      (
        place_printable change.first held.0,
        (
          space,
          (
            place_printable change.second held.1,
            (space, (word_printable change.was, (space, (word_printable change.now, tt)))),
          ),
        ),
      ),
    ))

both_lines : (a b : List (List ℕ)) → AllByRecursion IsLine a → AllByRecursion IsLine b
    → AllByRecursion IsLine (a ++ b)
both_lines [] b are_a are_b = are_b
both_lines (line ∷ a) b are_a are_b = (are_a.0, both_lines a b are_a.1 are_b)

extents_are_lines : (number : ℕ) (drawing : Bool) → number < 2 ^ 64
    → AllByRecursion IsLine (extents_lines number drawing)
extents_are_lines number true small = (extents_is_line number small, tt)
extents_are_lines number false small = tt

layers_are_lines : (number : ℕ) (rows : List LayerRow) → number + length rows ≤ 2 ^ 64
    → AllByRecursion (λ row. IsPrintable row.name) rows → AllByRecursion IsLayerHeld rows
    → AllByRecursion IsLine (layer_lines number rows)
layers_are_lines number [] room printable held = tt
layers_are_lines number (row ∷ rows) room printable held =
    let small : number < 2 ^ 64 = omega arith in (
      layer_is_line number row small held.0 printable.0,
      both_lines (extents_lines number row.drawing) (layer_lines (number + 1) rows)
          (extents_are_lines number row.drawing small)
          (layers_are_lines (number + 1) rows (omega arith) printable.1 held.1),
    )

changes_are_lines : (changes : List Change) → AllByRecursion IsChangeHeld changes
    → AllByRecursion IsLine (map change_line changes)
changes_are_lines [] held = tt
changes_are_lines (change ∷ changes) held = (change_is_line change held.0, changes_are_lines changes held.1)

-- ---- sides of rings

ring_printable : (layer path : ℕ) → IsRingHeld layer path → IsPrintable (ring_text layer path)
ring_printable layer path held =
    joined (decimal layer ∷ field (codes "/") path ∷ [])
    (short_printable [] layer refl held.layer, (short_printable (codes "/") path refl held.path, tt))

spot_printable : (spot : Spot) → IsSpotHeld spot → IsPrintable (spot_text spot)
spot_printable spot held =
    joined (decimal spot.layer ∷ field (codes "/") spot.path ∷ field (codes "/") spot.vertex ∷ []) (
      short_printable [] spot.layer refl held.layer,
      (
        short_printable (codes "/") spot.path refl held.path,
        (short_printable (codes "/") spot.vertex refl held.vertex, tt),
      ),
    )

way_printable : (way : Way) → IsPrintable (way_word way)
way_printable Positive = printable_is (codes "positive") refl
way_printable Negative = printable_is (codes "negative") refl
way_printable Zero = printable_is (codes "zero") refl

side_printable : (side : Side) → IsPrintable (side_word side)
side_printable Inside = printable_is (codes "inside") refl
side_printable Border = printable_is (codes "border") refl
side_printable Outside = printable_is (codes "outside") refl

turn_is_line : (layer path : ℕ) (was now : Way) → IsRingHeld layer path → IsLine (turn_line layer path was now)
unfolding turn_line
turn_is_line layer path was now held =
    let space : IsPrintable (codes " ") = printable_is (codes " ") refl in
    line_of_printable (turn_line layer path was now)
    (joined (codes "turn " ∷ ring_text layer path ∷ codes " " ∷ way_word was ∷ codes " " ∷ way_word now ∷ []) (
      printable_is (codes "turn ") refl,
      (ring_printable layer path held, (space, (way_printable was, (space, (way_printable now, tt))))),
    ))

point_is_line : (layer path : ℕ) (at : Spot) (was now : Side) → IsRingHeld layer path → IsSpotHeld at
    → IsLine (point_line layer path at was now)
unfolding point_line
point_is_line layer path at was now ring_held spot_held =
    let space : IsPrintable (codes " ") = printable_is (codes " ") refl in
    line_of_printable (point_line layer path at was now)
    (joined (codes "side " ∷ ring_text layer path ∷ codes " " ∷ spot_text at ∷ codes " " ∷ side_word was ∷ codes " "
    ∷ side_word now ∷ []) (
      printable_is (codes "side ") refl,
      (
        ring_printable layer path ring_held,
        (
          space,
          (spot_printable at spot_held, (space, (side_printable was, (space, (side_printable now, tt))))),
        ),
      ),
    ))

side_is_line : (side : SideChange) → IsSideHeld side → IsLine (side_line side)
side_is_line (Turn layer path was now) held = turn_is_line layer path was now held
side_is_line (Point layer path at was now) held = point_is_line layer path at was now held.0 held.1

all_sides_are_lines : (sides : List SideChange) → AllByRecursion IsSideHeld sides
    → AllByRecursion IsLine (map side_line sides)
all_sides_are_lines [] held = tt
all_sides_are_lines (side ∷ sides) held = (side_is_line side held.0, all_sides_are_lines sides held.1)

side_count_is_line : (count : ℕ) → count < 2 ^ 64 → IsLine (side_count_line count)
unfolding side_count_line
side_count_is_line count small =
    line_of_printable (side_count_line count) (field_printable (codes "sides ") count refl small)

sides_are_lines : (sides : Option (List SideChange)) → AreSidesHeld sides → AllByRecursion IsLine (side_lines sides)
sides_are_lines None held = tt
sides_are_lines (Some sides) held = (side_count_is_line (length sides) held.1, all_sides_are_lines sides held.0)

-- the lines of a report are lines
pub report_is_lines : (report : ReportContents) → IsReport report → IsHeld report
    → AllByRecursion IsLine (report_lines report)
report_is_lines report kept held = (
  title_line (are_told report.sides),
  (
    tin_is_line report kept held,
    both_lines (layer_lines 0 report.layers) (count_line (length report.changes)
        ∷ (map change_line report.changes ++ (side_lines report.sides ++ end_line ∷ [])))
        (layers_are_lines 0 report.layers (omega (arith, held.numbered)) kept.layers held.layers) (
          count_is_line (length report.changes) held.counted,
          both_lines (map change_line report.changes) (side_lines report.sides ++ end_line ∷ [])
              (changes_are_lines report.changes held.changes)
              (both_lines (side_lines report.sides) (end_line ∷ []) (sides_are_lines report.sides held.sides)
              (end_is_line, tt)),
        ),
  ),
)
