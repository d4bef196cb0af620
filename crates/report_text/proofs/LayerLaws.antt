-- Lines of layers, and the line of the number of changes.
use Rattle.std.proofs.Common.{◌≡◌, ◌==◌, ℕ, ◌<◌, ◌^◌, Bool, true, false, cond, List, [], ◌∷◌, ◌++◌, length, codes}
use Rattle.std.proofs.Common.{Option, Some, None, refl, sym, ◌∙◌, ap, arith, append_assoc, append-nil, subst}
use Rattle.std.specs.Cmp.Lexicographic.{same_text}
use Rattle.std.specs.List.{concat}
use Rattle.std.specs.Str.{bytes_eq}
use Rattle.std.proofs.lemmas.Bool.Decides.{nat_tests}
use Rattle.std.proofs.lemmas.List.{nil_from_length}
use Rattle.report_text.specs.declared.rows.LayerRow.{LayerRow}
use Rattle.text_fields.specs.Fields.{long_field, short_field}
use Rattle.report_text.specs.InsideFields.{name_behind}
use Rattle.report_text.specs.InsideLineKinds.{row_front, layer_of, is_end_of_extents, is_line_of_extents, count_of}
use Rattle.text_fields.specs.Fields.{field}
use Rattle.report_text.specs.ReportText.{sizes, losses, layer_line, extents_line, count_line}
use Rattle.report_text.specs.Reports.{IsPrintable, IsLayerHeld}
use Rattle.text_fields.proofs.StepChains.{bound, some_is, let_through}
use Rattle.text_fields.proofs.FieldLaws.{long_again, long_takes, short_again, short_takes}
use Rattle.text_fields.proofs.Words.{equals_itself}
use Rattle.report_text.proofs.Names.{name_again, name_takes}
use Rattle.std.proofs.lemmas.Bool.{and_parts}

abbrev row_text : LayerRow → List ℕ
row_text row = concat (sizes row ∷ losses row ∷ codes " name " ∷ row.name ∷ [])

in_a_row : (a b c d e w n : List ℕ) → a ++ (b ++ (c ++ (d ++ (e ++ (w ++ n)))))
    ≡ concat (concat (a ∷ b ∷ c ∷ []) ∷ concat (d ∷ e ∷ []) ∷ w ∷ n ∷ [])
in_a_row a b c d e w n = simp (append_assoc, append-nil) refl

abbrev row_parts : LayerRow → List ℕ
row_parts row =
    field (codes " paths ") row.paths ++ (field (codes " segments ") row.segments
    ++ (field (codes " pieces ") row.pieces
    ++ (field (codes " inexact ") row.inexact
    ++ (field (codes " dropped ") row.dropped ++ (codes " name " ++ row.name)))))

row_is : (row : LayerRow) → row_text row ≡ row_parts row
row_is row = sym (in_a_row (field (codes " paths ") row.paths) (field (codes " segments ") row.segments)
    (field (codes " pieces ") row.pieces)
    (field (codes " inexact ") row.inexact) (field (codes " dropped ") row.dropped) (codes " name ") row.name)

-- a row before it is known to be a drawing
abbrev pub undrawn : LayerRow → LayerRow
undrawn row = record row { drawing = false }

row_again : (row : LayerRow) → IsLayerHeld row → IsPrintable row.name → row_front (row_text row) ≡ Some (undrawn row)
unfolding row_front
row_again row held printable =
    ap row_front (row_is row)
    ∙ rw (
      short_again (codes " paths ") (field (codes " segments ") row.segments
          ++ (field (codes " pieces ") row.pieces
          ++ (field (codes " inexact ") row.inexact
          ++ (field (codes " dropped ") row.dropped ++ (codes " name " ++ row.name))))) row.paths held.paths refl,
      short_again (codes " segments ") (field (codes " pieces ") row.pieces
          ++ (field (codes " inexact ") row.inexact
          ++ (field (codes " dropped ") row.dropped ++ (codes " name " ++ row.name)))) row.segments held.segments refl,
      short_again (codes " pieces ") (field (codes " inexact ") row.inexact
          ++ (field (codes " dropped ") row.dropped ++ (codes " name " ++ row.name))) row.pieces held.pieces refl,
      long_again (codes " inexact ") (field (codes " dropped ") row.dropped ++ (codes " name " ++ row.name)) row.inexact
          held.inexact refl,
      long_again (codes " dropped ") (codes " name " ++ row.name) row.dropped held.dropped refl,
      name_again row.name printable held.name,
    ) refl

pub record IsRowHeld (row : LayerRow) : Type 0 where
  pub held : IsLayerHeld row
  pub printable : IsPrintable row.name

record TakesRow (text : List ℕ) (row : LayerRow) : Type 0 where
  pub parts : text ≡ row_text row
  pub held : IsRowHeld row
  pub plain : row.drawing ≡ false

row_takes : (text : List ℕ) (row : LayerRow) → row_front text ≡ Some row → TakesRow text row
unfolding row_front
row_takes text row is =
    let a = bound (short_field (codes " paths ") text) _ row is in
    let b = bound (short_field (codes " segments ") a.found.1) _ row a.goes_on in
    let c = bound (short_field (codes " pieces ") b.found.1) _ row b.goes_on in
    let d = bound (long_field (codes " inexact ") c.found.1) _ row c.goes_on in
    let e = bound (long_field (codes " dropped ") d.found.1) _ row d.goes_on in
    let f = bound (name_behind e.found.1) _ row e.goes_on in
    let ta = short_takes (codes " paths ") text a.found a.is in
    let tb = short_takes (codes " segments ") a.found.1 b.found b.is in
    let tc = short_takes (codes " pieces ") b.found.1 c.found c.is in
    let td = long_takes (codes " inexact ") c.found.1 d.found d.is in
    let te = long_takes (codes " dropped ") d.found.1 e.found e.is in
    let tf = name_takes e.found.1 f.found f.is in
    let made : LayerRow = record {
      paths = a.found.0;
      segments = b.found.0;
      pieces = c.found.0;
      inexact =
          d.found.0;
      dropped = e.found.0;
      drawing = false;
      name = f.found;
    } in
    let whole : text ≡ row_parts made =
    ta.parts ∙ ap (λ r. field (codes " paths ") a.found.0 ++ r)
    (tb.parts ∙ ap (λ r. field (codes " segments ") b.found.0 ++ r)
    (tc.parts ∙ ap (λ r. field (codes " pieces ") c.found.0 ++ r)
    (td.parts ∙ ap (λ r. field (codes " inexact ") d.found.0 ++ r)
    (te.parts ∙ ap (λ r. field (codes " dropped ") e.found.0 ++ r) tf.parts)))) in
    subst (TakesRow text) (some_is made row f.goes_on) (record {
      parts = whole ∙ sym (row_is made);
      held = record {
        held = record {
          paths = ta.small;
          segments = tb.small;
          pieces = tc.small;
          inexact = td.small;
          dropped =
              te.small;
          name = tf.utf8;
        };
        printable = tf.printable;
      };
      plain = refl;
    })

pub layer_again : (number : ℕ) (row : LayerRow) → number < 2 ^ 64 → IsRowHeld row
    → layer_of number (layer_line number row) ≡ Some (undrawn row)
unfolding layer_of layer_line
layer_again number row small held =
    let same : (number == number) ≡ true = grind (arith, nat_tests) in
    rw (long_again (codes "layer ") (row_text row) number small refl, same) (row_again row held.held held.printable)

pub record TakesLayer (number : ℕ) (line : List ℕ) (row : LayerRow) : Type 0 where
  pub parts : line ≡ layer_line number row
  pub held : IsRowHeld row
  pub plain : row.drawing ≡ false
  pub small : number < 2 ^ 64

test_some : {A : Type 0} (test : Bool) (value : Option A) (last : A) → cond test value None ≡ Some last
    → (test ≡ true) × (value ≡ Some last)
test_some true value last is = (refl, is)
test_some false value last is = absurd cc

pub layer_takes : (number : ℕ) (line : List ℕ) (row : LayerRow) → layer_of number line ≡ Some row
    → TakesLayer number line row
unfolding layer_of layer_line
layer_takes number line row is =
    let a = bound (long_field (codes "layer ") line) _ row is in
    let ta = long_takes (codes "layer ") line a.found a.is in
    let tests = test_some (a.found.0 == number) (row_front a.found.1) row a.goes_on in
    let passes = tests.0 in
    let same : a.found.0 ≡ number = grind (arith, nat_tests, passes) in
    let taken = row_takes a.found.1 row tests.1 in
    record {
      parts = ta.parts ∙ (ap (λ n. field (codes "layer ") n ++ a.found.1) same
          ∙ ap (λ r. field (codes "layer ") number ++ r) taken.parts);
      held = taken.held;
      plain = taken.plain;
      small = subst (λ n. n < 2 ^ 64) same ta.small;
    }

-- ---- extents

abbrev as_were : List ℕ
as_were = codes " as they were"

pub extents_again : (number : ℕ) → number < 2 ^ 64 → is_line_of_extents number (extents_line number) ≡ true
unfolding is_line_of_extents extents_line
extents_again number small =
    let same : (number == number) ≡ true = grind (arith, nat_tests) in
    rw (long_again (codes "extents ") as_were number small refl, same) (equals_itself as_were)

extents_told : (number : ℕ) (line : List ℕ) (read : Option (ℕ × List ℕ)) → long_field (codes "extents ") line ≡ read
    → is_end_of_extents number read ≡ true → line ≡ field (codes "extents ") number ++ as_were
extents_told number line None read is = absurd cc
extents_told number line (Some found) read is =
    let tests = and_parts (found.0 == number) (bytes_eq found.1 as_were) is in
    let taken = long_takes (codes "extents ") line found read in
    let passes = tests.0 in
    let same : found.0 ≡ number = grind (arith, nat_tests, passes) in
    taken.parts ∙ (ap (λ n. field (codes "extents ") n ++ found.1) same
    ∙ ap (λ r. field (codes "extents ") number ++ r) (same_text found.1 as_were (sym tests.1)))

pub extents_takes : (number : ℕ) (line : List ℕ) → is_line_of_extents number line ≡ true → line ≡ extents_line number
unfolding is_line_of_extents extents_line
extents_takes number line is = extents_told number line (long_field (codes "extents ") line) refl is

-- other lines are none on extents
pub layer_is_no_extents : (number other : ℕ) (row : LayerRow) → is_line_of_extents number (layer_line other row) ≡ false
unfolding is_line_of_extents layer_line long_field
layer_is_no_extents number other row = refl

pub count_is_no_extents : (number count : ℕ) → is_line_of_extents number (count_line count) ≡ false
unfolding is_line_of_extents count_line long_field
count_is_no_extents number count = refl

-- ---- the number of changes

pub count_is_no_layer : (number count : ℕ) → layer_of number (count_line count) ≡ None
unfolding layer_of count_line long_field
count_is_no_layer number count = refl

pub count_again : (count : ℕ) → count < 2 ^ 64 → count_of (count_line count) ≡ Some count
unfolding count_of count_line
count_again count small =
    let read : long_field (codes "changes ") (field (codes "changes ") count) ≡ Some (count, [])
    = ap (long_field (codes "changes ")) (sym (append-nil (field (codes "changes ") count)))
    ∙ long_again (codes "changes ") [] count small tt in
    rw read refl

pub count_takes : (line : List ℕ) (count : ℕ) → count_of line ≡ Some count
    → (line ≡ count_line count) × (count < 2 ^ 64)
unfolding count_of count_line
count_takes line count is =
    let a = bound (long_field (codes "changes ") line) _ count is in
    let taken = long_takes (codes "changes ") line a.found a.is in
    let last = let_through (length a.found.1 == 0) a.found.0 count a.goes_on in
    let passes = last.passes in
    let none : a.found.1 ≡ [] = nil_from_length a.found.1 (grind (arith, nat_tests, passes)) in (
      taken.parts ∙ (ap (λ r. field (codes "changes ") a.found.0 ++ r) none
          ∙ (append-nil (field (codes "changes ") a.found.0) ∙ ap (field (codes "changes ")) last.same)),
      subst (λ n. n < 2 ^ 64) last.same taken.small,
    )
