-- Each kind of line: what is written is read, and what is read is written so.
use Rattle.std.proofs.Common.{◌≡◌, ℕ, ◌<◌, ◌^◌, List, [], ◌∷◌, ◌++◌, codes, Option, Some, None, Bool, refl, sym, ◌∙◌, ap, append_assoc}
use Rattle.std.proofs.Common.{append-nil, subst}
use Rattle.std.specs.Prelude.{IsUtf8}
use Rattle.std.specs.List.{concat}
use Rattle.tin_base.specs.declared.pieces.Change.{Change}
use Rattle.ring_side.specs.declared.kinds.SideChange.{SideChange}
use Rattle.report_text.specs.declared.drafts.TinRow.{TinRow}
use Rattle.report_text.specs.declared.rows.LayerRow.{LayerRow}
use Rattle.text_fields.specs.Fields.{long_field, short_field}
use Rattle.report_text.specs.InsideFields.{name_behind}
use Rattle.report_text.specs.InsideLineKinds.{tin_of}
use Rattle.text_fields.specs.Fields.{field}
use Rattle.report_text.specs.ReportText.{tin_line}
use Rattle.report_text.specs.Reports.{ReportContents, IsPrintable}
use Rattle.text_fields.proofs.StepChains.{bound, some_is}
use Rattle.text_fields.proofs.FieldLaws.{long_again, long_takes, short_again, short_takes}
use Rattle.report_text.proofs.Names.{name_again, name_takes}

-- ---- the triangulation

abbrev pub contents_of : TinRow → List LayerRow → List Change → Option (List SideChange) → ReportContents
contents_of tin rows changes sides = record {
  corners = tin.corners;
  triangles = tin.triangles;
  inexact = tin.inexact;
  name = tin.name;
  layers = rows;
  changes = changes;
  sides = sides;
}

pub record IsTinHeld (tin : TinRow) : Type 0 where
  pub corners : tin.corners < 2 ^ 32
  pub triangles : tin.triangles < 2 ^ 32
  pub inexact : tin.inexact < 2 ^ 64
  pub utf8 : IsUtf8 tin.name
  pub printable : IsPrintable tin.name

in_a_row : (a b c w n : List ℕ) → a ++ (b ++ (c ++ (w ++ n))) ≡ concat (concat (a ∷ b ∷ c ∷ []) ∷ w ∷ n ∷ [])
in_a_row a b c w n = simp (append_assoc, append-nil) refl

abbrev tin_parts : TinRow → List ℕ
tin_parts tin =
    field (codes "triangulation corners ") tin.corners
    ++ (field (codes " triangles ") tin.triangles
    ++ (field (codes " inexact ") tin.inexact ++ (codes " name " ++ tin.name)))

tin_is : (tin : TinRow) (rows : List LayerRow) (changes : List Change) (sides : Option (List SideChange))
    → tin_line (contents_of tin rows changes sides) ≡ tin_parts tin
unfolding tin_line
tin_is tin rows changes sides = sym (in_a_row (field (codes "triangulation corners ") tin.corners)
    (field (codes " triangles ") tin.triangles) (field (codes " inexact ") tin.inexact) (codes " name ") tin.name)

pub tin_again : (tin : TinRow) (rows : List LayerRow) (changes : List Change) (sides : Option (List SideChange))
    → IsTinHeld tin → tin_of tin.sided (tin_line (contents_of tin rows changes sides)) ≡ Some tin
unfolding tin_of
tin_again tin rows changes sides held =
    ap (tin_of tin.sided) (tin_is tin rows changes sides)
    ∙ rw (
      short_again (codes "triangulation corners ")
          (field (codes " triangles ") tin.triangles
          ++ (field (codes " inexact ") tin.inexact ++ (codes " name " ++ tin.name))) tin.corners held.corners refl,
      short_again (codes " triangles ") (field (codes " inexact ") tin.inexact ++ (codes " name " ++ tin.name))
          tin.triangles held.triangles refl,
      long_again (codes " inexact ") (codes " name " ++ tin.name) tin.inexact held.inexact refl,
      name_again tin.name held.printable held.utf8,
    ) refl

pub record TakesTin (line : List ℕ) (sided : Bool) (tin : TinRow) : Type 0 where
  pub parts : (rows : List LayerRow) (changes : List Change) (sides : Option (List SideChange))
      → line ≡ tin_line (contents_of tin rows changes sides)
  pub held : IsTinHeld tin
  pub told : tin.sided ≡ sided

pub tin_takes : (line : List ℕ) (sided : Bool) (tin : TinRow) → tin_of sided line ≡ Some tin → TakesTin line sided tin
unfolding tin_of
tin_takes line sided tin is =
    let a = bound (short_field (codes "triangulation corners ") line) _ tin is in
    let b = bound (short_field (codes " triangles ") a.found.1) _ tin a.goes_on in
    let c = bound (long_field (codes " inexact ") b.found.1) _ tin b.goes_on in
    let d = bound (name_behind c.found.1) _ tin c.goes_on in
    let ta = short_takes (codes "triangulation corners ") line a.found a.is in
    let tb = short_takes (codes " triangles ") a.found.1 b.found b.is in
    let tc = long_takes (codes " inexact ") b.found.1 c.found c.is in
    let td = name_takes c.found.1 d.found d.is in
    let made : TinRow = record { sided = sided; corners = a.found.0; triangles = b.found.0; inexact = c.found.0; name = d.found } in
    let whole : line ≡ tin_parts made =
    ta.parts ∙ ap (λ r. field (codes "triangulation corners ") a.found.0 ++ r)
    (tb.parts ∙ ap (λ r. field (codes " triangles ") b.found.0 ++ r)
    (tc.parts ∙ ap (λ r. field (codes " inexact ") c.found.0 ++ r) td.parts)) in
    subst (TakesTin line sided) (some_is made tin d.goes_on) (record {
      parts = λ rows changes sides. whole ∙ sym (tin_is made rows changes sides);
      told = refl;
      held = record {
        corners = ta.small;
        triangles = tb.small;
        inexact = tc.small;
        utf8 = td.utf8;
        printable =
            td.printable;
      };
    })

-- the line of a triangulation says nothing of layers and changes
pub tin_line_same : (tin : TinRow) (rows : List LayerRow) (changes : List Change) (sides : Option (List SideChange))
    → tin_line (contents_of tin [] [] None) ≡ tin_line (contents_of tin rows changes sides)
tin_line_same tin rows changes sides = tin_is tin [] [] None ∙ sym (tin_is tin rows changes sides)
