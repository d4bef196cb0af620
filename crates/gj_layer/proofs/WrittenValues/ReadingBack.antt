-- What is written of a layer is read as its images.
use Rattle.std.proofs.Common.{◌≡◌, ℕ, Bool, List, ◌++◌, length, refl, sym, ap, ◌∙◌, subst, arith}
use Rattle.std.specs.Prelude.{Ok}
use Rattle.jtext.specs.Values.{spelling}
use Rattle.jtext.specs.Texts.{Whole, IsWhole, mark_text, whole_text}
use Rattle.jtext.specs.Places.{whole_start}
use Rattle.jtext.specs.declared.json_texts.TheConstants.{DEEPEST}
use Rattle.sheet_base.specs.Sheets.{Contents}
use Rattle.sheet_base.specs.ImageFits.{Runs, DoFit, path_positions}
use Rattle.sheet_base.specs.Splices.{AreInOrder, splice_of}
use Rattle.sheet_base.specs.ReadBack.{AreTheSame, IsReadBack}
use Rattle.sheet_base.proofs.WrittenLayers.{IsReadAgain, read_back}
use Rattle.sheet_base.proofs.Swaps.{Swapped, spliced_on, on_from, swapped_all, front_swapped, behind_swapped}
use Rattle.gj_layer.specs.declared.forms.Holder.TheVariants as holders
use Rattle.gj_layer.specs.declared.forms.ValueForm.TheVariants as forms
use Rattle.gj_layer.specs.Paths.{Part, rows_from, sheet_of}
use Rattle.gj_layer.specs.Texts.{geojson_edit_text}
use Rattle.gj_layer.specs.Layers.{layer_reading, IsGeoJsonReadAs}
use Rattle.gj_layer.proofs.OpenObjects.Fine.{value_fine}
use Rattle.gj_layer.proofs.OpenObjects.Documents.{read_in_order}
use Rattle.gj_layer.proofs.WrittenValues.Turns.{ValueTurned}
use Rattle.gj_layer.proofs.WrittenPaths.EditTexts.{texts_say}
use Rattle.gj_layer.proofs.WrittenValues.ValueTurns.{value_turned}
use Rattle.gj_layer.proofs.WrittenPaths.SheetTurns.{sheet_suits, points_again, heights_again, rows_again}

-- the whole text of the value that the layer's value turns into
whole_again : (exact : Bool) (bytes : List ℕ) (part : Part) (images : Runs) (whole : Whole)
    → IsWhole DEEPEST whole bytes → layer_reading exact whole ≡ Ok part → DoFit (sheet_of part) images
    → ValueTurned exact (geojson_edit_text (sheet_of part) images) (path_positions (rows_from 0 part.paths) images)
    (forms.Object holders.Layer) 0 (whole_start whole) DEEPEST whole.value part
    → IsReadAgain (IsGeoJsonReadAs exact) (splice_of bytes (geojson_edit_text (sheet_of part) images) part.edits)
    (sheet_of part) images
whole_again exact bytes part images whole is read fit v =
    let text = geojson_edit_text (sheet_of part) images in
    let start = whole_start whole in
    let mark = mark_text whole.marked in
    let new : Whole = record { marked = whole.marked; before = whole.before; value = v.now; after = whole.after } in
    let d = v.reads start in
    let swap : Swapped text 0 (whole_text whole) part.edits (whole_text new) =
    front_swapped text 0 (length mark) mark (whole.before ++ (spelling whole.value ++ whole.after)) part.edits
    (whole.before ++ (spelling v.now ++ whole.after)) (omega arith)
    (front_swapped text (length mark) start whole.before (spelling whole.value ++ whole.after) part.edits
    (spelling v.now ++ whole.after) refl
    (behind_swapped text start (spelling whole.value) whole.after part.edits (spelling v.now) v.swap)) in
    let order : AreInOrder 0 part.edits (length bytes) =
    read_in_order exact bytes (sheet_of part) (part, (whole, is, read), refl) in
    let now : splice_of bytes text part.edits ≡ whole_text new =
    on_from bytes text 0 part.edits (length bytes) order ∙ ap (λ xs. spliced_on text 0 xs part.edits) is.all
    ∙ swapped_all text 0 (whole_text whole) part.edits (whole_text new) swap in
    record {
      back = sheet_of d.part;
      is_read = (
        d.part,
        (new, record { before = is.before; value = v.valid; after = is.after; all = now }, d.is),
        refl,
      );
      points = points_again part images fit d.part.paths d.drawn_are;
      heights = heights_again part images fit d.part.paths d.drawn_are;
      paths = rows_again part images fit d.part.paths d.drawn_are;
      exact_all = d.exact_all;
    }

part_again : (exact : Bool) (bytes : List ℕ) (part : Part) (images : Runs) (whole : Whole) → IsWhole DEEPEST whole bytes
    → layer_reading exact whole ≡ Ok part → DoFit (sheet_of part) images
    → IsReadAgain (IsGeoJsonReadAs exact) (splice_of bytes (geojson_edit_text (sheet_of part) images) part.edits)
    (sheet_of part) images
part_again exact bytes part images whole is read fit =
    let start = whole_start whole in
    let fine = value_fine whole.value exact (forms.Object holders.Layer) 0 start part read in
    whole_again exact bytes part images whole is read fit
    (value_turned exact (geojson_edit_text (sheet_of part) images) (path_positions (rows_from 0 part.paths) images)
    (texts_say part images fit) whole.value (forms.Object holders.Layer) 0 start DEEPEST part (omega arith) is.value
    read
    (sheet_suits part images fit fine.sound))

read_again : (exact : Bool) (bytes : List ℕ) (sheet : Contents) (images : Runs) → IsGeoJsonReadAs exact bytes sheet
    → DoFit sheet images
    → IsReadAgain (IsGeoJsonReadAs exact) (splice_of bytes (geojson_edit_text sheet images) sheet.edits) sheet images
read_again exact bytes sheet images (part, (whole, text, read), same) fit =
    subst (λ (s : Contents). IsReadAgain (IsGeoJsonReadAs exact) (splice_of bytes (geojson_edit_text s images) s.edits) s
    images)
    (sym same) (part_again exact bytes part images whole text read
    (subst (λ (s : Contents). DoFit s images) same fit))

pub reads_back : (exact : Bool) (bytes : List ℕ) (sheet : Contents) (images : Runs) → IsGeoJsonReadAs exact bytes sheet
    → DoFit sheet images
    → IsReadBack (IsGeoJsonReadAs exact) AreTheSame sheet images
    (splice_of bytes (geojson_edit_text sheet images) sheet.edits)
reads_back exact bytes sheet images is fit = grind (arith, read_back, read_again)
