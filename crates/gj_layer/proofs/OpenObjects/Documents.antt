-- A whole document, from its value on.
use Rattle.std.proofs.Common.{◌≡◌, ℕ, ◌+◌, ◌<◌, ◌^◌, List, [], ◌∷◌, ◌++◌, length, refl, sym, ap, ◌∙◌, subst, arith}
use Rattle.std.proofs.Common.{append-nil, length-append, Bool}
use Rattle.std.specs.Prelude.{Some, None, Result, Ok, Err, IfOk, slice_get}
use Rattle.jtext.specs.Texts.{Whole, IsWhole, mark_text}
use Rattle.jtext.specs.Values.{spelling}
use Rattle.jtext.specs.declared.json_texts.TheConstants.{DEEPEST}
use Rattle.sheet_base.specs.PointHeights.{points_of}
use Rattle.sheet_base.specs.Splices.{AreInOrder}
use Rattle.jtext.specs.Places.{IsDocOf, HasNodesAt, whole_start}
use Rattle.jtext.specs.Nodes.{node_count}
use Rattle.jtext.specs.declared.document.Doc.{Doc}
use Rattle.jtext.specs.declared.document.Node.{Node}
use Rattle.jtext.proofs.CallerLemmas.NodePlaces.{reading_stands}
use Rattle.sheet_base.specs.declared.faults.LayerFault.{LayerFault}
use Rattle.sheet_base.specs.Sheets.{Contents, IsSheet}
use Rattle.gj_layer.specs.declared.forms.Holder.TheVariants as holders
use Rattle.gj_layer.specs.declared.forms.ValueForm.TheVariants as forms
use Rattle.gj_layer.specs.declared.pass.PathsRead.{PathsRead}
use Rattle.gj_layer.specs.Paths.{Part, nothing, vertices_of, sheet_of}
use Rattle.gj_layer.specs.Layers.{layer_reading, IsGeoJsonReadAs}
use Rattle.gj_layer.specs.InsideNodes.{Gives, Holds}
use Rattle.gj_layer.specs.InsideFrames.{Going}
use Rattle.gj_layer.proofs.Members.There.{first_is}
use Rattle.gj_layer.proofs.OpenObjects.OpenValues.{alone, alone_read, ok_same}
use Rattle.gj_layer.proofs.OpenObjects.Fine.{value_fine, part_is_sheet, order_wider}

-- the frame of the whole value
pub begins : (doc : Doc) (bytes : List ℕ) (exact : Bool) (whole : Whole) (node : Node) (pass : PathsRead)
    → IsDocOf whole doc bytes → slice_get doc.nodes 0 ≡ Some node → Holds pass nothing
    → Going exact doc.nodes bytes (record { form = forms.Object holders.Layer; at = 0; end = node.next; ending = None }
    ∷ []) pass (layer_reading exact whole)
begins doc bytes exact whole node pass reading got held =
    let start = whole_start whole in
    let h = reading_stands whole doc bytes reading in
    let next = ap (λ (n : Node). n.next) (first_is doc.nodes bytes 0 start whole.value node h got) in
    let here : start ≡ start + 0 = omega arith in
    let count : 0 + node_count whole.value ≡ node.next = sym next in (
      record {
        form = forms.Object holders.Layer;
        number = 0;
        next = 0;
        place = start;
        rest = alone whole.value;
        own =
            None;
        done = nothing;
      },
      [],
      record {
        form_is = refl;
        left = (subst (λ n. HasNodesAt doc.nodes bytes 0 n whole.value) here h, count);
        ending_is = tt;
        number_is = refl;
        next_is = refl;
        bare = λ is. absurd is;
      },
      tt,
      held,
      sym (alone_read exact (forms.Object holders.Layer) 0 start whole.value) ∙ sym (ok_same _),
    )

-- what is held is the sheet
abbrev pub sheet_held : PathsRead → Contents
sheet_held pass = record {
  paths = pass.paths.items;
  points = pass.points.items;
  heights = pass.heights;
  edits = pass.edits.items;
  inexact = pass.inexact;
  dropped = 0;
}

pub held_sheet : (pass : PathsRead) (part : Part) → Holds pass part → sheet_held pass ≡ sheet_of part
held_sheet pass part held = grind (arith, append-nil)

pub held_is_sheet : (pass : PathsRead) (part : Part) (exact : Bool) (whole : Whole) → Holds pass part
    → layer_reading exact whole ≡ Ok part → length pass.points.items < 2 ^ 32 → IsSheet (sheet_held pass)
held_is_sheet pass part exact whole held read few =
    let fine = value_fine whole.value exact (forms.Object holders.Layer) 0 (whole_start whole) part read in
    let points : pass.points.items ≡ (sheet_of part).points = held.points_are
    ∙ ap points_of (append-nil (vertices_of part.paths)) in
    subst IsSheet (sym (held_sheet pass part held))
    (part_is_sheet part fine.sound (subst (λ ps. length ps < 2 ^ 32) points few))

-- the edits of a layer that is read are in order inside it
pub read_in_order : (exact : Bool) (bytes : List ℕ) (sheet : Contents) → IsGeoJsonReadAs exact bytes sheet
    → AreInOrder 0 sheet.edits (length bytes)
read_in_order exact bytes sheet (part, (whole, text, read), is) =
    let start = whole_start whole in
    let fine = value_fine whole.value exact (forms.Object holders.Layer) 0 start part read in
    let mark = length-append (mark_text whole.marked) (whole.before ++ (spelling whole.value ++ whole.after)) in
    let before = length-append whole.before (spelling whole.value ++ whole.after) in
    let value = length-append (spelling whole.value) whole.after in
    let long = ap length text.all in
    subst (λ (s : Contents). AreInOrder 0 s.edits (length bytes)) (sym is)
    (order_wider start (start + length (spelling whole.value)) part.edits 0 (length bytes) (omega arith)
    (omega (arith, long, mark, before, value)) fine.order)

answer_ok : (exact : Bool) (bytes : List ℕ) (whole : Whole) (sheet : Contents) → IsWhole DEEPEST whole bytes
    → (part : Part) × (layer_reading exact whole ≡ Ok part) × (sheet ≡ sheet_of part)
    → IsGeoJsonReadAs exact bytes sheet
answer_ok exact bytes whole sheet text (part, read, is) = (part, (whole, text, read), is)

pub order_given : (exact : Bool) (bytes : List ℕ) (whole : Whole) (r : Result Contents LayerFault)
    → IsWhole DEEPEST whole bytes → Gives (λ sheet part. sheet ≡ sheet_of part) r (layer_reading exact whole)
    → IfOk r (λ sheet. AreInOrder 0 sheet.edits (length bytes))
order_given exact bytes whole (Ok sheet) text given =
    read_in_order exact bytes sheet (answer_ok exact bytes whole sheet text given)
order_given exact bytes whole (Err fault) text given = tt
