-- Answers to the goals of `Wkt::render`, a call of the trait `Layer`, in src/layer.rt.
use Rattle.std.proofs.Common.{List, ℕ, length, sym, subst}
use Rattle.sheet_base.specs.declared.edits.Edit.{Edit}
use Rattle.sheet_base.specs.Splices.{AreInOrder}
use Rattle.sheet_base.specs.ReadBack.{AreTheSame, IsReadBack}
use Rattle.sheet_base.proofs.WrittenLayers.{holds_written, rest_written}
use Rattle.wkt_layer.specs.Layers.{IsWktReadAs}
use Rattle.wkt_layer.specs.Texts.{wkt_edit_text}
use Rattle.wkt_layer.proofs.SheetLaws.EditOrder.{read_in_order}
use Rattle.wkt_layer.proofs.WrittenLayers.ReadingBack.{reads_back}
use Rattle.wkt_layer.proofs.layer.WktLayer.render.Goals as goal

pub splice-requires : goal.splice-requires
splice-requires c =
    subst (λ (edits : List Edit). AreInOrder 0 edits (length c.args.bytes.now)) (sym c.edits.ensures)
    (read_in_order c.args.how.exact c.args.bytes.now c.args.sheet.now c.requires.sheet)

pub returns-clause-rest : goal.returns-clause-rest
returns-clause-rest c =
    rest_written c.splice.result (λ out. out.items) c.args.bytes.now (wkt_edit_text c.args.sheet.now c.args.images.now)
    c.edits.result.now c.args.sheet.now.edits c.edits.ensures c.splice.ensures

pub returns-clause-back : goal.returns-clause-back
returns-clause-back c =
    holds_written c.splice.result (λ out. out.items) c.args.bytes.now (wkt_edit_text c.args.sheet.now c.args.images.now)
    c.edits.result.now c.args.sheet.now.edits c.edits.ensures c.splice.ensures
    (λ (out : List ℕ). Unit {0} → IsReadBack (IsWktReadAs c.args.how.exact) AreTheSame c.args.sheet.now
    c.args.images.now out)
    (λ _. reads_back c.args.how.exact c.args.bytes.now c.args.sheet.now c.args.images.now c.requires.sheet
    c.requires.fits)
