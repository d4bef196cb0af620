-- Answers to the goals of `DxfLayer::render` in src/layer.rt.
use Rattle.std.proofs.Common.{◌≡◌, sym, subst, Ok}
use Rattle.sheet_base.specs.Splices.{splice_of}
use Rattle.sheet_base.specs.ReadBack.{IsReadBack}
use Rattle.sheet_base.proofs.SpliceLaws.{if_ok_more}
use Rattle.dxf_layer.specs.Drawings.{drawing_sheet}
use Rattle.dxf_copies.specs.Rendering.{drawing_text}
use Rattle.dxf_layer.specs.ReadBack.{DoesReadBack}
use Rattle.dxf_copies.specs.LevelEnds.{AreReadAgain}
use Rattle.dxf_layer.proofs.layer.DxfLayer.render.Goals as goal

pub returns-clause-back : goal.returns-clause-back
returns-clause-back c = if_ok_more c.render_drawing.result (λ out. out.items
    ≡ splice_of c.args.bytes.now (drawing_text c.args.bytes.now c.args.sheet.now c.args.images.now)
    c.args.sheet.now.edits)
    (λ out. DoesReadBack c.args.how c.args.bytes.now c.args.sheet.now c.args.images.now
    → IsReadBack (λ text back. drawing_sheet c.args.how text ≡ Ok back) AreReadAgain c.args.sheet.now
    c.args.images.now
    out.items)
    (λ out is short. subst (IsReadBack (λ text back. drawing_sheet c.args.how text ≡ Ok back)
    AreReadAgain c.args.sheet.now
    c.args.images.now) (sym is)
    (c.drawings_read_back.ensures c.args.how c.args.bytes.now c.args.sheet.now c.args.images.now c.requires.sheet
    c.requires.fits short))
    c.render_drawing.ensures.spliced
