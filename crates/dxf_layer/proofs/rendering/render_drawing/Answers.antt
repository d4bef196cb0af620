-- Answers to the goals of `render_drawing` in src/rendering.rt.
use Rattle.std.proofs.Common.{◌≡◌, List, sym, subst}
use Rattle.std.specs.Prelude.{IfOk, Result}
use Rattle.sheet_base.specs.Splices.{splice_of, DoKeep}
use Rattle.sheet_base.proofs.SpliceLaws.{if_ok_more, splices_keep}
use Rattle.dxf_pairs.specs.declared.faults.PairFault.{PairFault}
use Rattle.dxf_pairs.specs.declared.pairs.Pair.{Pair}
use Rattle.dxf_copies.specs.Rendering.{text_by, text_of, drawing_text}
use Rattle.dxf_layer.proofs.EntityWalks.WalkedSheets.{sheet_in_order}
use Rattle.dxf_layer.proofs.rendering.render_drawing.Goals as goal

pub render_page-requires-clause-order : goal.render_page-requires-clause-order
render_page-requires-clause-order c =
    sheet_in_order c.args.bytes.now c.args.how c.in-Ok.pairs.items c.args.sheet.now c.in-Ok.ensures.tile
    c.in-Ok.ensures.ok c.requires.sheet

pub returns-in-Ok : goal.returns-in-Ok
returns-in-Ok c =
    let bytes = c.args.bytes.now in
    let sheet = c.args.sheet.now in
    let images = c.args.images.now in
    let made = subst (λ (pairs : List Pair). IfOk c.render_page.result
    (λ out. out.items ≡ splice_of bytes (text_of
    (record { bytes = bytes; pairs = pairs; sheet = sheet; images = images })) sheet.edits))
    c.deref.ensures.value c.render_page.ensures in
    let whole = subst (λ (found : Result (List Pair) PairFault). IfOk c.render_page.result
    (λ out. out.items ≡ splice_of bytes (text_by found bytes sheet images) sheet.edits)) (sym c.in-Ok.ensures.ok)
    made in
    record {
      spliced = whole;
      rest = if_ok_more c.render_page.result (λ out. out.items
          ≡ splice_of bytes (drawing_text bytes sheet images) sheet.edits)
          (λ out. DoKeep bytes 0 sheet.edits out.items)
          (λ out is. subst (DoKeep bytes 0 sheet.edits) (sym is)
          (splices_keep bytes (drawing_text bytes sheet images) sheet.edits)) whole;
    }
