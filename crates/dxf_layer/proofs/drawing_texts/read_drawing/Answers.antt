-- Answers to the goals of `read_drawing` in src/drawing_texts.rt.
use Rattle.std.proofs.Common.{◌≡◌, ◌∙◌, ap, arith}
use Rattle.std.proofs.lemmas.List.Elements.{All-from_recursion}
use Rattle.sheet_base.specs.Sheets.{Contents}
use Rattle.sheet_base.specs.PointHeights.{IsHeightWithinReach}
use Rattle.dxf_layer.specs.InsideEditOrder.{in_order}
use Rattle.dxf_entities.specs.DrawingContents.{contents_of}
use Rattle.dxf_layer.proofs.SheetEdits.SheetOrder.{few_pairs, read_whole}
use Rattle.dxf_layer.specs.Drawings.{drawing_sheet}
use Rattle.dxf_layer.proofs.EntityWalks.WalkedSheets.{code_read, code_refused, fault_on}
use Rattle.dxf_layer.proofs.drawing_texts.read_drawing.Goals as goal

pub read_entities-requires-clause-few : goal.read_entities-requires-clause-few
read_entities-requires-clause-few c = rw c.deref-2.ensures.value
    (omega (arith, few_pairs c.args.bytes.now c.in-Ok.pairs.items c.in-Ok.ensures.tile, c.requires))

pub of-requires-4 : goal.of-requires-4
of-requires-4 c =
    let made = read_whole c.args.bytes.now c.args.how c.in-Ok.pairs.items c.deref.result.now c.deref-2.result.now
    c.seed_of-seed.result (contents_of c.in_ok-drawing.drawing) (contents_of c.read_entities.new.drawing)
    c.in-Ok.ensures.tile c.deref.ensures.value c.deref-2.ensures.value c.seed_of-seed.ensures c.in_ok-drawing.ensures
    c.in_ok-read_entities.ensures.reads in
    let heights = made.2 in rw (c.of.ensures, c.of-2.ensures) (record {
      tiled = made.0;
      few = omega (arith, c.in_ok-read_entities.ensures.room.points);
      one_height_each = heights.each;
      heights_in_reach = All-from_recursion IsHeightWithinReach (contents_of c.read_entities.new.drawing).heights
          heights.reached;
    })

pub returns-clause-edits : goal.returns-clause-edits
returns-clause-edits c =
    let made = read_whole c.args.bytes.now c.args.how c.in-Ok.pairs.items c.deref.result.now c.deref-2.result.now
    c.seed_of-seed.result (contents_of c.in_ok-drawing.drawing) (contents_of c.read_entities.new.drawing)
    c.in-Ok.ensures.tile c.deref.ensures.value c.deref-2.ensures.value c.seed_of-seed.ensures c.in_ok-drawing.ensures
    c.in_ok-read_entities.ensures.reads in
    let edits : c.of-4.result.edits ≡ in_order (contents_of c.read_entities.new.drawing).edits =
    ap (λ (s : Contents). s.edits) c.of-4.ensures ∙ (c.of-3.ensures ∙ c.in_order-edits.ensures) in rw edits made.1

pub returns-clause-sheet : goal.returns-clause-sheet
returns-clause-sheet c = rw (c.of-4.ensures, c.of.ensures, c.of-2.ensures, c.of-3.ensures, c.in_order-edits.ensures)
    (code_read c.args.bytes.now c.args.how c.in-Ok.pairs.items c.deref.result.now c.deref-2.result.now
    c.seed_of-seed.result (contents_of c.in_ok-drawing.drawing) (contents_of c.read_entities.new.drawing)
    c.in-Ok.ensures.tile c.in-Ok.ensures.ok c.deref.ensures.value c.deref-2.ensures.value c.seed_of-seed.ensures
    c.in_ok-drawing.ensures c.in_ok-read_entities.ensures.reads)

pub returns-in_err-read_entities-clause-refused : goal.returns-in_err-read_entities-clause-refused
returns-in_err-read_entities-clause-refused c =
    let fault = c.in_err-read_entities.field-0.0 in
    fault_on (drawing_sheet c.args.how c.args.bytes.now) fault c.from_residual-in_err-read_entities.result
    c.from_residual-in_err-read_entities.ensures.1
    (λ memory. code_refused c.args.bytes.now c.args.how c.in-Ok.pairs.items c.deref.result.now c.deref-2.result.now
    c.seed_of-seed.result fault c.in-Ok.ensures.ok c.deref.ensures.value c.deref-2.ensures.value
    c.seed_of-seed.ensures (c.in_err-read_entities.ensures.reads memory))
