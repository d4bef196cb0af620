-- Answers to the goals of `carry_kept` in src/layers.rt.
use Rattle.std.proofs.Common.{◌≡◌, List, ℕ, length, length-append, drop, vec_len, ap, sym, ◌∙◌, subst, arith}
use Rattle.tin_base.specs.declared.pieces.Piece.{Piece}
use Rattle.sheet_base.specs.declared.faults.LayerFault.TheVariants.{NoMemory}
use Rattle.carry_map.specs.declared.faults.CarryFault.TheVariants.{Layer, Outside, TooMany}
use Rattle.carry_map.specs.Layers.{IsBackAsPieces}
use Rattle.carry_map.proofs.ErrorExits.{handed_on}
use Rattle.carry_map.proofs.PlacedSheets.{sheet_placed}
use Rattle.carry_map.proofs.layers.carry_kept.Goals as goal

pub returns-clause-carried : goal.returns-clause-carried
returns-clause-carried g c =
    let written = c.in_ok-text.ensures.written in
    let grown = ap (λ (ps : List Piece). length ps) written.stand
    ∙ length-append c.args.pieces.now.items written.own in
    let old : length c.args.pieces.now.items ≡ c.len-before.result = omega arith in
    let new : length c.carry_sheet.new.pieces.items ≡ c.len.result = omega arith in
    record {
      sheet = c.in_ok-sheet.sheet;
      read = c.in_ok-sheet.ensures.sheet;
      inside = written.inside;
      edits = c.in_ok-sheet.ensures.edits;
      images = c.in_ok-text.images;
      are_images = written.are_images;
      fit = written.fit;
      text_is = c.carried_of.ensures.text ∙ written.text_is;
      own = written.own;
      are_pieces = written.are_pieces;
      stand = written.stand;
      paths = c.carried_of.ensures.paths;
      segments = c.carried_of.ensures.segments;
      pieces = omega (arith, grown, old, new, c.carried_of.ensures.pieces);
      inexact = c.carried_of.ensures.inexact;
      dropped = c.carried_of.ensures.dropped;
    }

pub returns-clause-back : goal.returns-clause-back
returns-clause-back g c =
    subst (λ (text : List ℕ). IsBackAsPieces c.args.index.now c.args.bytes.now (g.L.Layer.reads c.args.how)
    (g.L.Layer.reads_back c.args.how c.args.bytes.now) text
    (drop (vec_len c.args.pieces.now) c.carry_sheet.new.pieces.items)) (sym c.carried_of.ensures.text)
    c.in_ok-text.ensures.back

-- the layer is not read
pub returns-in_err-sheet-clause-layer : goal.returns-in_err-sheet-clause-layer
returns-in_err-sheet-clause-layer g c = λ fault is.
    c.in_err-sheet.ensures.layer fault (handed_on c.in_err-sheet.field-0.0 (Layer fault)
    c.from_residual.result c.from_residual.ensures.1 is)

pub returns-in_err-sheet-clause-memory : goal.returns-in_err-sheet-clause-memory
returns-in_err-sheet-clause-memory g c = λ is.
    c.in_err-sheet.ensures.memory (handed_on c.in_err-sheet.field-0.0 (Layer NoMemory)
    c.from_residual.result c.from_residual.ensures.1 is)

pub returns-in_err-sheet-clause-outside : goal.returns-in_err-sheet-clause-outside
returns-in_err-sheet-clause-outside g c = λ path segment is.
    absurd (c.in_err-sheet.ensures.outside path segment (handed_on c.in_err-sheet.field-0.0 (Outside path segment)
    c.from_residual.result c.from_residual.ensures.1 is))

pub returns-in_err-sheet-clause-too_many : goal.returns-in_err-sheet-clause-too_many
returns-in_err-sheet-clause-too_many g c = λ is.
    absurd (c.in_err-sheet.ensures.too_many (handed_on c.in_err-sheet.field-0.0 TooMany
    c.from_residual.result c.from_residual.ensures.1 is))

-- its sheet is not carried
pub returns-in_err-text-clause-layer : goal.returns-in_err-text-clause-layer
returns-in_err-text-clause-layer g c = λ fault is.
    absurd (c.in_err-text.ensures.no_layer fault (handed_on c.in_err-text.field-0.0 (Layer fault)
    c.from_residual-in_err-text.result c.from_residual-in_err-text.ensures.1 is))

pub returns-in_err-text-clause-memory : goal.returns-in_err-text-clause-memory
returns-in_err-text-clause-memory g c = λ is.
    c.in_err-text.ensures.no_layer NoMemory (handed_on c.in_err-text.field-0.0 (Layer NoMemory)
    c.from_residual-in_err-text.result c.from_residual-in_err-text.ensures.1 is)

pub returns-in_err-text-clause-outside : goal.returns-in_err-text-clause-outside
returns-in_err-text-clause-outside g c = λ path segment is. (
  c.in_ok-sheet.sheet,
  c.in_ok-sheet.ensures.sheet,
  c.in_err-text.ensures.outside path segment
      (handed_on c.in_err-text.field-0.0 (Outside path segment) c.from_residual-in_err-text.result
      c.from_residual-in_err-text.ensures.1 is),
)

pub returns-in_err-text-clause-too_many : goal.returns-in_err-text-clause-too_many
returns-in_err-text-clause-too_many g c = λ is. (
  c.in_ok-sheet.sheet,
  c.in_ok-sheet.ensures.sheet,
  c.in_err-text.ensures.too_many
      (handed_on c.in_err-text.field-0.0 TooMany c.from_residual-in_err-text.result
      c.from_residual-in_err-text.ensures.1 is),
)

pub returns-clause-kept : goal.returns-clause-kept
returns-clause-kept g c =
    let written = c.in_ok-text.ensures.written in
    record {
      read = c.in_ok-sheet.ensures.sheet;
      inside = written.inside;
      are_images = written.are_images;
      fit = written.fit;
    }

pub returns-clause-placed : goal.returns-clause-placed
returns-clause-placed g c =
    let written = c.in_ok-text.ensures.written in
    sheet_placed c.args.index.now c.in_ok-sheet.sheet c.in_ok-text.images c.recall.ensures written.are_images
    written.fit c.in_ok-text.ensures.few
