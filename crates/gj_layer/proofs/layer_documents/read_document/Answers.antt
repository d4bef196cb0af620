-- Answers to the goals of `read_document` in src/layer_documents.rt.
use Rattle.std.proofs.Common.{◌≡◌, ◌∙◌, arith}
use Rattle.jtext.specs.Places.{whole_start}
use Rattle.jtext.proofs.CallerLemmas.NodePlaces.{reading_stands}
use Rattle.gj_layer.specs.Paths.{sheet_of}
use Rattle.gj_layer.specs.Layers.{layer_reading}
use Rattle.sheet_base.proofs.HandedOn.{passed_on}
use Rattle.gj_layer.proofs.OpenObjects.AnswerLaws.{give_fault}
use Rattle.gj_layer.proofs.OpenObjects.OpenWalks.{within_nodes}
use Rattle.gj_layer.proofs.OpenObjects.Documents.{begins, held_sheet, held_is_sheet}
use Rattle.gj_layer.proofs.layer_documents.read_document.Goals as goal

pub node_at-requires : goal.node_at-requires
node_at-requires c =
    let (whole, reading) = c.requires.read in
    within_nodes c.args.doc.now.nodes c.args.bytes.now 0 (whole_start whole) whole.value
    (reading_stands whole c.args.doc.now c.args.bytes.now reading)

pub read_all-requires-clause-going : goal.read_all-requires-clause-going
read_all-requires-clause-going c =
    let (whole, reading) = c.requires.read in (
      layer_reading c.args.exact whole,
      rw (c.in_ok-push.ensures.ok, c.none-frames.ensures)
          (begins c.args.doc.now c.args.bytes.now c.args.exact whole c.node_at.result c.in_ok-pass.pass reading
          c.node_at.ensures c.in_ok-pass.ensures.holds),
    )

pub returns-in_err-read_all : goal.returns-in_err-read_all
returns-in_err-read_all c whole reading =
    let fault = c.in_err-read_all.field-0.0 in
    give_fault (λ sheet part. sheet ≡ sheet_of part) c.from_residual-in_err-read_all.result
    (layer_reading c.args.exact whole) fault
    (passed_on fault c.from_residual-in_err-read_all.result c.from_residual-in_err-read_all.ensures.1)
    (c.in_err-read_all.ensures.reads (layer_reading c.args.exact whole)
    (rw (c.in_ok-push.ensures.ok, c.none-frames.ensures)
    (begins c.args.doc.now c.args.bytes.now c.args.exact whole c.node_at.result c.in_ok-pass.pass reading
    c.node_at.ensures c.in_ok-pass.ensures.holds)))

pub of-requires-4 : goal.of-requires-4
of-requires-4 c =
    let (whole, reading) = c.requires.read in
    let (part, read, held) = c.in_ok-read_all.ensures.reads (layer_reading c.args.exact whole)
    (rw (c.in_ok-push.ensures.ok, c.none-frames.ensures)
    (begins c.args.doc.now c.args.bytes.now c.args.exact whole c.node_at.result c.in_ok-pass.pass reading
    c.node_at.ensures c.in_ok-pass.ensures.holds)) in
    rw (c.of.ensures, c.of-2.ensures, c.of-3.ensures)
    (held_is_sheet c.read_all.new.pass part c.args.exact whole held read
    (omega (arith, c.in_ok-read_all.ensures.room.points)))

pub returns : goal.returns
returns c whole reading =
    let (part, read, held) = c.in_ok-read_all.ensures.reads (layer_reading c.args.exact whole)
    (rw (c.in_ok-push.ensures.ok, c.none-frames.ensures)
    (begins c.args.doc.now c.args.bytes.now c.args.exact whole c.node_at.result c.in_ok-pass.pass reading
    c.node_at.ensures c.in_ok-pass.ensures.holds)) in (
      part,
      read,
      c.of-4.ensures ∙ rw (c.of.ensures, c.of-2.ensures, c.of-3.ensures)
          (held_sheet c.read_all.new.pass part held),
    )
