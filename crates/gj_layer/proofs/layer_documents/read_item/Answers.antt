-- Answers to the goals of `read_item` in src/layer_documents.rt.
use Rattle.std.proofs.Common.{length, ap, ◌∙◌, arith}
use Rattle.gj_layer.specs.Documents.{reading}
use Rattle.gj_layer.proofs.Members.There.{node_there}
use Rattle.sheet_base.proofs.HandedOn.{passed_on}
use Rattle.gj_layer.proofs.OpenObjects.OpenValues.{path_read, takes_fault}
use Rattle.gj_layer.proofs.layer_documents.read_item.Goals as goal

pub open_object-requires-clause-paths : goal.open_object-requires-clause-paths
open_object-requires-clause-paths c =
    let (node, got, s) = node_there c.args.doc.now c.args.bytes.now c.args.value c.requires.read c.requires.node in
    let room = c.requires.room node got in omega (arith, room.paths)

pub read_optional-requires-clause-paths : goal.read_optional-requires-clause-paths
read_optional-requires-clause-paths c =
    let (node, got, s) = node_there c.args.doc.now c.args.bytes.now c.args.value c.requires.read c.requires.node in
    let room = c.requires.room node got in omega (arith, room.paths)

pub returns-in_err-read_path-in-Path-clause-takes : goal.returns-in_err-read_path-in-Path-clause-takes
returns-in_err-read_path-in-Path-clause-takes c start is part h held = grind (arith, takes_fault, passed_on, path_read)

pub returns-in_err-frame-in-List-clause-takes : goal.returns-in_err-frame-in-List-clause-takes
returns-in_err-frame-in-List-clause-takes c start is part h held =
    let nodes = c.args.doc.now.nodes in let bytes = c.args.bytes.now in
    let fault = c.in_err-frame-in-List.field-0.0 in
    takes_fault nodes bytes c.args.exact part _ c.from_residual-in_err-frame-in-List.result
    (reading c.args.exact c.args.form (length part.paths) start is) fault
    (passed_on fault c.from_residual-in_err-frame-in-List.result c.from_residual-in_err-frame-in-List.ensures.1)
    (λ memory. ap (λ f. reading c.args.exact f (length part.paths) start is) c.in-List.is
    ∙ c.in_err-frame-in-List.ensures.opens bytes c.args.exact start is part h)

pub returns-in_ok-frame-in-Object-clause-takes : goal.returns-in_ok-frame-in-Object-clause-takes
returns-in_ok-frame-in-Object-clause-takes c start is part h held =
    let (level, frame, none, whole) = c.in_ok-frame-in-Object.ensures.opens c.args.exact start is part h held in
    ((level, frame, none, ap (λ f. reading c.args.exact f (length part.paths) start is) c.in-Object.is ∙ whole), held)

pub returns-in_ok-read_path-in-Path-clause-takes : goal.returns-in_ok-read_path-in-Path-clause-takes
returns-in_ok-read_path-in-Path-clause-takes c start is part h held =
    let (more, read, holds) = c.in_ok-read_path-in-Path.ensures.path start is part h held in (
      more,
      ap (λ f. reading c.args.exact f (length part.paths) start is) c.in-Path.is
          ∙ path_read c.args.exact c.in-Path.trace (length part.paths) start is ∙ read,
      holds,
    )

pub returns-in_ok-frame-in-List-clause-takes : goal.returns-in_ok-frame-in-List-clause-takes
returns-in_ok-frame-in-List-clause-takes c start is part h held =
    let (level, frame, none, whole) = c.in_ok-frame-in-List.ensures.opens c.args.bytes.now c.args.exact start is part
    h in
    ((level, frame, none, ap (λ f. reading c.args.exact f (length part.paths) start is) c.in-List.is ∙ whole), held)
