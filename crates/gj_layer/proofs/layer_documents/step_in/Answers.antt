-- Answers to the goals of `step_in` in src/layer_documents.rt.
use Rattle.std.proofs.Common.{◌-◌, ◌∷◌, length, arith}
use Rattle.gj_layer.specs.Documents.{reading}
use Rattle.gj_layer.specs.InsideFrames.{left_in}
use Rattle.sheet_base.proofs.HandedOn.{passed_on}
use Rattle.gj_layer.proofs.OpenObjects.OpenWalks.{next_there, room_less, room_grows, goes_fault, within_nodes, node_behind}
use Rattle.gj_layer.proofs.OpenObjects.OpenWalks.{taken_none, taken_some, grows_some, grows_none, within_some}
use Rattle.jtext.proofs.CallerLemmas.NodePlaces.{node_count_positive}
use Rattle.gj_layer.proofs.layer_documents.step_in.Goals as goal

pub node_at-node-requires : goal.node_at-node-requires
node_at-node-requires c =
    let nodes = c.args.doc.now.nodes in let bytes = c.args.bytes.now in
    let (wanted, going) = c.requires.going in
    let next = next_there c.args.exact nodes bytes c.args.frame c.args.frames.now wanted c.requires.within
    c.args.pass.now going in
    within_nodes nodes bytes c.args.frame.at next.start next.value next.stands

pub read_item-requires-clause-node : goal.read_item-requires-clause-node
read_item-requires-clause-node c =
    let nodes = c.args.doc.now.nodes in let bytes = c.args.bytes.now in
    let (wanted, going) = c.requires.going in
    let next = next_there c.args.exact nodes bytes c.args.frame c.args.frames.now wanted c.requires.within
    c.args.pass.now going in
    within_nodes nodes bytes c.args.frame.at next.start next.value next.stands

pub read_item-requires-clause-room : goal.read_item-requires-clause-room
read_item-requires-clause-room c node got =
    let nodes = c.args.doc.now.nodes in let bytes = c.args.bytes.now in
    let (wanted, going) = c.requires.going in
    let next = next_there c.args.exact nodes bytes c.args.frame c.args.frames.now wanted c.requires.within
    c.args.pass.now going in
    let behind = node_behind nodes bytes c.args.frame.at next.start next.value node next.stands got in
    let inside = next.inside in
    room_less c.args.pass.now (left_in (c.args.frame ∷ c.args.frames.now)) (node.next - c.args.frame.at) c.requires.room
    (omega (arith, behind, inside))

pub returns-in_err-inner-clause-goes : goal.returns-in_err-inner-clause-goes
returns-in_err-inner-clause-goes c wanted going =
    let nodes = c.args.doc.now.nodes in let bytes = c.args.bytes.now in
    let fault = c.in_err-inner.field-0.0 in
    let next = next_there c.args.exact nodes bytes c.args.frame c.args.frames.now wanted c.requires.within
    c.args.pass.now going in
    goes_fault c.args.exact nodes bytes c.push.new.self c.read_item.new.pass c.from_residual-in_err-inner.result wanted
    fault
    (passed_on fault c.from_residual-in_err-inner.result c.from_residual-in_err-inner.ensures.1)
    (λ memory. next.refused fault (c.in_err-inner.ensures.takes next.start next.value next.part next.stands next.held
    memory))

pub returns-in_ok-push-in-Some-clause-goes : goal.returns-in_ok-push-in-Some-clause-goes
returns-in_ok-push-in-Some-clause-goes c wanted going =
    let nodes = c.args.doc.now.nodes in let bytes = c.args.bytes.now in
    let next = next_there c.args.exact nodes bytes c.args.frame c.args.frames.now wanted c.requires.within
    c.args.pass.now going in
    let takes = taken_some nodes bytes c.args.exact next.part c.read_item.new.pass c.in_ok-inner.field-0 c.in-Some.inner
    (reading c.args.exact c.args.frame.form (length next.part.paths) next.start next.value) c.in-Some.is
    (c.in_ok-inner.ensures.takes next.start next.value next.part next.stands next.held) in
    rw (c.in_ok-push-in-Some.ensures.ok, c.in_ok-push.ensures.ok)
    (next.opened c.read_item.new.pass c.node_at-node.result c.in-Some.inner c.node_at-node.ensures takes.0 takes.1)

pub returns-in_ok-push-in-Some-clause-room : goal.returns-in_ok-push-in-Some-clause-room
returns-in_ok-push-in-Some-clause-room c =
    let nodes = c.args.doc.now.nodes in let bytes = c.args.bytes.now in let frame = c.args.frame in
    let (wanted, going) = c.requires.going in
    let next = next_there c.args.exact nodes bytes frame c.args.frames.now wanted c.requires.within c.args.pass.now
    going in
    let behind = node_behind nodes bytes frame.at next.start next.value c.node_at-node.result next.stands
    c.node_at-node.ensures in
    let inside = next.inside in
    let within = within_some nodes frame.at c.in_ok-inner.field-0 c.in-Some.inner c.node_at-node.result c.in-Some.is
    c.node_at-node.ensures c.in_ok-inner.ensures.within in
    rw (c.in_ok-push-in-Some.ensures.ok, c.in_ok-push.ensures.ok)
    (room_grows c.args.pass.now c.read_item.new.pass 0 _ (left_in (frame ∷ c.args.frames.now)) c.requires.room
    (grows_some nodes frame.at c.args.pass.now c.read_item.new.pass c.in_ok-inner.field-0 c.in-Some.inner c.in-Some.is
    c.in_ok-inner.ensures.grows)
    (omega (arith, within, behind, inside)))

pub returns-in_ok-push-in-Some-clause-fewer : goal.returns-in_ok-push-in-Some-clause-fewer
returns-in_ok-push-in-Some-clause-fewer c =
    let nodes = c.args.doc.now.nodes in let bytes = c.args.bytes.now in let frame = c.args.frame in
    let (wanted, going) = c.requires.going in
    let next = next_there c.args.exact nodes bytes frame c.args.frames.now wanted c.requires.within c.args.pass.now
    going in
    let behind = node_behind nodes bytes frame.at next.start next.value c.node_at-node.result next.stands
    c.node_at-node.ensures in
    let inside = next.inside in
    let within = within_some nodes frame.at c.in_ok-inner.field-0 c.in-Some.inner c.node_at-node.result c.in-Some.is
    c.node_at-node.ensures c.in_ok-inner.ensures.within in
    rw (c.in_ok-push-in-Some.ensures.ok, c.in_ok-push.ensures.ok) (omega (arith, within, behind, inside))

pub returns-in-None-clause-goes : goal.returns-in-None-clause-goes
returns-in-None-clause-goes c wanted going =
    let nodes = c.args.doc.now.nodes in let bytes = c.args.bytes.now in
    let next = next_there c.args.exact nodes bytes c.args.frame c.args.frames.now wanted c.requires.within
    c.args.pass.now going in
    let (more, read, holds) = taken_none nodes bytes c.args.exact next.part c.read_item.new.pass c.in_ok-inner.field-0
    (reading c.args.exact c.args.frame.form (length next.part.paths) next.start next.value) c.in-None.is
    (c.in_ok-inner.ensures.takes next.start next.value next.part next.stands next.held) in
    rw c.in_ok-push.ensures.ok (next.read c.read_item.new.pass c.node_at-node.result more c.node_at-node.ensures read
    holds)

pub returns-in-None-clause-room : goal.returns-in-None-clause-room
returns-in-None-clause-room c =
    let nodes = c.args.doc.now.nodes in let bytes = c.args.bytes.now in let frame = c.args.frame in
    let (wanted, going) = c.requires.going in
    let next = next_there c.args.exact nodes bytes frame c.args.frames.now wanted c.requires.within c.args.pass.now
    going in
    let behind = node_behind nodes bytes frame.at next.start next.value c.node_at-node.result next.stands
    c.node_at-node.ensures in
    let inside = next.inside in
    rw c.in_ok-push.ensures.ok
    (room_grows c.args.pass.now c.read_item.new.pass (c.node_at-node.result.next - frame.at) _
    (left_in (frame ∷ c.args.frames.now)) c.requires.room
    (grows_none nodes frame.at c.args.pass.now c.read_item.new.pass c.in_ok-inner.field-0 c.node_at-node.result
    c.in-None.is c.node_at-node.ensures c.in_ok-inner.ensures.grows)
    (omega (arith, behind, inside)))

pub returns-in-None-clause-fewer : goal.returns-in-None-clause-fewer
returns-in-None-clause-fewer c =
    let nodes = c.args.doc.now.nodes in let bytes = c.args.bytes.now in let frame = c.args.frame in
    let (wanted, going) = c.requires.going in
    let next = next_there c.args.exact nodes bytes frame c.args.frames.now wanted c.requires.within c.args.pass.now
    going in
    let behind = node_behind nodes bytes frame.at next.start next.value c.node_at-node.result next.stands
    c.node_at-node.ensures in
    let inside = next.inside in
    let some = node_count_positive next.value in
    rw c.in_ok-push.ensures.ok (omega (arith, behind, inside, some))
