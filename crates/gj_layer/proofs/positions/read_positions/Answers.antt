-- Answers to the goals of `read_positions` in src/positions.rt.
use Rattle.std.proofs.Common.{◌+◌, [], ◌∷◌, length-append, refl, arith}
use Rattle.std.specs.Prelude.{Ok, Err}
use Rattle.std.proofs.lemmas.Bool.{eqb-true, eq-eqb}
use Rattle.jtext.specs.Nodes.{inner_place}
use Rattle.jtext.specs.declared.document.Kind.TheVariants as kinds
use Rattle.gj_layer.specs.Positions.{positions}
use Rattle.gj_layer.specs.InsideNodes.{IsRun}
use Rattle.gj_layer.proofs.Members.There.{seen, kind_within, array_left, array_there}
use Rattle.sheet_base.proofs.HandedOn.{passed_on}
use Rattle.gj_layer.proofs.OpenObjects.AnswerLaws.{give_fault}
use Rattle.gj_layer.proofs.Coordinates.Runs.{walk_begins, next_is, walk_within, walk_ends}
use Rattle.gj_layer.proofs.positions.read_positions.Goals as goal

pub overflow_add-at : goal.overflow_add-at
overflow_add-at c =
    let s = seen c.args.doc.now c.args.bytes.now c.args.array c.node_at-end.result c.requires.read
    (kind_within c.args.doc.now.nodes c.args.array kinds.Array c.requires.kind) c.node_at-end.ensures in
    omega (arith, s.onward, c.node_at-end.type_inv)

pub loop-at-init : goal.loop-at-init
loop-at-init c =
    let s = seen c.args.doc.now c.args.bytes.now c.args.array c.node_at-end.result c.requires.read
    (kind_within c.args.doc.now.nodes c.args.array kinds.Array c.requires.kind) c.node_at-end.ensures in
    record {
      begun = omega arith;
      within = omega (arith, s.onward);
      more = omega arith;
      points = omega arith;
      heights = omega arith;
      lost = omega arith;
      walked = λ start blank elements h.
          walk_begins c.args.doc.now.nodes c.args.bytes.now c.args.exact c.node_at-end.result.next
          (inner_place start blank) elements (c.args.array + 1) c.args.points.now.items c.args.heights.now
          (record { start = 0; end = 0; lost = 0 }) refl
          (array_left c.args.doc.now.nodes c.args.bytes.now c.args.array start blank elements c.node_at-end.result h
          c.node_at-end.ensures);
    }

pub read_position-requires-clause-node : goal.read_position-requires-clause-node
read_position-requires-clause-node c =
    let s = seen c.args.doc.now c.args.bytes.now c.args.array c.node_at-end.result c.requires.read
    (kind_within c.args.doc.now.nodes c.args.array kinds.Array c.requires.kind) c.node_at-end.ensures in
    omega (arith, s.inside, c.loop-at-test.true)

pub push-requires-in-loop-at : goal.push-requires-in-loop-at
push-requires-in-loop-at c =
    omega (
      arith,
      c.requires.room c.node_at-end.result c.node_at-end.ensures,
      c.loop-at.invariant.heights,
      c.loop-at.invariant.begun,
      c.loop-at-test.true,
    )

pub node_at-at-requires : goal.node_at-at-requires
node_at-at-requires c =
    let s = seen c.args.doc.now c.args.bytes.now c.args.array c.node_at-end.result c.requires.read
    (kind_within c.args.doc.now.nodes c.args.array kinds.Array c.requires.kind) c.node_at-end.ensures in
    omega (arith, s.inside, c.loop-at-test.true)

pub returns-in_err-position-clause-run : goal.returns-in_err-position-clause-run
returns-in_err-position-clause-run c start blank elements h =
    let all = positions c.args.exact (inner_place start blank) elements in
    let fault = c.in_err-position.field-0.0 in
    give_fault (IsRun c.args.points.now.items c.loop-at.points.items c.args.heights.now c.loop-at.heights)
    c.from_residual.result all fault
    (passed_on fault c.from_residual.result c.from_residual.ensures.1)
    (λ _. (next_is c.args.doc.now.nodes c.args.bytes.now c.args.exact all (c.args.array + 1) c.loop-at.at
    c.node_at-end.result.next
    c.args.points.now.items c.loop-at.points.items c.args.heights.now c.loop-at.heights c.loop-at.run
    (c.loop-at.invariant.walked start blank elements h)
    c.loop-at-test.true
    (Err fault) c.in_err-position.ensures).fault fault refl)

pub loop-at-smaller : goal.loop-at-smaller
loop-at-smaller c =
    let s = seen c.args.doc.now c.args.bytes.now c.loop-at.at c.node_at-at.result c.requires.read
    (let t = seen c.args.doc.now c.args.bytes.now c.args.array c.node_at-end.result c.requires.read
    (kind_within c.args.doc.now.nodes c.args.array kinds.Array c.requires.kind) c.node_at-end.ensures in
    omega (arith, t.inside, c.loop-at-test.true)) c.node_at-at.ensures in
    omega (arith, s.onward, c.loop-at-test.true)

pub loop-at-preserved : goal.loop-at-preserved
loop-at-preserved c =
    let t = seen c.args.doc.now c.args.bytes.now c.args.array c.node_at-end.result c.requires.read
    (kind_within c.args.doc.now.nodes c.args.array kinds.Array c.requires.kind) c.node_at-end.ensures in
    let s = seen c.args.doc.now c.args.bytes.now c.loop-at.at c.node_at-at.result c.requires.read
    (omega (arith, t.inside, c.loop-at-test.true)) c.node_at-at.ensures in
    let size = length-append c.loop-at.points.items (c.point_of.result ∷ []) in
    let high = length-append c.loop-at.heights (c.height_of.result ∷ []) in
    let (array_start, array_blank, array_elements, there) =
    array_there c.args.doc.now c.args.bytes.now c.args.array c.requires.read c.requires.kind in
    let left_here = walk_within c.args.doc.now.nodes c.args.bytes.now c.args.exact
    (positions c.args.exact (inner_place array_start array_blank) array_elements) (c.args.array + 1) c.loop-at.at
    c.node_at-end.result.next c.args.points.now.items c.loop-at.points.items c.args.heights.now c.loop-at.heights
    c.loop-at.run
    (c.loop-at.invariant.walked array_start array_blank array_elements there) c.loop-at-test.true
    c.node_at-at.result c.node_at-at.ensures in
    record {
      begun = omega (arith, s.onward, c.loop-at.invariant.begun);
      within = left_here;
      more = rw c.in_ok-push.ensures.items (omega (arith, size, c.loop-at.invariant.more));
      points = rw c.in_ok-push.ensures.items (omega (arith, size, s.onward, c.loop-at.invariant.points));
      heights = rw c.in_ok-push-2.ensures (omega (arith, high, s.onward, c.loop-at.invariant.heights));
      lost = omega (arith, s.onward, c.loop-at.invariant.lost, c.longer-run.ensures.few);
      walked = λ start blank elements h.
          rw (c.in_ok-push.ensures.items, c.point_of.ensures, c.in_ok-push-2.ensures, c.height_of.ensures)
          ((next_is c.args.doc.now.nodes c.args.bytes.now c.args.exact
          (positions c.args.exact (inner_place start blank) elements) (c.args.array + 1) c.loop-at.at
          c.node_at-end.result.next
          c.args.points.now.items c.loop-at.points.items c.args.heights.now c.loop-at.heights c.loop-at.run
          (c.loop-at.invariant.walked start blank elements h) c.loop-at-test.true
          (Ok c.in_ok-position.position) c.in_ok-position.ensures).onward c.in_ok-position.position c.node_at-at.result
          c.longer-run.result _ refl c.node_at-at.ensures
          (eqb-true c.loop-at.at (c.args.array + 1)) (eq-eqb c.loop-at.at (c.args.array + 1)) c.longer-run.ensures.start
          c.longer-run.ensures.end c.longer-run.ensures.lost);
    }

pub returns-clause-run : goal.returns-clause-run
returns-clause-run c start blank elements h =
    walk_ends c.args.doc.now.nodes c.args.bytes.now c.args.exact
    (positions c.args.exact (inner_place start blank) elements) (c.args.array + 1) c.loop-at.at
    c.node_at-end.result.next
    c.args.points.now.items c.loop-at.points.items c.args.heights.now c.loop-at.heights c.loop-at.run
    (c.loop-at.invariant.walked start blank elements h)
    c.loop-at-test.false
