-- Answers to the goals of `read_ring` in src/paths.rt.
use Rattle.std.proofs.Common.{◌≡◌, ◌<◌, ◌∷◌, ◌++◌, ◌-◌, [], length, take, true, append_assoc, vec_len, map, refl, sym}
use Rattle.std.proofs.Common.{ap, ◌∙◌, subst, arith}
use Rattle.std.specs.Prelude.{Ok, Err}
use Rattle.std.proofs.lemmas.List.{length-map, map-append}
use Rattle.jtext.specs.Places.{HasNodesAt}
use Rattle.jtext.specs.declared.document.Kind.TheVariants as kinds
use Rattle.sheet_base.specs.declared.paths.PathKind.TheVariants.{Loop}
use Rattle.gj_layer.specs.declared.forms.Trace.TheVariants as traces
use Rattle.sheet_base.specs.Faults.{and_then}
use Rattle.sheet_base.specs.PointHeights.{Position, points_of, heights_of}
use Rattle.gj_layer.specs.Positions.{position_of}
use Rattle.sheet_base.specs.declared.faults.LayerFault.TheVariants.{Ring as RingFault}
use Rattle.jtext.specs.declared.document.Node.{Node}
use Rattle.gj_layer.specs.Paths.{joint_part, is_ring, paths_of_trace, part_of}
use Rattle.gj_layer.specs.InsideNodes.{Holds, path_part}
use Rattle.gj_layer.proofs.Members.There.{first_is, kind_within, array_here, array_seen}
use Rattle.sheet_base.proofs.HandedOn.{passed_on}
use Rattle.gj_layer.proofs.OpenObjects.AnswerLaws.{give_fault}
use Rattle.gj_layer.proofs.OpenObjects.Fine.{ring_many}
use Rattle.gj_layer.proofs.Coordinates.PathsSoFar.{held_more, held_first, held_even}
use Rattle.gj_layer.proofs.Coordinates.ReadPaths.{run_path, ring_refused, ring_traced, ring_open, ring_is, last_split}
use Rattle.gj_layer.proofs.paths.read_ring.Goals as goal

pub read_positions-requires-clause-room : goal.read_positions-requires-clause-room
read_positions-requires-clause-room c node got =
    let room = c.requires.room node got in omega (arith, room.heights)

pub returns-in_err-run-clause-path : goal.returns-in_err-run-clause-path
returns-in_err-run-clause-path c start is part h held =
    let fault = c.in_err-run.field-0.0 in
    let number = length part.paths in
    let (blank, elements, same) = array_here c.args.doc.now c.args.bytes.now c.args.array start is h c.requires.kind in
    give_fault (λ done more. Holds _ (joint_part part more)) c.from_residual.result
    (and_then (part_of number) (paths_of_trace c.args.exact traces.Ring start is)) fault
    (passed_on fault c.from_residual.result c.from_residual.ensures.1)
    (λ memory. subst (λ v. and_then (part_of number) (paths_of_trace c.args.exact traces.Ring start v) ≡ Err fault) (sym same)
    (ring_refused c.args.exact number start blank elements fault
    (c.in_err-run.ensures.run start blank elements
    (subst (HasNodesAt c.args.doc.now.nodes c.args.bytes.now c.args.array start) same h) memory)))

pub end_path-requires-clause-paths : goal.end_path-requires-clause-paths
end_path-requires-clause-paths c =
    let (node, got, s, room) = array_seen c.args.doc.now c.args.bytes.now c.args.array c.requires.read c.requires.kind
    c.requires.room in omega (arith, room.paths)

pub end_path-requires-clause-points : goal.end_path-requires-clause-points
end_path-requires-clause-points c =
    let (node, got, s, room) = array_seen c.args.doc.now c.args.bytes.now c.args.array c.requires.read c.requires.kind
    c.requires.room in
    omega (arith, room.points, s.onward, c.in_ok-run.ensures.points node got, c.drop_last.ensures.few)

pub end_path-requires-clause-first : goal.end_path-requires-clause-first
end_path-requires-clause-first c =
    let (node, got, s, room) = array_seen c.args.doc.now c.args.bytes.now c.args.array c.requires.read c.requires.kind
    c.requires.room in omega (arith, room.points, c.len-first.ensures)

pub end_path-requires-clause-inexact : goal.end_path-requires-clause-inexact
end_path-requires-clause-inexact c =
    let (node, got, s, room) = array_seen c.args.doc.now c.args.bytes.now c.args.array c.requires.read c.requires.kind
    c.requires.room in omega (arith, room.inexact, s.onward, c.in_ok-run.ensures.lost node got)

pub node_at-requires : goal.node_at-requires
node_at-requires c = kind_within c.args.doc.now.nodes c.args.array kinds.Array c.requires.kind

pub returns-then-not-is_ring-clause-path : goal.returns-then-not-is_ring-clause-path
returns-then-not-is_ring-clause-path c start is part h held memory =
    let number = length part.paths in
    let (blank, elements, same) = array_here c.args.doc.now c.args.bytes.now c.args.array start is h c.requires.kind in
    let (all, is_all, run) = c.in_ok-run.ensures.run start blank elements
    (subst (HasNodesAt c.args.doc.now.nodes c.args.bytes.now c.args.array start) same h) in
    let vertices = map position_of all in
    let long : vec_len c.args.pass.now.points ≡ length c.args.pass.now.points.items = omega arith in
    let first = c.len-first.ensures ∙ long in
    let ring : c.is_ring.result ≡ is_ring vertices = c.is_ring.ensures
    ∙ ring_is vertices c.args.pass.now.points.items _ c.args.pass.now.heights _ c.len-first.result
    (c.deref.ensures.value ∙ run.points_are) run.heights_are first
    (first ∙ sym (held_even c.args.pass.now part held)) in
    subst (λ v. and_then (part_of number) (paths_of_trace c.args.exact traces.Ring start v) ≡ Err (RingFault c.from.result))
    (sym same)
    (ring_open c.args.exact number start blank elements all is_all
    (sym ring ∙ c.if-not-is_ring.true)
    ∙ ap (λ n. Err (RingFault n)) (sym (c.from.ensures
    ∙ ap (λ (n : Node). n.start) (first_is c.args.doc.now.nodes c.args.bytes.now c.args.array start is c.node_at.result
    h c.node_at.ensures))))

pub returns-clause-path : goal.returns-clause-path
returns-clause-path c start is part h held =
    let number = length part.paths in
    let (blank, elements, same) = array_here c.args.doc.now c.args.bytes.now c.args.array start is h c.requires.kind in
    let (all, is_all, run) = c.in_ok-run.ensures.run start blank elements
    (subst (HasNodesAt c.args.doc.now.nodes c.args.bytes.now c.args.array start) same h) in
    let run' = c.in_ok-run.run' in
    let long : vec_len c.args.pass.now.points ≡ length c.args.pass.now.points.items = omega arith in
    let vertices = map position_of all in
    let kept = take (length vertices - 1) vertices in
    let first = c.len-first.ensures ∙ long in
    let even = first ∙ sym (held_even c.args.pass.now part held) in
    let ring : c.is_ring.result ≡ is_ring vertices = c.is_ring.ensures
    ∙ ring_is vertices c.args.pass.now.points.items _ c.args.pass.now.heights _ c.len-first.result
    (c.deref.ensures.value ∙ run.points_are) run.heights_are first even in
    let closed : is_ring vertices ≡ true = sym ring ∙ c.if-not-is_ring.false in
    let four = ring_many vertices closed in
    let some : 0 < length all = omega (arith, four, length-map all position_of) in
    let (last, split) = last_split vertices (omega (arith, four)) in
    let dropped = c.drop_last.ensures.front (c.args.pass.now.points.items ++ points_of kept) last.point
    (run.points_are ∙ ap (λ ps. c.args.pass.now.points.items ++ points_of ps) split
    ∙ ap (λ ps. c.args.pass.now.points.items ++ ps) (map-append (λ (vertex : Position). vertex.point) kept (last ∷ []))
    ∙ sym (append_assoc c.args.pass.now.points.items (points_of kept) (last.point ∷ []))) in
    let lowered = c.pop.ensures.front (c.args.pass.now.heights ++ heights_of kept) last.height
    (run.heights_are ∙ ap (λ ps. c.args.pass.now.heights ++ heights_of ps) split
    ∙ ap (λ hs. c.args.pass.now.heights ++ hs) (map-append (λ (vertex : Position). vertex.height) kept (last ∷ []))
    ∙ sym (append_assoc c.args.pass.now.heights (heights_of kept) (last.height ∷ []))) in (
      path_part number (run_path Loop kept run'.lost run'.start run'.end),
      subst (λ v. and_then (part_of number) (paths_of_trace c.args.exact traces.Ring start v)
          ≡ Ok (path_part number (run_path Loop kept run'.lost run'.start run'.end))) (sym same)
          (ring_traced c.args.exact number start blank elements all run'.lost run'.start run'.end is_all closed some
          run.lost run.ends),
      c.in_ok-end_path.ensures.holds part kept
          (held_more c.args.pass.now _ part kept held refl dropped lowered refl refl)
          (first ∙ held_first c.args.pass.now part held),
    )
