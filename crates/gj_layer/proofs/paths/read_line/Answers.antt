-- Answers to the goals of `read_line` in src/paths.rt.
use Rattle.std.proofs.Common.{◌≡◌, ◌<◌, [], length, vec_len, map, refl, sym, ap, ◌∙◌, subst, arith, length-append}
use Rattle.std.specs.Prelude.{Ok, Err}
use Rattle.std.proofs.lemmas.List.{length-map}
use Rattle.jtext.specs.Places.{HasNodesAt}
use Rattle.sheet_base.specs.declared.paths.PathKind.TheVariants.{Line}
use Rattle.gj_layer.specs.declared.forms.Trace.TheVariants as traces
use Rattle.sheet_base.specs.Faults.{and_then}
use Rattle.sheet_base.specs.PointHeights.{Position, points_of}
use Rattle.gj_layer.specs.Positions.{position_of}
use Rattle.gj_layer.specs.Paths.{nothing, joint_part, paths_of_trace, part_of}
use Rattle.gj_layer.specs.InsideNodes.{Holds, path_part}
use Rattle.gj_layer.proofs.Members.There.{array_here, array_seen}
use Rattle.sheet_base.proofs.HandedOn.{passed_on}
use Rattle.gj_layer.proofs.OpenObjects.AnswerLaws.{give_fault}
use Rattle.gj_layer.proofs.Coordinates.PathsSoFar.{held_more, held_empty, held_first}
use Rattle.gj_layer.proofs.Coordinates.ReadPaths.{run_path, line_refused, line_traced, line_empty, none_of}
use Rattle.gj_layer.proofs.paths.read_line.Goals as goal

pub read_positions-requires-clause-room : goal.read_positions-requires-clause-room
read_positions-requires-clause-room c node got =
    let room = c.requires.room node got in omega (arith, room.heights)

pub returns-in_err-run-clause-path : goal.returns-in_err-run-clause-path
returns-in_err-run-clause-path c start is part h held =
    let fault = c.in_err-run.field-0.0 in
    let number = length part.paths in
    let (blank, elements, same) = array_here c.args.doc.now c.args.bytes.now c.args.array start is h c.requires.kind in
    give_fault (λ done more. Holds _ (joint_part part more)) c.from_residual.result
    (and_then (part_of number) (paths_of_trace c.args.exact traces.Line start is)) fault
    (passed_on fault c.from_residual.result c.from_residual.ensures.1)
    (λ memory. subst (λ v. and_then (part_of number) (paths_of_trace c.args.exact traces.Line start v) ≡ Err fault) (sym same)
    (line_refused c.args.exact number start blank elements fault
    (c.in_err-run.ensures.run start blank elements
    (subst (HasNodesAt c.args.doc.now.nodes c.args.bytes.now c.args.array start) same h) memory)))

pub end_path-requires-clause-paths : goal.end_path-requires-clause-paths
end_path-requires-clause-paths c =
    let (node, got, s, room) = array_seen c.args.doc.now c.args.bytes.now c.args.array c.requires.read c.requires.kind
    c.requires.room in omega (arith, room.paths)

pub end_path-requires-clause-points : goal.end_path-requires-clause-points
end_path-requires-clause-points c =
    let (node, got, s, room) = array_seen c.args.doc.now c.args.bytes.now c.args.array c.requires.read c.requires.kind
    c.requires.room in omega (arith, room.points, s.onward, c.in_ok-run.ensures.points node got)

pub end_path-requires-clause-first : goal.end_path-requires-clause-first
end_path-requires-clause-first c =
    let (node, got, s, room) = array_seen c.args.doc.now c.args.bytes.now c.args.array c.requires.read c.requires.kind
    c.requires.room in omega (arith, room.points, c.len-first.ensures)

pub end_path-requires-clause-inexact : goal.end_path-requires-clause-inexact
end_path-requires-clause-inexact c =
    let (node, got, s, room) = array_seen c.args.doc.now c.args.bytes.now c.args.array c.requires.read c.requires.kind
    c.requires.room in omega (arith, room.inexact, s.onward, c.in_ok-run.ensures.lost node got)

pub returns-in_ok-end_path-clause-path : goal.returns-in_ok-end_path-clause-path
returns-in_ok-end_path-clause-path c start is part h held =
    let number = length part.paths in
    let (blank, elements, same) = array_here c.args.doc.now c.args.bytes.now c.args.array start is h c.requires.kind in
    let (all, is_all, run) = c.in_ok-run.ensures.run start blank elements
    (subst (HasNodesAt c.args.doc.now.nodes c.args.bytes.now c.args.array start) same h) in
    let longer = c.if-first-len.true in
    let size = length-append c.args.pass.now.points.items (points_of (map position_of all)) in
    let count = length-map (map position_of all) (λ (vertex : Position). vertex.point) in
    let some : 0 < length all = omega (
      arith,
      longer,
      c.len-first.ensures,
      c.len.ensures,
      ap length run.points_are,
      size,
      count,
      length-map all position_of,
    ) in
    let run' = c.in_ok-run.run' in
    let long : vec_len c.args.pass.now.points ≡ length c.args.pass.now.points.items = omega arith in (
      path_part number (run_path Line (map position_of all) run'.lost run'.start run'.end),
      subst (λ v. and_then (part_of number) (paths_of_trace c.args.exact traces.Line start v)
          ≡ Ok (path_part number (run_path Line (map position_of all) run'.lost run'.start run'.end))) (sym same)
          (line_traced c.args.exact number start blank elements all run'.lost run'.start run'.end is_all some run.lost
          run.ends),
      c.in_ok-end_path.ensures.holds part (map position_of all)
          (held_more c.args.pass.now _ part (map position_of all) held refl run.points_are run.heights_are refl refl)
          (c.len-first.ensures ∙ long ∙ held_first c.args.pass.now part held),
    )

pub returns-else-first-len-clause-path : goal.returns-else-first-len-clause-path
returns-else-first-len-clause-path c start is part h held =
    let number = length part.paths in
    let (blank, elements, same) = array_here c.args.doc.now c.args.bytes.now c.args.array start is h c.requires.kind in
    let (all, is_all, run) = c.in_ok-run.ensures.run start blank elements
    (subst (HasNodesAt c.args.doc.now.nodes c.args.bytes.now c.args.array start) same h) in
    let size = length-append c.args.pass.now.points.items (points_of (map position_of all)) in
    let count = length-map (map position_of all) (λ (vertex : Position). vertex.point) in
    let none : length all ≡ 0 = omega (
      arith,
      c.if-first-len.false,
      c.len-first.ensures,
      c.len.ensures,
      ap length run.points_are,
      size,
      count,
      length-map all position_of,
    ) in
    let no_more : map position_of all ≡ [] = none_of all none in (
      nothing,
      subst (λ v. and_then (part_of number) (paths_of_trace c.args.exact traces.Line start v) ≡ Ok nothing) (sym same)
          (line_empty c.args.exact number start blank elements all is_all none),
      held_empty _ part (map position_of all) no_more
          (held_more c.args.pass.now _ part (map position_of all) held refl run.points_are run.heights_are refl refl),
    )
