-- Answers to the goals of `read_dot` in src/paths.rt.
use Rattle.std.proofs.Common.{◌≡◌, ◌∷◌, ◌++◌, [], length, vec_len, refl, ap, ◌∙◌, arith, length-append}
use Rattle.gj_layer.proofs.Members.There.{node_there, seen}
use Rattle.gj_layer.proofs.Coordinates.PathsSoFar.{held_more, held_first}
use Rattle.gj_layer.proofs.Coordinates.ReadPaths.{run_path, dot_traced}
use Rattle.sheet_base.specs.declared.paths.PathKind.TheVariants.{Dot}
use Rattle.gj_layer.specs.Positions.{position_of}
use Rattle.gj_layer.specs.InsideNodes.{path_part}
use Rattle.gj_layer.proofs.paths.read_dot.Goals as goal

pub push-requires-2 : goal.push-requires-2
push-requires-2 c =
    let (node, got, s) = node_there c.args.doc.now c.args.bytes.now c.args.value c.requires.read c.requires.node in
    let room = c.requires.room node got in omega (arith, room.heights)

pub end_path-requires-clause-paths : goal.end_path-requires-clause-paths
end_path-requires-clause-paths c =
    let (node, got, s) = node_there c.args.doc.now c.args.bytes.now c.args.value c.requires.read c.requires.node in
    let room = c.requires.room node got in omega (arith, room.paths)

pub end_path-requires-clause-points : goal.end_path-requires-clause-points
end_path-requires-clause-points c =
    let (node, got, s) = node_there c.args.doc.now c.args.bytes.now c.args.value c.requires.read c.requires.node in
    let room = c.requires.room node got in
    let size = length-append c.args.pass.now.points.items (c.point_of.result ∷ []) in
    rw c.in_ok-push.ensures.items (omega (arith, room.points, s.onward, size))

pub end_path-requires-clause-first : goal.end_path-requires-clause-first
end_path-requires-clause-first c =
    let (node, got, s) = node_there c.args.doc.now c.args.bytes.now c.args.value c.requires.read c.requires.node in
    let room = c.requires.room node got in omega (arith, room.points, c.len-first.ensures)

pub end_path-requires-clause-inexact : goal.end_path-requires-clause-inexact
end_path-requires-clause-inexact c =
    let (node, got, s) = node_there c.args.doc.now c.args.bytes.now c.args.value c.requires.read c.requires.node in
    let room = c.requires.room node got in omega (arith, room.inexact, c.lost_of.ensures.few)

pub returns-clause-path : goal.returns-clause-path
returns-clause-path c start is part h held =
    let one = c.in_ok-position.position in
    let number = length part.paths in
    let path = run_path Dot (position_of one ∷ []) c.lost_of.result one.start one.end in (
      path_part number path,
      dot_traced c.args.exact number start is one c.lost_of.result (c.in_ok-position.ensures start is h)
          c.lost_of.ensures.value,
      c.in_ok-end_path.ensures.holds part (position_of one ∷ [])
          (held_more c.args.pass.now _ part (position_of one ∷ []) held refl
          (c.in_ok-push.ensures.items ∙ ap (λ p. c.args.pass.now.points.items ++ p ∷ []) c.point_of.ensures)
          (c.in_ok-push-2.ensures ∙ ap (λ h. c.args.pass.now.heights ++ h ∷ []) c.height_of.ensures) refl refl)
          (let long : vec_len c.args.pass.now.points ≡ length c.args.pass.now.points.items =
          omega arith in c.len-first.ensures ∙ long ∙ held_first c.args.pass.now part held),
    )

pub returns-clause-grows : goal.returns-clause-grows
returns-clause-grows c node got = grind (arith, seen, length-append)
