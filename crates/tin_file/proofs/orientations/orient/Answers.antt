-- Answers to the goals of `orient` in src/orientations.rt.
use Rattle.std.proofs.Common.{◌≡◌, [], List, ℕ, get_or, set, ap, ◌∙◌, subst, sym}
use Rattle.tin_file.specs.Corners.{counterclockwise_face}
use Rattle.tin_file.proofs.FileRows.ElementChanges.{IsThree, read_so_far, one_changed, face_at}
use Rattle.tin_file.proofs.orientations.orient.Goals as goal

pub orient_one-requires : goal.orient_one-requires
orient_one-requires c =
    let i = c.loop-triangle.triangle-index in let all = c.args.triangles.now in let corners = c.args.corners.now in
    let is : get_or c.loop-triangle.triangles i [] ≡ get_or all i [] =
    ap (λ (ts : List (List ℕ)). get_or ts i []) c.loop-triangle.invariant
    ∙ read_so_far (counterclockwise_face corners) all i [] c.loop-triangle-test.true in
    let three = subst (IsThree corners) (sym is) (face_at corners all i c.requires.faces c.loop-triangle-test.true) in
    record { near = c.requires.near; first = three.first; second = three.second; third = three.third }

pub loop-triangle-preserved : goal.loop-triangle-preserved
loop-triangle-preserved c =
    let i = c.loop-triangle.triangle-index in let all = c.args.triangles.now in let corners = c.args.corners.now in
    let is : get_or c.loop-triangle.triangles i [] ≡ get_or all i [] =
    ap (λ (ts : List (List ℕ)). get_or ts i []) c.loop-triangle.invariant
    ∙ read_so_far (counterclockwise_face corners) all i [] c.loop-triangle-test.true in
    let three = subst (IsThree corners) (sym is) (face_at corners all i c.requires.faces c.loop-triangle-test.true) in
    ap (λ (ts : List (List ℕ)). set ts i c.orient_one.result) c.loop-triangle.invariant
    ∙ one_changed (counterclockwise_face corners) all i [] c.orient_one.result c.loop-triangle-test.true
    (c.orient_one.ensures ∙ ap (counterclockwise_face corners) three.all ∙ ap (counterclockwise_face corners) is)
