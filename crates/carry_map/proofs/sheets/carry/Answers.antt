-- Answers to the goals of `carry` in src/sheets.rt.
use Rattle.std.proofs.Common.{◌≡◌, ◌<◌, ◌^◌, length, vec_len, List, All, ap, ◌∙◌, sym, subst, arith}
use Rattle.std.proofs.lemmas.List.{length-map}
use Rattle.plane_base.specs.declared.shapes.Pt.{Pt}
use Rattle.sheet_base.specs.PointHeights.{Height, Position, IsHeightWithinReach}
use Rattle.tin_base.specs.Triangulation.{Triangulation}
use Rattle.tin_base.specs.Limits.{IsWithinLimits}
use Rattle.tin_base.specs.Soundness.{IsSound}
use Rattle.sheet_pieces.specs.SheetImages.{joined_runs}
use Rattle.sheet_pieces.proofs.SheetImages.{images_fit}
use Rattle.sheet_pieces.proofs.RunReach.{heights_within}
use Rattle.carry_map.proofs.ImageSegments.{own_segments}
use Rattle.carry_map.proofs.sheets.carry.Goals as goal

pub of-requires-in-Ok-2 : goal.of-requires-in-Ok-2
of-requires-in-Ok-2 c =
    let carried = c.in-Ok.ensures.carried in
    let known = c.recall.ensures in
    record {
      each = ap (λ (zs : List Height). length zs) carried.heights_are
          ∙ length-map (joined_runs carried.runs) (λ (position : Position). position.height)
          ∙ sym (length-map (joined_runs carried.runs) (λ (position : Position). position.point))
          ∙ ap (λ (ps : List Pt). length ps) (sym (c.of.ensures ∙ carried.points_are));
      in_reach = subst (All IsHeightWithinReach) (sym carried.heights_are)
          (heights_within c.args.index.now c.args.sheet.now carried.runs known.heights_in_reach carried.of_vertices);
    }

pub returns-in-Ok-clause-images : goal.returns-in-Ok-clause-images
returns-in-Ok-clause-images c =
    let carried = c.in-Ok.ensures.carried in
    let points = c.of-in-Ok-2.ensures.points ∙ c.of.ensures in
    let run = c.of-in-Ok-2.ensures.run ∙ c.of-in-Ok.ensures in
    record {
      runs = carried.runs;
      of_vertices = carried.of_vertices;
      points = points ∙ carried.points_are;
      heights = c.of-in-Ok-2.ensures.heights ∙ carried.heights_are;
      run = run ∙ carried.run_are;
    }

pub returns-in-Ok-clause-fits : goal.returns-in-Ok-clause-fits
returns-in-Ok-clause-fits c =
    let carried = c.in-Ok.ensures.carried in
    let points = c.of-in-Ok-2.ensures.points ∙ c.of.ensures in
    let run = c.of-in-Ok-2.ensures.run ∙ c.of-in-Ok.ensures in
    let room = c.in-Ok.ensures.room in
    let few = c.in-Ok.ensures.few in
    let count = ap (λ (ps : List Pt). length ps) points in
    let listed : length c.in-Ok.gathered.points.items ≡ vec_len c.in-Ok.gathered.points = omega arith in
    let below : length c.of-in-Ok-2.result.points < 2 ^ 32 = omega arith in
    images_fit c.args.index.now c.args.sheet.now c.of-in-Ok-2.result
    (subst (λ (tin : Triangulation). IsWithinLimits tin) c.tin.ensures c.show_soundness.ensures.limits)
    (subst (λ (tin : Triangulation). IsSound tin) c.tin.ensures c.show_soundness.ensures.sound) c.recall.ensures
    carried.inside
    (record {
      runs = carried.runs;
      of_vertices = carried.of_vertices;
      points = points ∙ carried.points_are;
      heights = c.of-in-Ok-2.ensures.heights ∙ carried.heights_are;
      run = run ∙ carried.run_are;
    }) below

pub returns-in-Ok-clause-few : goal.returns-in-Ok-clause-few
returns-in-Ok-clause-few c =
    let most = c.requires.most in
    let room = c.in-Ok.ensures.room in
    let few = c.in-Ok.ensures.few in
    let count = ap (λ (ps : List Pt). length ps) (c.of-in-Ok-2.ensures.points ∙ c.of.ensures) in
    let listed : length c.in-Ok.gathered.points.items ≡ vec_len c.in-Ok.gathered.points = omega arith in
    omega arith

pub returns-in-Ok-clause-segments : goal.returns-in-Ok-clause-segments
returns-in-Ok-clause-segments c =
    let carried = c.in-Ok.ensures.carried in
    let points = c.of-in-Ok-2.ensures.points ∙ c.of.ensures in
    let run = c.of-in-Ok-2.ensures.run ∙ c.of-in-Ok.ensures in
    let count : vec_len c.args.pieces.now ≡ length c.args.pieces.now.items = omega arith in
    own_segments c.args.index.now c.args.layer c.args.sheet.now c.of-in-Ok-2.result c.args.pieces.now.items
    c.carry_paths.new.pieces.items carried.own (vec_len c.args.pieces.now)
    (subst (λ (tin : Triangulation). IsSound tin) c.tin.ensures c.show_soundness.ensures.sound) c.recall.ensures
    carried.inside
    (record {
      runs = carried.runs;
      of_vertices = carried.of_vertices;
      points = points ∙ carried.points_are;
      heights = c.of-in-Ok-2.ensures.heights ∙ carried.heights_are;
      run = run ∙ carried.run_are;
    }) carried.of_segments carried.pieces_are count
