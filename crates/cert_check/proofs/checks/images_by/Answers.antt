-- Answers to the goals of `images_by` in src/checks.rt.
use Rattle.std.proofs.Common.{◌≡◌, ◌<◌, ◌^◌, length, vec_len, List, All, ap, ◌∙◌, sym, subst, arith}
use Rattle.std.proofs.lemmas.List.{length-map}
use Rattle.plane_base.specs.declared.shapes.Pt.{Pt}
use Rattle.sheet_base.specs.PointHeights.{Height, Position, IsHeightWithinReach}
use Rattle.sheet_pieces.specs.SheetImages.{joined_runs}
use Rattle.sheet_pieces.specs.SheetSegments.{sheet_vertices, sheet_segments}
use Rattle.sheet_pieces.proofs.SheetImages.{images_fit}
use Rattle.sheet_pieces.proofs.RunReach.{heights_within}
use Rattle.cert_check.proofs.CertCauses.{all_inside}
use Rattle.cert_check.proofs.SheetLaws.{has_lines, no_head, right_all, image_cause, text_short}
use Rattle.cert_check.proofs.checks.images_by.Goals as goal

pub returns-in_default-clause-cause : goal.returns-in_default-clause-cause
returns-in_default-clause-cause c = absurd
    (no_head c.args.cert.now (length (sheet_segments c.args.sheet.now)) c.requires.lists c.in_default.ensures.none)

pub pass_paths-requires-clause-lines : goal.pass_paths-requires-clause-lines
pass_paths-requires-clause-lines c = has_lines c.args.cert.now c.in-Some.lines.now
    (length (sheet_segments c.args.sheet.now)) c.in-Some.ensures.some c.requires.lists

pub pass_paths-requires-clause-few : goal.pass_paths-requires-clause-few
pass_paths-requires-clause-few c = text_short c.args.cert.now c.in-Some.lines.now c.in-Some.ensures.some c.requires.few

pub of-requires-in-Ok-2 : goal.of-requires-in-Ok-2
of-requires-in-Ok-2 c =
    let imaged = c.in-Ok.ensures.imaged in
    let known = c.recall.ensures in
    record {
      each = ap (λ (hs : List Height). length hs) imaged.heights_are
          ∙ length-map (joined_runs imaged.runs) (λ (position : Position). position.height)
          ∙ sym (length-map (joined_runs imaged.runs) (λ (position : Position). position.point))
          ∙ ap (λ (ps : List Pt). length ps) (sym (c.of.ensures ∙ imaged.points_are));
      in_reach = subst (All IsHeightWithinReach) (sym imaged.heights_are)
          (heights_within c.args.tin.now c.args.sheet.now imaged.runs known.heights_in_reach imaged.of_vertices);
    }

pub returns-in-Ok-clause-images : goal.returns-in-Ok-clause-images
returns-in-Ok-clause-images c =
    let imaged = c.in-Ok.ensures.imaged in
    let points = c.of-in-Ok-2.ensures.points ∙ c.of.ensures in
    let run = c.of-in-Ok-2.ensures.run ∙ c.of-in-Ok.ensures in
    record {
      runs = imaged.runs;
      of_vertices = imaged.of_vertices;
      points = points ∙ imaged.points_are;
      heights = c.of-in-Ok-2.ensures.heights ∙ imaged.heights_are;
      run = run ∙ imaged.run_are;
    }

pub returns-in-Ok-clause-fits : goal.returns-in-Ok-clause-fits
returns-in-Ok-clause-fits c =
    let imaged = c.in-Ok.ensures.imaged in
    let points = c.of-in-Ok-2.ensures.points ∙ c.of.ensures in
    let run = c.of-in-Ok-2.ensures.run ∙ c.of-in-Ok.ensures in
    let few = c.in-Ok.ensures.few in
    let count = ap (λ (ps : List Pt). length ps) points in
    let listed : length c.in-Ok.gathered.points.items ≡ vec_len c.in-Ok.gathered.points = omega arith in
    let below : length c.of-in-Ok-2.result.points < 2 ^ 32 = omega arith in
    let right =
    right_all c.args.tin.now (sheet_vertices c.args.sheet.now) c.in-Ok.gathered.points.items c.in-Ok.gathered.heights
    c.in-Ok.gathered.run.items c.args.cert.now c.in-Some.lines.now c.in-Ok.gathered.rest.now c.in-Some.ensures.some
    c.requires.lists imaged in
    images_fit c.args.tin.now c.args.sheet.now c.of-in-Ok-2.result c.show_soundness.ensures.limits c.show_soundness.ensures.sound
    c.recall.ensures
    (all_inside c.args.tin.now (sheet_segments c.args.sheet.now) right.0 c.show_soundness.ensures.sound right.2)
    (record {
      runs = imaged.runs;
      of_vertices = imaged.of_vertices;
      points = points ∙ imaged.points_are;
      heights = c.of-in-Ok-2.ensures.heights ∙ imaged.heights_are;
      run = run ∙ imaged.run_are;
    }) below

pub returns-in-Ok-clause-right : goal.returns-in-Ok-clause-right
returns-in-Ok-clause-right c =
    right_all c.args.tin.now (sheet_vertices c.args.sheet.now) c.in-Ok.gathered.points.items c.in-Ok.gathered.heights
    c.in-Ok.gathered.run.items c.args.cert.now c.in-Some.lines.now c.in-Ok.gathered.rest.now c.in-Some.ensures.some
    c.requires.lists
    c.in-Ok.ensures.imaged

pub returns-in-Err-clause-cause : goal.returns-in-Err-clause-cause
returns-in-Err-clause-cause c = image_cause c.args.tin.now (sheet_segments c.args.sheet.now) c.args.cert.now
    c.in-Some.lines.now c.in-Err.fault c.in-Some.ensures.some c.requires.lists c.in-Err.ensures.cause
