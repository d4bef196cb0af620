-- Answers to the goals of `push_end` in src/runs.rt.
use Rattle.std.proofs.Common.{◌++◌, ◌∷◌, [], ◌∙◌, ap}
use Rattle.sheet_base.specs.PointHeights.{Height}
use Rattle.tin_base.proofs.SegmentSpots.SlicedParts.{params}
use Rattle.sheet_pieces.specs.SpotHeights.{param_height}
use Rattle.cert_check.proofs.RunLaws.{end_told, height_told, part_range, part_shared}
use Rattle.cert_check.proofs.runs.push_end.Goals as goal

pub height_between-requires-clause-between : goal.height_between-requires-clause-between
height_between-requires-clause-between c =
    let ends = params c.args.tin.now c.args.way.a c.args.way.b c.args.triangle c.in-Some.stretch c.show_soundness.ensures.limits
    (part_range c.args.tin.now c.args.way.a c.args.way.b c.args.triangle c.requires.part) c.in-Some.ensures.some in
    ends.hi

pub returns-in_ok-push-2 : goal.returns-in_ok-push-2
returns-in_ok-push-2 c =
    let range = part_range c.args.tin.now c.args.way.a c.args.way.b c.args.triangle c.requires.part in
    record {
      image = record {
        point = c.end_image.result;
        height = param_height c.args.way.ends.from c.args.way.ends.to c.in-Some.stretch.hi;
      };
      is_end = (
        end_told c.args.tin.now c.args.way.a c.args.way.b c.args.triangle c.in-Some.stretch c.end_image.result
            c.show_soundness.ensures.limits range c.in-Some.ensures.some c.end_image.ensures,
        height_told c.args.tin.now c.args.way.a c.args.way.b
            (record { from = c.args.way.ends.from; to = c.args.way.ends.to }) c.args.triangle c.in-Some.stretch
            c.show_soundness.ensures.limits range c.in-Some.ensures.some,
      );
      points_are = c.in_ok-push.ensures.items;
      heights_are = c.in_ok-push-2.ensures ∙ ap (λ (h : Height). c.args.heights.now ++ h ∷ [])
          c.height_between.ensures;
    }

pub returns-in_default : goal.returns-in_default
returns-in_default c = absurd (part_shared c.args.tin.now c.args.way.a c.args.way.b c.args.triangle c.requires.part
    (c.in_default.ensures.none c.requires.inside))
