-- Answers to the goals of `read` in src/lines.rt.
use Rattle.std.proofs.Common.{◌≡◌, ◌+◌, ◌<◌, ◌^◌, ◌++◌, length, ap, ◌∙◌, subst, arith}
use Rattle.std.specs.Prelude.{Some}
use Rattle.wkt_layer.specs.Layers.{geometry_lines}
use Rattle.wkt_layer.specs.Paths.{sheet_of}
use Rattle.wkt_layer.specs.InsidePasses.{GoesOn, RestsAt, lines_behind}
use Rattle.wkt_layer.proofs.CodeReads.LayerLines.{goes_next, goes_end, held_sheet, held_is_sheet, rests_next, room_more}
use Rattle.wkt_layer.proofs.CodeReads.LayerLines.{order_next}
use Rattle.wkt_layer.proofs.CodeReads.LayerLines.{sheet_order}
use Rattle.wkt_layer.proofs.lines.read.Goals as goal

pub loop-rest-preserved : goal.loop-rest-preserved
loop-rest-preserved c =
    let (done, held, none, on, order) = c.loop-rest.invariant.read in
    let at : RestsAt (Some c.in-Some.text) c.loop-rest.base (length c.args.bytes.now) =
    subst (λ r. RestsAt r c.loop-rest.base (length c.args.bytes.now)) c.in-Some.is c.loop-rest.invariant.size in
    let here = subst (λ ls. GoesOn c.args.exact (geometry_lines c.args.bytes.now) c.loop-rest.base ls done)
    (ap lines_behind c.in-Some.is ∙ c.first_line.ensures.lines) on in
    let (paths, is, now, empty) = c.in_ok-read_line.ensures.reads done held none in
    let place : c.loop-rest.base + (length c.first_line.result.0.now + 1) ≡ c.loop-rest.base
    + length c.first_line.result.0.now + 1 = omega arith in
    let within = c.first_line.ensures.within in
    record {
      size = rests_next c.first_line.result.1 c.loop-rest.base (length c.first_line.result.0.now + 1)
          (length c.in-Some.text.now) (length c.args.bytes.now) at c.first_line.ensures.size;
      few = omega (arith, at, within);
      room = room_more c.read_line.new.pass (c.loop-rest.base + length c.first_line.result.0.now)
          (c.loop-rest.base + (length c.first_line.result.0.now + 1)) c.in_ok-read_line.ensures.room (omega arith);
      read = (
        done ++ paths,
        now,
        empty,
        goes_next c.args.exact (geometry_lines c.args.bytes.now) c.loop-rest.base
            (c.loop-rest.base + (length c.first_line.result.0.now + 1)) c.first_line.result.0.now
            (lines_behind c.first_line.result.1) done paths place here is,
        order_next c.args.exact c.loop-rest.base (c.loop-rest.base + (length c.first_line.result.0.now + 1))
            (length c.args.bytes.now) c.first_line.result.0.now done paths order
            (omega arith) (omega (arith, at, within)) is,
      );
    }

pub of-requires-4 : goal.of-requires-4
of-requires-4 c =
    let (done, held, none, on, order) = c.loop-rest.invariant.read in
    let here = subst (λ r. GoesOn c.args.exact (geometry_lines c.args.bytes.now) c.loop-rest.base (lines_behind r) done)
    c.in_default.is on in
    let room = c.loop-rest.invariant.room.points in
    let few : length c.loop-rest.pass.points.items < 2 ^ 32 = let n =
    c.loop-rest.invariant.few in omega (arith, room, n) in
    rw (c.of.ensures, c.of-2.ensures, c.of-3.ensures)
    (held_is_sheet c.loop-rest.pass done held c.args.exact (geometry_lines c.args.bytes.now) c.loop-rest.base here few)

pub returns-clause-ok : goal.returns-clause-ok
returns-clause-ok c =
    let (done, held, none, on, order) = c.loop-rest.invariant.read in
    let here = subst (λ r. GoesOn c.args.exact (geometry_lines c.args.bytes.now) c.loop-rest.base (lines_behind r) done)
    c.in_default.is on in (
      done,
      goes_end c.args.exact (geometry_lines c.args.bytes.now) c.loop-rest.base done here,
      c.of-4.ensures ∙ (rw (c.of.ensures, c.of-2.ensures, c.of-3.ensures)
          (held_sheet c.loop-rest.pass done held)),
    )

pub returns-clause-edits : goal.returns-clause-edits
returns-clause-edits c =
    let (done, held, none, on, order) = c.loop-rest.invariant.read in
    let same : c.of-4.result ≡ sheet_of done = c.of-4.ensures
    ∙ (rw (c.of.ensures, c.of-2.ensures, c.of-3.ensures)
    (held_sheet c.loop-rest.pass done held)) in
    sheet_order c.of-4.result done c.loop-rest.base (length c.args.bytes.now) same order
