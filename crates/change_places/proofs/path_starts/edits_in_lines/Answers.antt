-- Answers to the goals of `edits_in_lines` in src/path_starts.rt.
use Rattle.std.proofs.Common.{length}
use Rattle.sheet_base.specs.declared.edits.What.TheVariants.{WktList}
use Rattle.change_places.proofs.LineCounts.{next_at, line_more, printed_at}
use Rattle.change_places.proofs.path_starts.edits_in_lines.Goals as goal

pub slice_bounds-line_feeds-end : goal.slice_bounds-line_feeds-end
slice_bounds-line_feeds-end c =
    let here = c.loop-edit.invariant in
    let next = next_at c.loop-edit.at c.args.edits.now c.loop-edit.edit-index (length c.args.bytes.now)
    (record { start = 0; end = 0; what = WktList 0 }) c.loop-edit-test.true here.order in
    next.within

pub loop-edit-preserved : goal.loop-edit-preserved
loop-edit-preserved c =
    let here = c.loop-edit.invariant in
    let next = next_at c.loop-edit.at c.args.edits.now c.loop-edit.edit-index (length c.args.bytes.now) _
    c.loop-edit-test.true here.order in
    let line = line_more c.args.bytes.now c.loop-edit.at _ c.loop-edit.line c.line_feeds-line.result next.from here.line
    c.line_feeds-line.ensures in
    record {
      within = next.within;
      line = line;
      order = next.rest;
      printed = printed_at c.args.bytes.now c.args.edits.now c.loop-edit.edit-index _ _ c.loop-edit.printed.items
          c.push.new.self.items c.loop-edit-test.true line here.printed c.in_ok-push.ensures.items;
    }
