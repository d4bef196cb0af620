-- The invariants of `render_page` in src/rendering.rt.
use Rattle.std.proofs.Common.{length, drop}
use Rattle.sheet_base.proofs.SpliceLaws.{IsSpliced}
use Rattle.dxf_copies.specs.PageViews.{read_of}
use Rattle.dxf_copies.specs.Rendering.{text_of}
use Rattle.dxf_copies.proofs.HandleCounts.{AreCounted}
use Rattle.dxf_copies.proofs.rendering.render_page.Given as goal

abbrev pub invariant-loop-edit : goal.invariant-loop-edit
invariant-loop-edit l = record {
  counted : AreCounted (read_of l.page) l.edit-items (length l.page.bytes.now) l.edit-index l.number l.next;
  written : IsSpliced l.page.bytes.now (text_of (read_of l.page)) l.edit-items (drop l.edit-index l.edit-items) l.from
      l.out.items;
}
