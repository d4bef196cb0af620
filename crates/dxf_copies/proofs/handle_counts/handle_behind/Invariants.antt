-- The invariants of `handle_behind` in src/handle_counts.rt.
use Rattle.std.proofs.Common.{length}
use Rattle.dxf_copies.specs.PageViews.{read_of}
use Rattle.dxf_copies.proofs.HandleCounts.{AreCounted}
use Rattle.dxf_copies.proofs.handle_counts.handle_behind.Given as goal

abbrev pub invariant-loop-edit : goal.invariant-loop-edit
invariant-loop-edit l = AreCounted (read_of l.page) l.edit-items (length l.page.bytes.now) l.edit-index l.number l.next
