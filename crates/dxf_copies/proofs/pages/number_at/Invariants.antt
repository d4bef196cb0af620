-- The invariants of `number_at` in src/pages.rt.
use Rattle.std.proofs.Common.{◌≤◌, ◌-◌, length}
use Rattle.dxf_copies.specs.PageViews.{read_of}
use Rattle.dxf_copies.specs.Rendering.{number_at}
use Rattle.dxf_copies.proofs.pages.number_at.Given as goal

abbrev pub invariant-loop-number : goal.invariant-loop-number
invariant-loop-number l = l.number ≤ number_at (read_of l.page) l.place

abbrev pub decreases-loop-number : goal.decreases-loop-number
decreases-loop-number l = length l.page.pairs.now - l.number
