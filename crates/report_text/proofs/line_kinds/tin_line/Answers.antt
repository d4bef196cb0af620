-- Answers to the goals of `tin_line` in src/line_kinds.rt.
use Rattle.std.proofs.Common.{refl}
use Rattle.report_text.specs.InsideLineKinds.{tin_of}
use Rattle.report_text.proofs.line_kinds.tin_line.Goals as goal

pub returns : goal.returns
unfolding tin_of
returns c = λ sided. rw (c.in_ok-corners.ensures, c.in_ok-triangles.ensures, c.in_ok-inexact.ensures, c.in_ok-name.ensures) refl
