-- Answers to the goals of `gap` in src/gaps.rt.
use Rattle.std.proofs.Common.{sym, ◌∙◌}
use Rattle.std.proofs.lemmas.Bool.{false≢true}
use Rattle.seg_gap.proofs.GapLaws.{gap_by_ends, gap_crossing}
use Rattle.seg_gap.proofs.gaps.gap.Goals as goal

pub returns-then-do_cross : goal.returns-then-do_cross
returns-then-do_cross c = gap_crossing c.args.a c.args.b c.args.c c.args.d (c.do_cross.ensures.0 c.if-do_cross.true)

pub returns : goal.returns
returns c =
    gap_by_ends c.args.a c.args.b c.args.c c.args.d c.least.result c.half_root.result
    (λ h. false≢true (sym c.if-do_cross.false ∙ c.do_cross.ensures.1 h)) c.least.ensures c.half_root.ensures
