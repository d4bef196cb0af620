-- Answers to the goals of `rel_of_cuts` in src/cuts.rt.
use Rattle.std.proofs.Common.{inl, inr, refl}
use Rattle.meet_rel.specs.Clips.{IsPointBefore}
use Rattle.meet_rel.proofs.TurnTests.{not_told}
use Rattle.meet_rel.proofs.LinePoints.{outer_same, way_for, different_before}
use Rattle.meet_rel.proofs.ByCuts.{along_told, point_told}
use Rattle.meet_rel.proofs.cuts.rel_of_cuts.Goals as goal

pub returns-then-not-is_before : goal.returns-then-not-is_before
returns-then-not-is_before c =
    let p = c.args.p.now in let q = c.args.q.now in let w = c.way_of-way.result in
    let same = outer_same p.a p.b q.a q.b w.from w.to c.way_of-way.ensures
    (not_told c.is_before.result (IsPointBefore w.from w.to) c.is_before.ensures c.if-not-is_before.true) in
    point_told p q same.0 same.1 same.2

pub span_on-on_p-requires-clause-way : goal.span_on-on_p-requires-clause-way
span_on-on_p-requires-clause-way c =
    let p = c.args.p.now in let q = c.args.q.now in let w = c.way_of-way.result in
    let proper = c.requires.p in let close = c.requires.close in
    way_for p.a p.b q.a q.b w.from w.to p c.way_of-way.ensures (c.is_before.ensures.0 c.if-not-is_before.false)
    (inl refl) (inr (inl refl)) proper.near_a proper.near_b close.p_c close.p_d

pub span_on-on_q-requires-clause-way : goal.span_on-on_q-requires-clause-way
span_on-on_q-requires-clause-way c =
    let p = c.args.p.now in let q = c.args.q.now in let w = c.way_of-way.result in
    let proper = c.requires.q in let close = c.requires.close in
    way_for p.a p.b q.a q.b w.from w.to q c.way_of-way.ensures (c.is_before.ensures.0 c.if-not-is_before.false)
    (inr (inr (inl refl))) (inr (inr (inr refl))) close.q_a close.q_b proper.near_a proper.near_b

pub returns : goal.returns
returns c =
    let p = c.args.p.now in let q = c.args.q.now in let w = c.way_of-way.result in
    let s = c.span_on-on_p.result in let t = c.span_on-on_q.result in
    let first = c.later.ensures in let last = c.earlier.ensures in
    along_told p q w.from w.to s.lo s.hi t.lo t.hi c.later.result c.earlier.result
    (different_before w.from w.to (c.is_before.ensures.0 c.if-not-is_before.false)) c.span_on-on_p.ensures
    c.span_on-on_q.ensures
    (record { one_of = first.one; of_first = first.from_a; of_second = first.from_b })
    (record { one_of = last.one; of_first = last.to_a; of_second = last.to_b })
    c.rel_of_spans.result c.rel_of_spans.ensures
