-- Answers to the goals of `rel_on_one` in src/cuts.rt.
use Rattle.std.proofs.Common.{sym, subst, ◌∙◌}
use Rattle.plane_base.specs.declared.shapes.Pt.{Pt}
use Rattle.meet_rel.specs.Clips.{IsCut}
use Rattle.meet_rel.proofs.ClipEnds.{different_of}
use Rattle.meet_rel.proofs.ByCuts.{along_told}
use Rattle.meet_rel.proofs.cuts.rel_on_one.Goals as goal

pub own_span-on_q-requires-clause-differ : goal.own_span-on_q-requires-clause-differ
own_span-on_q-requires-clause-differ c = λ e. c.requires.differ (c.requires.a ∙ e ∙ sym c.requires.b)

pub returns : goal.returns
returns c =
    let p = c.args.p.now in let q = c.args.q.now in
    let s = c.own_span-on_p.result in let t = c.own_span-on_q.result in
    let first = c.later.ensures in let last = c.earlier.ensures in
    let on_q : IsCut q p.a p.b t.lo t.hi =
    subst (λ (b : Pt). IsCut q p.a b t.lo t.hi) (sym c.requires.b)
    (subst (λ (a : Pt). IsCut q a q.b t.lo t.hi) (sym c.requires.a) c.own_span-on_q.ensures.cut) in
    along_told p q p.a p.b s.lo s.hi t.lo t.hi c.later.result c.earlier.result (different_of p.a p.b c.requires.differ)
    c.own_span-on_p.ensures.cut on_q
    (record { one_of = first.one; of_first = first.from_a; of_second = first.from_b })
    (record { one_of = last.one; of_first = last.to_a; of_second = last.to_b })
    c.rel_of_spans.result c.rel_of_spans.ensures
