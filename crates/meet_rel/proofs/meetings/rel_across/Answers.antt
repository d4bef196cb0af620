-- Answers to the goals of `rel_across` in src/meetings.rt.
use Rattle.std.proofs.Common.{inl, inr}
use Rattle.meet_rel.proofs.TurnTests.{not_told}
use Rattle.meet_rel.proofs.Crossings.{also_across}
use Rattle.meet_rel.proofs.ClipEnds.{different_not}
use Rattle.meet_rel.proofs.ByCuts.{meeting_of, no_either, IsOutside, IsEnd, first_different, across_told}
use Rattle.meet_rel.proofs.meetings.rel_across.Goals as goal

pub own_span-on_p-requires-clause-differ : goal.own_span-on_p-requires-clause-differ
own_span-on_p-requires-clause-differ c =
    let p = c.args.p.now in let q = c.args.q.now in
    different_not p.a p.b (first_different p.a p.b q.a q.b c.requires.across)

pub own_span-on_q-requires-clause-differ : goal.own_span-on_q-requires-clause-differ
own_span-on_q-requires-clause-differ c =
    let p = c.args.p.now in let q = c.args.q.now in
    different_not q.a q.b (first_different q.a q.b p.a p.b (also_across p.a p.b q.a q.b c.requires.across))

pub edge_param-at_p-requires-clause-differ : goal.edge_param-at_p-requires-clause-differ
edge_param-at_p-requires-clause-differ c =
    let p = c.args.p.now in let q = c.args.q.now in
    also_across p.a p.b q.a q.b c.requires.across

pub returns-then-is_outside : goal.returns-then-is_outside
returns-then-is_outside c =
    let p = c.args.p.now in let q = c.args.q.now in
    let s = c.own_span-on_p.result in let t = c.own_span-on_q.result in
    let x = c.edge_param-at_p.result in let y = c.edge_param-at_q.result in
    let m = meeting_of p q s.lo s.hi x t.lo t.hi y c.requires.across c.own_span-on_p.ensures.cut
    c.own_span-on_q.ensures.cut c.edge_param-at_p.ensures.meets c.edge_param-at_q.ensures.meets in
    (across_told p q s.lo s.hi x t.lo t.hi y m).0 (inl (c.is_outside.ensures.0 c.if-is_outside.true))

pub returns-then-is_outside-2 : goal.returns-then-is_outside-2
returns-then-is_outside-2 c =
    let p = c.args.p.now in let q = c.args.q.now in
    let s = c.own_span-on_p.result in let t = c.own_span-on_q.result in
    let x = c.edge_param-at_p.result in let y = c.edge_param-at_q.result in
    let m = meeting_of p q s.lo s.hi x t.lo t.hi y c.requires.across c.own_span-on_p.ensures.cut
    c.own_span-on_q.ensures.cut c.edge_param-at_p.ensures.meets c.edge_param-at_q.ensures.meets in
    (across_told p q s.lo s.hi x t.lo t.hi y m).0 (inr (c.is_outside-2.ensures.0 c.if-is_outside-2.true))

pub returns-then-is_end : goal.returns-then-is_end
returns-then-is_end c =
    let p = c.args.p.now in let q = c.args.q.now in
    let s = c.own_span-on_p.result in let t = c.own_span-on_q.result in
    let x = c.edge_param-at_p.result in let y = c.edge_param-at_q.result in
    let m = meeting_of p q s.lo s.hi x t.lo t.hi y c.requires.across c.own_span-on_p.ensures.cut
    c.own_span-on_q.ensures.cut c.edge_param-at_p.ensures.meets c.edge_param-at_q.ensures.meets in
    let in_p = not_told c.is_outside.result (IsOutside x s.lo s.hi) c.is_outside.ensures c.if-is_outside.false in
    let in_q = not_told c.is_outside-2.result (IsOutside y t.lo t.hi) c.is_outside-2.ensures c.if-is_outside-2.false in
    (across_told p q s.lo s.hi x t.lo t.hi y m).1 in_p in_q (inl (c.is_end.ensures.0 c.if-is_end.true))

pub returns-then-is_end-2 : goal.returns-then-is_end-2
returns-then-is_end-2 c =
    let p = c.args.p.now in let q = c.args.q.now in
    let s = c.own_span-on_p.result in let t = c.own_span-on_q.result in
    let x = c.edge_param-at_p.result in let y = c.edge_param-at_q.result in
    let m = meeting_of p q s.lo s.hi x t.lo t.hi y c.requires.across c.own_span-on_p.ensures.cut
    c.own_span-on_q.ensures.cut c.edge_param-at_p.ensures.meets c.edge_param-at_q.ensures.meets in
    let in_p = not_told c.is_outside.result (IsOutside x s.lo s.hi) c.is_outside.ensures c.if-is_outside.false in
    let in_q = not_told c.is_outside-2.result (IsOutside y t.lo t.hi) c.is_outside-2.ensures c.if-is_outside-2.false in
    (across_told p q s.lo s.hi x t.lo t.hi y m).1 in_p in_q (inr (c.is_end-2.ensures.0 c.if-is_end-2.true))

pub returns : goal.returns
returns c =
    let p = c.args.p.now in let q = c.args.q.now in
    let s = c.own_span-on_p.result in let t = c.own_span-on_q.result in
    let x = c.edge_param-at_p.result in let y = c.edge_param-at_q.result in
    let m = meeting_of p q s.lo s.hi x t.lo t.hi y c.requires.across c.own_span-on_p.ensures.cut
    c.own_span-on_q.ensures.cut c.edge_param-at_p.ensures.meets c.edge_param-at_q.ensures.meets in
    let in_p = not_told c.is_outside.result (IsOutside x s.lo s.hi) c.is_outside.ensures c.if-is_outside.false in
    let in_q = not_told c.is_outside-2.result (IsOutside y t.lo t.hi) c.is_outside-2.ensures c.if-is_outside-2.false in
    let no_p = not_told c.is_end.result (IsEnd x s.lo s.hi) c.is_end.ensures c.if-is_end.false in
    let no_q = not_told c.is_end-2.result (IsEnd y t.lo t.hi) c.is_end-2.ensures c.if-is_end-2.false in
    (across_told p q s.lo s.hi x t.lo t.hi y m).2 in_p in_q (no_either no_p no_q)
