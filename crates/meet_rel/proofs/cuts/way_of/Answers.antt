-- Answers to the goals of `way_of` in src/cuts.rt.
use Rattle.meet_rel.proofs.LinePoints.{one_of, not_after_trans}
use Rattle.meet_rel.proofs.cuts.way_of.Goals as goal

pub returns : goal.returns
returns c =
    let p = c.args.p.now in let q = c.args.q.now in
    let f = c.first_of.result in let g = c.first_of-2.result in let u = c.first_of-3.result in
    let k = c.last_of.result in let l = c.last_of-2.result in let v = c.last_of-3.result in
    let ef = c.first_of.ensures in let eg = c.first_of-2.ensures in let eu = c.first_of-3.ensures in
    let ek = c.last_of.ensures in let el = c.last_of-2.ensures in let ev = c.last_of-3.ensures in
    record {
      near = c.requires.near;
      line = c.requires.line;
      u_one = one_of p.a p.b q.a q.b f g u ef.one eg.one eu.one;
      v_one = one_of p.a p.b q.a q.b k l v ek.one el.one ev.one;
      u_a = not_after_trans u f p.a eu.from_p ef.from_p;
      u_b = not_after_trans u f p.b eu.from_p ef.from_q;
      u_c = not_after_trans u g q.a eu.from_q eg.from_p;
      u_d = not_after_trans u g q.b eu.from_q eg.from_q;
      a_v = not_after_trans p.a k v ek.to_p ev.to_p;
      b_v = not_after_trans p.b k v ek.to_q ev.to_p;
      c_v = not_after_trans q.a l v el.to_p ev.to_q;
      d_v = not_after_trans q.b l v el.to_q ev.to_q;
    }
