-- Answers to the goals of `span_on` in src/cuts.rt.
use Rattle.meet_rel.proofs.LinePoints.{different_before}
use Rattle.meet_rel.proofs.ClipPoints.{cut_on}
use Rattle.meet_rel.proofs.WaySlices.{way_some, common_of}
use Rattle.meet_rel.proofs.cuts.span_on.Goals as goal

pub unwrap-stretch-requires : goal.unwrap-stretch-requires
unwrap-stretch-requires c =
    way_some c.args.clip.now c.args.u c.args.v c.param_on-a.result c.param_on-b.result c.slice.result c.requires.proper
    c.param_on-a.ensures c.param_on-b.ensures c.slice.ensures.common

pub returns : goal.returns
returns c =
    let clip = c.args.clip.now in let u = c.args.u in let v = c.args.v in let s = c.unwrap-stretch.result in
    let near = c.earlier.ensures in let far = c.later-2.ensures in let lo = c.later.ensures in let hi =
    c.earlier-2.ensures in
    let proper = c.requires.proper in
    cut_on clip u v s c.param_on-a.result c.param_on-b.result c.earlier.result c.later-2.result c.later.result
    c.earlier-2.result
    (record {
      different = different_before u v c.requires.before;
      common = common_of u v clip.tri c.slice.result s c.slice.ensures.common c.unwrap-stretch.ensures;
      a_at = c.param_on-a.ensures;
      b_at = c.param_on-b.ensures;
      point = proper.point;
      point_positive = proper.point_positive;
      has_point = proper.has_point;
    })
    (record { one_of = near.one; of_first = near.to_a; of_second = near.to_b })
    (record { one_of = far.one; of_first = far.from_a; of_second = far.from_b })
    (record { one_of = lo.one; of_first = lo.from_a; of_second = lo.from_b })
    (record { one_of = hi.one; of_first = hi.to_a; of_second = hi.to_b })
