-- Answers to the goals of `own_span` in src/cuts.rt.
use Rattle.meet_rel.proofs.ClipEnds.{different_of}
use Rattle.meet_rel.proofs.ClipPoints.{own_cut}
use Rattle.meet_rel.proofs.WaySlices.{own_some, common_of}
use Rattle.meet_rel.proofs.cuts.own_span.Goals as goal

pub unwrap-stretch-requires : goal.unwrap-stretch-requires
unwrap-stretch-requires c = own_some c.args.clip.now c.slice.result c.requires.proper c.slice.ensures.common

pub returns-clause-cut : goal.returns-clause-cut
returns-clause-cut c =
    let clip = c.args.clip.now in
    own_cut clip (different_of clip.a clip.b c.requires.differ) c.unwrap-stretch.result
    (common_of clip.a clip.b clip.tri c.slice.result c.unwrap-stretch.result c.slice.ensures.common
    c.unwrap-stretch.ensures)

pub returns-clause-lo : goal.returns-clause-lo
returns-clause-lo c =
    let clip = c.args.clip.now in
    let common = common_of clip.a clip.b clip.tri c.slice.result c.unwrap-stretch.result c.slice.ensures.common
    c.unwrap-stretch.ensures in
    common.0.0

pub returns-clause-hi : goal.returns-clause-hi
returns-clause-hi c =
    let clip = c.args.clip.now in
    let common = common_of clip.a clip.b clip.tri c.slice.result c.unwrap-stretch.result c.slice.ensures.common
    c.unwrap-stretch.ensures in
    common.1.0
