-- Answers to the goals of `part_at` in src/pairs.rt.
use Rattle.std.proofs.Common.{length}
use Rattle.tin_base.specs.Triangulation.{numbers_of}
use Rattle.tin_check.proofs.PairFits.ByCorner.{counted_within, counted_near, counted_positive, same_corner, read_meet}
use Rattle.tin_check.proofs.pairs.part_at.Goals as goal

pub tri_at-requires-clause-first : goal.tri_at-requires-clause-first
tri_at-requires-clause-first c =
    let within = counted_within (numbers_of c.args.tin.now c.args.t) c.args.corners.first c.args.corners.second
    c.args.corners.third (length c.args.tin.now.corners) c.requires.t_counted
    (c.requires.limits.in_range c.args.t c.requires.t_in_range) in within.0

pub tri_at-requires-clause-second : goal.tri_at-requires-clause-second
tri_at-requires-clause-second c =
    let within = counted_within (numbers_of c.args.tin.now c.args.t) c.args.corners.first c.args.corners.second
    c.args.corners.third (length c.args.tin.now.corners) c.requires.t_counted
    (c.requires.limits.in_range c.args.t c.requires.t_in_range) in within.1

pub tri_at-requires-clause-third : goal.tri_at-requires-clause-third
tri_at-requires-clause-third c =
    let within = counted_within (numbers_of c.args.tin.now c.args.t) c.args.corners.first c.args.corners.second
    c.args.corners.third (length c.args.tin.now.corners) c.requires.t_counted
    (c.requires.limits.in_range c.args.t c.requires.t_in_range) in within.2

pub tri_at-requires-2-clause-first : goal.tri_at-requires-2-clause-first
tri_at-requires-2-clause-first c =
    let within = counted_within (numbers_of c.args.tin.now c.args.u) c.args.others.first c.args.others.second
    c.args.others.third (length c.args.tin.now.corners) c.requires.u_counted
    (c.requires.limits.in_range c.args.u c.requires.u_in_range) in within.0

pub tri_at-requires-2-clause-second : goal.tri_at-requires-2-clause-second
tri_at-requires-2-clause-second c =
    let within = counted_within (numbers_of c.args.tin.now c.args.u) c.args.others.first c.args.others.second
    c.args.others.third (length c.args.tin.now.corners) c.requires.u_counted
    (c.requires.limits.in_range c.args.u c.requires.u_in_range) in within.1

pub tri_at-requires-2-clause-third : goal.tri_at-requires-2-clause-third
tri_at-requires-2-clause-third c =
    let within = counted_within (numbers_of c.args.tin.now c.args.u) c.args.others.first c.args.others.second
    c.args.others.third (length c.args.tin.now.corners) c.requires.u_counted
    (c.requires.limits.in_range c.args.u c.requires.u_in_range) in within.2

pub are_parted-requires-clause-near : goal.are_parted-requires-clause-near
are_parted-requires-clause-near c =
    counted_near c.args.tin.now c.args.frame c.args.t c.args.u c.args.corners.first c.args.corners.second
    c.args.corners.third c.args.others.first c.args.others.second c.args.others.third c.tri_at.result
    c.tri_at-2.result
    c.requires.limits c.requires.t_in_range c.requires.u_in_range c.requires.t_counted c.requires.u_counted
    c.tri_at.ensures c.tri_at-2.ensures

pub are_parted-requires-clause-t_positive : goal.are_parted-requires-clause-t_positive
are_parted-requires-clause-t_positive c =
    counted_positive c.args.tin.now c.args.frame c.args.t c.args.corners.first c.args.corners.second
    c.args.corners.third c.tri_at.result c.requires.t_counted c.tri_at.ensures c.requires.t_positive

pub are_parted-requires-clause-u_positive : goal.are_parted-requires-clause-u_positive
are_parted-requires-clause-u_positive c =
    counted_positive c.args.tin.now c.args.frame c.args.u c.args.others.first c.args.others.second c.args.others.third
    c.tri_at-2.result c.requires.u_counted c.tri_at-2.ensures c.requires.u_positive

pub are_parted-requires-clause-same : goal.are_parted-requires-clause-same
are_parted-requires-clause-same c =
    same_corner c.args.tin.now c.args.frame c.args.corners.first c.args.corners.second c.args.corners.third
    c.args.others.first c.args.others.second c.args.others.third c.tri_at.result c.tri_at-2.result
    c.tri_at.ensures c.tri_at-2.ensures c.requires.same

pub returns : goal.returns
returns c =
    λ yes.
    read_meet c.args.tin.now c.args.frame c.args.corners.first c.args.corners.second c.args.corners.third
    c.args.others.first c.args.others.second c.args.others.third c.tri_at.result c.tri_at-2.result
    c.tri_at.ensures c.tri_at-2.ensures (c.are_parted.ensures yes)
