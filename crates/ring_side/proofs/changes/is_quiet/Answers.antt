-- Answers to the goals of `is_quiet` in src/changes.rt.
use Rattle.std.proofs.Common.{IsTrue, inr, arith}
use Rattle.ring_side.proofs.PointGroups.Sifted.{corner_as, quiet_as, own_as}
use Rattle.ring_side.proofs.changes.is_quiet.Goals as goal

pub has_one_side-requires-clause-source : goal.has_one_side-requires-clause-source
has_one_side-requires-clause-source c =
    corner_as c.args.ring.now.source.points.now c.args.places.now.source.items c.args.number c.index-source.result.now c.requires.source
    c.index-source.ensures (c.requires.near.source c.args.number c.requires.source)

pub has_one_side-requires-clause-target : goal.has_one_side-requires-clause-target
has_one_side-requires-clause-target c =
    corner_as c.args.ring.now.target.points.now c.args.places.now.target.items c.args.number c.index-target.result.now c.requires.target
    c.index-target.ensures (c.requires.near.target c.args.number c.requires.target)

pub returns-then-has_one_side : goal.returns-then-has_one_side
returns-then-has_one_side c = grind (arith, quiet_as)

pub returns : goal.returns
returns c =
    λ (yes : IsTrue c.is_own.result).
    inr (own_as c.args.ring.now c.args.places.now.groups.items c.args.number c.index-group.result.now c.requires.groups
    c.index-group.ensures (c.is_own.ensures yes))
