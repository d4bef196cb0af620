-- Answers to the goals of `part_behind` in src/parts.rt.
use Rattle.tin_base.specs.Slices.{spot_of}
use Rattle.cert_check.specs.InsideSlices.{spot_behind}
use Rattle.cert_check.proofs.ListPasses.{behind_some, behind_none}
use Rattle.cert_check.proofs.parts.part_behind.Goals as goal

pub returns-clause-some : goal.returns-clause-some
returns-clause-some c =
    behind_some c.args.tin.now c.args.a c.args.b c.args.triangle (spot_of c.end_of.result) (spot_behind c.args.before)
    c.part_from.result c.end_of.ensures.spot c.part_from.ensures.some

pub returns-clause-none : goal.returns-clause-none
returns-clause-none c =
    behind_none c.args.tin.now c.args.a c.args.b c.args.triangle (spot_of c.end_of.result) (spot_behind c.args.before)
    c.part_from.result c.end_of.ensures.spot c.part_from.ensures.none
