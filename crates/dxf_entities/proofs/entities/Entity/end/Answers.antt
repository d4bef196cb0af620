-- Answers to the goals of `Entity::end` in src/entities.rt.
use Rattle.std.proofs.Common.{◌∙◌, ap, sym}
use Rattle.std.specs.Option.{option_copied}
use Rattle.dxf_entities.proofs.Lists.{last_end}
use Rattle.dxf_entities.proofs.entities.Entity.end.Goals as goal

pub returns-in-Some : goal.returns-in-Some
returns-in-Some c = sym (last_end c.args.self.now.head.end c.args.self.now.pairs.now c.in-Some.pair.now
    (sym (ap option_copied c.in-Some.is) ∙ c.last.ensures.value))
