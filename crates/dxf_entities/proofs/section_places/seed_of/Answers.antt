-- Answers to the goals of `seed_of` in src/section_places.rt.
use Rattle.std.proofs.Common.{sym, arith}
use Rattle.std.proofs.lemmas.Grind.{common_steps}
use Rattle.dxf_entities.proofs.SectionSeeds.{seed_found}
use Rattle.dxf_entities.proofs.section_places.seed_of.Goals as goal

pub loop-number-init : goal.loop-number-init
loop-number-init c = sym (seed_found c.args.bytes.now c.args.pairs.now)

pub returns-then-names_seed : goal.returns-then-names_seed
returns-then-names_seed c = grind (arith, common_steps)

pub loop-number-preserved : goal.loop-number-preserved
loop-number-preserved c = grind (arith, common_steps)

pub returns : goal.returns
returns c = grind (arith, common_steps)
