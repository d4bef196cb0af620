-- Answers to the goals of `first_handle` in src/handle_counts.rt.
use Rattle.std.proofs.Common.{◌∙◌, sym}
use Rattle.dxf_entities.specs.declared.section_places.Where.TheVariants.{Outside}
use Rattle.dxf_entities.proofs.SectionSeeds.{seed_found, seed_is}
use Rattle.dxf_copies.proofs.handle_counts.first_handle.Goals as goal

pub handle_number-requires : goal.handle_number-requires
handle_number-requires c =
    rw c.value_in.ensures (seed_is c.args.page.now.bytes.now Outside c.args.page.now.pairs.now c.in-Some.pair
    (sym (seed_found c.args.page.now.bytes.now c.args.page.now.pairs.now) ∙ (sym c.seed_of.ensures ∙ c.in-Some.is)))
